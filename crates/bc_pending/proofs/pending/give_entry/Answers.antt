use Rattle.std.proofs.Common.{◌∙◌, List, get_or, take, sym, subst}
use Rattle.std.specs.Prelude.{map}
use Rattle.std.proofs.lemmas.List.{map_more, take_all}
use Rattle.bc_key.specs.declared.key.Key.{Key}
use Rattle.bc_pending.specs.Pieces.{AreGiven, GoOn, numbered}
use Rattle.bc_pending.proofs.Given.{one_more}
use Rattle.bc_pending.proofs.pending.give_entry.Goals as goal

pub loop-key-preserved : goal.loop-key-preserved
loop-key-preserved c =
    let leaves = c.args.leaves.now in
    let old = c.args.lists.now in
    let xs = c.as_slice-keys.result.now in
    let i = c.loop-key.key-index in
    let key = c.key-item.result in
    let of = numbered c.args.entry.now.item.seq in
    let more = map_more of xs i key c.loop-key-test.true in
    subst (λ ks. GoOn leaves ks old c.give_all.new.lists) (sym more)
    (one_more leaves (map of (take i xs)) (of (get_or xs i key)) old c.loop-key.lists c.give_all.new.lists c.loop-key.invariant
    (subst (λ (k : Key). AreGiven leaves (of k) c.loop-key.lists c.give_all.new.lists) c.key-item.is c.in_ok-give_all.ensures))

pub returns : goal.returns
returns c =
    let xs = c.as_slice-keys.result.now in
    let of = numbered c.args.entry.now.item.seq in
    subst (λ (ks : List Key). GoOn c.args.leaves.now (map of ks) c.args.lists.now c.loop-key.lists)
    (take_all c.loop-key.key-index xs c.loop-key-test.false ∙ c.as_slice-keys.ensures) c.loop-key.invariant
