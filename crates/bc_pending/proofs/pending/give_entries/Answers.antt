use Rattle.std.proofs.Common.{◌≤◌, List, take, sym, subst}
use Rattle.std.proofs.lemmas.List.{take_all}
use Rattle.bc_jset.specs.Entries.{FoundEntry}
use Rattle.bc_pending.specs.Entries.{keys_in, keys_of}
use Rattle.bc_pending.specs.Pieces.{GoOn}
use Rattle.bc_pending.proofs.Entries.{keys_next}
use Rattle.bc_pending.proofs.Given.{both}
use Rattle.bc_pending.proofs.pending.give_entries.Goals as goal

pub loop-i-preserved : goal.loop-i-preserved
loop-i-preserved c =
    let leaves = c.args.leaves.now in
    let old = c.args.lists.now in
    let es = c.args.journal.now.entries in
    let i = c.loop-i.i in
    let e = c.entry.result.now in
    subst (λ ks. GoOn leaves ks old c.give_entry.new.lists) (sym (keys_next es i e c.entry.ensures))
    (both leaves (keys_in (take i es)) (keys_of e) old c.loop-i.lists c.give_entry.new.lists c.loop-i.invariant c.in_ok-give_entry.ensures)

pub returns : goal.returns
returns c =
    let es = c.args.journal.now.entries in
    let all = subst (λ n. n ≤ c.loop-i.i) c.len-i-end.ensures c.loop-i-test.false in
    subst (λ (xs : List FoundEntry). GoOn c.args.leaves.now (keys_in xs) c.args.lists.now c.loop-i.lists) (take_all c.loop-i.i es all) c.loop-i.invariant
