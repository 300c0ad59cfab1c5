use Rattle.std.proofs.Common.{◌≤◌, ◌<◌, List, [], length, sym, subst, arith}
use Rattle.std.proofs.lemmas.List.{get_or_default}
use Rattle.bc_spine.specs.declared.leaf.LeafRange.{LeafRange}
use Rattle.bc_pending.specs.declared.numbered.Numbered.{Numbered}
use Rattle.bc_pending.specs.Pieces.{IsGiven}
use Rattle.bc_pending.proofs.Sharing.{all_shared, one_shared}
use Rattle.bc_pending.proofs.share.give_all.Goals as goal

pub loop-i-preserved : goal.loop-i-preserved
loop-i-preserved c =
    let leaves = c.args.leaves.now in
    let i = c.loop-i.i in
    let there : i < length c.loop-i.lists = omega (arith, c.loop-i.invariant.each, c.requires.each, c.loop-i-test.true) in
    one_shared leaves c.args.key.now c.args.lists.now c.loop-i.lists i c.index-leaves-i-in-loop-i.result c.give.new.list c.loop-i-test.true there
    (sym c.index-leaves-i-in-loop-i.is) c.loop-i.invariant
    (subst (λ (xs : List Numbered). IsGiven c.index-leaves-i-in-loop-i.result c.args.key.now xs c.give.new.list) (get_or_default c.loop-i.lists i c.index-lists-i.result [] there) c.in_ok-give.ensures)

pub returns-else-leaves-i : goal.returns-else-leaves-i
returns-else-leaves-i c =
    let leaves = c.args.leaves.now in
    let i = c.loop-i.i in
    let leaf = c.index-leaves-i.result in
    all_shared leaves c.args.key.now c.args.lists.now c.loop-i.lists i c.requires.row c.loop-i.invariant
    (λ inside d. subst (λ (x : LeafRange). c.args.key.now.key.end ≤ x.from) (sym (get_or_default leaves i d leaf inside)) c.if-leaves-i.false)
