use Rattle.std.proofs.Common.{◌++◌, ◌∷◌, ◌≤◌, ◌∙◌, [], List, sym, ap, subst}
use Rattle.std.proofs.lemmas.List.{take_all}
use Rattle.bc_model.proofs.Sectors.{take_more}
use Rattle.bc_spine.specs.Leaves.{AreLeaves}
use Rattle.bc_spine.specs.declared.leaf.LeafRange.{LeafRange}
use Rattle.bc_slots.proofs.parts.leaves_of.Goals as goal

pub loop-place-preserved : goal.loop-place-preserved
loop-place-preserved c =
    let xs = c.args.tree.now.leaves in
    c.in_ok-push.ensures.items ∙ ap (λ (ls : List LeafRange). ls ++ c.leaf.result ∷ []) c.loop-place.invariant
    ∙ sym (take_more c.loop-place.place xs c.leaf.result c.leaf.ensures.leaf)

pub returns-clause-leaves : goal.returns-clause-leaves
returns-clause-leaves c =
    let xs = c.args.tree.now.leaves in
    let all = subst (λ n. n ≤ c.loop-place.place) c.len-place-end.ensures.count c.loop-place-test.false in
    c.loop-place.invariant ∙ take_all c.loop-place.place xs all

pub returns-clause-all : goal.returns-clause-all
returns-clause-all c =
    let xs = c.args.tree.now.leaves in
    let all = subst (λ n. n ≤ c.loop-place.place) c.len-place-end.ensures.count c.loop-place-test.false in
    subst (λ (ls : List LeafRange). AreLeaves ls c.args.tree.now.root.end) (sym (c.loop-place.invariant ∙ take_all c.loop-place.place xs all)) c.len-place-end.ensures.all
