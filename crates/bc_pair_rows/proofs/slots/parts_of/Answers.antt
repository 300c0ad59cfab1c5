use Rattle.std.proofs.Common.{◌∙◌, List, sym, subst}
use Rattle.bc_pending.specs.declared.numbered.Numbered.{Numbered}
use Rattle.bc_spine.specs.Leaves.{AreCounted}
use Rattle.bc_spine.specs.declared.leaf.LeafRange.{LeafRange}
use Rattle.bc_slots.specs.Parts.{AreOfLeaves}
use Rattle.bc_slots.proofs.Leaves.{pending_fit}
use Rattle.bc_pair_rows.proofs.slots.parts_of.Goals as goal

pub leaf_parts-requires-clause-counted : goal.leaf_parts-requires-clause-counted
leaf_parts-requires-clause-counted c =
    subst (λ (xs : List LeafRange). AreCounted 0 xs) (sym (c.deref-2.ensures.value ∙ c.in_ok-leaves.ensures.leaves)) c.in_ok-tree.ensures.counted

pub leaf_parts-requires-clause-keys : goal.leaf_parts-requires-clause-keys
leaf_parts-requires-clause-keys c =
    let lists = c.in_ok-pending.pending.items in
    subst (λ (ls : List (List Numbered)). AreOfLeaves c.deref-2.result.now ls) (sym c.deref-3.ensures.value)
    (subst (λ (xs : List LeafRange). AreOfLeaves xs lists) (c.deref.ensures.value ∙ sym c.deref-2.ensures.value)
    (pending_fit c.deref.result.now _ lists c.in_ok-pending.ensures))
