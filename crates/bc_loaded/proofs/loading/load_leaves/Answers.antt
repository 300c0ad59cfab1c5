use Rattle.std.proofs.Common.{◌∙◌, List, sym, subst}
use Rattle.bc_loaded.specs.Loaded.{HasLeaves}
use Rattle.bc_pending.specs.Entries.{keys_in}
use Rattle.bc_pending.specs.Pieces.{ArePending}
use Rattle.bc_pending.specs.declared.numbered.Numbered.{Numbered}
use Rattle.bc_regrow.specs.Tree.{IsTreeCause}
use Rattle.bc_slots.specs.Parts.{AreOfLeaves, AreParts, IsPartsCause}
use Rattle.bc_slots.proofs.Leaves.{pending_fit}
use Rattle.bc_spine.specs.Leaves.{AreCounted}
use Rattle.bc_spine.specs.declared.leaf.LeafRange.{LeafRange}
use Rattle.bc_loaded.proofs.Leaves.{leaves_cause, on_err, on_ok}
use Rattle.bc_loaded.proofs.loading.load_leaves.Goals as goal

pub leaf_parts-requires-clause-counted : goal.leaf_parts-requires-clause-counted
leaf_parts-requires-clause-counted g c = subst (λ (xs : List LeafRange). AreCounted 0 xs)
    (sym (c.deref-2.ensures.value ∙ c.in_ok-leaves.ensures.leaves)) c.requires.counted

pub leaf_parts-requires-clause-keys : goal.leaf_parts-requires-clause-keys
leaf_parts-requires-clause-keys g c =
    let lists = c.in_ok-pending.pending.items in
    subst (λ (ls : List (List Numbered)). AreOfLeaves c.deref-2.result.now ls)
    (sym c.deref-3.ensures.value)
    (subst (λ (xs : List LeafRange). AreOfLeaves xs lists)
    (c.deref.ensures.value ∙ sym c.deref-2.ensures.value)
    (pending_fit c.deref.result.now _ lists c.in_ok-pending.ensures))

pub returns-clause-found : goal.returns-clause-found
returns-clause-found g c =
    let s = c.args.s.now in
    let d = g.C.Disk.facts c.args.cache.now in
    let leaves = c.args.tree.now.leaves in
    let lists = c.deref-3.result.now in
    let keys = keys_in s.journal.entries in
    let here = subst (λ (xs : List LeafRange). ArePending xs keys lists)
    (c.deref.ensures.value ∙ c.in_ok-leaves.ensures.leaves)
    (subst (λ (ls : List (List Numbered)). ArePending c.deref.result.now keys ls)
    (sym c.deref-3.ensures.value) c.in_ok-pending.ensures) in
    on_ok (λ parts. AreParts s.supers.geometry c.deref-2.result.now lists c.args.count d parts.items)
    (λ parts. HasLeaves s leaves c.args.count d parts.items) c.leaf_parts.result
    (λ parts are. record {
      pending = lists;
      keys = here;
      are = subst (λ (xs : List LeafRange).
          AreParts s.supers.geometry xs lists c.args.count d parts.items)
          (c.deref-2.ensures.value ∙ c.in_ok-leaves.ensures.leaves) are;
    }) c.leaf_parts.ensures.found

pub returns-clause-refused : goal.returns-clause-refused
returns-clause-refused g c =
    let s = c.args.s.now in
    let d = g.C.Disk.facts c.args.cache.now in
    let lists = c.deref-3.result.now in
    on_err (IsPartsCause s.supers.geometry c.deref-2.result.now lists d) (IsTreeCause s d)
    c.leaf_parts.result
    (λ e cause. leaves_cause s d c.args.tree.now c.requires.grown lists e
    (subst (λ (xs : List LeafRange). IsPartsCause s.supers.geometry xs lists d e)
    (c.deref-2.ensures.value ∙ c.in_ok-leaves.ensures.leaves) cause)) c.leaf_parts.ensures.refused
