use Rattle.std.proofs.Common.{◌≡◌, ◌+◌, None, Some, length, ap, sym, subst, ◌∙◌}
use Rattle.std.proofs.lemmas.Option.{slice_get_within}
use Rattle.bc_key.specs.declared.ptr.Ptr.{Ptr}
use Rattle.bc_tree.specs.Across.{IsAcrossOf, IsAcrossPlan, across_count}
use Rattle.bc_tree.specs.Spine.{Spine}
use Rattle.bc_tree.proofs.Crossings.{across_kept, across_planned, can_across}
use Rattle.bc_tree.proofs.Moves.{if_ok, key_of, spine_kept}
use Rattle.bc_tree.proofs.Same.{same_but_spare, same_twice}
use Rattle.bc_tree.proofs.spine.Spine.across_to.Goals as goal

pub merge_leaf-requires : goal.merge_leaf-requires
merge_leaf-requires c = let next = c.requires.next.2 in slice_get_within c.args.self.now.leaves (c.args.place.now.leaf + 1) next.leaf next.leaf_there

pub plan_across-requires : goal.plan_across-requires
plan_across-requires c =
    let s = c.args.self.now in
    let t = c.merge_leaf.new.self in
    let place = c.args.place.now in
    let first = c.args.first in
    let same = same_but_spare s t c.merge_leaf.ensures.only in
    let left = c.requires.next.0 in
    let right = c.requires.next.1 in
    record {
      can = (
        left,
        right,
        can_across t place left right first.end c.ptr-2.result c.new-key.result c.in_ok-leaves.leaves (spine_kept s t same c.root.ensures.spine) (across_kept s t place left right first.end c.merge_leaf.ensures.only c.requires.next.2)
            c.in_ok-leaves.ensures.merged c.in_ok-leaves.ensures.fits
            (key_of c.new-key.result first.end c.ptr-2.result (c.new-key.ensures.end ∙ c.end.ensures) (c.new-key.ensures.pointer ∙ ap (λ (p : Ptr). Some p) (c.ptr.ensures ∙ sym c.ptr-2.ensures)) c.new-key.ensures.count),
        subst (λ (v : Spine). length c.args.to.now ≡ across_count v left right) (sym c.merge_leaf.ensures.only) c.requires.next.3,
      );
    }

pub returns-clause-plan : goal.returns-clause-plan
returns-clause-plan c =
    let s = c.args.self.now in
    let t = c.merge_leaf.new.self in
    let key = c.new-key.result in
    let first = c.args.first in
    let place = c.args.place.now in
    if_ok c.plan_across.result (IsAcrossOf t (record { leaves = c.in_ok-leaves.leaves; first = first; second = None }) place key c.args.to.now c.args.seq) (IsAcrossPlan s place first c.args.to.now c.args.seq)
    (across_planned s t c.in_ok-leaves.leaves first place key c.args.to.now c.args.seq c.ptr-2.result c.merge_leaf.ensures.only c.in_ok-leaves.ensures.merged c.ptr-2.ensures
    (key_of key first.end first.ptr (c.new-key.ensures.end ∙ c.end.ensures) (c.new-key.ensures.pointer ∙ ap (λ (p : Ptr). Some p) c.ptr.ensures) c.new-key.ensures.count))
    c.plan_across.ensures.plan

pub returns-clause-tree : goal.returns-clause-tree
returns-clause-tree c = same_twice c.args.self.now c.merge_leaf.new.self c.plan_across.new.self (same_but_spare c.args.self.now c.merge_leaf.new.self c.merge_leaf.ensures.only) c.plan_across.ensures.tree

pub returns-in_err-leaves-clause-tree : goal.returns-in_err-leaves-clause-tree
returns-in_err-leaves-clause-tree c = same_but_spare c.args.self.now c.merge_leaf.new.self c.merge_leaf.ensures.only
