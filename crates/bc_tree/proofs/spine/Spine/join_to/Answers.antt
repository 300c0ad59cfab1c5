use Rattle.std.proofs.Common.{◌≡◌, ◌+◌, ◌≤◌, [], ◌∷◌, None, Some, length, ap, sym, subst, ◌∙◌, arith}
use Rattle.std.specs.Prelude.{slice_get}
use Rattle.std.proofs.lemmas.Option.{slice_get_within}
use Rattle.bc_inner.specs.Inner.{Inner}
use Rattle.bc_key.specs.declared.ptr.Ptr.{Ptr}
use Rattle.bc_tree.specs.Change.{set_words}
use Rattle.bc_tree.specs.Merge.{IsMergePlan}
use Rattle.bc_tree.specs.Plan.{IsPlanOf, moves}
use Rattle.bc_tree.specs.Spine.{Spine, bottom}
use Rattle.bc_tree.proofs.Joins.{can_join, five_words, join_planned, next_kept}
use Rattle.bc_tree.proofs.Moves.{if_ok, key_of, spine_kept}
use Rattle.bc_tree.proofs.Same.{place_same, same_but_spare, same_twice}
use Rattle.bc_tree.proofs.spine.Spine.join_to.Goals as goal

pub merge_leaf-requires : goal.merge_leaf-requires
merge_leaf-requires c = slice_get_within c.args.self.now.leaves (c.args.place.now.leaf + 1) c.requires.next.leaf c.requires.next.there

pub plan_siblings-requires-clause-can : goal.plan_siblings-requires-clause-can
plan_siblings-requires-clause-can c =
    let s = c.args.self.now in
    let t = c.merge_leaf.new.self in
    let place = c.args.place.now in
    let first = c.args.first in
    let same = same_but_spare s t c.merge_leaf.ensures.only in
    can_join t first.from place first.end c.ptr-2.result c.new-key.result c.in_ok-leaves.leaves (place_same s t first.from place same c.requires.stands) (spine_kept s t same c.root.ensures.spine)
    c.in_ok-leaves.ensures.merged c.in_ok-leaves.ensures.fits (next_kept s t place first.end c.merge_leaf.ensures.only c.requires.next)
    (key_of c.new-key.result first.end c.ptr-2.result (c.new-key.ensures.end ∙ c.end.ensures) (c.new-key.ensures.pointer ∙ ap (λ (p : Ptr). Some p) (c.ptr.ensures ∙ sym c.ptr-2.ensures)) c.new-key.ensures.count)

pub plan_siblings-requires-clause-few : goal.plan_siblings-requires-clause-few
plan_siblings-requires-clause-few c = omega (arith, five_words c.new-key.result c.new-key.ensures.count)

pub plan_siblings-requires-clause-places : goal.plan_siblings-requires-clause-places
plan_siblings-requires-clause-places c =
    subst (λ (v : Spine). (node : Inner) → slice_get (bottom v.root v.below) c.args.place.now.node ≡ Some node → moves v node (set_words 2 (c.new-key.result ∷ [])) ≤ length c.args.to.now) (sym c.merge_leaf.ensures.only)
    (λ node there. subst (λ n. moves c.args.self.now node n ≤ length c.args.to.now) (sym (five_words c.new-key.result c.new-key.ensures.count)) (c.requires.places node there))

pub returns-clause-plan : goal.returns-clause-plan
returns-clause-plan c =
    let s = c.args.self.now in
    let t = c.merge_leaf.new.self in
    let key = c.new-key.result in
    let first = c.args.first in
    let place = c.args.place.now in
    if_ok c.plan_siblings.result (IsPlanOf t (record { leaves = c.in_ok-leaves.leaves; first = first; second = None }) place 2 (key ∷ []) c.args.to.now c.args.seq) (IsMergePlan s place first c.args.to.now c.args.seq)
    (join_planned s t c.in_ok-leaves.leaves first place key c.args.to.now c.args.seq c.ptr-2.result c.merge_leaf.ensures.only c.in_ok-leaves.ensures.merged c.ptr-2.ensures
    (key_of key first.end first.ptr (c.new-key.ensures.end ∙ c.end.ensures) (c.new-key.ensures.pointer ∙ ap (λ (p : Ptr). Some p) c.ptr.ensures) c.new-key.ensures.count))
    c.plan_siblings.ensures.plan

pub returns-clause-tree : goal.returns-clause-tree
returns-clause-tree c = same_twice c.args.self.now c.merge_leaf.new.self c.plan_siblings.new.self (same_but_spare c.args.self.now c.merge_leaf.new.self c.merge_leaf.ensures.only) c.plan_siblings.ensures.tree

pub returns-in_err-leaves-clause-tree : goal.returns-in_err-leaves-clause-tree
returns-in_err-leaves-clause-tree c = same_but_spare c.args.self.now c.merge_leaf.new.self c.merge_leaf.ensures.only
