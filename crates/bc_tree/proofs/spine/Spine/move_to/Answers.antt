use Rattle.std.proofs.Common.{◌≡◌, ◌≤◌, [], ◌∷◌, None, length, ap, sym, subst, ◌∙◌, arith}
use Rattle.std.specs.Prelude.{Some, slice_get}
use Rattle.std.proofs.lemmas.Option.{slice_get_within}
use Rattle.bc_inner.specs.Inner.{Inner}
use Rattle.bc_key.specs.declared.ptr.Ptr.{Ptr}
use Rattle.bc_tree.specs.Change.{set_words}
use Rattle.bc_tree.specs.Plan.{IsPlanOf, moves}
use Rattle.bc_tree.specs.Rewrite.{IsMovePlan}
use Rattle.bc_tree.specs.Spine.{Spine, bottom}
use Rattle.bc_tree.proofs.Coming.{three_words}
use Rattle.bc_tree.proofs.Moves.{can_move, if_ok, key_of, move_planned, spine_kept}
use Rattle.bc_tree.proofs.Same.{place_same, same_but_spare, same_twice}
use Rattle.bc_tree.proofs.spine.Spine.move_to.Goals as goal

pub move_leaf-requires-clause-place : goal.move_leaf-requires-clause-place
move_leaf-requires-clause-place c = slice_get_within c.args.self.now.leaves c.args.place.now.leaf c.args.place.now.range c.requires.stands.there

pub plan_siblings-requires-clause-can : goal.plan_siblings-requires-clause-can
plan_siblings-requires-clause-can c =
    let s = c.args.self.now in
    let t = c.move_leaf.new.self in
    let same = same_but_spare s t c.move_leaf.ensures.only in
    can_move t c.args.first.from c.args.place.now c.args.parts c.args.first.end c.ptr-2.result c.new-key.result c.in_ok-leaves.leaves (spine_kept s t same c.root.ensures.spine)
    (place_same s t c.args.first.from c.args.place.now same c.requires.stands) c.in_ok-leaves.ensures.moved c.in_ok-leaves.ensures.fits c.requires.end
    (key_of c.new-key.result c.args.first.end c.ptr-2.result (c.new-key.ensures.end ∙ c.end.ensures) (c.new-key.ensures.pointer ∙ ap (λ (p : Ptr). Some p) (c.ptr.ensures ∙ sym c.ptr-2.ensures)) c.new-key.ensures.count)

pub plan_siblings-requires-clause-few : goal.plan_siblings-requires-clause-few
plan_siblings-requires-clause-few c = omega (arith, three_words c.new-key.result c.new-key.ensures.count)

pub plan_siblings-requires-clause-places : goal.plan_siblings-requires-clause-places
plan_siblings-requires-clause-places c =
    subst (λ (v : Spine). (node : Inner) → slice_get (bottom v.root v.below) c.args.place.now.node ≡ Some node → moves v node (set_words 1 (c.new-key.result ∷ [])) ≤ length c.args.to.now) (sym c.move_leaf.ensures.only)
    (λ node there. subst (λ n. moves c.args.self.now node n ≤ length c.args.to.now) (sym (three_words c.new-key.result c.new-key.ensures.count)) (c.requires.places node there))

pub returns-clause-plan : goal.returns-clause-plan
returns-clause-plan c =
    let s = c.args.self.now in
    let t = c.move_leaf.new.self in
    let key = c.new-key.result in
    let first = c.args.first in
    if_ok c.plan_siblings.result (IsPlanOf t (record { leaves = c.in_ok-leaves.leaves; first = first; second = None }) c.args.place.now 1 (key ∷ []) c.args.to.now c.args.seq) (IsMovePlan s c.args.place.now c.args.parts first c.args.to.now c.args.seq)
    (move_planned s t c.in_ok-leaves.leaves first c.args.place.now key c.args.to.now c.args.seq c.args.parts c.ptr-2.result c.move_leaf.ensures.only c.in_ok-leaves.ensures.moved c.ptr-2.ensures
    (key_of key first.end first.ptr (c.new-key.ensures.end ∙ c.end.ensures) (c.new-key.ensures.pointer ∙ ap (λ (p : Ptr). Some p) c.ptr.ensures) c.new-key.ensures.count)) c.plan_siblings.ensures.plan

pub returns-clause-tree : goal.returns-clause-tree
returns-clause-tree c = same_twice c.args.self.now c.move_leaf.new.self c.plan_siblings.new.self (same_but_spare c.args.self.now c.move_leaf.new.self c.move_leaf.ensures.only) c.plan_siblings.ensures.tree

pub returns-in_err-leaves-clause-tree : goal.returns-in_err-leaves-clause-tree
returns-in_err-leaves-clause-tree c = same_but_spare c.args.self.now c.move_leaf.new.self c.move_leaf.ensures.only
