use Rattle.std.proofs.Common.{◌≡◌, ◌+◌, ◌%◌, ◌≤◌, [], ◌∷◌, true, Some, length, ap, sym, subst, ◌∙◌, arith}
use Rattle.std.specs.Prelude.{slice_get}
use Rattle.bc_inner.specs.Inner.{Inner}
use Rattle.bc_key.specs.declared.ptr.Ptr.{Ptr}
use Rattle.bc_tree.specs.Change.{set_words}
use Rattle.bc_tree.specs.Needs.{fits_node, words}
use Rattle.bc_tree.specs.Plan.{IsPlanOf, moves}
use Rattle.bc_tree.specs.Split.{IsSplitPlan}
use Rattle.bc_tree.specs.Spine.{Spine, bottom}
use Rattle.bc_tree.proofs.Moves.{if_ok, key_of, spine_kept}
use Rattle.bc_tree.proofs.Same.{place_same, same_but_spare, same_twice}
use Rattle.bc_tree.proofs.Splits.{can_split, six_words, split_planned}
use Rattle.bc_tree.proofs.spine.Spine.split_to.Goals as goal

pub split_leaf-requires : goal.split_leaf-requires
split_leaf-requires c =
    let cut = c.requires.cut in
    let end = c.end-3.ensures in
    record { leaf = c.args.place.now.range; there = c.requires.stands.there; above = omega (arith, cut.0, end); below = omega (arith, cut.1, end); multiple = ap (λ n. n % 256) end ∙ cut.2 }

pub plan_siblings-requires-clause-can : goal.plan_siblings-requires-clause-can
plan_siblings-requires-clause-can c =
    let s = c.args.self.now in
    let t = c.split_leaf.new.self in
    let place = c.args.place.now in
    let two = c.args.two in
    let same = same_but_spare s t c.split_leaf.ensures.only in
    let is = place_same s t two.low.from place same c.requires.stands in
    let cut = c.requires.cut in
    let end = c.end-3.ensures in
    let fits = subst (λ (v : Spine). (node : Inner) → slice_get (bottom v.root v.below) place.node ≡ Some node → fits_node v.geometry (words node.children + 3) ≡ true) (sym c.split_leaf.ensures.only) c.requires.fits in
    can_split t two.low.from place c.end-3.result c.ptr-3.result c.ptr-4.result c.new-low_key.result c.new-high_key.result c.in_ok-leaves.leaves is (spine_kept s t same c.root.ensures.spine)
    c.in_ok-leaves.ensures.split c.in_ok-leaves.ensures.fits (omega (arith, c.in_ok-leaves.ensures.room)) (omega (arith, cut.0, end)) (omega (arith, cut.1, end)) (ap (λ n. n % 256) end ∙ cut.2)
    (key_of c.new-low_key.result c.end-3.result c.ptr-3.result (c.new-low_key.ensures.end ∙ c.end.ensures ∙ sym end) (c.new-low_key.ensures.pointer ∙ ap (λ (p : Ptr). Some p) (c.ptr.ensures ∙ sym c.ptr-3.ensures)) c.new-low_key.ensures.count)
    (key_of c.new-high_key.result place.range.end c.ptr-4.result (c.new-high_key.ensures.end ∙ c.end-2.ensures ∙ c.requires.end) (c.new-high_key.ensures.pointer ∙ ap (λ (p : Ptr). Some p) (c.ptr-2.ensures ∙ sym c.ptr-4.ensures)) c.new-high_key.ensures.count)
    (fits is.parent is.node)

pub plan_siblings-requires-clause-few : goal.plan_siblings-requires-clause-few
plan_siblings-requires-clause-few c = omega (arith, six_words c.new-low_key.result c.new-high_key.result c.new-low_key.ensures.count c.new-high_key.ensures.count)

pub plan_siblings-requires-clause-places : goal.plan_siblings-requires-clause-places
plan_siblings-requires-clause-places c =
    let come = c.new-low_key.result ∷ c.new-high_key.result ∷ [] in
    subst (λ (v : Spine). (node : Inner) → slice_get (bottom v.root v.below) c.args.place.now.node ≡ Some node → moves v node (set_words 1 come) ≤ length c.args.to.now) (sym c.split_leaf.ensures.only)
    (λ node there. subst (λ n. moves c.args.self.now node n ≤ length c.args.to.now) (sym (six_words c.new-low_key.result c.new-high_key.result c.new-low_key.ensures.count c.new-high_key.ensures.count)) (c.requires.places node there))

pub returns-clause-plan : goal.returns-clause-plan
returns-clause-plan c =
    let s = c.args.self.now in
    let t = c.split_leaf.new.self in
    let low_key = c.new-low_key.result in
    let high_key = c.new-high_key.result in
    let low = c.args.two.low in
    let high = c.args.two.high in
    let place = c.args.place.now in
    if_ok c.plan_siblings.result (IsPlanOf t (record { leaves = c.in_ok-leaves.leaves; first = low; second = Some high }) place 1 (low_key ∷ high_key ∷ []) c.args.to.now c.args.seq) (IsSplitPlan s place low high c.args.to.now c.args.seq)
    (split_planned s t c.in_ok-leaves.leaves low high place low_key high_key c.args.to.now c.args.seq c.end-3.result c.ptr-3.result c.ptr-4.result c.split_leaf.ensures.only c.in_ok-leaves.ensures.split c.end-3.ensures c.ptr-3.ensures c.ptr-4.ensures
    (key_of low_key low.end low.ptr (c.new-low_key.ensures.end ∙ c.end.ensures) (c.new-low_key.ensures.pointer ∙ ap (λ (p : Ptr). Some p) c.ptr.ensures) c.new-low_key.ensures.count)
    (key_of high_key high.end high.ptr (c.new-high_key.ensures.end ∙ c.end-2.ensures) (c.new-high_key.ensures.pointer ∙ ap (λ (p : Ptr). Some p) c.ptr-2.ensures) c.new-high_key.ensures.count))
    c.plan_siblings.ensures.plan

pub returns-clause-tree : goal.returns-clause-tree
returns-clause-tree c = same_twice c.args.self.now c.split_leaf.new.self c.plan_siblings.new.self (same_but_spare c.args.self.now c.split_leaf.new.self c.split_leaf.ensures.only) c.plan_siblings.ensures.tree

pub returns-in_err-leaves-clause-tree : goal.returns-in_err-leaves-clause-tree
returns-in_err-leaves-clause-tree c = same_but_spare c.args.self.now c.split_leaf.new.self c.split_leaf.ensures.only
