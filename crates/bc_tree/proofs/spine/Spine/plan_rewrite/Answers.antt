use Rattle.std.proofs.Common.{◌≡◌, ◌+◌, ◌-◌, ◌%◌, ◌^◌, true, false, List, Option, length, drop, ap, refl, sym, subst, ◌∙◌, arith, length-drop}
use Rattle.std.specs.Prelude.{option_to_list}
use Rattle.std.proofs.lemmas.List.{take_all}
use Rattle.std.proofs.lemmas.Option.{slice_get_read}
use Rattle.bc_disk.specs.declared.geometry.Geometry.{Geometry}
use Rattle.bc_inner.specs.Inner.{Inner}
use Rattle.bc_key.specs.declared.ptr.Ptr.{Ptr}
use Rattle.bc_node.specs.Leaf.{IsFull, Leaf}
use Rattle.bc_tree.specs.Plan.{IsComing, moves}
use Rattle.bc_tree.specs.Rewrite.{IsMovePlan}
use Rattle.bc_tree.specs.Spine.{IsPlaceAt}
use Rattle.bc_tree.proofs.Coming.{same_there, three_words}
use Rattle.bc_tree.proofs.Counts.{rewrite_places}
use Rattle.bc_tree.proofs.Moves.{coming_same, range_is}
use Rattle.bc_tree.proofs.LastKeys.{moved_stands}
use Rattle.bc_tree.proofs.Same.{same_tree}
use Rattle.bc_tree.proofs.spine.Spine.plan_rewrite.Goals as goal

pub bounds-to-0 : goal.bounds-to-0
bounds-to-0 c =
    let s = c.args.self.now in
    let stands = subst (λ n. IsPlaceAt s n c.place-place.result) c.from.ensures c.place-place.ensures in
    omega (arith, rewrite_places s c.args.leaf.now.from c.place-place.result (length c.args.to.now) stands c.root.ensures.spine c.requires.places)

pub slice_bounds-move_to-count : goal.slice_bounds-move_to-count
slice_bounds-move_to-count c =
    let s = c.args.self.now in
    let stands = subst (λ n. IsPlaceAt s n c.place-place.result) c.from.ensures c.place-place.ensures in
    omega (arith, rewrite_places s c.args.leaf.now.from c.place-place.result (length c.args.to.now) stands c.root.ensures.spine c.requires.places)

pub slice_bounds-move_to-start : goal.slice_bounds-move_to-start
slice_bounds-move_to-start c =
    let s = c.args.self.now in
    let stands = subst (λ n. IsPlaceAt s n c.place-place.result) c.from.ensures c.place-place.ensures in
    omega (arith, rewrite_places s c.args.leaf.now.from c.place-place.result (length c.args.to.now) stands c.root.ensures.spine c.requires.places)

pub returns-in_err-first-clause-tree : goal.returns-in_err-first-clause-tree
returns-in_err-first-clause-tree c = same_tree c.args.self.now

pub returns-then-is_full-clause-tree : goal.returns-then-is_full-clause-tree
returns-then-is_full-clause-tree c = same_tree c.args.self.now

pub returns-then-is_full-clause-refused : goal.returns-then-is_full-clause-refused
returns-then-is_full-clause-refused c =
    let leaf = c.args.leaf.now in
    let first = c.in_ok-first.first in (
      c.index-to-0.result,
      c.args.seq,
      first,
      coming_same c.keys.result.now.keys leaf.keys c.from-2.result leaf.from c.end.result leaf.end c.index-to-0.result c.args.seq first c.keys.ensures.keys c.from-2.ensures c.end.ensures c.in_ok-first.ensures,
      subst (λ (g : Geometry). IsFull g first) c.geometry.ensures (c.if-is_full.ensures.0 refl),
    )

pub move_to-requires-clause-end : goal.move_to-requires-clause-end
move_to-requires-clause-end c =
    let s = c.args.self.now in
    let stands = subst (λ n. IsPlaceAt s n c.place-place.result) c.from.ensures c.place-place.ensures in
    c.in_ok-first.ensures.is.ends ∙ c.end.ensures ∙ sym (range_is s c.args.leaf.now.from c.args.leaf.now.end c.place-place.result c.requires.leaf.range stands).1

pub move_to-requires-clause-places : goal.move_to-requires-clause-places
move_to-requires-clause-places c node there =
    let s = c.args.self.now in
    let to = c.args.to.now in
    let stands = subst (λ n. IsPlaceAt s n c.place-place.result) c.from.ensures c.place-place.ensures in
    let same = same_there s c.place-place.result.node node stands.parent there stands.node in
    let places = rewrite_places s c.args.leaf.now.from c.place-place.result (length to) stands c.root.ensures.spine c.requires.places in
    let all = take_all (length to - 1) (drop 1 to) (omega (arith, length-drop 1 to)) in
    omega (arith, places, length-drop 1 to, ap (λ (ps : List Ptr). length ps) all, ap (λ (n : Inner). moves s n 3) same)

pub returns-clause-planned : goal.returns-clause-planned
returns-clause-planned c =
    let s = c.args.self.now in
    let parts = c.args.parts in
    let leaf = c.args.leaf.now in
    let to = c.args.to.now in
    let place = c.place-place.result in
    let first = c.in_ok-first.first in
    let plan = c.in_ok-plan.plan in
    let is = c.in_ok-plan.ensures.plan in
    let next = (c.args.seq + 1) % 2 ^ 64 in
    let stands = subst (λ n. IsPlaceAt s n place) c.from.ensures c.place-place.ensures in
    let places = rewrite_places s leaf.from place (length to) stands c.root.ensures.spine c.requires.places in
    let comes = coming_same c.keys.result.now.keys leaf.keys c.from-2.result leaf.from c.end.result leaf.end c.index-to-0.result c.args.seq first c.keys.ensures.keys c.from-2.ensures c.end.ensures c.in_ok-first.ensures in
    record {
      place = place;
      stands = stands;
      ptr = c.index-to-0.result;
      first_place = slice_get_read to (length to) 0 c.index-to-0.result refl (omega (arith, places)) c.index-to-0.is;
      leaf_comes = subst (λ (l : Leaf). IsComing leaf.keys leaf.from leaf.end c.index-to-0.result c.args.seq l) (sym is.first_is) comes;
      leaf_fits = λ full. let two : false ≡ true = c.if-is_full.ensures.1 (subst (λ (g : Geometry). IsFull g first) (sym c.geometry.ensures) (subst (λ (l : Leaf). IsFull s.geometry l) is.first_is full)) in absurd (cc);
      moves = subst (λ (l : Leaf). IsMovePlan s place parts l (drop 1 to) next plan) (sym is.first_is)
          (subst (λ (ps : List Ptr). IsMovePlan s place parts first ps next plan) (take_all (length to - 1) (drop 1 to) (omega (arith, length-drop 1 to))) is);
    }

pub returns-clause-count : goal.returns-clause-count
returns-clause-count c =
    let s = c.args.self.now in
    let place = c.place-place.result in
    let plan = c.in_ok-plan.plan in
    let is = c.in_ok-plan.ensures.plan in
    let stands = subst (λ n. IsPlaceAt s n place) c.from.ensures c.place-place.ensures in
    let places = rewrite_places s c.args.leaf.now.from place (length c.args.to.now) stands c.root.ensures.spine c.requires.places in
    let same = same_there s place.node is.above.node stands.parent is.above.there stands.node in
    omega (arith, places, is.above.moved, ap (λ (l : Option Leaf). length (option_to_list l)) is.alone, ap (λ (n : Inner). moves s n 3) same, ap (λ n. moves s is.above.node n) (three_words is.key is.names.one))

pub returns-clause-kept : goal.returns-clause-kept
returns-clause-kept c = moved_stands c.args.self.now c.args.leaf.now c.args.to.now c.args.seq c.args.parts c.in_ok-plan.plan c.requires.leaf (returns-clause-planned c)
