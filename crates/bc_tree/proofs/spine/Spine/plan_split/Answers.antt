use Rattle.std.proofs.Common.{◌≡◌, ◌+◌, ◌-◌, ◌%◌, ◌^◌, List, length, take, drop, ap, sym, subst, ◌∙◌, arith, length-drop}
use Rattle.std.proofs.lemmas.List.{take_all}
use Rattle.bc_disk.specs.declared.geometry.Geometry.{Geometry}
use Rattle.bc_inner.specs.Inner.{Inner}
use Rattle.bc_key.specs.declared.key.Key.{Key}
use Rattle.bc_key.specs.declared.ptr.Ptr.{Ptr}
use Rattle.bc_node.specs.Leaf.{Leaf}
use Rattle.bc_tree.specs.Parts.{IsNearMiddle}
use Rattle.bc_tree.specs.Split.{AreHalves, AreSplitPlaces, IsMadeSplit, IsNotSplit}
use Rattle.bc_tree.specs.Spine.{IsPlaceAt}
use Rattle.bc_tree.proofs.Coming.{same_there}
use Rattle.bc_tree.proofs.Halving.{made_first, made_places, made_second}
use Rattle.bc_tree.proofs.Moves.{passed_on, range_is}
use Rattle.bc_tree.proofs.LastKeys.{split_stands}
use Rattle.bc_tree.proofs.Same.{same_tree}
use Rattle.bc_tree.proofs.Splits.{not_split}
use Rattle.bc_tree.proofs.spine.Spine.plan_split.Goals as goal

pub returns-in_err-two-clause-tree : goal.returns-in_err-two-clause-tree
returns-in_err-two-clause-tree c = same_tree c.args.self.now

pub returns-in_err-two-clause-refused : goal.returns-in_err-two-clause-refused
returns-in_err-two-clause-refused c =
    let s = c.args.self.now in
    let leaf = c.args.leaf.now in
    let e = c.in_err-two.field-0.0 in
    passed_on c.from_residual.result e (IsNotSplit s leaf) c.from_residual.ensures.1
    (not_split s leaf c.geometry.result.now c.keys.result.now.keys c.from-2.result c.cut_of-cut.result e c.geometry.ensures c.keys.ensures.keys c.from-2.ensures c.cut_of-cut.ensures.middle c.in_err-two.ensures.refused)

pub cut_leaf-requires-clause-places : goal.cut_leaf-requires-clause-places
cut_leaf-requires-clause-places c =
    let s = c.args.self.now in
    let place = c.place-place.result in
    let stands = subst (λ n. IsPlaceAt s n place) c.from.ensures c.place-place.ensures in
    let places = made_places s c.args.leaf.now.from place (length c.args.to.now) stands c.root.ensures.spine c.requires.places in
    omega (arith, places.0)

pub slice_bounds-split_here-count : goal.slice_bounds-split_here-count
slice_bounds-split_here-count c =
    let s = c.args.self.now in
    let place = c.place-place.result in
    let stands = subst (λ n. IsPlaceAt s n place) c.from.ensures c.place-place.ensures in
    let places = made_places s c.args.leaf.now.from place (length c.args.to.now) stands c.root.ensures.spine c.requires.places in
    omega (arith, places.0)

pub slice_bounds-split_here-start : goal.slice_bounds-split_here-start
slice_bounds-split_here-start c =
    let s = c.args.self.now in
    let place = c.place-place.result in
    let stands = subst (λ n. IsPlaceAt s n place) c.from.ensures c.place-place.ensures in
    let places = made_places s c.args.leaf.now.from place (length c.args.to.now) stands c.root.ensures.spine c.requires.places in
    omega (arith, places.0)

pub split_here-requires-clause-cut : goal.split_here-requires-clause-cut
split_here-requires-clause-cut c =
    let s = c.args.self.now in
    let leaf = c.args.leaf.now in
    let place = c.place-place.result in
    let stands = subst (λ n. IsPlaceAt s n place) c.from.ensures c.place-place.ensures in
    let range = range_is s leaf.from leaf.end place c.requires.leaf.range stands in
    let ends = c.in_ok-two.ensures.halves.low_comes.is.ends in
    let cut = c.cut_of-cut.ensures in
    (omega (arith, range.0, ends, cut.above, c.from-2.ensures), omega (arith, range.1, ends, cut.below, c.end.ensures), ap (λ n. n % 256) ends ∙ cut.multiple)

pub split_here-requires-clause-end : goal.split_here-requires-clause-end
split_here-requires-clause-end c =
    let s = c.args.self.now in
    let leaf = c.args.leaf.now in
    let place = c.place-place.result in
    let stands = subst (λ n. IsPlaceAt s n place) c.from.ensures c.place-place.ensures in
    c.in_ok-two.ensures.halves.high_comes.is.ends ∙ sym (range_is s leaf.from leaf.end place c.requires.leaf.range stands).1

pub split_here-requires-clause-places : goal.split_here-requires-clause-places
split_here-requires-clause-places c node there =
    let to = c.args.to.now in
    let s = c.args.self.now in
    let place = c.place-place.result in
    let stands = subst (λ n. IsPlaceAt s n place) c.from.ensures c.place-place.ensures in
    let places = made_places s c.args.leaf.now.from place (length c.args.to.now) stands c.root.ensures.spine c.requires.places in
    let same = same_there s place.node stands.parent node stands.node there in
    let all = take_all (length to - 2) (drop 2 to) (omega (arith, length-drop 2 to)) in
    let left : length to - 2 ≡ length (take (length to - 2) (drop 2 to)) = omega (arith, length-drop 2 to, ap (λ (ps : List Ptr). length ps) all) in
    subst (λ (n : Inner). AreSplitPlaces s n (length (take (length to - 2) (drop 2 to)))) same (subst (λ k. AreSplitPlaces s stands.parent k) left places.1)

pub returns-clause-planned : goal.returns-clause-planned
returns-clause-planned c =
    let s = c.args.self.now in
    let leaf = c.args.leaf.now in
    let to = c.args.to.now in
    let place = c.place-place.result in
    let cut = c.cut_of-cut.result in
    let two = c.in_ok-two.two in
    let plan = c.in_ok-plan.plan in
    let made = c.in_ok-plan.ensures.plan in
    let is = made.2 in
    let first = made_first s place made.0 two.low two.high _ _ plan is in
    let next = (c.args.seq + 2) % 2 ^ 64 in
    let stands = subst (λ n. IsPlaceAt s n place) c.from.ensures c.place-place.ensures in
    let same = same_there s place.node made.0 stands.parent made.1 stands.node in
    let halves = subst (λ (g : Geometry). AreHalves g leaf cut to c.args.seq two.low two.high) c.geometry.ensures c.in_ok-two.ensures.halves in
    record {
      place = place;
      stands = stands;
      cut = cut;
      within = (omega (arith, c.cut_of-cut.ensures.above, c.from-2.ensures), omega (arith, c.cut_of-cut.ensures.below, c.end.ensures), c.cut_of-cut.ensures.multiple);
      middle = subst (λ (ks : List Key). IsNearMiddle leaf.from ks cut) c.keys.ensures.keys (subst (λ n. IsNearMiddle n c.keys.result.now.keys cut) c.from-2.ensures c.cut_of-cut.ensures.middle);
      high = two.high;
      halves = subst (λ (l : Leaf). AreHalves s.geometry leaf cut to c.args.seq l two.high) (sym first) halves;
      moves = subst (λ (n : Inner). IsMadeSplit s place n plan.first two.high (drop 2 to) next plan) same
          (subst (λ (l : Leaf). IsMadeSplit s place made.0 l two.high (drop 2 to) next plan) (sym first)
          (subst (λ (ps : List Ptr). IsMadeSplit s place made.0 two.low two.high ps next plan) (take_all (length to - 2) (drop 2 to) (omega (arith, length-drop 2 to))) is));
    }

pub returns-clause-count : goal.returns-clause-count
returns-clause-count c =
    let s = c.args.self.now in
    let place = c.place-place.result in
    let stands = subst (λ n. IsPlaceAt s n place) c.from.ensures c.place-place.ensures in
    let places = made_places s c.args.leaf.now.from place (length c.args.to.now) stands c.root.ensures.spine c.requires.places in
    let to = c.args.to.now in
    let made = c.in_ok-plan.ensures.plan in
    let second = made_second s place made.0 c.in_ok-two.two.low c.in_ok-two.two.high _ _ c.in_ok-plan.plan made.2 in
    let all = take_all (length to - 2) (drop 2 to) (omega (arith, length-drop 2 to)) in
    omega (arith, places.0, c.in_ok-plan.ensures.count, second, length-drop 2 to, ap (λ (ps : List Ptr). length ps) all)

pub returns-clause-kept : goal.returns-clause-kept
returns-clause-kept c = split_stands c.args.self.now c.args.leaf.now c.args.to.now c.args.seq c.in_ok-plan.plan c.requires.leaf (returns-clause-planned c)
