use Rattle.std.proofs.Common.{◌≡◌, ◌+◌, ◌-◌, ◌%◌, ◌^◌, ◌<◌, ◌≤◌, true, false, List, Option, None, Some, length, take, drop, refl, ap, sym, subst, ◌∙◌, arith, length-drop}
use Rattle.std.specs.Prelude.{option_to_list}
use Rattle.std.proofs.lemmas.List.{take_all}
use Rattle.std.proofs.lemmas.Option.{slice_get_read}
use Rattle.bc_disk.specs.declared.geometry.Geometry.{Geometry}
use Rattle.bc_inner.specs.Inner.{Inner}
use Rattle.bc_key.specs.declared.ptr.Ptr.{Ptr}
use Rattle.bc_node.specs.Leaf.{IsFull, Leaf}
use Rattle.bc_tree.specs.Merge.{CanJoinHere, IsJoined, IsMadeJoin}
use Rattle.bc_tree.specs.Spine.{IsPlaceAt}
use Rattle.bc_tree.proofs.Coming.{same_there}
use Rattle.bc_tree.proofs.Crossings.{join_first, joins}
use Rattle.bc_tree.proofs.LastKeys.{merge_stands}
use Rattle.bc_tree.proofs.Same.{same_tree}
use Rattle.bc_tree.proofs.spine.Spine.plan_join.Goals as goal

pub bounds-to-0 : goal.bounds-to-0
bounds-to-0 c =
    let s = c.args.self.now in
    let left = c.args.left.now in
    let right = c.args.right.now in
    let place = c.place-place.result in
    let stands = subst (λ n. IsPlaceAt s n place) c.from.ensures c.place-place.ensures in
    let can = joins s left right place (length c.args.to.now) stands c.root.ensures.spine c.len.ensures.all.row c.requires.left c.requires.right c.requires.beside c.requires.can c.requires.places in
    omega (arith, can.0)

pub joined-requires-clause-right : goal.joined-requires-clause-right
joined-requires-clause-right c =
    let s = c.args.self.now in
    let left = c.args.left.now in
    let right = c.args.right.now in
    let place = c.place-place.result in
    let stands = subst (λ n. IsPlaceAt s n place) c.from.ensures c.place-place.ensures in
    let can = joins s left right place (length c.args.to.now) stands c.root.ensures.spine c.len.ensures.all.row c.requires.left c.requires.right c.requires.beside c.requires.can c.requires.places in
    omega (arith, can.2)

pub returns-in_err-first-clause-tree : goal.returns-in_err-first-clause-tree
returns-in_err-first-clause-tree c =
    same_tree c.args.self.now

pub returns-then-is_full-clause-tree : goal.returns-then-is_full-clause-tree
returns-then-is_full-clause-tree c =
    same_tree c.args.self.now

pub returns-then-is_full-clause-refused : goal.returns-then-is_full-clause-refused
returns-then-is_full-clause-refused c =
    let first = c.in_ok-first.first in
    (c.index-to-0.result, c.args.seq, first, c.in_ok-first.ensures, subst (λ (g : Geometry). IsFull g first) c.geometry.ensures (c.if-is_full.ensures.0 refl))

pub slice_bounds-join_here-count : goal.slice_bounds-join_here-count
slice_bounds-join_here-count c =
    let s = c.args.self.now in
    let left = c.args.left.now in
    let right = c.args.right.now in
    let place = c.place-place.result in
    let stands = subst (λ n. IsPlaceAt s n place) c.from.ensures c.place-place.ensures in
    let can = joins s left right place (length c.args.to.now) stands c.root.ensures.spine c.len.ensures.all.row c.requires.left c.requires.right c.requires.beside c.requires.can c.requires.places in
    omega (arith, can.0)

pub slice_bounds-join_here-start : goal.slice_bounds-join_here-start
slice_bounds-join_here-start c =
    let s = c.args.self.now in
    let left = c.args.left.now in
    let right = c.args.right.now in
    let place = c.place-place.result in
    let stands = subst (λ n. IsPlaceAt s n place) c.from.ensures c.place-place.ensures in
    let can = joins s left right place (length c.args.to.now) stands c.root.ensures.spine c.len.ensures.all.row c.requires.left c.requires.right c.requires.beside c.requires.can c.requires.places in
    omega (arith, can.0)

pub join_here-requires-clause-stands : goal.join_here-requires-clause-stands
join_here-requires-clause-stands c =
    let s = c.args.self.now in
    let place = c.place-place.result in
    subst (λ n. IsPlaceAt s n place) (c.from.ensures ∙ sym c.in_ok-first.ensures.begins) c.place-place.ensures

pub join_here-requires-clause-can : goal.join_here-requires-clause-can
join_here-requires-clause-can c =
    let s = c.args.self.now in
    let left = c.args.left.now in
    let right = c.args.right.now in
    let place = c.place-place.result in
    let stands = subst (λ n. IsPlaceAt s n place) c.from.ensures c.place-place.ensures in
    let can = joins s left right place (length c.args.to.now) stands c.root.ensures.spine c.len.ensures.all.row c.requires.left c.requires.right c.requires.beside c.requires.can c.requires.places in
    let to = c.args.to.now in
    let all = take_all (length to - 1) (drop 1 to) (omega (arith, length-drop 1 to)) in
    let left_over : length to - 1 ≡ length (take (length to - 1) (drop 1 to)) = omega (arith, length-drop 1 to, ap (λ (ps : List Ptr). length ps) all) in
    let next : right.from ≡ c.from-next.result = sym c.from-next.ensures in (
      stands.parent,
      stands.node,
      subst (λ k. CanJoinHere s place stands.parent c.from-next.result c.in_ok-first.first.end k) left_over
          (subst (λ n. CanJoinHere s place stands.parent c.from-next.result n (length to - 1)) (sym c.in_ok-first.ensures.ends) (subst (λ n. CanJoinHere s place stands.parent n right.end (length to - 1)) next can.3)),
    )

pub returns-clause-planned : goal.returns-clause-planned
returns-clause-planned c =
    let s = c.args.self.now in
    let left = c.args.left.now in
    let right = c.args.right.now in
    let place = c.place-place.result in
    let stands = subst (λ n. IsPlaceAt s n place) c.from.ensures c.place-place.ensures in
    let can = joins s left right place (length c.args.to.now) stands c.root.ensures.spine c.len.ensures.all.row c.requires.left c.requires.right c.requires.beside c.requires.can c.requires.places in
    let to = c.args.to.now in
    let first = c.in_ok-first.first in
    let plan = c.in_ok-plan.plan in
    let made = c.in_ok-plan.ensures.plan in
    let is = made.2 in
    let seq = (c.args.seq + 1) % 2 ^ 64 in
    let first_is = (join_first s place made.0 c.from-next.result first _ seq plan is).0 in
    let same = same_there s place.node made.0 stands.parent made.1 stands.node in
    record {
      place = place;
      stands = stands;
      ptr = c.index-to-0.result;
      first_place = slice_get_read to (length to) 0 c.index-to-0.result refl (omega (arith, can.0)) c.index-to-0.is;
      leaf_comes = subst (λ (l : Leaf). IsJoined left right c.index-to-0.result c.args.seq l) (sym first_is) c.in_ok-first.ensures;
      leaf_fits = λ full. let two : false ≡ true = c.if-is_full.ensures.1 (subst (λ (g : Geometry). IsFull g first) (sym c.geometry.ensures) (subst (λ (l : Leaf). IsFull s.geometry l) first_is full)) in absurd (cc);
      moves = subst (λ (n : Inner). IsMadeJoin s place n right.from plan.first (drop 1 to) seq plan) same
          (subst (λ (l : Leaf). IsMadeJoin s place made.0 right.from l (drop 1 to) seq plan) (sym first_is)
          (subst (λ n. IsMadeJoin s place made.0 n first (drop 1 to) seq plan) c.from-next.ensures
          (subst (λ (ps : List Ptr). IsMadeJoin s place made.0 c.from-next.result first ps seq plan) (take_all (length to - 1) (drop 1 to) (omega (arith, length-drop 1 to))) is)));
    }

pub returns-clause-count : goal.returns-clause-count
returns-clause-count c =
    let s = c.args.self.now in
    let left = c.args.left.now in
    let right = c.args.right.now in
    let place = c.place-place.result in
    let stands = subst (λ n. IsPlaceAt s n place) c.from.ensures c.place-place.ensures in
    let can = joins s left right place (length c.args.to.now) stands c.root.ensures.spine c.len.ensures.all.row c.requires.left c.requires.right c.requires.beside c.requires.can c.requires.places in
    let to = c.args.to.now in
    let made = c.in_ok-plan.ensures.plan in
    let second = (join_first s place made.0 c.from-next.result c.in_ok-first.first _ _ c.in_ok-plan.plan made.2).1 in
    let all = take_all (length to - 1) (drop 1 to) (omega (arith, length-drop 1 to)) in
    omega (arith, can.0, c.in_ok-plan.ensures.count, ap (λ (l : Option Leaf). length (option_to_list l)) second, length-drop 1 to, ap (λ (ps : List Ptr). length ps) all)

pub returns-clause-kept : goal.returns-clause-kept
returns-clause-kept c = merge_stands c.args.self.now c.args.self.now.root.end c.args.left.now c.args.right.now c.args.to.now c.args.seq c.in_ok-plan.plan c.len.ensures.all.row c.requires.left c.requires.right c.requires.beside c.keys.ensures.proper.within c.keys-2.ensures.proper.within (returns-clause-planned c)
