-- Two leaves that come in the place of one, and one in the place of two.
use Rattle.std.proofs.Common.{◌≡◌, inl, inr, if◌then◌else◌, Bool, ℕ, ◌+◌, ◌%◌, ◌<◌, ◌≤◌, true, List, [], ◌∷◌, length, take, Option, Some, refl, sym, subst, ap, ◌∙◌, arith}
use Rattle.std.specs.Prelude.{option_to_list, slice_get}
use Rattle.std.proofs.lemmas.Bool.{cases_Bool}
use Rattle.std.proofs.lemmas.List.Elements.{All-cons, All-nil}
use Rattle.std.proofs.lemmas.Option.{get_or_from_slice_get, slice_get_within}
use Rattle.bc_disk.specs.declared.geometry.Geometry.{Geometry}
use Rattle.bc_inner.specs.Inner.{Inner}
use Rattle.bc_key.specs.Key.{ptr_at}
use Rattle.bc_key.specs.declared.key.Key.{Key}
use Rattle.bc_key.specs.declared.ptr.Ptr.{Ptr}
use Rattle.bc_keys.proofs.KeyLists.{length-words_of}
use Rattle.bc_node.specs.Leaf.{Leaf}
use Rattle.bc_spine.specs.Exchange.{IsFor, IsSplit}
use Rattle.bc_spine.specs.declared.exchange.Exchange.{Exchange}
use Rattle.bc_spine.specs.declared.leaf.LeafRange.{LeafRange}
use Rattle.bc_tree.specs.Change.{set_words}
use Rattle.bc_tree.specs.Children.{HasPointer}
use Rattle.bc_tree.specs.Needs.{IsNeeded, fits_node, needs, split_needs, takes_set, with_parent, words}
use Rattle.bc_tree.specs.Parts.{IsNearMiddle}
use Rattle.bc_tree.specs.Plan.{CanExchange, IsKeyOf, IsPlanOf, moves}
use Rattle.bc_tree.specs.Split.{IsHalfTooLarge, IsNoHalf, IsNotSplit, IsSplitPlan}
use Rattle.bc_tree.specs.Same.{IsSameButSpare}
use Rattle.bc_tree.specs.Spine.{IsPlaceAt, IsSpine, NameLeaves, Spine, bottom, last_end}
use Rattle.bc_tree.specs.declared.needs.Needs.{Needs}
use Rattle.bc_tree.specs.declared.place.LeafPlace.{LeafPlace}
use Rattle.bc_tree.specs.declared.plan.Plan.{Plan}
use Rattle.bc_tree.specs.declared.plan.PlanError.{PlanError}
use Rattle.bc_tree.specs.declared.plan.PlanError.TheVariants.{Large, Memory}
use Rattle.bc_tree.proofs.Choices.{split_moves, split_set, test}
use Rattle.bc_tree.proofs.Coming.{same_there}
use Rattle.bc_tree.proofs.Counts.{low_count, total}
use Rattle.bc_tree.proofs.Moves.{above_kept, covers_at, parent_at, proper_at, same_parent}
use Rattle.bc_tree.proofs.Proper.{words_cons}
use Rattle.bc_tree.proofs.Spines.{end_more}
use Rattle.bc_tree.proofs.Splices.{can_replace}

pub two_words : (low high : Key) → low.count ≡ 1 → high.count ≡ 1 → words (low ∷ high ∷ []) ≡ 6
two_words low high one two = omega (arith, words_cons low (high ∷ []), words_cons high [], length-words_of low, length-words_of high, one, two)

pub two_named : (low high : Key) (first other : LeafRange) (second : Option LeafRange) → second ≡ Some other → first.end ≡ low.end → first.ptr ≡ ptr_at low 0 → other.end ≡ high.end → other.ptr ≡ ptr_at high 0
    → NameLeaves (low ∷ high ∷ []) (first ∷ option_to_list second)
two_named low high first other second is end ptr end2 ptr2 = subst (λ (o : Option LeafRange). NameLeaves (low ∷ high ∷ []) (first ∷ option_to_list o)) (sym is) (end, ptr, (end2, ptr2, tt))

pub two_long : (first other : LeafRange) (second : Option LeafRange) → second ≡ Some other → length (first ∷ option_to_list second) ≡ 2
two_long first other second is = subst (λ (o : Option LeafRange). length (first ∷ option_to_list o) ≡ 2) (sym is) refl

pub can_split : (s : Spine) (sector : ℕ) (place : LeafPlace) (cut : ℕ) (p q : Ptr) (low high : Key) (e : Exchange) (is : IsPlaceAt s sector place) → IsSpine s.geometry s.root s.below s.leaves → IsSplit s.leaves place.leaf cut p q e
    → IsFor s.leaves e → 1 ≤ s.spare → place.range.from < cut → cut < place.range.end → cut % 256 ≡ 0 → IsKeyOf cut p low → IsKeyOf place.range.end q high
    → fits_node s.geometry (words is.parent.children + 3) ≡ true → CanExchange s e place 1 (low ∷ high ∷ [])
can_split s sector place cut p q low high e is spine split fits spare above below multiple name_low name_high room =
    let node = is.parent in
    let at = place.child in
    let within = slice_get_within node.children at is.key is.child in
    let same : split.leaf ≡ place.range = let one = split.there in let two = is.there in cc in
    let other = split.second in
    let reach : last_end node.from (take (at + 1) node.children) ≡ place.range.end =
    end_more node.from node.children at is.key within ∙ ap (λ (k : Key). k.end) (get_or_from_slice_get node.children at is.key is.key is.child) ∙ sym is.ends in
    record {
      fits = fits;
      spare = omega (arith, spare, split.gone, two_long e.first other.0 e.second other.1);
      gone_are = split.gone;
      before = split.at ∙ is.before;
      names = two_named low high e.first other.0 e.second other.1 (split.first.ends ∙ sym name_low.end) (split.first.stands ∙ sym name_low.ptr)
          (other.2.ends ∙ ap (λ (l : LeafRange). l.end) same ∙ sym name_high.end) (other.2.stands ∙ sym name_high.ptr);
      node = node;
      there = is.node;
      can = can_replace s.geometry node at 1 3 (low ∷ high ∷ []) (low ∷ []) high (proper_at s place.node node spine is.node) (covers_at s place.node node spine is.node) (omega arith) (omega (arith, within))
          (record {
            rise = (omega (arith, is.begins, above, name_low.end), ap (λ n. n % 256) name_low.end ∙ multiple, (omega (arith, name_low.end, name_high.end, below), ap (λ n. n % 256) name_high.end ∙ is.multiples.1, tt));
            end = name_high.end ∙ sym reach;
            some = omega arith;
          })
          (All-cons HasPointer low (high ∷ []) (omega (arith, name_low.one)) (All-cons HasPointer high [] (omega (arith, name_high.one)) (All-nil HasPointer)))
          refl
          (λ k d inside. absurd (omega (arith, inside)))
          (omega (arith, two_words low high name_low.one name_high.one))
          room;
    }

pub six_words : (low high : Key) → low.count ≡ 1 → high.count ≡ 1 → set_words 1 (low ∷ high ∷ []) ≡ 6
six_words low high one two = omega (arith, two_words low high one two)

pub split_planned : (s t : Spine) (e : Exchange) (low high : Leaf) (place : LeafPlace) (low_key high_key : Key) (to : List Ptr) (seq cut : ℕ) (p q : Ptr) → IsSameButSpare s t → IsSplit t.leaves place.leaf cut p q e
    → cut ≡ low.end → p ≡ low.ptr → q ≡ high.ptr → IsKeyOf low.end low.ptr low_key → IsKeyOf high.end high.ptr high_key
    → (plan : Plan) → IsPlanOf t (record { leaves = e; first = low; second = Some high }) place 1 (low_key ∷ high_key ∷ []) to seq plan → IsSplitPlan s place low high to seq plan
split_planned s t e low high place low_key high_key to seq cut p q only split cut_is p_is q_is low_names high_names plan is = record {
  leaves_are = subst (λ (x : Exchange). IsSplit s.leaves place.leaf low.end low.ptr high.ptr x) (sym is.leaves_are)
      (subst (λ n. IsSplit s.leaves place.leaf n low.ptr high.ptr e) cut_is
      (subst (λ (x : Ptr). IsSplit s.leaves place.leaf cut x high.ptr e) p_is (subst (λ (x : Ptr). IsSplit s.leaves place.leaf cut p x e) q_is (subst (λ (v : Spine). IsSplit v.leaves place.leaf cut p q e) only split))));
  first_is = is.first_is;
  second_is = is.second_is;
  low_key = low_key;
  low_names = low_names;
  high_key = high_key;
  high_names = high_names;
  above = above_kept s t place 1 (low_key ∷ high_key ∷ []) to seq plan only is.above;
}

split_room : (s : Spine) (p : Inner) → fits_node s.geometry (words p.children + 3) ≡ true → Some (if takes_set s.geometry p 6 3 then needs 2 0 else with_parent s 2 0) ≡ split_needs s p
split_room s p fits = elim (cases_Bool (takes_set s.geometry p 6 3)) [
  | inl is ↦ (let at : (if takes_set s.geometry p 6 3 then needs 2 0 else with_parent s 2 0) ≡ needs 2 0 = rw is refl in ap (λ (n : Needs). Some n) at ∙ split_set s p is)
  | inr is ↦ (let at : (if takes_set s.geometry p 6 3 then needs 2 0 else with_parent s 2 0) ≡ with_parent s 2 0 = rw is refl in ap (λ (n : Needs). Some n) at ∙ split_moves s p is fits)
]

pub split_places : (s : Spine) (sector : ℕ) (place : LeafPlace) (k : ℕ) (is : IsPlaceAt s sector place) → IsSpine s.geometry s.root s.below s.leaves → fits_node s.geometry (words is.parent.children + 3) ≡ true
    → (n : Needs) × IsNeeded (split_needs s) s sector (Some n) × (k ≡ n.tree + n.moving) → k ≡ 2 + moves s is.parent 6
split_places s sector place k is spine fits (n, (p, held, needed), count) =
    let same = same_parent s sector p is.parent spine held (parent_at s sector place is) in
    let both : Some n ≡ Some (if takes_set s.geometry is.parent 6 3 then needs 2 0 else with_parent s 2 0) = needed ∙ ap (split_needs s) same ∙ sym (split_room s is.parent fits) in
    let one : n ≡ (if takes_set s.geometry is.parent 6 3 then needs 2 0 else with_parent s 2 0) = cc in
    count ∙ ap total one ∙ two
  where
    two : total (if takes_set s.geometry is.parent 6 3 then needs 2 0 else with_parent s 2 0) ≡ 2 + moves s is.parent 6
    two = omega (arith, low_count s is.parent 6 3 2 0 spine.inner.root_is_proper fits)

-- ---- why it isn't split

pub not_split : (s : Spine) (leaf : Leaf) (g : Geometry) (keys : List Key) (from cut : ℕ) (e : PlanError) → g ≡ s.geometry → keys ≡ leaf.keys → from ≡ leaf.from → IsNearMiddle from keys cut → IsNoHalf g leaf cut e → IsNotSplit s leaf e
not_split s leaf g keys from cut Large same are begins middle why =
    (cut, subst (λ (ks : List Key). IsNearMiddle leaf.from ks cut) are (subst (λ n. IsNearMiddle n keys cut) begins middle), subst (λ (x : Geometry). IsHalfTooLarge x leaf cut) same why)
not_split s leaf g keys from cut Memory same are begins middle why = tt

pub room_at : (s : Spine) (sector : ℕ) (place : LeafPlace) (is : IsPlaceAt s sector place) (g : Geometry) (node : Inner) (r : Bool) → slice_get (bottom s.root s.below) place.node ≡ Some node → g ≡ s.geometry → r ≡ fits_node g (words node.children + 3)
    → r ≡ true → fits_node s.geometry (words is.parent.children + 3) ≡ true
room_at s sector place is g node r there same told known =
    subst (λ (n : Inner). fits_node s.geometry (words n.children + 3) ≡ true) (same_there s place.node node is.parent there is.node)
    (test (λ (x : Geometry). fits_node x (words node.children + 3)) g s.geometry r true same told known)
