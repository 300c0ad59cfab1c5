-- Leaves that come into empty slots.
use Rattle.std.proofs.Common.{◌≡◌, ◌≢◌, ◌⊎◌, inl, inr, ℕ, ◌+◌, ◌%◌, ◌<◌, List, Option, None, Some, refl, sym, ap, ◌∙◌, subst, arith}
use Rattle.std.specs.Prelude.{Contains, slice_get}
use Rattle.std.proofs.lemmas.Bool.{cases_eq}
use Rattle.std.proofs.lemmas.Option.{slice_get_within}
use Rattle.bc_cache.specs.Slots.{NodeCache, coming, used_with}
use Rattle.bc_cache.specs.declared.slots.Cached.{Cached}
use Rattle.bc_cache.proofs.Changed.{set_same}
use Rattle.bc_change.specs.Goes.{new_leaves, numbers, second_comes}
use Rattle.bc_facts.proofs.Stood.{in_contains}
use Rattle.bc_meta.specs.Facts.{In}
use Rattle.bc_node.specs.Leaf.{Leaf}
use Rattle.bc_spine.specs.Exchange.{going}
use Rattle.bc_spine.specs.declared.exchange.Exchange.{Exchange}
use Rattle.bc_spine.specs.declared.leaf.LeafRange.{LeafRange}
use Rattle.bc_tree.specs.Spine.{Spine}
use Rattle.bc_tree.specs.declared.plan.Plan.{Plan}
use Rattle.bc_install.specs.Installed.{AreBroughtIn, AreTakenOut, HasLeavesWith, HasRoomFor, IsBrought, IsBroughtIn}
use Rattle.bc_install.proofs.Out.{in_number, number_in, set_other}

-- ---- an empty slot

taken_is_not_empty : (slots : List (Option Cached)) (i : ℕ) (c : Cached)
    → slice_get slots i ≡ Some (Some c) → slice_get slots i ≡ Some None → ⊥
taken_is_not_empty slots i c at none = cc

pub not_empty_to : (slots : List (Option Cached)) (n : ℕ)
    → ((j : ℕ) → j < n → ¬ (slice_get slots j ≡ Some None))
    → (c : Cached) → slice_get slots n ≡ Some (Some c)
    → (j : ℕ) → j < n + 1 → ¬ (slice_get slots j ≡ Some None)
not_empty_to slots n before c at j low none = elim (cases_eq j n) [
  | inl same ↦ taken_is_not_empty slots n c at
      (subst (λ k. slice_get slots k ≡ Some None) same none)
  | inr ne ↦ before j (omega (arith, low, ne)) none
]

-- ---- one leaf

pub none_came : (count part number : ℕ) (leaf : Leaf) (a : NodeCache)
    → (HasRoomFor count part a number → ⊥) → IsBroughtIn count part number leaf a a
none_came count part number leaf a full = record {
  geometry = refl;
  now = λ i c at. inl at;
  stay = λ i c at. at;
  came = λ room. absurd (full room);
}

pub one_came : (count part number slot used : ℕ) (leaf : Leaf) (a b : NodeCache)
    → number % count ≡ part → slice_get a.slots slot ≡ Some None
    → b ≡ used_with a slot (Some (coming number leaf used))
    → IsBroughtIn count part number leaf a b
one_came count part number slot used leaf a b its empty is = record {
  geometry = ap (λ (x : NodeCache). x.geometry) is;
  now = λ i c at. go i c at (cases_eq i slot);
  stay = λ i c at. other i (λ same. taken_is_not_empty a.slots slot c
      (subst (λ n. slice_get a.slots n ≡ Some (Some c)) same at) empty) ∙ at;
  came = λ room. (slot, coming number leaf used, there, refl, refl);
}
  where
    there : slice_get b.slots slot ≡ Some (Some (coming number leaf used))
    there = ap (λ (x : NodeCache). slice_get x.slots slot) is
        ∙ set_same a.slots slot _ (slice_get_within a.slots slot _ empty)

    other : (i : ℕ) → i ≢ slot → slice_get b.slots i ≡ slice_get a.slots i
    other i ne = ap (λ (x : NodeCache). slice_get x.slots i) is
        ∙ set_other a.slots slot i _ ne

    same_cached : (x y : Cached) (o : Option (Option Cached)) → o ≡ Some (Some x)
        → o ≡ Some (Some y) → x ≡ y
    same_cached x y o p q = cc

    go : (i : ℕ) (c : Cached) → slice_get b.slots i ≡ Some (Some c) → (i ≡ slot) ⊎ (i ≢ slot)
        → (slice_get a.slots i ≡ Some (Some c))
        ⊎ ((number % count ≡ part) × (c.number ≡ number) × (c.leaf ≡ leaf))
    go i c at (inl same) =
        let is_it = same_cached c (coming number leaf used) (slice_get b.slots slot)
        (subst (λ n. slice_get b.slots n ≡ Some (Some c)) same at) there in
        inr (its, ap (λ (x : Cached). x.number) is_it, ap (λ (x : Cached). x.leaf) is_it)
    go i c at (inr ne) = inl (sym (other i ne) ∙ at)

-- ---- those of a plan

of_plan : (plan : Plan) (count part : ℕ) (range : LeafRange) (leaf : Leaf) (c : Cached)
    → In (range, leaf) (new_leaves plan) → range.number % count ≡ part → c.number ≡ range.number
    → c.leaf ≡ leaf → IsBrought plan count part c
of_plan plan count part range leaf c m its number same = record {
  range = range;
  leaf = subst (λ (x : Leaf). Contains (new_leaves plan) (range, x)) (sym same)
      (in_contains (new_leaves plan) (range, leaf) m);
  number_is = sym number;
  its = subst (λ n. n % count ≡ part) (sym number) its;
}

brought_first : (plan : Plan) (count part : ℕ) (a b : NodeCache)
    → IsBroughtIn count part plan.leaves.first.number plan.first a b
    → AreBroughtIn count part plan a b
brought_first plan count part a b one = record {
  geometry = one.geometry;
  now = λ i c at. elim (one.now i c at) [
    | inl old ↦ inl old
    | inr new ↦ inr (of_plan plan count part plan.leaves.first plan.first c (inl refl) new.0 new.1
        new.2)
  ];
  stay = one.stay;
  first = one.came;
}

second_in : (plan : Plan) (range : LeafRange) (leaf : Leaf) → plan.leaves.second ≡ Some range
    → plan.second ≡ Some leaf → In (range, leaf) (new_leaves plan)
second_in plan range leaf at is = inr (subst (λ (x : Option Leaf).
    In (range, leaf) (second_comes plan.leaves.second x)) (sym is)
    (subst (λ (r : Option LeafRange). In (range, leaf) (second_comes r (Some leaf))) (sym at)
    (inl refl)))

brought_second : (plan : Plan) (count part : ℕ) (range : LeafRange) (leaf : Leaf)
    (a b d : NodeCache) → plan.leaves.second ≡ Some range → plan.second ≡ Some leaf
    → AreBroughtIn count part plan a b → IsBroughtIn count part range.number leaf b d
    → AreBroughtIn count part plan a d
brought_second plan count part range leaf a b d at is one two = record {
  geometry = two.geometry ∙ one.geometry;
  now = λ i c there. elim (two.now i c there) [
    | inl old ↦ one.now i c old
    | inr new ↦ inr (of_plan plan count part range leaf c (second_in plan range leaf at is) new.0
        new.1 new.2)
  ];
  stay = λ i c there. two.stay i c (one.stay i c there);
  first = λ room.
      let came = one.first room in
      (came.0, came.1, two.stay came.0 came.1 came.2, came.3, came.4);
}

module _ (plan : Plan) (count part : ℕ) (e : Exchange) (f : Leaf) (s : Option Leaf)
    (a b : NodeCache) (e_is : e ≡ plan.leaves) (f_is : f ≡ plan.first) (s_is : s ≡ plan.second)
    (one : IsBroughtIn count part e.first.number f a b) where
  pub first_of : AreBroughtIn count part plan a b
  first_of = brought_first plan count part a b
      (subst (λ (x : Leaf). IsBroughtIn count part plan.leaves.first.number x a b) f_is
      (subst (λ (x : Exchange). IsBroughtIn count part x.first.number f a b) e_is one))

  pub both_of : (range : LeafRange) (leaf : Leaf) (d : NodeCache) → e.second ≡ Some range
      → s ≡ Some leaf → IsBroughtIn count part range.number leaf b d
      → AreBroughtIn count part plan a d
  both_of range leaf d at is two = brought_second plan count part range leaf a b d
      (sym (ap (λ (x : Exchange). x.second) e_is) ∙ at) (sym s_is ∙ is) first_of two

-- ---- behind what went

pub leaves_with : (sp : Spine) (plan : Plan) (count part : ℕ) (a b d : NodeCache)
    → AreTakenOut (numbers (going sp.leaves plan.leaves)) a b → AreBroughtIn count part plan b d
    → HasLeavesWith sp plan count part a d
leaves_with sp plan count part a b d out brought = record {
  geometry = brought.geometry ∙ out.geometry;
  now = λ i c at. elim (brought.now i c at) [
    | inl old ↦ (let one = out.now i c old in
        inl (one.0, λ has. one.1 (in_number (going sp.leaves plan.leaves) c.number has)))
    | inr new ↦ inr new
  ];
  stay = λ i c at. elim (out.stay i c at) [
    | inl gone ↦ inl (number_in (going sp.leaves plan.leaves) c.number gone)
    | inr there ↦ inr (brought.stay i c there)
  ];
}
