-- Leaves that are taken out of their slots.
use Rattle.std.proofs.Common.{◌≡◌, ◌≢◌, ◌⊎◌, inl, inr, ℕ, zero, suc, ◌+◌, List, [], ◌∷◌, ◌++◌, drop, take, false, Option, None, Some, refl, sym, ap, ◌∙◌, subst, arith}
use Rattle.std.specs.Prelude.{slice_get, slice_set}
use Rattle.std.proofs.lemmas.Bool.{cases_eq}
use Rattle.std.proofs.lemmas.Option.{slice_get_within}
use Rattle.bc_cache.specs.Fetch.{IsSetHeld, IsTakenOut}
use Rattle.bc_cache.specs.Slots.{IsSlotOf, IsTakenBy, Misses, NodeCache}
use Rattle.bc_cache.specs.declared.slots.Cached.{Cached}
use Rattle.bc_cache.proofs.Changed.{set_same}
use Rattle.bc_change.specs.Goes.{numbers}
use Rattle.bc_change.proofs.Lists.{in_map, map_in}
use Rattle.bc_facts.proofs.Stood.{contains_in, in_behind, in_contains, in_either, in_front}
use Rattle.bc_meta.specs.Facts.{In}
use Rattle.bc_node.specs.Leaf.{Leaf}
use Rattle.bc_spine.specs.Numbers.{HasNumber}
use Rattle.bc_spine.specs.declared.leaf.LeafRange.{LeafRange}
use Rattle.bc_install.specs.Installed.{AreTakenOut, IsLetGoIn}
use Rattle.bc_install.proofs.Listed.{next_behind}

-- ---- slots

pub set_other : {X : Type 0} (xs : List X) (i j : ℕ) (x : X) → j ≢ i
    → slice_get (slice_set xs i x) j ≡ slice_get xs j
set_other [] i j x other = refl
set_other (y ∷ ys) zero zero x other = absurd (other refl)
set_other (y ∷ ys) zero (suc j) x other = refl
set_other (y ∷ ys) (suc i) zero x other = refl
set_other (y ∷ ys) (suc i) (suc j) x other = set_other ys i j x (λ e. other (ap suc e))

same_at : (a b : Cached) (o : Option (Option Cached)) → o ≡ Some (Some a) → o ≡ Some (Some b)
    → a ≡ b
same_at a b o p q = cc

not_empty : (a : Cached) (o : Option (Option Cached)) → o ≡ Some None → o ≡ Some (Some a) → ⊥
not_empty a o p q = cc

-- ---- one slot

pub kept_in : (slot : ℕ) (a : NodeCache) → IsTakenBy a.slots slot false → IsLetGoIn slot a a
kept_in slot a free = record { geometry = refl; free = free; others = λ i ne. refl }

pub set_in : (slot : ℕ) (a b : NodeCache) → IsSetHeld slot false a b → IsLetGoIn slot a b
set_in slot a b is = record {
  geometry = ap (λ (x : NodeCache). x.geometry) is.after;
  free = (
    record is.cached { held = false },
    ap (λ (x : NodeCache). slice_get x.slots slot) is.after
        ∙ set_same a.slots slot _ (slice_get_within a.slots slot _ is.there),
    refl,
  );
  others = λ i ne. ap (λ (x : NodeCache). slice_get x.slots i) is.after
      ∙ set_other a.slots slot i _ ne;
}

pub none_out : (k : ℕ) (a : NodeCache) → Misses a.slots k → AreTakenOut (k ∷ []) a a
none_out k a misses = record {
  geometry = refl;
  now = λ i c at. (
    at,
    λ m. elim m [
      | inl same ↦ misses i (record { cached = c; there = at; number_is = same })
      | inr none ↦ none
    ],
  );
  stay = λ i c at. inr at;
  emptied = λ i c at m. elim m [
    | inl same ↦ absurd (misses i (record { cached = c; there = at; number_is = same }))
    | inr none ↦ absurd none
  ];
  empty = λ i none. none;
}

pub slot_out : (k slot : ℕ) (a b d : NodeCache) (leaf : Leaf) → IsSlotOf a.slots k slot
    → IsLetGoIn slot a b → IsTakenOut slot b d leaf → AreTakenOut (k ∷ []) a d
slot_out k slot a b d leaf is free out = record {
  geometry = ap (λ (x : NodeCache). x.geometry) out.after ∙ free.geometry;
  now = λ i c at. go_now i c at (cases_eq i slot);
  stay = λ i c at. go_stay i c at (cases_eq i slot);
  emptied = λ i c at m. elim m [
    | inl same ↦ subst (λ n. slice_get d.slots n ≡ Some None)
        (sym (is.only i (record { cached = c; there = at; number_is = same }))) out.empty
    | inr none ↦ absurd none
  ];
  empty = λ i none. go_empty i none (cases_eq i slot);
}
  where
    other_slot : (i : ℕ) → i ≢ slot → slice_get d.slots i ≡ slice_get a.slots i
    other_slot i ne = ap (λ (x : NodeCache). slice_get x.slots i) out.after
        ∙ set_other b.slots slot i None ne ∙ free.others i ne

    go_now : (i : ℕ) (c : Cached) → slice_get d.slots i ≡ Some (Some c)
        → (i ≡ slot) ⊎ (i ≢ slot)
        → (slice_get a.slots i ≡ Some (Some c)) × ¬ (In c.number (k ∷ []))
    go_now i c at (inl here) = absurd (not_empty c (slice_get d.slots slot) out.empty
        (subst (λ n. slice_get d.slots n ≡ Some (Some c)) here at))
    go_now i c at (inr ne) =
        let before = sym (other_slot i ne) ∙ at in (
          before,
          λ m. elim m [
            | inl same ↦ ne (is.only i (record {
              cached = c;
              there = before;
              number_is = same;
            }))
            | inr none ↦ none
          ],
        )

    go_stay : (i : ℕ) (c : Cached) → slice_get a.slots i ≡ Some (Some c)
        → (i ≡ slot) ⊎ (i ≢ slot)
        → In c.number (k ∷ []) ⊎ (slice_get d.slots i ≡ Some (Some c))
    go_stay i c at (inl here) =
        let same = same_at c is.has.cached (slice_get a.slots slot)
        (subst (λ n. slice_get a.slots n ≡ Some (Some c)) here at) is.has.there in
        inl (inl (ap (λ (x : Cached). x.number) same ∙ is.has.number_is))
    go_stay i c at (inr ne) = inr (other_slot i ne ∙ at)

    go_empty : (i : ℕ) → slice_get a.slots i ≡ Some None → (i ≡ slot) ⊎ (i ≢ slot)
        → slice_get d.slots i ≡ Some None
    go_empty i none (inl here) =
        subst (λ n. slice_get d.slots n ≡ Some None) (sym here) out.empty
    go_empty i none (inr ne) = other_slot i ne ∙ none

-- ---- one behind the other

pub out_none : (a : NodeCache) → AreTakenOut [] a a
out_none a = record {
  geometry = refl;
  now = λ i c at. (at, λ m. m);
  stay = λ i c at. inr at;
  emptied = λ i c at m. absurd m;
  empty = λ i none. none;
}

pub out_both : (xs ys : List ℕ) (a b d : NodeCache) → AreTakenOut xs a b → AreTakenOut ys b d
    → AreTakenOut (xs ++ ys) a d
out_both xs ys a b d one two = record {
  geometry = two.geometry ∙ one.geometry;
  now = λ i c at.
      let later = two.now i c at in
      let before = one.now i c later.0 in (
        before.0,
        λ m. elim (in_either c.number xs ys m) [
          | inl first ↦ before.1 first
          | inr second ↦ later.1 second
        ],
      );
  stay = λ i c at. elim (one.stay i c at) [
    | inl gone ↦ inl (in_front c.number xs ys gone)
    | inr there ↦ elim (two.stay i c there) [
      | inl gone ↦ inl (in_behind c.number xs ys gone)
      | inr still ↦ inr still
    ]
  ];
  emptied = λ i c at m. elim (in_either c.number xs ys m) [
    | inl first ↦ two.empty i (one.emptied i c at first)
    | inr second ↦ elim (one.stay i c at) [
      | inl gone ↦ two.empty i (one.emptied i c at gone)
      | inr there ↦ two.emptied i c there second
    ]
  ];
  empty = λ i none. two.empty i (one.empty i none);
}

pub out_next : (ls : List LeafRange) (p i : ℕ) (l : LeafRange) (a b d : NodeCache)
    → slice_get ls (p + i) ≡ Some l → AreTakenOut (numbers (take i (drop p ls))) a b
    → AreTakenOut (l.number ∷ []) b d → AreTakenOut (numbers (take (i + 1) (drop p ls))) a d
out_next ls p i l a b d at before one =
    let same : suc i ≡ i + 1 = omega arith in
    subst (λ n. AreTakenOut (numbers (take n (drop p ls))) a d) same
    (subst (λ (ks : List ℕ). AreTakenOut ks a d) (sym (next_behind ls p i l (p + i) refl at))
    (out_both (numbers (take i (drop p ls))) (l.number ∷ []) a b d before one))

-- ---- of a plan

pub number_in : (ls : List LeafRange) (k : ℕ) → In k (numbers ls) → HasNumber ls k
number_in ls k m =
    let one = in_map (λ (x : LeafRange). x.number) ls k m in
    (one.0, in_contains ls one.0 one.1, one.2)

pub in_number : (ls : List LeafRange) (k : ℕ) → HasNumber ls k → In k (numbers ls)
in_number ls k has = subst (λ n. In n (numbers ls)) has.2
    (map_in (λ (x : LeafRange). x.number) ls has.0 (contains_in ls has.0 has.1))
