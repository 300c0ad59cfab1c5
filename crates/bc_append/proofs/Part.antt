-- A part of leaves in memory, of which one leaf changed.
use Rattle.std.proofs.Common.{◌≡◌, ◌≢◌, ◌⊎◌, inl, inr, ℕ, zero, suc, ◌%◌, List, [], ◌∷◌, Option, Some, refl, sym, ap, ◌∙◌, subst, arith}
use Rattle.std.specs.Prelude.{slice_get, slice_set}
use Rattle.std.proofs.lemmas.Bool.{cases_eq}
use Rattle.std.proofs.lemmas.List.{length-set}
use Rattle.std.proofs.lemmas.Option.{slice_get_within}
use Rattle.bc_cache.proofs.Changed.{set_same}
use Rattle.bc_cache.specs.Slots.{Misses, NodeCache}
use Rattle.bc_cache.specs.declared.slots.Cached.{Cached}
use Rattle.bc_place.specs.bc_machine.Containers.{AreLeavesOf, IsHeldIn, IsInTree, IsLeafFor}
use Rattle.bc_leaves.specs.Parts.{Free, Leaf, Leaving}
use Rattle.bc_leaves.specs.Parts as parts
use Rattle.bc_node.specs.Leaf as node
use Rattle.bc_shares.specs.Shares.{LeafShare, leaf_share}
use Rattle.bc_whole.specs.State.{Opening}

-- ---- slots

set_other : {X : Type 0} (xs : List X) (i j : ℕ) (x : X) → j ≢ i
    → slice_get (slice_set xs i x) j ≡ slice_get xs j
set_other [] i j x other = refl
set_other (y ∷ ys) zero zero x other = absurd (other refl)
set_other (y ∷ ys) zero (suc j) x other = refl
set_other (y ∷ ys) (suc i) zero x other = refl
set_other (y ∷ ys) (suc i) (suc j) x other = set_other ys i j x (λ e. other (ap suc e))

some_is : {X : Type 0} (a b : X) (o : Option X) → o ≡ Some a → o ≡ Some b → a ≡ b
some_is a b o p q = cc

both_some : (a b : Cached) (o : Option (Option Cached)) → o ≡ Some (Some a) → o ≡ Some (Some b)
    → a ≡ b
both_some a b o p q = cc

one : (x y : Cached) → Some x ≡ Some y → x ≡ y
one x y e = cc

at_set : {X : Type 0} (xs : List X) (i : ℕ) (x : X) (j : ℕ) (y : X)
    → slice_get (slice_set xs i x) j ≡ Some y
    → ((j ≡ i) × (x ≡ y)) ⊎ ((j ≢ i) × (slice_get xs j ≡ Some y))
at_set xs i x j y at = go (cases_eq j i)
  where
    go : (j ≡ i) ⊎ (j ≢ i) → ((j ≡ i) × (x ≡ y)) ⊎ ((j ≢ i) × (slice_get xs j ≡ Some y))
    go (inl e) = inl (
      e,
      (let lt = slice_get_within (slice_set xs i x) j y at in
          let same = length-set xs i x in
          some_is x y (slice_get (slice_set xs i x) i) (set_same xs i x (omega arith))
          (subst (λ n. slice_get (slice_set xs i x) n ≡ Some y) e at)),
    )
    go (inr ne) = inr (ne, sym (set_other xs i j x ne) ∙ at)

-- Of these leaves of the core, one changed, which has no role in a change of the tree.
pub record OneChanged (number : ℕ) (a b : parts.State) : Type 0 where
  pub free : (b.leaves number).role ≡ Free
  pub others : (k : ℕ) → k ≢ number → b.leaves k ≡ a.leaves k
  pub shares : (k : ℕ) → k ≢ number → IsInTree (a.leaves k).role → leaf_share b k ≡ leaf_share a k

module _ (w : Opening) (a b : parts.State) (count part : ℕ) (cache : NodeCache) (slot : ℕ)
    (cached : Cached) (new : node.Leaf) (h : AreLeavesOf w a count part cache)
    (there : slice_get cache.slots slot ≡ Some (Some cached))
    (only : (i : ℕ) (c : Cached) → slice_get cache.slots i ≡ Some (Some c)
    → c.number ≡ cached.number → i ≡ slot)
    (changed : OneChanged cached.number a b)
    (here : IsLeafFor w (leaf_share b cached.number) new) where
  abbrev kept : Cached
  kept = record cached { leaf = new }

  abbrev slots : List (Option Cached)
  slots = slice_set cache.slots slot (Some kept)

  leaves : (i : ℕ) (c : Cached) → slice_get slots i ≡ Some (Some c)
      → IsLeafFor w (leaf_share b c.number) c.leaf
  leaves i c at = elim (at_set cache.slots slot (Some kept) i (Some c) at) [
    | inl its ↦ subst (λ (x : Cached). IsLeafFor w (leaf_share b x.number) x.leaf)
        (one kept c its.1) here
    | inr other ↦ (let was = h.leaves i c other.1 in
        subst (λ (x : LeafShare). IsLeafFor w x c.leaf)
        (sym (changed.shares c.number (λ same. other.0 (only i c other.1 same)) was.at.role)) was)
  ]

  rest : (i : ℕ) (c : Cached) → slice_get slots i ≡ Some (Some c) → c.number % count ≡ part
  rest i c at = elim (at_set cache.slots slot (Some kept) i (Some c) at) [
    | inl its ↦ subst (λ (x : Cached). x.number % count ≡ part) (one kept c its.1)
        (h.rest slot cached there)
    | inr other ↦ h.rest i c other.1
  ]

  -- a leaf that no slot has isn't that one
  missed : (k : ℕ) → Misses slots k → k ≢ cached.number
  missed k misses same = misses slot (record {
    cached = kept;
    there = set_same cache.slots slot (Some kept)
        (slice_get_within cache.slots slot (Some cached) there);
    number_is = sym same;
  })

  missed_before : (k : ℕ) → Misses slots k → Misses cache.slots k
  missed_before k misses j has = go (cases_eq j slot)
    where
      go : (j ≡ slot) ⊎ (j ≢ slot) → ⊥
      go (inl e) = missed k misses (sym has.number_is ∙ ap (λ (c : Cached). c.number)
          (both_some has.cached cached (slice_get cache.slots slot)
          (subst (λ m. slice_get cache.slots m ≡ Some (Some has.cached)) e has.there) there))
      go (inr ne) = misses j (record {
        cached = has.cached;
        there = set_other cache.slots slot j (Some kept) ne ∙ has.there;
        number_is = has.number_is;
      })

  others : (k : ℕ) → k % count ≡ part → IsInTree (b.leaves k).role → Misses slots k
      → (b.leaves k).pending ≡ []
  others k its live misses =
      let same = changed.others k (missed k misses) in
      ap (λ (l : Leaf). l.pending) same
      ∙ h.others k its (subst (λ (l : Leaf). IsInTree l.role) same live)
      (missed_before k misses)

  -- a leaf that a change replaces isn't that one either
  not_leaving : (k : ℕ) → (b.leaves k).role ≡ Leaving → k ≢ cached.number
  not_leaving k leaving same =
      let both : Free ≡ Leaving = sym changed.free
      ∙ subst (λ n. (b.leaves n).role ≡ Leaving) same leaving in
      absurd (cc)

  leaving : (k : ℕ) → k % count ≡ part → (b.leaves k).role ≡ Leaving → IsHeldIn slots k
  leaving k its role =
      let ne = not_leaving k role in
      let held = h.leaving k its (sym (ap (λ (l : Leaf). l.role) (changed.others k ne)) ∙ role) in
      let apart : held.0 ≢ slot = (λ e. ne (sym held.3 ∙ ap (λ (c : Cached). c.number)
      (both_some held.1 cached (slice_get cache.slots slot)
      (subst (λ m. slice_get cache.slots m ≡ Some (Some held.1)) e held.2) there))) in (
        held.0,
        held.1,
        set_other cache.slots slot held.0 (Some kept) apart ∙ held.2,
        held.3,
        held.4,
      )

  pub part_stands : AreLeavesOf w b count part (record cache { slots = slots })
  part_stands = record {
    layout = h.layout;
    rest = rest;
    leaves = leaves;
    others = others;
    leaving = leaving;
  }
