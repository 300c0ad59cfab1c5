-- Slots of which one has changed.
use Rattle.std.proofs.Common.{◌≡◌, ◌≢◌, ◌⊎◌, inl, inr, ℕ, zero, suc, ◌<◌, ◌≤◌, Bool, true, false, List, [], ◌∷◌, Option, Some, None, length, get_or, refl, sym, ap, subst, ◌∙◌, arith, if◌then◌else◌}
use Rattle.std.specs.Prelude.{slice_get, slice_set, ◌==◌}
use Rattle.std.proofs.lemmas.Option.{slice_get_within, get_or_from_slice_get}
use Rattle.std.proofs.lemmas.Bool.{cases_eq}
use Rattle.std.proofs.lemmas.List.{length-set}
use Rattle.bc_disk.specs.Device.{count_end, next_count}
use Rattle.bc_node.specs.Leaf.{Leaf}
use Rattle.bc_cache.specs.Lending.{leaf_set, with_leaf}
use Rattle.bc_cache.specs.declared.slots.Cached.{Cached}
use Rattle.bc_cache.specs.Slots.{NodeCache, HasLeaf, IsCache, IsSlotOf, Misses, used_with, with_slot}

-- the number of the next use is none of those before, and 0 is none
pub next_rises : (n : ℕ) → (n ≤ next_count n) × (0 < next_count n)
next_rises n = go (n == count_end) refl
  where
    go : (b : Bool) → (n == count_end) ≡ b → (n ≤ (if b then n else suc n)) × (0 < (if b then n else suc n))
    go true e = (omega arith, grind arith)
    go false e = (omega arith, omega arith)

pub set_same : {X : Type 0} (xs : List X) (i : ℕ) (x : X) → i < length xs → slice_get (slice_set xs i x) i ≡ Some x
set_same [] i x within = absurd (omega arith)
set_same (y ∷ ys) zero x within = refl
set_same (y ∷ ys) (suc i) x within = set_same ys i x (omega arith)

set_other : {X : Type 0} (xs : List X) (i j : ℕ) (x : X) → j ≢ i → slice_get (slice_set xs i x) j ≡ slice_get xs j
set_other [] i j x other = refl
set_other (y ∷ ys) zero zero x other = absurd (other refl)
set_other (y ∷ ys) zero (suc j) x other = refl
set_other (y ∷ ys) (suc i) zero x other = refl
set_other (y ∷ ys) (suc i) (suc j) x other = set_other ys i j x (λ e. other (ap suc e))

some_is : {X : Type 0} (a b : X) (o : Option X) → o ≡ Some a → o ≡ Some b → a ≡ b
some_is a b o p q = cc

-- what comes into a slot has a number that no other slot has, and a use that has been
pub FitsIn : List (Option Cached) → ℕ → ℕ → Option Cached → Type 0
FitsIn slots uses i None = Unit {0}
FitsIn slots uses i (Some c) =
    (0 < c.used) × (c.used ≤ uses)
    × ((j : ℕ) (b : Cached) → slice_get slots j ≡ Some (Some b) → b.number ≡ c.number → j ≡ i)

pub set_cache : (slots : List (Option Cached)) (uses next i : ℕ) (kept : Option Cached) → IsCache slots uses → uses ≤ next → FitsIn slots next i kept → IsCache (slice_set slots i kept) next
unfolding FitsIn
set_cache slots uses next i kept is rises fits = record {
  few = let same = length-set slots i kept in omega (arith, is.few);
  once = λ j k a b at bt same. once j k a b at bt same (cases_eq j i) (cases_eq k i);
  used = λ j a at. used j a at (cases_eq j i);
}
  where
    here : (j : ℕ) (a : Cached) → slice_get (slice_set slots i kept) j ≡ Some (Some a) → j ≡ i → kept ≡ Some a
    here j a at e =
        let lt = slice_get_within (slice_set slots i kept) j (Some a) at in
        let same = length-set slots i kept in
        some_is kept (Some a) (slice_get (slice_set slots i kept) i) (set_same slots i kept (omega arith)) (subst (λ n. slice_get (slice_set slots i kept) n ≡ Some (Some a)) e at)

    there : (j : ℕ) (a : Cached) → slice_get (slice_set slots i kept) j ≡ Some (Some a) → j ≢ i → slice_get slots j ≡ Some (Some a)
    there j a at ne = sym (set_other slots i j kept ne) ∙ at

    used : (j : ℕ) (a : Cached) → slice_get (slice_set slots i kept) j ≡ Some (Some a) → (j ≡ i) ⊎ (j ≢ i) → (0 < a.used) × (a.used ≤ next)
    used j a at (inl e) = let f = subst (λ (k : Option Cached). FitsIn slots next i k) (here j a at e) fits in (f.0, f.1)
    used j a at (inr ne) = let u = is.used j a (there j a at ne) in (u.0, omega arith)

    once : (j k : ℕ) (a b : Cached) → slice_get (slice_set slots i kept) j ≡ Some (Some a) → slice_get (slice_set slots i kept) k ≡ Some (Some b) → a.number ≡ b.number
        → (j ≡ i) ⊎ (j ≢ i) → (k ≡ i) ⊎ (k ≢ i) → j ≡ k
    once j k a b at bt same (inl e) (inl f) = e ∙ sym f
    once j k a b at bt same (inl e) (inr nf) =
        let f = subst (λ (o : Option Cached). FitsIn slots next i o) (here j a at e) fits in
        e ∙ sym (f.2 k b (there k b bt nf) (sym same))
    once j k a b at bt same (inr ne) (inl f) =
        let g = subst (λ (o : Option Cached). FitsIn slots next i o) (here k b bt f) fits in
        g.2 j a (there j a at ne) same ∙ sym f
    once j k a b at bt same (inr ne) (inr nf) = is.once j k a b (there j a at ne) (there k b bt nf) same

-- ---- the changes

pub emptied : (slots : List (Option Cached)) (uses i : ℕ) (kept : Option Cached) → kept ≡ None → IsCache slots uses → IsCache (slice_set slots i kept) uses
unfolding FitsIn
emptied slots uses i kept none is = set_cache slots uses uses i kept is (omega arith) (subst (λ (k : Option Cached). FitsIn slots uses i k) (sym none) tt)

pub touched : (slots : List (Option Cached)) (uses next i : ℕ) (kept : Option Cached) (c : Cached) → next ≡ next_count uses → kept ≡ Some (record c { used = next }) → slice_get slots i ≡ Some (Some c)
    → IsCache slots uses → IsCache (slice_set slots i kept) next
unfolding FitsIn
touched slots uses next i kept c rises kept_is there is =
    let r = next_rises uses in
    set_cache slots uses next i kept is (omega arith)
    (subst (λ (k : Option Cached). FitsIn slots next i k) (sym kept_is) (omega arith, omega arith, λ j b at same. is.once j i b c at there same))

pub held : (slots : List (Option Cached)) (uses i : ℕ) (h : Bool) (kept : Option Cached) (c : Cached) → kept ≡ Some (record c { held = h }) → slice_get slots i ≡ Some (Some c)
    → IsCache slots uses → IsCache (slice_set slots i kept) uses
unfolding FitsIn
held slots uses i h kept c kept_is there is =
    let u = is.used i c there in
    set_cache slots uses uses i kept is (omega arith)
    (subst (λ (k : Option Cached). FitsIn slots uses i k) (sym kept_is) (u.0, u.1, λ j b at same. is.once j i b c at there same))

pub put_in : (slots : List (Option Cached)) (uses next i : ℕ) (c : Cached) → next ≡ next_count uses → c.used ≡ next → Misses slots c.number → IsCache slots uses → IsCache (slice_set slots i (Some c)) next
unfolding FitsIn
put_in slots uses next i c rises used misses is =
    let r = next_rises uses in
    set_cache slots uses next i (Some c) is (omega arith)
    (omega arith, omega arith, λ j b at same. absurd (misses j (record { cached = b; there = at; number_is = same })))

pub empty_after : (v new : NodeCache) (i : ℕ) (kept : Option Cached) → slice_get v.slots i ≡ Some kept → new ≡ with_slot v i None → slice_get new.slots i ≡ Some None
empty_after v new i kept there is =
    subst (λ (n : NodeCache). slice_get n.slots i ≡ Some None) (sym is) (set_same v.slots i None (slice_get_within v.slots i kept there))

-- ---- a slot

pub item_is : (slots : List (Option Cached)) (i : ℕ) (x kept : Option Cached) → slice_get slots i ≡ Some kept → x ≡ get_or slots i x → x ≡ kept
item_is slots i x kept there is = is ∙ get_or_from_slice_get slots i kept x there

pub only_slot : (slots : List (Option Cached)) (uses slot number : ℕ) → IsCache slots uses → HasLeaf slots slot number → IsSlotOf slots number slot
only_slot slots uses slot number is has = record {
  has = has;
  only = λ other it. is.once other slot it.cached has.cached it.there has.there (it.number_is ∙ sym has.number_is);
}

pub used_after : (v : NodeCache) (i n : ℕ) (kept other : Option Cached) → kept ≡ other → n ≡ next_count v.uses → (record v { slots = slice_set v.slots i kept; uses = n }) ≡ used_with v i other
used_after v i n kept other e f =
    ap (λ (k : Option Cached). record v { slots = slice_set v.slots i k; uses = n }) e
    ∙ ap (λ m. record v { slots = slice_set v.slots i other; uses = m }) f

pub set_after : (v : NodeCache) (i : ℕ) (kept other : Option Cached) → kept ≡ other → (record v { slots = slice_set v.slots i kept }) ≡ with_slot v i other
set_after v i kept other e = ap (λ (k : Option Cached). record v { slots = slice_set v.slots i k }) e

-- ---- a leaf that is lent

pub leaf_changed : (slots : List (Option Cached)) (i : ℕ) (x : Option Cached) (w : Leaf) → x ≡ get_or slots i x → slice_set slots i (with_leaf x w) ≡ leaf_set slots i w
leaf_changed [] i x w is = refl
leaf_changed (kept ∷ slots) zero x w is = ap (λ (k : Option Cached). with_leaf k w ∷ slots) is
leaf_changed (kept ∷ slots) (suc i) x w is = ap (λ (ks : List (Option Cached)). kept ∷ ks) (leaf_changed slots i x w is)

pub lent : (slots : List (Option Cached)) (uses i : ℕ) (x : Option Cached) (c : Cached) (w : Leaf) → x ≡ Some c → slice_get slots i ≡ Some (Some c) → IsCache slots uses
    → IsCache (slice_set slots i (with_leaf x w)) uses
unfolding FitsIn
lent slots uses i x c w x_is there is =
    let u = is.used i c there in
    set_cache slots uses uses i (with_leaf x w) is (omega arith)
    (subst (λ (k : Option Cached). FitsIn slots uses i (with_leaf k w)) (sym x_is) (u.0, u.1, λ j b at same. is.once j i b c at there same))
