-- The slots, gone through one after another.
use Rattle.std.proofs.Common.{◌≡◌, ◌≢◌, ◌⊎◌, inl, inr, ℕ, ◌+◌, ◌<◌, ◌≤◌, Bool, true, false, List, Option, Some, None, length, get_or, refl, sym, ap, subst, arith, if◌then◌else◌}
use Rattle.std.specs.Prelude.{slice_get, nat_le, MatchOption}
use Rattle.std.proofs.lemmas.Option.{slice_get_within, slice_get_read}
use Rattle.std.proofs.lemmas.Bool.{cases_eq}
use Rattle.bc_cache.specs.declared.slots.Cached.{Cached}
use Rattle.bc_cache.specs.declared.slots.Found.{Found}
use Rattle.bc_cache.specs.Slots.{CanGo, HasLeaf, HasNumber, IsOldest, Misses, NoneCanGo, last_use}
use Rattle.bc_cache.specs.Search.{AreOldest, IsOldestBelow, older_of}

-- ---- the slot of a leaf

-- no slot below k has it
pub MissedBelow : List (Option Cached) → ℕ → ℕ → Type 0
MissedBelow slots number k = (slot : ℕ) → slot < k → ¬ (HasLeaf slots slot number)

has_it : (slots : List (Option Cached)) (i number : ℕ) (kept : Option Cached) → slice_get slots i ≡ Some kept → HasNumber kept number → HasLeaf slots i number
has_it slots i number None there has = absurd has
has_it slots i number (Some cached) there has = record { cached = cached; there = there; number_is = has }

pub found_here : (slots : List (Option Cached)) (i number : ℕ) (kept : Option Cached) → i < length slots → kept ≡ get_or slots i kept → HasNumber kept number → HasLeaf slots i number
found_here slots i number kept within is has = has_it slots i number kept (slice_get_read slots (length slots) i kept refl within is) has

some_is : {X : Type 0} (a b : X) (o : Option X) → o ≡ Some a → o ≡ Some b → a ≡ b
some_is a b o p q = cc

not_here : (slots : List (Option Cached)) (i number : ℕ) (kept : Option Cached) → i < length slots → kept ≡ get_or slots i kept → ¬ (HasNumber kept number) → ¬ (HasLeaf slots i number)
not_here slots i number kept within is none has =
    none (subst (λ (s : Option Cached). HasNumber s number) (some_is (Some has.cached) kept (slice_get slots i) has.there (slice_get_read slots (length slots) i kept refl within is)) has.number_is)

pub missed_none : (slots : List (Option Cached)) (number : ℕ) → MissedBelow slots number 0
unfolding MissedBelow
missed_none slots number slot below = absurd (omega arith)

pub missed_more : (slots : List (Option Cached)) (i number : ℕ) (kept : Option Cached) → MissedBelow slots number i → i < length slots → kept ≡ get_or slots i kept → ¬ (HasNumber kept number) → MissedBelow slots number (i + 1)
unfolding MissedBelow
missed_more slots i number kept before within is none slot below = go (cases_eq slot i)
  where
    go : (slot ≡ i) ⊎ (slot ≢ i) → ¬ (HasLeaf slots slot number)
    go (inl e) = subst (λ n. ¬ (HasLeaf slots n number)) (sym e) (not_here slots i number kept within is none)
    go (inr other) = before slot (omega arith)

pub missed_all : (slots : List (Option Cached)) (number k : ℕ) → MissedBelow slots number k → length slots ≤ k → Misses slots number
unfolding MissedBelow
missed_all slots number k missed all slot has =
    let within = slice_get_within slots slot (Some has.cached) has.there in
    missed slot (omega arith) has

-- ---- the slot that was used longest ago

none_below : (slots : List (Option Cached)) → AreOldest slots 0 None
none_below slots i other below there = absurd (omega arith)

pub oldest_none : (slots : List (Option Cached)) (known : Option Found) → known ≡ None → AreOldest slots 0 known
oldest_none slots known is = subst (λ (o : Option Found). AreOldest slots 0 o) (sym is) (none_below slots)

-- one more slot that can't be used
stays : (slots : List (Option Cached)) (i : ℕ) (kept : Option Cached) (known : Option Found) → slice_get slots i ≡ Some kept → ¬ (CanGo kept) → AreOldest slots i known → AreOldest slots (i + 1) known
stays slots i kept None there cannot before = λ j other below at goes. go j other below at goes (cases_eq j i)
  where
    go : (j : ℕ) (other : Option Cached) → j < i + 1 → slice_get slots j ≡ Some other → CanGo other → (j ≡ i) ⊎ (j ≢ i) → ⊥
    go j other below at goes (inl e) = cannot (subst CanGo (some_is other kept (slice_get slots i) (subst (λ n. slice_get slots n ≡ Some other) e at) there) goes)
    go j other below at goes (inr ne) = before j other (omega arith) at goes
stays slots i kept (Some found) there cannot before = record {
  kept = before.kept;
  there = before.there;
  below = omega (arith, before.below);
  can_go = before.can_go;
  since = before.since;
  least = λ j other below at goes. go j other below at goes (cases_eq j i);
  first = before.first;
}
  where
    go : (j : ℕ) (other : Option Cached) → j < i + 1 → slice_get slots j ≡ Some other → CanGo other → (j ≡ i) ⊎ (j ≢ i) → last_use before.kept ≤ last_use other
    go j other below at goes (inl e) = absurd (cannot (subst CanGo (some_is other kept (slice_get slots i) (subst (λ n. slice_get slots n ≡ Some other) e at) there) goes))
    go j other below at goes (inr ne) = before.least j other (omega arith) at goes

-- one more that can be used, and wasn't used before the known one
keeps : (slots : List (Option Cached)) (i used : ℕ) (kept : Option Cached) (found : Found) → slice_get slots i ≡ Some kept → used ≡ last_use kept → found.used ≤ used → IsOldestBelow slots i found → IsOldestBelow slots (i + 1) found
keeps slots i used kept found there is old before = record {
  kept = before.kept;
  there = before.there;
  below = omega (arith, before.below);
  can_go = before.can_go;
  since = before.since;
  least = λ j other below at goes. go j other below at goes (cases_eq j i);
  first = before.first;
}
  where
    go : (j : ℕ) (other : Option Cached) → j < i + 1 → slice_get slots j ≡ Some other → CanGo other → (j ≡ i) ⊎ (j ≢ i) → last_use before.kept ≤ last_use other
    go j other below at goes (inl e) =
        let same = ap last_use (some_is other kept (slice_get slots i) (subst (λ n. slice_get slots n ≡ Some other) e at) there) in
        let since = before.since in
        omega arith
    go j other below at goes (inr ne) = before.least j other (omega arith) at goes

-- one more, which was used before all others
comes : (slots : List (Option Cached)) (i used : ℕ) (kept : Option Cached) → slice_get slots i ≡ Some kept → CanGo kept → used ≡ last_use kept
    → ((j : ℕ) (other : Option Cached) → j < i → slice_get slots j ≡ Some other → CanGo other → used < last_use other)
    → IsOldestBelow slots (i + 1) (record { slot = i; used = used })
comes slots i used kept there can is before = record {
  kept = kept;
  there = there;
  below = omega arith;
  can_go = can;
  since = is;
  least = λ j other below at goes. go j other below at goes (cases_eq j i);
  first = λ j other below at goes. let less = before j other below at goes in omega arith;
}
  where
    go : (j : ℕ) (other : Option Cached) → j < i + 1 → slice_get slots j ≡ Some other → CanGo other → (j ≡ i) ⊎ (j ≢ i) → last_use kept ≤ last_use other
    go j other below at goes (inl e) =
        let same = ap last_use (some_is other kept (slice_get slots i) (subst (λ n. slice_get slots n ≡ Some other) e at) there) in
        omega arith
    go j other below at goes (inr ne) = let less = before j other (omega arith) at goes in omega arith

le_true : (a b : ℕ) → nat_le a b ≡ true → a ≤ b
le_true a b e = grind arith

le_false : (a b : ℕ) → nat_le a b ≡ false → b < a
le_false a b e = grind arith

free_known : (slots : List (Option Cached)) (i used : ℕ) (kept : Option Cached) (known : Option Found) → slice_get slots i ≡ Some kept → CanGo kept → used ≡ last_use kept → AreOldest slots i known → AreOldest slots (i + 1) (older_of known i (Some used))
free_known slots i used kept None there can is before = comes slots i used kept there can is (λ j other below at goes. absurd (before j other below at goes))
free_known slots i used kept (Some found) there can is before = go (nat_le found.used used) refl
  where
    go : (b : Bool) → nat_le found.used used ≡ b → AreOldest slots (i + 1) (if b then Some found else Some (record { slot = i; used = used }))
    go true e = keeps slots i used kept found there is (le_true found.used used e) before
    go false e = comes slots i used kept there can is
        (λ j other below at goes. let less = le_false found.used used e in let least = before.least j other below at goes in let since = before.since in omega arith)

pub oldest_more : (slots : List (Option Cached)) (i : ℕ) (kept : Option Cached) (known next : Option Found) (since : Option ℕ) → i < length slots → kept ≡ get_or slots i kept → AreOldest slots i known
    → MatchOption since (¬ (CanGo kept)) (λ used. CanGo kept × (used ≡ last_use kept)) → next ≡ older_of known i since → AreOldest slots (i + 1) next
oldest_more slots i kept known next None within is before cannot new =
    subst (λ (o : Option Found). AreOldest slots (i + 1) o) (sym new) (stays slots i kept known (slice_get_read slots (length slots) i kept refl within is) cannot before)
oldest_more slots i kept known next (Some used) within is before can new =
    subst (λ (o : Option Found). AreOldest slots (i + 1) o) (sym new) (free_known slots i used kept known (slice_get_read slots (length slots) i kept refl within is) can.0 can.1 before)

pub none_goes : (slots : List (Option Cached)) (k : ℕ) (known : Option Found) → known ≡ None → AreOldest slots k known → length slots ≤ k → NoneCanGo slots
none_goes slots k known is oldest all slot kept there goes =
    let within = slice_get_within slots slot kept there in
    let none : AreOldest slots k None = subst (λ (o : Option Found). AreOldest slots k o) is oldest in
    none slot kept (omega arith) there goes

pub oldest_of_all : (slots : List (Option Cached)) (k : ℕ) (known : Option Found) (found : Found) → known ≡ Some found → AreOldest slots k known → length slots ≤ k → IsOldest slots found.slot
oldest_of_all slots k known found is oldest all = record {
  kept = one.kept;
  there = one.there;
  can_go = one.can_go;
  least = λ j other at goes. let within = slice_get_within slots j other at in one.least j other (omega arith) at goes;
  first = one.first;
}
  where
    one : IsOldestBelow slots k found
    one = subst (λ (o : Option Found). AreOldest slots k o) is oldest
