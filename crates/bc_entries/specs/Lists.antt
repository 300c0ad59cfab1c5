-- Which of the entries that are found in a journal count, as a reader works it out.
use Rattle.std.specs.Prelude.{◌≡◌, ◌⊎◌, ℕ, suc, ◌-◌, ◌^◌, ◌<◌, ◌≤◌, List, [], ◌∷◌, Option, Some, None, slice_get, All}
use Rattle.bc_jset.specs.Entries.{FoundEntry, first_with, IsNewest, AreNumbered, IsThere, IsMissing, IsGap, NeedsNewer}
use Rattle.bc_disk.specs.declared.geometry.Geometry.{Geometry}
use Rattle.bc_jset.specs.Ring.{HasRoom}
use Rattle.bc_entries.specs.declared.error.JournalError.{JournalError}
use Rattle.bc_entries.specs.declared.error.JournalError.TheVariants as errors

-- the numbers from here on are kept for the end
abbrev pub last_numbers : ℕ
last_numbers = 2 ^ 63 - 2

-- the entry with a number stands at a place, or there is none
abbrev pub IsAt : List FoundEntry → List FoundEntry → ℕ → Option ℕ → Type 0
IsAt all part number None = IsMissing part number
IsAt all part number (Some place) = (entry : FoundEntry) × (slice_get all place ≡ Some entry) × (first_with number part ≡ Some entry)

-- the newest entry of a list stands at this place
abbrev pub IsNewestAt : List FoundEntry → List FoundEntry → ℕ → Type 0
IsNewestAt all part place = (entry : FoundEntry) × (slice_get all place ≡ Some entry) × IsNewest part entry

-- the entries at some places of a list; a place behind its end has none
abbrev pub before : Option FoundEntry → List FoundEntry → List FoundEntry
before None es = es
before (Some e) es = e ∷ es

abbrev pub picked : List FoundEntry → List ℕ → List FoundEntry
picked all [] = []
picked all (place ∷ places) = before (slice_get all place) (picked all places)

-- the entries that count, oldest first, of those that are found
pub record AreListed (all es : List FoundEntry) (newest : FoundEntry) : Type 0 where
  pub is_newest : IsNewest all newest
  pub reaches : newest.item.last_seq ≤ newest.item.seq
  pub numbered : AreNumbered all newest.item.last_seq es (suc newest.item.seq)

-- the newest entry stands at a place, and those at these places are the ones that count
abbrev pub AreListedAt : List FoundEntry → List ℕ → ℕ → Type 0
AreListedAt all places newest =
    (entry : FoundEntry) × (slice_get all newest ≡ Some entry) × AreListed all (picked all places) entry

-- why counting up from a number ends early: memory ran out, or this is the first gap
abbrev pub EndsCount : List FoundEntry → ℕ → JournalError → Type 0
EndsCount all low e =
    (e ≡ errors.Memory) ⊎ ((from to : ℕ) × (e ≡ errors.Gap from to) × IsGap all low from to)

-- what is missing from a number on: numbers up to one, of which the next is there
pub record AreMissing (all : List FoundEntry) (from to : ℕ) : Type 0 where
  pub order : from ≤ to
  pub missing : (k : ℕ) → from ≤ k → k ≤ to → IsMissing all k
  pub behind : IsThere all (suc to)

-- why none are listed
abbrev pub AreUnlisted : List FoundEntry → JournalError → Type 0
AreUnlisted all errors.NoJournal = all ≡ []
AreUnlisted all (errors.Gap from to) = (newest : FoundEntry) × IsNewest all newest × (NeedsNewer newest from to ⊎ IsGap all newest.item.last_seq from to)
AreUnlisted all (errors.End seq) = ⊥
AreUnlisted all errors.Fault = ⊥
AreUnlisted all errors.Memory = Unit {0}

-- the entries that count, where the journal can go on behind them
pub record IsFit (g : Geometry) (all es : List FoundEntry) : Type 0 where
  pub newest : FoundEntry
  pub listed : AreListed all es newest
  pub number : newest.item.seq < last_numbers
  pub room : HasRoom g all es newest

-- they count, and it can't go on
pub record IsFull (g : Geometry) (all : List FoundEntry) (seq : ℕ) : Type 0 where
  pub es : List FoundEntry
  pub newest : FoundEntry
  pub listed : AreListed all es newest
  pub number : newest.item.seq ≡ seq
  pub full : (last_numbers ≤ seq) ⊎ ¬ (HasRoom g all es newest)

-- why the entries that are found make no journal
abbrev pub IsUnfit : Geometry → List FoundEntry → JournalError → Type 0
IsUnfit g all (errors.End seq) = IsFull g all seq
IsUnfit g all e = AreUnlisted all e
