-- Where the last key of each sector points: one index for each number of insertions, so that the
-- index in memory and each one that a crash may leave are entries of one table.
use Rattle.std.specs.Prelude.{◌≡◌, ℕ, zero, suc, ◌+◌, ◌<◌, Bool, true, false, List, [], ◌∷◌, Option, Some, None, if◌then◌else◌, ◌==◌, ◌||◌, ◌&&◌, nat_le}

-- whether what a key points to was written back
pub data Kind : Type 0 where
  Clean Dirty : Kind

-- where the last key of a sector points: a sector of the cache device, called a place, and the
-- version that its bucket had
pub record Pointer : Type 0 where
  pub kind : Kind
  pub place : ℕ
  pub version : ℕ

-- a key of `count` sectors from `first` on, which lie in as many places from `place` on; one
-- without a kind has no pointer
pub record Key : Type 0 where
  pub first : ℕ
  pub count : ℕ
  pub kind : Option Kind
  pub place : ℕ
  pub version : ℕ

pub record Index : Type 0 where
  -- where a sector points after the first n insertions
  pub at : ℕ → ℕ → Option Pointer
  -- the insertions so far
  pub count : ℕ
  -- the leaf that a sector's keys are in
  pub leaf : ℕ → ℕ
  -- how many insertions there were after the last one into a leaf
  pub changed : ℕ → ℕ

-- the index in memory
abbrev pub latest : Index → ℕ → Option Pointer
latest x = x.at x.count

-- whether this is one of `count` numbers from `first` on
abbrev pub within : ℕ → ℕ → ℕ → Bool
within first count n = nat_le first n && nat_le (suc n) (first + count)

-- a table with another value at i
abbrev pub put : {A : Type 0} → (ℕ → A) → ℕ → A → ℕ → A
put f i x j = if j == i then x else f j

-- one that has the new value from n on
abbrev pub from_on : {A : Type 0} → ℕ → (ℕ → A) → A → ℕ → A
from_on n old new m = if nat_le n m then new else old m

-- the place that a run of places gives to a sector
abbrev pub run_place : ℕ → ℕ → ℕ → ℕ → Option ℕ
run_place first place zero s = None
run_place first place (suc n) s =
    if first == s then Some place else run_place (suc first) (suc place) n s

abbrev pub pointer_of : Option Kind → ℕ → ℕ → Option Pointer
pointer_of None place version = None
pointer_of (Some kind) place version =
    Some (record { kind = kind; place = place; version = version })

-- where a key that gives this place to a sector lets it point, or else what later keys say
abbrev pub first_hit : Key → Option ℕ → Option (Option Pointer) → Option (Option Pointer)
first_hit k None later = later
first_hit k (Some p) later = Some (pointer_of k.kind p k.version)

-- where the first of these keys that covers a sector lets it point, if one covers it
abbrev pub hit : List Key → ℕ → Option (Option Pointer)
hit [] s = None
hit (k ∷ ks) s = first_hit k (run_place k.first k.place k.count s) (hit ks s)

-- what is found, or else what was there
abbrev pub over : Option (Option Pointer) → Option Pointer → Option Pointer
over None old = old
over (Some o) old = o

abbrev pub is_dirty : Kind → Bool
is_dirty Clean = false
is_dirty Dirty = true

abbrev pub if_points : Option Kind → Bool → Bool
if_points None b = false
if_points (Some kind) b = b

abbrev pub if_dirty : Option Kind → Bool → Bool
if_dirty None b = false
if_dirty (Some kind) b = is_dirty kind && b

-- whether these keys point to a place
abbrev pub names : List Key → ℕ → Bool
names [] t = false
names (k ∷ ks) t = if_points k.kind (within k.place k.count t) || names ks t

-- whether a dirty one of them points into a bucket
abbrev pub dirties : (ℕ → ℕ) → List Key → ℕ → Bool
dirties bucket [] b = false
dirties bucket (k ∷ ks) b = if_dirty k.kind (bucket k.place == b) || dirties bucket ks b

-- whether one of them, dirty or clean, points into it
abbrev pub touches : (ℕ → ℕ) → List Key → ℕ → Bool
touches bucket [] b = false
touches bucket (k ∷ ks) b = if_points k.kind (bucket k.place == b) || touches bucket ks b

-- each of them has a sector, and lies in one bucket
abbrev pub AreWhole : (ℕ → ℕ) → List Key → Type 0
AreWhole bucket [] = Unit {0}
AreWhole bucket (k ∷ ks) = (0 < k.count)
    × ((s p : ℕ) → run_place k.first k.place k.count s ≡ Some p → bucket p ≡ bucket k.place)
    × AreWhole bucket ks

-- the index with these keys as the next insertion, into this leaf
abbrev pub inserted : ℕ → List Key → Index → Index
inserted leaf keys x = record x {
  at = from_on (suc x.count) x.at (λ s. over (hit keys s) (latest x s));
  count = suc x.count;
  changed = put x.changed leaf (suc x.count);
}

-- the index whose sectors lie in other leaves
abbrev pub regrouped : (leaf changed : ℕ → ℕ) → Index → Index
regrouped leaf changed x = record x { leaf = leaf; changed = changed }
