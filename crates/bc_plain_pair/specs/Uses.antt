-- What each bucket is used for, kind by kind, and how many buckets are spare.
use Rattle.std.specs.Prelude.{◌≡◌, ◌≢◌, ◌↔◌, ℕ, ◌+◌, ◌<◌, ◌≤◌, Bool, List, [], ◌∷◌, length, slice_index_or, All, AllPairs, Contains, if◌then◌else◌}
use Rattle.std.specs.Bool.{MatchBool}
use Rattle.bc_disk.specs.declared.geometry.Geometry.{Geometry}
use Rattle.bc_image.specs.Pointers.{PointsInto}
use Rattle.bc_image.specs.Reading.{Reading}
use Rattle.bc_image.specs.Tree.{Node}
use Rattle.bc_image.specs.Uses.{Use, IsSpare, IsUsedFor, LiesLive, Super, Journal, Priority, Uuid, Node as InNode, Data}
use Rattle.bc_key.specs.declared.key.Key.{Key}

-- the sector's data lies in this bucket
abbrev pub HasLive : Geometry → Reading → ℕ → ℕ → Type 0
HasLive g r sector bucket = (key : Key) × LiesLive g r sector key bucket

-- these are the buckets in which data lies
abbrev pub AreLive : Geometry → Reading → List ℕ → Type 0
AreLive g r buckets = (bucket : ℕ) → Contains buckets bucket ↔ IsUsedFor g r Data bucket

-- whatever is used is a bucket of the device
abbrev pub AreWithin : Geometry → Reading → Type 0
AreWithin g r = (what : Use) (bucket : ℕ) → IsUsedFor g r what bucket → bucket < g.nbuckets

-- all kinds of use
abbrev pub all_kinds : List Use
all_kinds = Super ∷ Journal ∷ Priority ∷ Uuid ∷ InNode ∷ Data ∷ []

abbrev pub one_if : Bool → ℕ
one_if b = if b then 1 else 0

-- of how many kinds in a list something is told
abbrev pub count_in : (Use → Bool) → List Use → ℕ
count_in told [] = 0
count_in told (kind ∷ kinds) = one_if (told kind) + count_in told kinds

-- the bucket has so many kinds of use
pub record CountsUses (g : Geometry) (r : Reading) (bucket n : ℕ) : Type 0 where
  pub told : Use → Bool
  pub each : (what : Use) → MatchBool (told what) (IsUsedFor g r what bucket) (IsUsedFor g r what bucket → ⊥)
  pub count : n ≡ count_in told all_kinds

-- the bucket has one kind of use at most
abbrev pub HasOneKind : Geometry → Reading → ℕ → Type 0
HasOneKind g r bucket = (a b : Use) → IsUsedFor g r a bucket → IsUsedFor g r b bucket → a ≡ b

-- no bucket has both nodes
abbrev pub AreApart : Geometry → Node → Node → Type 0
AreApart g m n = (bucket : ℕ) → PointsInto g m.key bucket → PointsInto g n.key bucket → ⊥

-- the spare buckets below a number, all of them and each once
pub record SpareBelow (g : Geometry) (r : Reading) (end n : ℕ) : Type 0 where
  pub spare : List ℕ
  pub below : All (λ b. b < end) spare
  pub different : AllPairs (λ a b. a ≢ b) spare
  pub each : All (IsSpare g r) spare
  pub size : length spare ≡ n
  pub most : (others : List ℕ) → All (λ b. b < end) others → AllPairs (λ a b. a ≢ b) others → All (IsSpare g r) others → length others ≤ n

-- so no node behind this one is in its bucket
abbrev pub StandsAlone : Geometry → List Node → ℕ → Type 0
StandsAlone g nodes i = (j : ℕ) (d : Node) → i < j → j < length nodes → AreApart g (slice_index_or nodes i d) (slice_index_or nodes j d)
