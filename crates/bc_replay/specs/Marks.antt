-- A table of uses that is filled bucket by bucket.
use Rattle.std.specs.Prelude.{◌≡◌, ◌≢◌, ◌⊎◌, ℕ, zero, suc, min, ◌+◌, ◌<◌, ◌≤◌, List, [], ◌∷◌, ◌++◌, length, map, slice_index_or, Option, None, Some, MatchOption, Contains, if◌then◌else◌}
use Rattle.std.specs.List.{flat_map}
use Rattle.bc_disk.specs.Gens.{Gens}
use Rattle.bc_disk.specs.declared.geometry.Geometry.{Geometry}
use Rattle.bc_image.specs.Shown.{is_live}
use Rattle.bc_key.specs.Key.{pointer_of}
use Rattle.bc_key.specs.declared.key.Key.{Key}
use Rattle.bc_key.specs.declared.ptr.Ptr.{Ptr}
use Rattle.bc_record.specs.Places.{bucket_at}
use Rattle.bc_walk.specs.declared.visit.Visit.{Visit}
use Rattle.bc_walk.specs.declared.visit.Visit.TheVariants as visits
use Rattle.bc_replay.specs.declared.uses.Use.{Use}
use Rattle.bc_replay.specs.declared.uses.Use.TheVariants as uses

-- a bucket was found to have a use
pub record Mark : Type 0 where
  pub use_ : Use
  pub bucket : ℕ

abbrev pub mark : Use → ℕ → Mark
mark use_ bucket = record { use_ = use_; bucket = bucket }

-- what the geometry alone says
abbrev pub IsLaidOut : Geometry → Use → ℕ → Type 0
IsLaidOut g uses.Super bucket = bucket < g.first_bucket
IsLaidOut g uses.Journal bucket = (g.first_bucket ≤ bucket) × (bucket < g.first_bucket + g.journal)
IsLaidOut g kind bucket = ⊥

abbrev pub IsMarked : Geometry → List Mark → Use → ℕ → Type 0
IsMarked g marks kind bucket = IsLaidOut g kind bucket ⊎ Contains marks (mark kind bucket)

-- the table has one of the bucket's uses, if there is one
abbrev pub IsMarkedFor : Geometry → List Mark → ℕ → Use → Type 0
IsMarkedFor g marks bucket uses.None = (kind : Use) → ¬ (IsMarked g marks kind bucket)
IsMarkedFor g marks bucket kind = IsMarked g marks kind bucket

-- of each of the first n buckets it has the one use
abbrev pub IsClear : Geometry → List Mark → List Use → ℕ → Type 0
IsClear g marks table n = (bucket : ℕ) (kind : Use) → bucket < n → IsMarked g marks kind bucket → slice_index_or table bucket uses.None ≡ kind

-- the bucket has a use beside the one in the table, and no lower bucket has
pub record IsLeastMixed (g : Geometry) (marks : List Mark) (table : List Use) (bucket : ℕ) : Type 0 where
  pub within : bucket < g.nbuckets
  pub other : Use
  pub marked : IsMarked g marks other bucket
  pub differs : slice_index_or table bucket uses.None ≢ other
  pub clear : IsClear g marks table bucket

pub record AreMarked (g : Geometry) (marks : List Mark) (table : List Use) (mixed : Option ℕ) : Type 0 where
  pub each : length table ≡ g.nbuckets
  pub told : (bucket : ℕ) → bucket < g.nbuckets → IsMarkedFor g marks bucket (slice_index_or table bucket uses.None)
  pub least : MatchOption mixed (IsClear g marks table g.nbuckets) (IsLeastMixed g marks table)

-- ---- the marks of what was read

abbrev pub ptr_marks : Geometry → Use → Option Ptr → List Mark
ptr_marks g kind None = []
ptr_marks g kind (Some ptr) = mark kind (bucket_at g ptr.offset) ∷ []

abbrev pub key_marks : Geometry → Use → Key → List Mark
key_marks g kind key = ptr_marks g kind (pointer_of key)

abbrev pub visit_marks : Geometry → Visit → List Mark
visit_marks g (visits.Met level from key) = key_marks g uses.Node key
visit_marks g (visits.Again key) = []
visit_marks g (visits.Barred key) = []

abbrev pub row_marks : Geometry → Gens → Key → List Mark
row_marks g gens row = if is_live g gens row then key_marks g uses.Data row else []

abbrev pub chain_marks : List ℕ → List Mark
chain_marks chain = map (mark uses.Priority) chain

abbrev pub all_marks : Geometry → Gens → Key → List Visit → List Key → List Mark
all_marks g gens uuid_bucket seen rows =
    ((chain_marks gens.chain ++ key_marks g uses.Uuid uuid_bucket) ++ flat_map (visit_marks g) seen) ++ flat_map (row_marks g gens) rows

-- ---- the least of buckets

-- the bucket is the least of which P holds, or P holds of none
abbrev pub IsLeastOf : (ℕ → Type 0) → Option ℕ → Type 0
IsLeastOf P None = (k : ℕ) → ¬ (P k)
IsLeastOf P (Some bucket) = P bucket × ((k : ℕ) → k < bucket → ¬ (P k))

-- the lower of two, where they are there
abbrev pub lower_of : Option ℕ → Option ℕ → Option ℕ
lower_of None other = other
lower_of (Some a) None = Some a
lower_of (Some a) (Some b) = Some (min a b)

-- so many of the first n buckets have no use in the table
abbrev pub CountsNone : List Use → ℕ → ℕ → Type 0
CountsNone table zero count = count ≡ 0
CountsNone table (suc n) count =
    (less : ℕ) × CountsNone table n less × (((slice_index_or table n uses.None ≡ uses.None) × (count ≡ suc less)) ⊎ ((slice_index_or table n uses.None ≢ uses.None) × (count ≡ less)))
