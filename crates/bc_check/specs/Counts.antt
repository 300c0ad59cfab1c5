-- What is said of each bucket.
use Rattle.std.specs.Prelude.{◌≡◌, ◌≢◌, ◌⊎◌, ℕ, zero, suc, ◌+◌, ◌<◌, List, [], ◌∷◌, ◌++◌, All, AllPairs, Contains, slice_index, slice_index_or}
use Rattle.bc_disk.specs.Gens.{Gens}
use Rattle.bc_disk.specs.declared.geometry.Geometry.{Geometry}
use Rattle.bc_image.specs.Reading.{Reading}
use Rattle.bc_image.specs.Shown.{generation_of}
use Rattle.bc_key.specs.declared.key.Key.{Key}
use Rattle.bc_counts.specs.Counts.{IsCount, IsDirtyIn, IsLiveIn, IsLiveRow}
use Rattle.bc_replay.specs.Survey.{IsUsedAs}
use Rattle.bc_replay.specs.declared.uses.Use.{Use}
use Rattle.bc_replay.specs.declared.uses.Use.TheVariants as uses
use Rattle.bc_check.specs.declared.lines.BucketLine.{BucketLine}

-- what is said of a bucket that has a use
pub record IsLine (g : Geometry) (r : Reading) (line : BucketLine) : Type 0 where
  pub used : line.kind ≢ uses.None
  pub kind : IsUsedAs g r line.bucket line.kind
  pub generation : generation_of r.gens line.bucket ≡ line.generation
  pub live : IsCount (IsLiveIn g r line.bucket) line.live
  pub dirty : IsCount (IsDirtyIn g r line.bucket) line.dirty

-- of each bucket that has a use, in their order
pub record AreLines (g : Geometry) (r : Reading) (lines : List BucketLine) : Type 0 where
  pub each : All (IsLine g r) lines
  pub order : AllPairs (λ a b. a.bucket < b.bucket) lines
  pub all : (bucket : ℕ) → bucket < g.nbuckets → ¬ (IsUsedAs g r bucket uses.None) → (line : BucketLine) × Contains lines line × (line.bucket ≡ bucket)

-- ---- by the rows of an index

-- the row's sectors are added where it lies in the bucket
abbrev pub IsRowAdded : Geometry → Gens → Key → ℕ → ℕ → ℕ → Type 0
IsRowAdded g gens row bucket old new = (IsLiveRow g gens row bucket × (new ≡ old + row.size)) ⊎ (¬ (IsLiveRow g gens row bucket) × (new ≡ old))

-- ---- lines

abbrev pub IsLineAt : Gens → List Use → List ℕ → List ℕ → ℕ → BucketLine → Type 0
IsLineAt gens table live dirty bucket line =
    (line.bucket ≡ bucket) × (line.kind ≡ slice_index_or table bucket uses.None) × (line.generation ≡ generation_of gens bucket) × (line.live ≡ slice_index live bucket) × (line.dirty ≡ slice_index dirty bucket)

-- a line for each of the first n buckets that has a use
abbrev pub ListsLines : Gens → List Use → List ℕ → List ℕ → ℕ → List BucketLine → Type 0
ListsLines gens table live dirty zero lines = lines ≡ []
ListsLines gens table live dirty (suc n) lines =
    (before : List BucketLine) × ListsLines gens table live dirty n before
    × (((slice_index_or table n uses.None ≡ uses.None) × (lines ≡ before))
    ⊎ ((slice_index_or table n uses.None ≢ uses.None) × ((line : BucketLine) × IsLineAt gens table live dirty n line × (lines ≡ before ++ line ∷ []))))
