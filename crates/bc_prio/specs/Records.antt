-- Priority sets as records in an image, and the chain that they make. A set takes a whole bucket.
use Rattle.std.specs.Prelude.{◌≡◌, ◌≢◌, ◌⊎◌, ℕ, suc, ◌+◌, ◌*◌, ◌<◌, List, [], ◌∷◌, length, take, AllPairs}
use Rattle.bc_model.specs.Sector.{Image}
use Rattle.bc_disk.specs.Gens.{Gens}
use Rattle.bc_disk.specs.declared.geometry.Geometry.{Geometry}
use Rattle.bc_disk.specs.declared.gens.BucketRecord.{BucketRecord}
use Rattle.bc_record.specs.Sectors.{bytes_in}
use Rattle.bc_record.specs.Kind.{Kind, IsFound}
use Rattle.bc_prio.specs.declared.error.PrioError.{PrioError}
use Rattle.bc_disk.specs.Chain.{bucket_bytes, sets_in_chain}
use Rattle.bc_prio.specs.Set.{IsSet, IsWrong, HoldsPart, next_in}
use Rattle.bc_prio.specs.Refusal.{IsFresh, IsMisplaced}
use Rattle.bc_prio.specs.Chain.{IsPlace}

-- the bytes of a bucket
abbrev pub bucket_in : Geometry → Image → ℕ → List ℕ
bucket_in g image bucket = bytes_in image (g.bucket * bucket) g.bucket

-- the set of a part is found in a bucket: it names the next one, and has its part of these records
pub record SetFound (g : Geometry) (image : Image) (bucket part next : ℕ) (records : List BucketRecord) : Type 0 where
  pub set : IsSet g part (bucket_in g image bucket)
  pub names : next_in (bucket_in g image bucket) ≡ next
  pub holds : HoldsPart g records part (bucket_in g image bucket)

-- sets that are found lead from a bucket through these ones to another; the first one has this part
abbrev pub LeadIn : Geometry → Image → List BucketRecord → ℕ → ℕ → List ℕ → ℕ → Type 0
LeadIn g image records part from [] to = from ≡ to
LeadIn g image records part from (bucket ∷ chain) to =
    (from ≡ bucket) × IsPlace g bucket × ((next : ℕ) × SetFound g image bucket part next records × LeadIn g image records (suc part) next chain to)

-- the chain that begins in bucket `first` of the image says this
pub record ChainIn (g : Geometry) (image : Image) (first : ℕ) (gens : Gens) : Type 0 where
  pub sets : LeadIn g image gens.records 0 first gens.chain 0
  pub distinct : AllPairs (λ a b. a ≢ b) gens.chain
  pub count : length gens.chain ≡ sets_in_chain g
  pub records : length gens.records ≡ g.nbuckets

-- ---- as records like any others

-- Sets of a part as a kind of records. A set is all the bytes of its bucket.
abbrev pub part_kind : Geometry → ℕ → Kind (List ℕ)
part_kind g part = record { block = g.block; Begins = λ bytes e. IsSet g part e × (take (bucket_bytes g) bytes ≡ e); bytes = λ e. bucket_bytes g }

-- the set of a part is read in a bucket
abbrev pub IsReadIn : Geometry → Image → ℕ → ℕ → List ℕ → Type 0
IsReadIn g image bucket part bytes = IsFound (part_kind g part) image (g.bucket * bucket + g.bucket) (g.bucket * bucket) bytes

-- ---- a chain that is refused

-- whole sets lead from a bucket through these ones to another, whatever their records are; the first one has this part
abbrev pub WholeIn : Geometry → Image → ℕ → ℕ → List ℕ → ℕ → Type 0
WholeIn g image part from [] to = from ≡ to
WholeIn g image part from (bucket ∷ chain) to =
    (from ≡ bucket) × IsPlace g bucket × IsSet g part (bucket_in g image bucket) × WholeIn g image (suc part) (next_in (bucket_in g image bucket)) chain to

-- why the set behind these ones can't stand in the bucket, or why what stands there isn't it
abbrev pub IsCauseIn : Geometry → Image → List ℕ → ℕ → PrioError → Type 0
IsCauseIn g image chain at error = IsMisplaced g chain at error ⊎ (IsFresh g chain at × IsWrong g (length chain) (bucket_in g image at) error)

-- the chain that begins in bucket `first` of the image is refused: behind some whole sets in different buckets, fewer than a chain has,
-- stands the cause
pub record RefusedIn (g : Geometry) (image : Image) (first : ℕ) (error : PrioError) : Type 0 where
  pub chain : List ℕ
  pub at : ℕ
  pub sets : WholeIn g image 0 first chain at
  pub distinct : AllPairs (λ a b. a ≢ b) chain
  pub few : length chain < sets_in_chain g
  pub cause : IsCauseIn g image chain at error
