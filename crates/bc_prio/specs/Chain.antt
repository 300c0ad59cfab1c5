-- What a chain of priority sets on a device says: the generations of its buckets.
use Rattle.std.specs.Prelude.{◌≡◌, ◌≢◌, ℕ, suc, ◌+◌, ◌*◌, ◌<◌, ◌≤◌, List, [], ◌∷◌, length, AllPairs}
use Rattle.bc_model.specs.Sector.{values_of}
use Rattle.bc_disk.specs.Disk.{DiskFacts, IsRead}
use Rattle.bc_disk.specs.Gens.{Gens}
use Rattle.bc_disk.specs.declared.geometry.Geometry.{Geometry}
use Rattle.bc_disk.specs.Chain.{bucket_bytes, sets_in_chain}
use Rattle.bc_prio.specs.Set.{IsSet, HoldsPart, next_in}

-- what stands in a bucket of the disk, where it tells what it holds; else any bytes that fill one
pub record IsInBucket (g : Geometry) (d : DiskFacts) (bucket : ℕ) (bytes : List ℕ) : Type 0 where
  pub whole : length bytes ≡ bucket_bytes g
  pub read : IsRead (g.bucket * bucket) (values_of bytes) d

-- a bucket behind those of the journal
abbrev pub IsPlace : Geometry → ℕ → Type 0
IsPlace g bucket = (g.first_bucket + g.journal ≤ bucket) × (bucket < g.nbuckets)

-- The sets of a chain, of which the first one has this part, lead from a bucket through these ones to another: in each stands a set of the
-- next part, of which P holds, and it names the bucket that follows.
abbrev pub Leads : Geometry → DiskFacts → (ℕ → List ℕ → Type 0) → ℕ → ℕ → List ℕ → ℕ → Type 0
Leads g d P part from [] to = from ≡ to
Leads g d P part from (bucket ∷ chain) to =
    (from ≡ bucket) × IsPlace g bucket
    × ((bytes : List ℕ) × IsInBucket g d bucket bytes × IsSet g part bytes × P part bytes × Leads g d P (suc part) (next_in bytes) chain to)

-- the chain of sets that begins in bucket `first` says this: its buckets, and the record of each bucket
pub record IsChain (g : Geometry) (d : DiskFacts) (first : ℕ) (gens : Gens) : Type 0 where
  pub sets : Leads g d (HoldsPart g gens.records) 0 first gens.chain 0
  pub distinct : AllPairs (λ a b. a ≢ b) gens.chain
  pub count : length gens.chain ≡ sets_in_chain g
  pub records : length gens.records ≡ g.nbuckets
