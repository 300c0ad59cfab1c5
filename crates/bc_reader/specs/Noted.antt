-- How often the buckets had been used anew from which runs are read.
use Rattle.std.specs.Prelude.{◌≡◌, ℕ, ◌+◌, ◌/◌, ◌<◌, All, Bool, Contains, List, length}
use Rattle.bc_bucket.specs.Buckets.{Buckets, bucket_of}
use Rattle.bc_reads.specs.declared.runs.ReadRun.{ReadRun}
use Rattle.bc_reads.specs.declared.source.ReadFrom.TheVariants.{Cache}
use Rattle.bc_reader.specs.declared.noted.Noted.{Noted}

abbrev pub noted_of : Buckets → ℕ → Noted
noted_of b q = record { bucket = q; uses = (bucket_of b q).uses }

-- each of so many sectors of the cache device lies in a bucket that is known
abbrev pub AreInBuckets : Buckets → (at count : ℕ) → Type 0
AreInBuckets b at count = (k : ℕ) → k < count → (at + k) / b.size < length b.records

-- the bucket of each of them was noted
abbrev pub AreNotedFor : List Noted → Buckets → (at count : ℕ) → Type 0
AreNotedFor noted b at count = (k : ℕ) → k < count
    → Contains noted (noted_of b ((at + k) / b.size))

-- this is so of each run that is read from the cache device
abbrev pub OfCached : List ReadRun → ((at count : ℕ) → Type 0) → Type 0
OfCached runs P = All (λ r. (at : ℕ) (dirty : Bool) → r.from ≡ Cache at dirty → P at r.count) runs

abbrev pub LieInBuckets : List ReadRun → Buckets → Type 0
LieInBuckets runs b = OfCached runs (AreInBuckets b)

abbrev pub AreNoted : List ReadRun → Buckets → List Noted → Type 0
AreNoted runs b noted = OfCached runs (AreNotedFor noted b)

-- the bucket was used anew no more often
pub record IsUnchanged (b : Buckets) (n : Noted) : Type 0 where
  pub known : n.bucket < length b.records
  pub uses : (bucket_of b n.bucket).uses ≡ n.uses
