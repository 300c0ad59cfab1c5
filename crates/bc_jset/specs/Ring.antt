-- Where the journal goes on. Its buckets are used in a ring, and a bucket is used again once no entry in it is needed.
use Rattle.std.specs.Prelude.{◌≡◌, ◌⊎◌, ℕ, ◌+◌, ◌*◌, ◌<◌, ◌≤◌, ◌==◌, if◌then◌else◌, max, List, [], ◌∷◌, All, Any}
use Rattle.bc_disk.specs.declared.geometry.Geometry.{Geometry}
use Rattle.bc_record.specs.Places.{bucket_at, end_of}
use Rattle.bc_jset.specs.Records.{entry_kind}
use Rattle.bc_jset.specs.Entries.{FoundEntry}

-- the bucket in which an entry was found
abbrev pub bucket_of : Geometry → FoundEntry → ℕ
bucket_of g e = bucket_at g e.place

-- Of the list of a device's entries the next one's place: behind the last of those in the newest one's bucket. What is found behind that
-- is left from an earlier turn of the ring.
pub record IsNextPlace (g : Geometry) (es : List FoundEntry) (newest : FoundEntry) (next : ℕ) : Type 0 where
  pub last : Any (λ e. (bucket_of g e ≡ bucket_of g newest) × (end_of (entry_kind g) e ≡ next)) es
  pub behind : All (λ e. bucket_of g e ≡ bucket_of g newest → end_of (entry_kind g) e ≤ next) es

-- the journal bucket that is used after another one
abbrev pub bucket_after : Geometry → ℕ → ℕ
bucket_after g bucket = if bucket + 1 == g.first_bucket + g.journal then g.first_bucket else bucket + 1

-- the greatest number that is found in a bucket; 0 where none is
abbrev pub greatest_in : Geometry → ℕ → List FoundEntry → ℕ
greatest_in g bucket [] = 0
greatest_in g bucket (e ∷ es) = max (if bucket_of g e == bucket then e.item.seq else 0) (greatest_in g bucket es)

-- no entry that is found in the bucket is needed by the newest one
abbrev pub IsFree : Geometry → List FoundEntry → FoundEntry → ℕ → Type 0
IsFree g all newest bucket = All (λ e. bucket_of g e ≡ bucket → e.item.seq < newest.item.last_seq) all

-- an entry without keys, which takes a block, fits behind the last one or into the next bucket of the ring
pub record HasRoom (g : Geometry) (all es : List FoundEntry) (newest : FoundEntry) : Type 0 where
  pub next : ℕ
  pub place : IsNextPlace g es newest next
  pub room : (next + g.block ≤ g.bucket * (bucket_of g newest + 1)) ⊎ IsFree g all newest (bucket_after g (bucket_of g newest))
