-- Where the ring goes on, bucket by bucket.
use Rattle.std.specs.Prelude.{◌≡◌, ◌≢◌, ℕ, ◌<◌, ◌≤◌, max, List, All, Any, Option, None, Some}
use Rattle.bc_disk.specs.declared.geometry.Geometry.{Geometry}
use Rattle.bc_jset.specs.Entries.{FoundEntry}
use Rattle.bc_jset.specs.Records.{entry_kind}
use Rattle.bc_jset.specs.Ring.{bucket_of}
use Rattle.bc_record.specs.Places.{end_of}

-- the last of the entries in a bucket ends there
abbrev pub EndsAt : Geometry → ℕ → ℕ → FoundEntry → Type 0
EndsAt g bucket next e = (bucket_of g e ≡ bucket) × (end_of (entry_kind g) e ≡ next)

abbrev pub EndsBefore : Geometry → ℕ → ℕ → FoundEntry → Type 0
EndsBefore g bucket next e = bucket_of g e ≡ bucket → end_of (entry_kind g) e ≤ next

-- the first sector behind all of the entries in a bucket; none where none is there
abbrev pub IsBehind : Geometry → List FoundEntry → ℕ → Option ℕ → Type 0
IsBehind g es bucket None = All (λ e. bucket_of g e ≢ bucket) es
IsBehind g es bucket (Some next) = Any (EndsAt g bucket next) es × All (EndsBefore g bucket next) es

-- none of the entries in a bucket has a number from `low` on
abbrev pub AreOld : Geometry → List FoundEntry → ℕ → ℕ → Type 0
AreOld g all low bucket = All (λ e. bucket_of g e ≡ bucket → e.item.seq < low) all

-- the later of an end and one that is there
abbrev pub later : Option ℕ → ℕ → ℕ
later None end = end
later (Some next) end = max next end
