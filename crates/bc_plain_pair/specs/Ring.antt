-- Whole entries of the journal that aren't among those that count, place by place.
use Rattle.std.specs.Prelude.{◌≡◌, ℕ, ◌+◌, ◌*◌, ◌<◌, ◌≤◌, List, Any}
use Rattle.bc_disk.specs.declared.geometry.Geometry.{Geometry}
use Rattle.bc_model.specs.Sector.{Image}
use Rattle.bc_jset.specs.Entries.{FoundEntry, bucket_start, bucket_end}
use Rattle.bc_jset.specs.Records.{EntryFound}
use Rattle.bc_jset.specs.declared.entry.JEntry.{JEntry}

-- one of the entries stands at a place
abbrev pub StandsAmong : List FoundEntry → ℕ → Type 0
StandsAmong es place = Any (λ e. e.place ≡ place) es

-- at a place, before an end, a whole entry has a number from `low` on, and none of these stands there
abbrev pub IsStrayAt : Geometry → Image → List FoundEntry → ℕ → ℕ → ℕ → Type 0
IsStrayAt g image es low end place = (entry : JEntry) × EntryFound g image end place entry × (low ≤ entry.seq) × (StandsAmong es place → ⊥)

-- where one has such a number, one of these stands
abbrev pub IsNoneAt : Geometry → Image → List FoundEntry → ℕ → ℕ → ℕ → Type 0
IsNoneAt g image es low end place = (entry : JEntry) → EntryFound g image end place entry → low ≤ entry.seq → StandsAmong es place

-- so at some block of a journal bucket, or at each
abbrev pub HasStray : Geometry → Image → List FoundEntry → ℕ → ℕ → Type 0
HasStray g image es low i = (k : ℕ) × (g.block * k < g.bucket) × IsStrayAt g image es low (bucket_end g i) (bucket_start g i + g.block * k)

abbrev pub HasNoStray : Geometry → Image → List FoundEntry → ℕ → ℕ → Type 0
HasNoStray g image es low i = (k : ℕ) → g.block * k < g.bucket → IsNoneAt g image es low (bucket_end g i) (bucket_start g i + g.block * k)
