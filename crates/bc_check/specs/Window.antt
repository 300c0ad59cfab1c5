-- Pointers that lie too far behind their buckets.
use Rattle.std.specs.Prelude.{◌≡◌, ◌≢◌, ◌⊎◌, ℕ, ◌<◌, true, List, All, Some, slice_get, slice_index_or}
use Rattle.bc_disk.specs.Gens.{Gens}
use Rattle.bc_disk.specs.declared.geometry.Geometry.{Geometry}
use Rattle.bc_image.specs.Reading.{Reading, key_of}
use Rattle.bc_image.specs.Shown.{age_of}
use Rattle.bc_key.specs.Key.{pointer_of, start_of}
use Rattle.bc_key.specs.declared.key.Key.{Key}
use Rattle.bc_key.specs.declared.ptr.Ptr.{Ptr}

-- the pointer lies more than 96 generations behind its bucket, or at all if the key is dirty
abbrev pub IsAgedKey : Geometry → Gens → Key → Type 0
IsAgedKey g gens key = (ptr : Ptr) × (pointer_of key ≡ Some ptr) × ((96 < age_of g gens ptr) ⊎ ((key.dirty ≡ true) × (age_of g gens ptr ≢ 0)))

-- so does that of the sector's last key
abbrev pub IsAged : Geometry → Reading → ℕ → Type 0
IsAged g r sector = (key : Key) × (key_of r sector ≡ Some key) × IsAgedKey g r.gens key

pub record IsLeastAged (g : Geometry) (r : Reading) (sector : ℕ) : Type 0 where
  pub aged : IsAged g r sector
  pub least : (k : ℕ) → k < sector → ¬ (IsAged g r k)

-- ---- by the rows of an index

abbrev pub NoneAged : Geometry → Gens → List Key → Type 0
NoneAged g gens rows = All (λ row. ¬ (IsAgedKey g gens row)) rows

pub record IsFirstAged (g : Geometry) (gens : Gens) (rows : List Key) (sector : ℕ) : Type 0 where
  pub place : ℕ
  pub row : Key
  pub at : slice_get rows place ≡ Some row
  pub aged : IsAgedKey g gens row
  pub start : sector ≡ start_of row
  pub before : (k : ℕ) (d : Key) → k < place → ¬ (IsAgedKey g gens (slice_index_or rows k d))
