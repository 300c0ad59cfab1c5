-- How many sectors have something of a bucket, as a reading says it and as the rows of an index do.
use Rattle.std.specs.Prelude.{◌≡◌, ◌⊎◌, ℕ, zero, suc, ◌+◌, ◌<◌, ◌≤◌, Bool, true, false, List, Some}
use Rattle.bc_disk.specs.Gens.{Gens}
use Rattle.bc_disk.specs.declared.geometry.Geometry.{Geometry}
use Rattle.bc_extent.specs.LastKey.{last_key}
use Rattle.bc_image.specs.Pointers.{PointsInto}
use Rattle.bc_image.specs.Reading.{Reading}
use Rattle.bc_image.specs.Shown.{is_live}
use Rattle.bc_image.specs.Uses.{LiesLive}
use Rattle.bc_key.specs.declared.key.Key.{Key}

-- P holds of so many of the first n numbers
abbrev pub CountsBelow : (ℕ → Type 0) → ℕ → ℕ → Type 0
CountsBelow P zero count = count ≡ 0
CountsBelow P (suc n) count =
    (less : ℕ) × CountsBelow P n less
    × ((P n × (count ≡ suc less)) ⊎ (¬ (P n) × (count ≡ less)))

-- P holds of so many numbers
pub record IsCount (P : ℕ → Type 0) (count : ℕ) : Type 0 where
  pub bound : ℕ
  pub below : CountsBelow P bound count
  pub behind : (n : ℕ) → bound ≤ n → ¬ (P n)

-- the sector's last key is live and points into the bucket; so is it, and it is dirty
abbrev pub IsLiveIn : Geometry → Reading → ℕ → ℕ → Type 0
IsLiveIn g r bucket sector = (key : Key) × LiesLive g r sector key bucket

abbrev pub IsDirtyIn : Geometry → Reading → ℕ → ℕ → Type 0
IsDirtyIn g r bucket sector = (key : Key) × LiesLive g r sector key bucket × (key.dirty ≡ true)

-- ---- by the rows of an index

-- the sector's row is live, points into the bucket, and is dirty if that is asked
pub record HasRow (g : Geometry) (gens : Gens) (rows : List Key) (asks : Key → Type 0)
    (bucket sector : ℕ) : Type 0 where
  pub row : Key
  pub last : last_key rows sector ≡ Some row
  pub live : is_live g gens row ≡ true
  pub points : PointsInto g row bucket
  pub asked : asks row

abbrev pub IsLiveRow : Geometry → Gens → Key → ℕ → Type 0
IsLiveRow g gens row bucket = (is_live g gens row ≡ true) × PointsInto g row bucket

-- a dirty row, where dirty ones alone are asked for
abbrev pub Asks : Bool → Key → Type 0
Asks true row = row.dirty ≡ true
Asks false row = Unit {0}

-- the row's sectors are added where it is asked for and lies in the bucket
abbrev pub IsAdded : Geometry → Gens → (Key → Type 0) → Key → ℕ → ℕ → ℕ → Type 0
IsAdded g gens asks row bucket old new =
    (asks row × IsLiveRow g gens row bucket × (new ≡ old + row.size))
    ⊎ (¬ (asks row × IsLiveRow g gens row bucket) × (new ≡ old))
