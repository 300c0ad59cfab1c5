-- Where the two devices of a pair have different data, though the cache device says that it has the same.
use Rattle.std.specs.Prelude.{◌≡◌, ◌≢◌, ℕ, ◌+◌, ◌<◌, ◌≤◌, true, false, List, Option, Some, None, length, slice_get, slice_index_or}
use Rattle.bc_disk.specs.Bytes.{image_of}
use Rattle.bc_disk.specs.Gens.{Gens}
use Rattle.bc_disk.specs.declared.geometry.Geometry.{Geometry}
use Rattle.bc_image.specs.Pair.{Pair}
use Rattle.bc_image.specs.Reading.{View, key_of}
use Rattle.bc_image.specs.Shown.{is_live}
use Rattle.bc_key.specs.Key.{ptr_at, place_at, start_of}
use Rattle.bc_key.specs.declared.key.Key.{Key}

-- the sector's last key is live and clean, and the devices have different values
pub record Disagrees (p : Pair) (v : View) (sector : ℕ) : Type 0 where
  pub key : Key
  pub last : key_of v.reading sector ≡ Some key
  pub live : is_live v.geometry v.reading.gens key ≡ true
  pub clean : key.dirty ≡ false
  pub apart : p.cache (place_at key 0 sector) ≢ p.backing (v.backing.data_offset + sector)

-- ---- by runs of sectors

-- of so many numbers P holds of all those below the first of which it doesn't, or of all of them
abbrev pub IsFirstNot : (ℕ → Type 0) → ℕ → Option ℕ → Type 0
IsFirstNot P count None = (k : ℕ) → k < count → P k
IsFirstNot P count (Some n) = (n < count) × ¬ (P n) × ((k : ℕ) → k < n → P k)

-- so many sectors behind these two places the devices have the same value
abbrev pub AreSame : Pair → ℕ → ℕ → ℕ → Type 0
AreSame p place at k = p.cache (place + k) ≡ p.backing (at + k)

-- so have these bytes
abbrev pub AreSameIn : List ℕ → List ℕ → ℕ → Type 0
AreSameIn one other k = image_of one k ≡ image_of other k

-- ---- by the rows of an index

abbrev pub IsCleanRow : Geometry → Gens → Key → Type 0
IsCleanRow g gens row = (is_live g gens row ≡ true) × (row.dirty ≡ false)

-- devices of so many sectors have each of the row's; the backing device's data begins at an offset
abbrev pub RowFitsOn : ℕ → ℕ → ℕ → Key → Type 0
RowFitsOn cache backing offset row = ((ptr_at row 0).offset + row.size ≤ cache) × (offset + row.end ≤ backing)

abbrev pub RowFits : Pair → ℕ → Key → Type 0
RowFits p offset row = RowFitsOn p.cache_sectors p.backing_sectors offset row

-- so many sectors behind the row's first one the devices have the same value
abbrev pub RowSame : Pair → ℕ → Key → ℕ → Type 0
RowSame p offset row k = AreSame p (ptr_at row 0).offset (offset + start_of row) k

-- a row whose data is live and clean has no sector apart, or this is its first one
abbrev pub TellsRow : Geometry → Gens → Pair → ℕ → Key → Option ℕ → Type 0
TellsRow g gens p offset row None = IsCleanRow g gens row → RowFits p offset row → IsFirstNot (RowSame p offset row) row.size None
TellsRow g gens p offset row (Some sector) =
    IsCleanRow g gens row × (RowFits p offset row → (k : ℕ) × (sector ≡ start_of row + k) × IsFirstNot (RowSame p offset row) row.size (Some k))

-- none of the first n rows has one
abbrev pub NoneApart : Geometry → Gens → Pair → ℕ → List Key → ℕ → Type 0
NoneApart g gens p offset rows n = (k : ℕ) (d : Key) → k < n → TellsRow g gens p offset (slice_index_or rows k d) None

-- the sector is the first one apart of the first row that has one
pub record IsFirstApart (g : Geometry) (gens : Gens) (p : Pair) (offset : ℕ) (rows : List Key) (sector : ℕ) : Type 0 where
  pub place : ℕ
  pub row : Key
  pub at : slice_get rows place ≡ Some row
  pub apart : TellsRow g gens p offset row (Some sector)
  pub before : NoneApart g gens p offset rows place

abbrev pub TellsRows : Geometry → Gens → Pair → ℕ → List Key → Option ℕ → Type 0
TellsRows g gens p offset rows None = NoneApart g gens p offset rows (length rows)
TellsRows g gens p offset rows (Some sector) = IsFirstApart g gens p offset rows sector
