-- How many sectors have live data.
use Rattle.std.specs.Prelude.{◌≡◌, ◌⊎◌, ℕ, ◌+◌, Bool, true, false, List, Some}
use Rattle.bc_disk.specs.Gens.{Gens}
use Rattle.bc_disk.specs.declared.geometry.Geometry.{Geometry}
use Rattle.bc_extent.specs.LastKey.{last_key}
use Rattle.bc_image.specs.Reading.{Reading, key_of}
use Rattle.bc_image.specs.Shown.{is_live}
use Rattle.bc_key.specs.declared.key.Key.{Key}

-- the sector's last key is live, and dirty or not
pub record IsLiveAs (g : Geometry) (r : Reading) (dirty : Bool) (sector : ℕ) : Type 0 where
  pub key : Key
  pub last : key_of r sector ≡ Some key
  pub live : is_live g r.gens key ≡ true
  pub kind : key.dirty ≡ dirty

abbrev pub IsDirtyAt : Geometry → Reading → ℕ → Type 0
IsDirtyAt g r sector = IsLiveAs g r true sector

abbrev pub IsCleanAt : Geometry → Reading → ℕ → Type 0
IsCleanAt g r sector = IsLiveAs g r false sector

-- ---- by the rows of an index

abbrev pub IsKindRow : Geometry → Gens → Bool → Key → Type 0
IsKindRow g gens dirty row = (row.dirty ≡ dirty) × (is_live g gens row ≡ true)

-- the sector's row is live, and dirty or not
pub record HasKindRow (g : Geometry) (gens : Gens) (rows : List Key) (dirty : Bool) (sector : ℕ) : Type 0 where
  pub row : Key
  pub last : last_key rows sector ≡ Some row
  pub kind : IsKindRow g gens dirty row

-- the row's sectors are counted where it is such a row
abbrev pub CountsAs : Geometry → Gens → Bool → Key → ℕ → ℕ → Type 0
CountsAs g gens dirty row old new = (IsKindRow g gens dirty row × (new ≡ old + row.size)) ⊎ (¬ (IsKindRow g gens dirty row) × (new ≡ old))
