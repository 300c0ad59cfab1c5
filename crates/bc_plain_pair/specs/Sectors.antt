-- What the parts of soundness say of one sector.
use Rattle.std.specs.Prelude.{◌≡◌, ◌≢◌, ◌⊎◌, ℕ, ◌+◌, ◌<◌, true, false, Some}
use Rattle.bc_disk.specs.Gens.{Gens}
use Rattle.bc_disk.specs.declared.geometry.Geometry.{Geometry}
use Rattle.bc_image.specs.Pair.{Pair}
use Rattle.bc_image.specs.Reading.{View, key_of}
use Rattle.bc_image.specs.Shown.{age_of, is_live}
use Rattle.bc_key.specs.declared.key.Key.{Key}
use Rattle.bc_key.specs.declared.ptr.Ptr.{Ptr}
use Rattle.bc_key.specs.Key.{pointer_of, place_at}

-- the least number of which P holds
pub record IsLeast (P : ℕ → Type 0) (n : ℕ) : Type 0 where
  pub holds : P n
  pub least : (k : ℕ) → k < n → P k → ⊥

-- the key's pointer lies more than 96 generations behind its bucket, or at all if the key is dirty
abbrev pub IsAgedKey : Geometry → Gens → Key → Type 0
IsAgedKey g gens key = (ptr : Ptr) × (pointer_of key ≡ Some ptr) × ((96 < age_of g gens ptr) ⊎ ((key.dirty ≡ true) × (age_of g gens ptr ≢ 0)))

-- so does that of the sector's last key
abbrev pub IsAgedAt : View → ℕ → Type 0
IsAgedAt v sector = (key : Key) × (key_of v.reading sector ≡ Some key) × IsAgedKey v.geometry v.reading.gens key

-- the key is live and clean, and the devices have different values of the sector
abbrev pub IsApart : Pair → View → ℕ → Key → Type 0
IsApart p v sector key =
    (is_live v.geometry v.reading.gens key ≡ true) × (key.dirty ≡ false) × (p.cache (place_at key 0 sector) ≢ p.backing (v.backing.data_offset + sector))

abbrev pub IsApartAt : Pair → View → ℕ → Type 0
IsApartAt p v sector = (key : Key) × (key_of v.reading sector ≡ Some key) × IsApart p v sector key

-- where it is live and clean, they have the same
abbrev pub Agrees : Pair → View → ℕ → Key → Type 0
Agrees p v sector key = is_live v.geometry v.reading.gens key ≡ true → key.dirty ≡ false → p.cache (place_at key 0 sector) ≡ p.backing (v.backing.data_offset + sector)

abbrev pub AgreesAt : Pair → View → ℕ → Type 0
AgreesAt p v sector = (key : Key) → key_of v.reading sector ≡ Some key → Agrees p v sector key
