-- The bytes of an image, and how many sectors bytes take.
use Rattle.std.specs.Prelude.{◌≡◌, ℕ, zero, suc, ◌+◌, ◌-◌, ◌*◌, ◌/◌, ◌<◌, ◌≤◌, List, [], ◌++◌, take, replicate}
use Rattle.bc_model.specs.Sector.{Value, Image, Gives}

-- the 512 bytes of a sector; those that a value lacks are zeros
abbrev pub sector_bytes : Value → List ℕ
sector_bytes v = take 512 (v ++ replicate 512 0)

-- the bytes of n sectors from a place on
unfoldable pub bytes_in : Image → ℕ → ℕ → List ℕ
bytes_in image place zero = []
bytes_in image place (suc n) = sector_bytes (image place) ++ bytes_in image (suc place) n

-- the bytes from a place up to an end, both in sectors
abbrev pub bytes_to : Image → ℕ → ℕ → List ℕ
bytes_to image end place = bytes_in image place (end - place)

-- the image has these values, one for each sector from a place on
abbrev pub Has : Image → ℕ → List Value → Type 0
Has image place values = Gives place values (λ s v. v ≡ image s)

-- both images have the same values from one sector up to another
abbrev pub AgreeOn : Image → Image → ℕ → ℕ → Type 0
AgreeOn a b from to = (s : ℕ) → from ≤ s → s < to → a s ≡ b s

-- how many sectors so many bytes take, in whole blocks
abbrev pub in_blocks : ℕ → ℕ → ℕ
in_blocks block bytes = block * ((bytes + (512 * block - 1)) / (512 * block))
