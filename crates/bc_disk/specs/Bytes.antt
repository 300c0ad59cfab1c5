-- The bytes of a disk as an image of sectors.
use Rattle.std.specs.Prelude.{ℕ, ◌+◌, ◌*◌, List, ◌++◌, length, take, drop}
use Rattle.bc_model.specs.Sector.{Image}

-- the image of these bytes: 512 for each sector, and none past their end
abbrev pub image_of : List ℕ → Image
image_of bytes = λ s. take 512 (drop (512 * s) bytes)

-- the bytes with this piece in the place of those from sector `at` on
abbrev pub put : ℕ → List ℕ → List ℕ → List ℕ
put at piece bytes = take (512 * at) bytes ++ piece ++ drop (512 * at + length piece) bytes
