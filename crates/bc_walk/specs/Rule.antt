-- By what the keys of data are judged.
use Rattle.std.specs.Prelude.{ℕ}
use Rattle.bc_disk.specs.declared.geometry.Geometry.{Geometry}

-- how the cache device is divided, and how many sectors of data the backing device has
pub record Rule : Type 0 where
  pub geometry : Geometry
  pub size : ℕ
