-- Where a sector's data lies.
use Rattle.std.specs.Prelude.{ℕ, Option, None, Some, if◌then◌else◌}
use Rattle.bc_disk.specs.Gens.{Gens}
use Rattle.bc_disk.specs.declared.geometry.Geometry.{Geometry}
use Rattle.bc_key.specs.declared.key.Key.{Key}
use Rattle.bc_key.specs.Key.{place_at}
use Rattle.bc_image.specs.Shown.{is_live}

-- where a sector with this key lies on the cache device, if its data is there
abbrev pub live_place : Geometry → Gens → Option Key → ℕ → Option ℕ
live_place g gens None sector = None
live_place g gens (Some key) sector = if is_live g gens key then Some (place_at key 0 sector) else None
