-- The place behind the newest entry.
use Rattle.std.specs.Prelude.{◌≡◌, ℕ, ◌+◌, ◌-◌, ◌*◌, ◌%◌, ◌<◌, ◌≤◌}
use Rattle.bc_disk.specs.declared.geometry.Geometry.{Geometry}
use Rattle.bc_journal.specs.Ring.{IsPlace}
use Rattle.bc_journal.specs.declared.place.Place.{Place}

-- a sector is one at a block of a journal bucket, or the one behind it
pub record LiesInRing (g : Geometry) (bucket sector : ℕ) : Type 0 where
  pub first : g.first_bucket ≤ bucket
  pub last : bucket < g.first_bucket + g.journal
  pub from : g.bucket * bucket ≤ sector
  pub to : sector ≤ g.bucket * bucket + g.bucket
  pub block : (sector - g.bucket * bucket) % g.block ≡ 0

-- the place is that one
pub record IsAt (g : Geometry) (bucket sector : ℕ) (place : Place) : Type 0 where
  pub proper : IsPlace g place
  pub bucket_is : g.first_bucket + place.bucket ≡ bucket
  pub sector_is : g.bucket * bucket + place.sector ≡ sector
