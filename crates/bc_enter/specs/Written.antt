-- What a device has once an entry was written to it, or a call for it failed.
use Rattle.std.specs.Prelude.{◌≡◌, ◌⊎◌, ℕ, List}
use Rattle.bc_model.specs.Sector.{Image, Value}
use Rattle.bc_disk.specs.Disk.{BothTold, DiskFacts, IfTold, Torn}

-- The values stand there, or some of them: no other sector was written. A crash leaves what it might
-- have left before, or some of the values over what the device held before: what it held is stable
-- before any of them is written.
pub record IsPartly (at : ℕ) (values : List Value) (old new : DiskFacts) : Type 0 where
  pub sectors : new.sectors ≡ old.sectors
  pub holds : BothTold (Torn at values) old.holds new.holds
  pub leaves : IfTold old.holds (λ held. (image : Image) → new.may_leave image
      → old.may_leave image ⊎ Torn at values held image)
