-- What the model of a device may read, what may stay, and the model that a disk begins with.
use Rattle.std.specs.Prelude.{ℕ, List, Option, Some, None, option_map}
use Rattle.bc_model.specs.Sector.{Value, Gives}
use Rattle.bc_disk.specs.Device.{Among, Content, DeviceModel, quiet}
use Rattle.bc_disk.specs.Disk.{DiskFacts}

-- what a read may give, a crash may leave
abbrev pub MayStay : Content → Type 0
MayStay c = (s : ℕ) (v : Value) → Among v (c.reads s) → Among v (c.leaves s)

-- each value of the run is one that the model reads there, where it tells it
abbrev pub MayRead : ℕ → List Value → Option Content → Type 0
MayRead at values None = Unit {0}
MayRead at values (Some c) = Gives at values (λ s v. Among v (c.reads s))

-- the model of a disk of which a crash leaves exactly what it holds
abbrev pub settled_model : DiskFacts → DeviceModel
settled_model d = record { sectors = d.sectors; content = option_map quiet d.holds; calls = d.calls; faults = d.faults }
