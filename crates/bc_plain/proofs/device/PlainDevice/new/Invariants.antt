use Rattle.bc_disk.specs.Bytes.{image_of}
use Rattle.bc_plain.specs.PlainDevice.{quiet_choices}
use Rattle.bc_plain.proofs.Devices.{IsMade}
use Rattle.bc_plain.proofs.device.PlainDevice.new.Given as goal

abbrev pub invariant-loop-sector : goal.invariant-loop-sector
invariant-loop-sector l = IsMade (λ s. quiet_choices (image_of l.bytes s)) l.sector l.slots.items
