use Rattle.bc_model.specs.Sector.{at_run}
use Rattle.bc_plain.specs.PlainDevice.{choices_at, written_choices}
use Rattle.bc_plain.proofs.Devices.{IsMade}
use Rattle.bc_plain.proofs.device.PlainDevice.write.Given as goal

abbrev pub invariant-loop-sector : goal.invariant-loop-sector
invariant-loop-sector l = IsMade (λ s. written_choices (at_run l.first l.values s) (choices_at l.slot-items s)) l.sector l.slots.items
