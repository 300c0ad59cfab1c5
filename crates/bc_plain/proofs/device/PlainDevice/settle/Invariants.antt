use Rattle.bc_plain.specs.PlainDevice.{choices_at, settled_choices}
use Rattle.bc_plain.proofs.Devices.{IsMade}
use Rattle.bc_plain.proofs.device.PlainDevice.settle.Given as goal

abbrev pub invariant-loop-slot : goal.invariant-loop-slot
invariant-loop-slot l = IsMade (λ s. settled_choices (choices_at l.slot-items s)) l.slot-index l.slots.items
