use Rattle.std.proofs.Common.{take, IsTrue}
use Rattle.std.specs.Prelude.{◌↔◌}
use Rattle.bc_disk.specs.Device.{Among}
use Rattle.bc_plain.proofs.slot.is_among.Given as goal

abbrev pub invariant-loop-other : goal.invariant-loop-other
invariant-loop-other l = IsTrue l.found ↔ Among l.value (take l.other-index l.values)
