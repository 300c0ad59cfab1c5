use Rattle.std.proofs.Common.{IsTrue}
use Rattle.std.specs.Prelude.{◌↔◌}
use Rattle.bc_disk.specs.Bytes.{image_of}
use Rattle.bc_plain.specs.PlainDevice.{content_of, AmongBelow}
use Rattle.bc_plain.proofs.device.PlainDevice.may_read.Given as goal

abbrev pub invariant-loop-sector : goal.invariant-loop-sector
invariant-loop-sector l = IsTrue l.may ↔ AmongBelow l.sector (image_of l.image) (content_of l.slot-items).reads
