use Rattle.std.proofs.Common.{◌≡◌}
use Rattle.bc_disk.specs.Bytes.{image_of}
use Rattle.bc_record.specs.Sectors.{bytes_in}
use Rattle.bc_plain_pair.proofs.bytes.bytes_in.Given as goal

abbrev pub invariant-loop-i : goal.invariant-loop-i
invariant-loop-i l = l.all.items ≡ bytes_in (image_of l.bytes) l.place l.i
