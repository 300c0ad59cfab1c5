use Rattle.std.proofs.Common.{arith}
use Rattle.bc_record_rows.proofs.priorities.change_set.Goals as goal

pub read-requires : goal.read-requires
read-requires g c = record { on_disk = (64, omega arith, omega arith, omega arith) }

pub write-requires : goal.write-requires
write-requires g c = record { on_disk = (64, omega arith, omega arith, omega arith) }
