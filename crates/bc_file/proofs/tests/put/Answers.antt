use Rattle.std.proofs.Common.{refl, arith}
use Rattle.bc_file.proofs.tests.put.Goals as goal

pub write-requires : goal.write-requires
write-requires g c = record { on_disk = (1, omega arith, refl, omega arith) }
