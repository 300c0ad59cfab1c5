use Rattle.std.proofs.Common.{refl, arith}
use Rattle.bc_file.proofs.tests.get.Goals as goal

pub read-requires : goal.read-requires
read-requires g c = record { on_disk = (1, omega arith, refl, omega arith) }
