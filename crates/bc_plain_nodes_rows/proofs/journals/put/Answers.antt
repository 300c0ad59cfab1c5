use Rattle.std.proofs.Common.{arith}
use Rattle.bc_plain_nodes_rows.proofs.journals.put.Goals as goal

pub write-requires : goal.write-requires
write-requires g c = record { on_disk = (1, omega arith, omega (arith, c.requires), omega arith) }
