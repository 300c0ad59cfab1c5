use Rattle.std.proofs.Common.{arith}
use Rattle.bc_bytes.proofs.Table.{table_entry}
use Rattle.bc_bytes.proofs.checksum.left_of_byte.Goals as goal

pub returns : goal.returns
returns c = let entry = table_entry c.args.byte (omega arith) in cc
