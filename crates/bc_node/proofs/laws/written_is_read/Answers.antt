use Rattle.bc_node.proofs.Written.{found_written, first_written}
use Rattle.bc_node.proofs.laws.written_is_read.Goals as goal

pub returns : goal.returns
returns c = record { found = found_written; first = first_written }
