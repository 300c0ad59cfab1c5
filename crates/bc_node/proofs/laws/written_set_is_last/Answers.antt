use Rattle.bc_node.proofs.Rows.{sets_written}
use Rattle.bc_node.proofs.laws.written_set_is_last.Goals as goal

pub returns : goal.returns
returns c = sets_written
