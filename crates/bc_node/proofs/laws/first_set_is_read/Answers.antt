use Rattle.bc_node.proofs.Further.{first_read}
use Rattle.bc_node.proofs.laws.first_set_is_read.Goals as goal

pub returns : goal.returns
returns c = first_read
