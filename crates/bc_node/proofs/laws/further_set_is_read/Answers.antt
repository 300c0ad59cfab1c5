use Rattle.bc_node.proofs.Further.{further_read}
use Rattle.bc_node.proofs.laws.further_set_is_read.Goals as goal

pub returns : goal.returns
returns c = λ g word kind at taken seq a b s ss more bytes before. further_read g word kind at taken seq a b s ss more bytes before
