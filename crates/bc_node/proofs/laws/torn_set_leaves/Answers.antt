use Rattle.bc_node.proofs.Further.{torn_left}
use Rattle.bc_node.proofs.laws.torn_set_leaves.Goals as goal

pub returns : goal.returns
returns c = λ g word kind at taken seq a b s ss more bytes before. torn_left g word kind at taken seq a b s ss more bytes before
