use Rattle.bc_leaves.proofs.Law as proof
use Rattle.bc_leaves.proofs.laws.law_joint.Goals as goal

pub returns : goal.returns
returns c = proof.law_joint
