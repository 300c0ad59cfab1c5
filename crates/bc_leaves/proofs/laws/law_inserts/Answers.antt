use Rattle.bc_leaves.proofs.Frame as proof
use Rattle.bc_leaves.proofs.laws.law_inserts.Goals as goal

pub returns : goal.returns
returns c = proof.law_inserts
