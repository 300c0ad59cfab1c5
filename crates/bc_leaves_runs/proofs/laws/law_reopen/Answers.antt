use Rattle.bc_leaves_runs.proofs.Reopen as proof
use Rattle.bc_leaves_runs.proofs.laws.law_reopen.Goals as goal

pub returns : goal.returns
returns c = proof.law_reopen
