use Rattle.bc_leaves_runs.proofs.Example as proof
use Rattle.bc_leaves_runs.proofs.laws.example_exists.Goals as goal

pub returns : goal.returns
returns c = proof.has_example
