use Rattle.bc_whole.proofs.Failed.{has_example}
use Rattle.bc_whole.proofs.laws.example_exists.Goals as goal

pub returns : goal.returns
returns c = has_example
