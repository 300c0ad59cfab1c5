use Rattle.bc_known_example.proofs.Ended.{has_example}
use Rattle.bc_known_example.proofs.laws.example_exists.Goals as goal

pub returns : goal.returns
returns c = has_example
