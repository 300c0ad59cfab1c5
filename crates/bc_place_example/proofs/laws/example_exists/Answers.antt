use Rattle.bc_place_example.proofs.Example.{has_example}
use Rattle.bc_place_example.proofs.laws.example_exists.Goals as goal

pub returns : goal.returns
returns c = has_example
