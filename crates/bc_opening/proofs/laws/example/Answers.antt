use Rattle.bc_opening.proofs.Example.{example}
use Rattle.bc_opening.proofs.laws.example.Goals as goal

pub returns : goal.returns
returns c = example
