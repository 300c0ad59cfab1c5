use Rattle.bc_remains.proofs.Example.{has_example}
use Rattle.bc_remains.proofs.laws.example.Goals as goal

pub returns : goal.returns
returns c = has_example
