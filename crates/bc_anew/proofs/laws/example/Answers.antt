use Rattle.bc_anew.proofs.Law.{example}
use Rattle.bc_anew.proofs.laws.example.Goals as goal

pub returns : goal.returns
returns c = example
