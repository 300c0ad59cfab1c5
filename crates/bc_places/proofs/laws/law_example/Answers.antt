use Rattle.bc_places.proofs.Small.{law_example}
use Rattle.bc_places.proofs.laws.law_example.Goals as goal

pub returns : goal.returns
returns c = law_example
