use Rattle.bc_places.proofs.Steps.{law_steps}
use Rattle.bc_places.proofs.laws.law_steps.Goals as goal

pub returns : goal.returns
returns c = law_steps
