use Rattle.bc_chosen.proofs.Waiting.{law_waiting}
use Rattle.bc_chosen.proofs.laws.law_waiting.Goals as goal

pub returns : goal.returns
returns c = law_waiting
