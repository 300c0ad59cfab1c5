use Rattle.bc_rounds.proofs.Rounds.{law_ended}
use Rattle.bc_rounds.proofs.laws.law_ended.Goals as goal

pub returns : goal.returns
returns c = law_ended
