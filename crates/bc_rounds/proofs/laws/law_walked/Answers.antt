use Rattle.bc_rounds.proofs.Rounds.{law_walked}
use Rattle.bc_rounds.proofs.laws.law_walked.Goals as goal

pub returns : goal.returns
returns c = law_walked
