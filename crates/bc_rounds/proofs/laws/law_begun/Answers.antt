use Rattle.bc_rounds.proofs.Rounds.{law_begun}
use Rattle.bc_rounds.proofs.laws.law_begun.Goals as goal

pub returns : goal.returns
returns c = law_begun
