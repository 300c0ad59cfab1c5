use Rattle.bc_rounds.proofs.Unseen.{law_unseen}
use Rattle.bc_rounds.proofs.laws.law_unseen.Goals as goal

pub returns : goal.returns
returns c = law_unseen
