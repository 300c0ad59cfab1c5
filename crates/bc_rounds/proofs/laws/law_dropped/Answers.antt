use Rattle.bc_rounds.proofs.Rounds.{law_dropped}
use Rattle.bc_rounds.proofs.laws.law_dropped.Goals as goal

pub returns : goal.returns
returns c = law_dropped
