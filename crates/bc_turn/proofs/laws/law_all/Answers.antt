use Rattle.bc_turn.proofs.Told.{law_all}
use Rattle.bc_turn.proofs.laws.law_all.Goals as goal

pub returns : goal.returns
returns c = law_all
