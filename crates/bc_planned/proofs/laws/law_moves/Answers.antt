use Rattle.bc_planned.proofs.Placing.{law_moves}
use Rattle.bc_planned.proofs.laws.law_moves.Goals as goal

pub returns : goal.returns
returns c = law_moves
