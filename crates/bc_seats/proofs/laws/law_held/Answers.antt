use Rattle.bc_seats.proofs.Knowing.{held}
use Rattle.bc_seats.proofs.laws.law_held.Goals as goal

pub returns : goal.returns
returns g c = held g.M.Machine g.met.M.Machine.frame
