use Rattle.bc_seats.proofs.Knowing.{waited}
use Rattle.bc_seats.proofs.laws.law_waited.Goals as goal

pub returns : goal.returns
returns g c = waited g.M.Machine
