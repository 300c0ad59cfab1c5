use Rattle.bc_seats.proofs.Knowing.{committed}
use Rattle.bc_seats.proofs.laws.law_committed.Goals as goal

pub returns : goal.returns
returns g c = committed g.M.Machine
