use Rattle.bc_seats.proofs.Knowing.{both}
use Rattle.bc_seats.proofs.laws.law_both.Goals as goal

pub returns : goal.returns
returns g c = both g.M.Machine
