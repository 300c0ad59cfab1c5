use Rattle.bc_always.proofs.Claims.{law_two_seats}
use Rattle.bc_always.proofs.laws.law_two_seats.Goals as goal

pub returns : goal.returns
returns c = law_two_seats
