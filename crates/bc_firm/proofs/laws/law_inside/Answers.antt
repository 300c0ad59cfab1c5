use Rattle.bc_firm.proofs.Within as known
use Rattle.bc_firm.proofs.laws.law_inside.Goals as goal

pub returns : goal.returns
returns c = known.law_inside
