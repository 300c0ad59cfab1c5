use Rattle.bc_firm.proofs.Lasting as known
use Rattle.bc_firm.proofs.laws.law_lasts.Goals as goal

pub returns-clause-lasts : goal.returns-clause-lasts
returns-clause-lasts c = known.law_lasts

pub returns-clause-barrier : goal.returns-clause-barrier
returns-clause-barrier c = known.law_barrier
