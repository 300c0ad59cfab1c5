use Rattle.bc_firm.proofs.Lasting as known
use Rattle.bc_firm.proofs.laws.law_count.Goals as goal

pub returns : goal.returns
returns c = known.law_count
