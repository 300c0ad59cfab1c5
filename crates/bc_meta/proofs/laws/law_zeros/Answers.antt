use Rattle.bc_meta.proofs.Acts as acts
use Rattle.bc_meta.proofs.laws.law_zeros.Goals as goal

pub returns : goal.returns
returns c = acts.law_zeros
