use Rattle.bc_remains.proofs.Apart as apart
use Rattle.bc_remains.proofs.laws.law_apart.Goals as goal

pub returns : goal.returns
returns c = apart.law_apart
