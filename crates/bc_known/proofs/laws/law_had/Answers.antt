use Rattle.bc_known.proofs.Collect.{law_had}
use Rattle.bc_known.proofs.laws.law_had.Goals as goal

pub returns : goal.returns
returns c = law_had
