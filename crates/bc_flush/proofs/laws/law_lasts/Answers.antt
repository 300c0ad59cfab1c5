use Rattle.bc_flush.proofs.Putting.{law_lasts}
use Rattle.bc_flush.proofs.laws.law_lasts.Goals as goal

pub returns : goal.returns
returns c = law_lasts
