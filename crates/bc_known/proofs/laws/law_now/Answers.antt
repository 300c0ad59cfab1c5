use Rattle.bc_known.proofs.Law.{law_now}
use Rattle.bc_known.proofs.laws.law_now.Goals as goal

pub returns : goal.returns
returns c = law_now
