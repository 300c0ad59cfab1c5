use Rattle.bc_known.proofs.Law.{law_crash}
use Rattle.bc_known.proofs.laws.law_crash.Goals as goal

pub returns : goal.returns
returns c = law_crash
