use Rattle.bc_always.proofs.Crash.{law_clean}
use Rattle.bc_always.proofs.laws.law_clean.Goals as goal

pub returns : goal.returns
returns c = law_clean
