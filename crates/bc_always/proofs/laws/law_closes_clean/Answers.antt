use Rattle.bc_always.proofs.Crash.{law_closes_clean}
use Rattle.bc_always.proofs.laws.law_closes_clean.Goals as goal

pub returns : goal.returns
returns c = law_closes_clean
