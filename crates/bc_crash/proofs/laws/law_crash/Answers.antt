use Rattle.bc_crash.proofs.Survive.{law_crash}
use Rattle.bc_crash.proofs.laws.law_crash.Goals as goal

pub returns : goal.returns
returns c = law_crash
