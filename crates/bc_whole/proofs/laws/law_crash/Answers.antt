use Rattle.bc_whole.proofs.Crash.{law_crash}
use Rattle.bc_whole.proofs.laws.law_crash.Goals as goal

pub returns : goal.returns
returns c = law_crash
