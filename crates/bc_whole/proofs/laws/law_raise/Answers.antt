use Rattle.bc_whole.proofs.Crash.{law_raise}
use Rattle.bc_whole.proofs.laws.law_raise.Goals as goal

pub returns : goal.returns
returns c = law_raise
