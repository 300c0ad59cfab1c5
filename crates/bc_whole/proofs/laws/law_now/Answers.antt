use Rattle.bc_whole.proofs.Crash.{law_now}
use Rattle.bc_whole.proofs.laws.law_now.Goals as goal

pub returns : goal.returns
returns c = law_now
