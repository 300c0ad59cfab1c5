use Rattle.bc_crash.proofs.Survive.{law_opened}
use Rattle.bc_crash.proofs.laws.law_opened.Goals as goal

pub returns : goal.returns
returns c = law_opened
