use Rattle.bc_crash.proofs.Survive.{law_kept}
use Rattle.bc_crash.proofs.laws.law_kept.Goals as goal

pub returns : goal.returns
returns c = law_kept
