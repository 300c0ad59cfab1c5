use Rattle.bc_held.proofs.Keeping.{law_held}
use Rattle.bc_held.proofs.laws.law_others.Goals as goal

pub returns : goal.returns
returns c = law_held
