use Rattle.bc_holds.proofs.Law.{law_held}
use Rattle.bc_holds.proofs.laws.law_held.Goals as goal

pub returns : goal.returns
returns c = law_held
