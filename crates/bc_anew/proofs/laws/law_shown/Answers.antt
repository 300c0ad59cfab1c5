use Rattle.bc_anew.proofs.Law.{law_shown}
use Rattle.bc_anew.proofs.laws.law_shown.Goals as goal

pub returns : goal.returns
returns c = law_shown
