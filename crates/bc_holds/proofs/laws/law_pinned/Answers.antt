use Rattle.bc_holds.proofs.Law.{law_pinned}
use Rattle.bc_holds.proofs.laws.law_pinned.Goals as goal

pub returns : goal.returns
returns c = law_pinned
