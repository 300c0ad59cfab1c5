use Rattle.bc_opening.proofs.Cut.{law_cut}
use Rattle.bc_opening.proofs.laws.law_cut.Goals as goal

pub returns : goal.returns
returns c = law_cut
