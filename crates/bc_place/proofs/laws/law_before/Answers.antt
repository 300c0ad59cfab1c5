use Rattle.bc_place.proofs.Going.{law_before}
use Rattle.bc_place.proofs.laws.law_before.Goals as goal

pub returns : goal.returns
returns c = law_before
