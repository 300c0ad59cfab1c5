use Rattle.bc_places.proofs.Others.{law_begins}
use Rattle.bc_places.proofs.laws.law_begins.Goals as goal

pub returns : goal.returns
returns c = law_begins
