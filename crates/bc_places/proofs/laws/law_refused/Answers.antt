use Rattle.bc_places.proofs.Others.{law_refused}
use Rattle.bc_places.proofs.laws.law_refused.Goals as goal

pub returns : goal.returns
returns c = law_refused
