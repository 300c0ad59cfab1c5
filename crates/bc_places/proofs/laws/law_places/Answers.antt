use Rattle.bc_places.proofs.Events.{law_places}
use Rattle.bc_places.proofs.laws.law_places.Goals as goal

pub returns : goal.returns
returns c = law_places
