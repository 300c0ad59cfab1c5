use Rattle.bc_sealing.proofs.Ring.{law_places}
use Rattle.bc_sealing.proofs.laws.law_places.Goals as goal

pub returns : goal.returns
returns c = law_places
