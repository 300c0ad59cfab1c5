use Rattle.bc_places.proofs.Others.{law_kept}
use Rattle.bc_places.proofs.laws.law_kept.Goals as goal

pub returns : goal.returns
returns c = law_kept
