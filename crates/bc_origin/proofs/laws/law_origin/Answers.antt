use Rattle.bc_origin.proofs.Law.{law_origin}
use Rattle.bc_origin.proofs.laws.law_origin.Goals as goal

pub returns : goal.returns
returns c = law_origin
