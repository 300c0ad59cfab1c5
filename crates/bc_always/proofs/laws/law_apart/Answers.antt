use Rattle.bc_always.proofs.Claims.{law_apart}
use Rattle.bc_always.proofs.laws.law_apart.Goals as goal

pub returns : goal.returns
returns c = law_apart
