use Rattle.bc_always.proofs.Claims.{law_claims}
use Rattle.bc_always.proofs.laws.law_claims.Goals as goal

pub returns : goal.returns
returns c = law_claims
