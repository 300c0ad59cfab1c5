use Rattle.bc_always.proofs.Claims.{law_alone}
use Rattle.bc_always.proofs.laws.law_alone.Goals as goal

pub returns : goal.returns
returns c = law_alone
