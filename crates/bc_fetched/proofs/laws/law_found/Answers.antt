use Rattle.bc_fetched.proofs.Law.{law_found}
use Rattle.bc_fetched.proofs.laws.law_found.Goals as goal

pub returns : goal.returns
returns c = law_found
