use Rattle.bc_fetched.proofs.Law.{law_fetched}
use Rattle.bc_fetched.proofs.laws.law_fetched.Goals as goal

pub returns : goal.returns
returns c = law_fetched
