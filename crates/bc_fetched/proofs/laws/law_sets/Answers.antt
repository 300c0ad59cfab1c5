use Rattle.bc_fetched.proofs.Law.{law_sets}
use Rattle.bc_fetched.proofs.laws.law_sets.Goals as goal

pub returns : goal.returns
returns c = law_sets
