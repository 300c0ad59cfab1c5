use Rattle.bc_looks.proofs.Law.{law_ages}
use Rattle.bc_looks.proofs.laws.law_ages.Goals as goal

pub returns : goal.returns
returns c = law_ages
