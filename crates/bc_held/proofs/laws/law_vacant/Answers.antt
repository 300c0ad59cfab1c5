use Rattle.bc_held.proofs.Keeping.{law_vacant}
use Rattle.bc_held.proofs.laws.law_vacant.Goals as goal

pub returns : goal.returns
returns c = law_vacant
