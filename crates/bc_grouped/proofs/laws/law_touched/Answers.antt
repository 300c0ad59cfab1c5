use Rattle.bc_grouped.proofs.Touched.{law_touched}
use Rattle.bc_grouped.proofs.laws.law_touched.Goals as goal

pub returns : goal.returns
returns c = law_touched
