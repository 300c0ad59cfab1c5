use Rattle.bc_grouped.proofs.Grouped.{law_unmade}
use Rattle.bc_grouped.proofs.laws.law_unmade.Goals as goal

pub returns : goal.returns
returns c = law_unmade
