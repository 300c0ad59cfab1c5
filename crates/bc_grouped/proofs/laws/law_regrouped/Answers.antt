use Rattle.bc_grouped.proofs.Grouped.{law_regrouped}
use Rattle.bc_grouped.proofs.laws.law_regrouped.Goals as goal

pub returns : goal.returns
returns c = law_regrouped
