use Rattle.bc_grouped.proofs.Grouped.{law_made}
use Rattle.bc_grouped.proofs.laws.law_made.Goals as goal

pub returns : goal.returns
returns c = law_made
