use Rattle.bc_rounds.proofs.Rows.{law_row}
use Rattle.bc_rounds.proofs.laws.law_row.Goals as goal

pub returns : goal.returns
returns c = law_row
