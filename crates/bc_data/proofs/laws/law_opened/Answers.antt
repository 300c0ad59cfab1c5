use Rattle.bc_data.proofs.Opening.{law_opened}
use Rattle.bc_data.proofs.laws.law_opened.Goals as goal

pub returns : goal.returns
returns c = law_opened
