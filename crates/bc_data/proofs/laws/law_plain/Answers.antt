use Rattle.bc_data.proofs.Plain.{law_plain}
use Rattle.bc_data.proofs.laws.law_plain.Goals as goal

pub returns : goal.returns
returns c = law_plain
