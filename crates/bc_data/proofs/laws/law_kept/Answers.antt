use Rattle.bc_data.proofs.Opening.{law_kept}
use Rattle.bc_data.proofs.laws.law_kept.Goals as goal

pub returns : goal.returns
returns c = law_kept
