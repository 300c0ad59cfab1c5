use Rattle.bc_data.proofs.Opening.{law_now}
use Rattle.bc_data.proofs.laws.law_now.Goals as goal

pub returns : goal.returns
returns c = law_now
