use Rattle.bc_sealing.proofs.Acts.{law_acts}
use Rattle.bc_sealing.proofs.laws.law_acts.Goals as goal

pub returns : goal.returns
returns c = law_acts
