use Rattle.bc_needs.proofs.Lasting.{law_lasts}
use Rattle.bc_needs.proofs.laws.law_lasts.Goals as goal

pub returns : goal.returns
returns c = law_lasts
