use Rattle.bc_keyed.proofs.Nowhere.{law_nowhere}
use Rattle.bc_keyed.proofs.laws.law_nowhere.Goals as goal

pub returns : goal.returns
returns c = law_nowhere
