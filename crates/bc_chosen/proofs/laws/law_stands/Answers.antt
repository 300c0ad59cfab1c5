use Rattle.bc_chosen.proofs.Parts.{law_stands}
use Rattle.bc_chosen.proofs.laws.law_stands.Goals as goal

pub returns : goal.returns
returns c = law_stands
