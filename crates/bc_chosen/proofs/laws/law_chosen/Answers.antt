use Rattle.bc_chosen.proofs.Parts.{law_chosen}
use Rattle.bc_chosen.proofs.laws.law_chosen.Goals as goal

pub returns : goal.returns
returns c = law_chosen
