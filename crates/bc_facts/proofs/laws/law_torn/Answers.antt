use Rattle.bc_facts.proofs.Torn.{no_chance}
use Rattle.bc_facts.proofs.laws.law_torn.Goals as goal

pub returns : goal.returns
returns c = no_chance
