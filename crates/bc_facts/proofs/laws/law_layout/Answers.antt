use Rattle.bc_facts.proofs.Made as made
use Rattle.bc_facts.proofs.laws.law_layout.Goals as goal

pub returns : goal.returns
returns c = made.law_layout
