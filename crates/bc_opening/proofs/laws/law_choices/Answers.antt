use Rattle.bc_opening.proofs.Chosen.{law_choices}
use Rattle.bc_opening.proofs.laws.law_choices.Goals as goal

pub returns : goal.returns
returns c = law_choices
