use Rattle.bc_chosen.proofs.Marks.{law_marks}
use Rattle.bc_chosen.proofs.laws.law_marks.Goals as goal

pub returns : goal.returns
returns c = law_marks
