use Rattle.std.proofs.Common.{refl}
use Rattle.bc_script.specs.Generator.{next_drawn, drawn, drawn_line, generated}
use Rattle.bc_script.proofs.laws.generated_example.Goals as goal

pub returns-clause-numbers : goal.returns-clause-numbers
unfolding next_drawn drawn
returns-clause-numbers c = refl

pub returns-clause-lines : goal.returns-clause-lines
unfolding next_drawn drawn drawn_line generated
returns-clause-lines c = refl
