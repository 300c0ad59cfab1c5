use Rattle.bc_check.proofs.Anew.{anew, example}
use Rattle.bc_check.proofs.Through.{passes_through}
use Rattle.bc_check.proofs.laws.verdicts_hold.Goals as goal

pub returns-clause-anew : goal.returns-clause-anew
returns-clause-anew c = anew

pub returns-clause-new_example : goal.returns-clause-new_example
returns-clause-new_example c = example

pub returns-clause-through_example : goal.returns-clause-through_example
returns-clause-through_example c = passes_through

pub returns-clause-through : goal.returns-clause-through
returns-clause-through c = λ p b has alone. (b, has, alone)
