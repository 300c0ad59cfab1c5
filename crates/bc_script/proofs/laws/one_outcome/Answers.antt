use Rattle.bc_model.proofs.Orders.{legal_agrees}
use Rattle.bc_script.proofs.Marks.{one_by_one}
use Rattle.bc_script.proofs.Outcomes.{outcome_from}
use Rattle.bc_script.proofs.laws.one_outcome.Goals as goal

pub returns : goal.returns
returns c = λ size worker opening lines answers history one served legal all.
    outcome_from size 1 lines answers history opening (one_by_one size worker lines answers history one served) ((legal_agrees opening history).1 legal) all
