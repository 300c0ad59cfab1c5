use Rattle.bc_script.proofs.Marks.{one_more}
use Rattle.bc_script.proofs.laws.served_grows.Goals as goal

pub returns-clause-more : goal.returns-clause-more
returns-clause-more c = λ size lines answers history own line answer. one_more size lines answers history own line answer
