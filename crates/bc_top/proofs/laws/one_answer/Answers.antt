use Rattle.std.proofs.Common.{inr, refl}
use Rattle.bc_top.proofs.Judging.{same_answer, unserved_none}
use Rattle.bc_top.proofs.laws.one_answer.Goals as goal

pub returns-clause-one : goal.returns-clause-one
returns-clause-one c = same_answer

pub returns-clause-unserved : goal.returns-clause-unserved
returns-clause-unserved c = λ p. (unserved_none p, λ none. inr (none, refl))
