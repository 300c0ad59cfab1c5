use Rattle.bc_keyed.proofs.Came.{law_came}
use Rattle.bc_keyed.proofs.laws.law_came.Goals as goal

pub returns : goal.returns
returns c = law_came
