use Rattle.bc_made_example.proofs.Insert.{law_insert}
use Rattle.bc_made_example.proofs.laws.law_insert.Goals as goal

pub returns : goal.returns
returns c = law_insert
