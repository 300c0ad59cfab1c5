use Rattle.bc_made_example.proofs.Insert.{has_insert}
use Rattle.bc_made_example.proofs.laws.insert_exists.Goals as goal

pub returns : goal.returns
returns c = has_insert
