use Rattle.bc_known_example.proofs.Opened.{has_opening}
use Rattle.bc_known_example.proofs.laws.opening_exists.Goals as goal

pub returns : goal.returns
returns c = has_opening
