use Rattle.bc_anew.proofs.Law.{has_opening}
use Rattle.bc_anew.proofs.laws.opening_exists.Goals as goal

pub returns : goal.returns
returns c = has_opening
