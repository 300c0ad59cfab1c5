use Rattle.bc_extent.proofs.Looks.{shows_live}
use Rattle.bc_extent.proofs.laws.live_keys_are_shown.Goals as goal

pub returns : goal.returns
returns c = shows_live
