use Rattle.bc_model.proofs.Floors.{forced_covered}
use Rattle.bc_model.proofs.laws.forced_write_covers.Goals as goal

pub returns : goal.returns
returns c = forced_covered
