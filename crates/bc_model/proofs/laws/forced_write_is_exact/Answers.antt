use Rattle.bc_model.proofs.Floors.{forced_elsewhere, forced_within}
use Rattle.bc_model.proofs.laws.forced_write_is_exact.Goals as goal

pub returns : goal.returns
returns c = record { elsewhere = forced_elsewhere; within = forced_within }
