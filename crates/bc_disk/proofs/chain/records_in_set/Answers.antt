use Rattle.std.proofs.Common.{◌*◌, ◌-◌, ◌/◌, ap}
use Rattle.bc_disk.specs.Chain.{records_in_set}
use Rattle.bc_disk.proofs.chain.records_in_set.Goals as goal

pub returns : goal.returns
unfolding records_in_set
returns c = ap (λ n. (512 * n - 40) / 3) c.from.ensures
