use Rattle.bc_slots.proofs.Leaves.{none_opened}
use Rattle.bc_slots.proofs.laws.no_leaf_is_read_without_keys.Goals as goal

pub returns : goal.returns
returns g c = none_opened (g.C.Disk.facts c.args._cache.now)
