use Rattle.bc_slots.proofs.Leaves.{each_has_one, no_other}
use Rattle.bc_slots.proofs.laws.each_leaf_with_keys_is_in_one_slot.Goals as goal

pub returns-clause-one : goal.returns-clause-one
returns-clause-one g c = each_has_one (g.C.Disk.facts c.args._cache.now)

pub returns-clause-no_other : goal.returns-clause-no_other
returns-clause-no_other g c = no_other (g.C.Disk.facts c.args._cache.now)
