use Rattle.bc_slots.proofs.Leaves.{four_more, last_four_empty, some_can_go}
use Rattle.bc_slots.proofs.laws.another_leaf_finds_a_slot.Goals as goal

pub returns-clause-slots : goal.returns-clause-slots
returns-clause-slots g c = four_more (g.C.Disk.facts c.args._cache.now)

pub returns-clause-empty : goal.returns-clause-empty
returns-clause-empty g c = last_four_empty (g.C.Disk.facts c.args._cache.now)

pub returns-clause-some : goal.returns-clause-some
returns-clause-some g c = some_can_go (g.C.Disk.facts c.args._cache.now)
