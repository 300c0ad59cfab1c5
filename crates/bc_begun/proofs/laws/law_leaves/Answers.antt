use Rattle.bc_begun.proofs.Leaves.{law_leaves}
use Rattle.bc_begun.proofs.laws.law_leaves.Goals as goal

pub returns : goal.returns
returns g c = law_leaves (g.C.Disk.facts c.args._cache.now)
