use Rattle.bc_refusals.proofs.Begun.{law_begun}
use Rattle.bc_refusals.proofs.laws.law_begun.Goals as goal

pub returns : goal.returns
returns g c = law_begun (g.C.Disk.facts c.args._cache.now)
