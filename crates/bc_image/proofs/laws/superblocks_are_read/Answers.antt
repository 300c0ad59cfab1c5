use Rattle.bc_image.proofs.Supers.{cache_read, backing_read}
use Rattle.bc_image.proofs.laws.superblocks_are_read.Goals as goal

pub returns-clause-cache : goal.returns-clause-cache
returns-clause-cache g c = λ d. cache_read (g.C.Disk.facts d)

pub returns-clause-backing : goal.returns-clause-backing
returns-clause-backing g c = λ d. backing_read (g.B.Disk.facts d)
