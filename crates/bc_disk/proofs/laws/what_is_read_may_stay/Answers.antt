use Rattle.bc_model.specs.Sector.{at_run}
use Rattle.bc_disk.proofs.Amongs.{instead_stays, besides_stays}
use Rattle.bc_disk.proofs.laws.what_is_read_may_stay.Goals as goal

pub returns-clause-written : goal.returns-clause-written
returns-clause-written c = λ d at values stays s v. instead_stays (at_run at values s) v (d.reads s) (d.leaves s) (stays s v)

pub returns-clause-failed : goal.returns-clause-failed
returns-clause-failed c = λ d at values stays s v. besides_stays (at_run at values s) v (d.reads s) (d.leaves s) (stays s v)
