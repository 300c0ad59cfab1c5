use Rattle.bc_super.proofs.Standing.{stored_stands, failed_stands}
use Rattle.bc_super.proofs.laws.writing_stands.Goals as goal

pub returns-clause-stored : goal.returns-clause-stored
returns-clause-stored g c = λ old new model at values stands. stored_stands (g.D.Disk.facts old) (g.D.Disk.facts new) model at values stands

pub returns-clause-failed : goal.returns-clause-failed
returns-clause-failed g c = λ old new model at values k stands. failed_stands (g.D.Disk.facts old) (g.D.Disk.facts new) model at values stands k
