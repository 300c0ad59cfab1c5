use Rattle.bc_sound_reads.proofs.Whole.{law_not_refused}
use Rattle.bc_sound_reads.proofs.laws.law_not_refused.Goals as goal

pub returns : goal.returns
returns g c = law_not_refused g.C.Disk.facts g.B.Disk.facts
