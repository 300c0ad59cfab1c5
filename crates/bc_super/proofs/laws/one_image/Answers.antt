use Rattle.bc_super.proofs.Told.{same_bytes}
use Rattle.bc_super.proofs.laws.one_image.Goals as goal

pub returns : goal.returns
returns g c = λ d held. same_bytes (g.D.Disk.facts d) held
