use Rattle.bc_prio.proofs.Unique.{one_chain}
use Rattle.bc_prio.proofs.laws.one_chain.Goals as goal

pub returns : goal.returns
returns g c = λ geometry d image first a b told. one_chain geometry (g.D.Disk.facts d) image first a b told
