use Rattle.bc_sealing.proofs.Ring.{law_ring}
use Rattle.bc_sealing.proofs.laws.law_ring.Goals as goal

pub returns : goal.returns
returns c = law_ring
