use Rattle.bc_sealing.proofs.Read.{law_read}
use Rattle.bc_sealing.proofs.laws.law_read.Goals as goal

pub returns : goal.returns
returns c = law_read
