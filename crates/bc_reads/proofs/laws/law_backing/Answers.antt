use Rattle.bc_reads.proofs.Still.{law_backing}
use Rattle.bc_reads.proofs.laws.law_backing.Goals as goal

pub returns : goal.returns
returns c = law_backing
