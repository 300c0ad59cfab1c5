use Rattle.bc_refusals.proofs.Still.{law_reads}
use Rattle.bc_refusals.proofs.laws.law_reads.Goals as goal

pub returns : goal.returns
returns c = law_reads
