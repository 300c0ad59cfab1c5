use Rattle.bc_reads.proofs.Still.{law_clean}
use Rattle.bc_reads.proofs.laws.law_clean.Goals as goal

pub returns : goal.returns
returns c = law_clean
