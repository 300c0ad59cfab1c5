use Rattle.bc_reads.proofs.Still.{law_points}
use Rattle.bc_reads.proofs.laws.law_points.Goals as goal

pub returns : goal.returns
returns c = law_points
