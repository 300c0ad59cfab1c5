use Rattle.bc_image.proofs.Lacks.{has_all, lacks_only}
use Rattle.bc_image.proofs.laws.each_part_counts.Goals as goal

pub returns-clause-all : goal.returns-clause-all
returns-clause-all c = has_all

pub returns-clause-alone : goal.returns-clause-alone
returns-clause-alone c = lacks_only
