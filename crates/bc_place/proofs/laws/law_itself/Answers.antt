use Rattle.bc_place.proofs.Keeping.{law_own_kept, law_written_kept}
use Rattle.bc_place.proofs.laws.law_itself.Goals as goal

pub returns-clause-own : goal.returns-clause-own
returns-clause-own c = law_own_kept

pub returns-clause-written : goal.returns-clause-written
returns-clause-written c = law_written_kept
