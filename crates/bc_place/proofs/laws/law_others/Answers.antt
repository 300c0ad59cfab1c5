use Rattle.bc_place.proofs.Going.{law_own}
use Rattle.bc_place.proofs.Keeping.{law_written}
use Rattle.bc_place.proofs.laws.law_others.Goals as goal

pub returns-clause-own : goal.returns-clause-own
returns-clause-own c = law_own

pub returns-clause-written : goal.returns-clause-written
returns-clause-written c = law_written
