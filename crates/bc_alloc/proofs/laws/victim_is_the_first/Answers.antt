use Rattle.bc_alloc.proofs.Next.{next_one, no_next}
use Rattle.bc_alloc.proofs.laws.victim_is_the_first.Goals as goal

pub returns-clause-first : goal.returns-clause-first
returns-clause-first c = next_one

pub returns-clause-none : goal.returns-clause-none
returns-clause-none c = no_next
