use Rattle.bc_jset.proofs.Ring.{next_exists, one_next, greatest_above, greatest_found}
use Rattle.bc_jset.proofs.laws.ring_goes_on.Goals as goal

pub returns-clause-some : goal.returns-clause-some
returns-clause-some c = next_exists

pub returns-clause-one : goal.returns-clause-one
returns-clause-one c = one_next

pub returns-clause-greatest : goal.returns-clause-greatest
returns-clause-greatest c = greatest_above

pub returns-clause-found : goal.returns-clause-found
returns-clause-found c = greatest_found
