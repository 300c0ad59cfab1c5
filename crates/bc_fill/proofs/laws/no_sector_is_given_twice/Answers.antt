use Rattle.bc_fill.proofs.Listed.{apart, begins, more, opened}
use Rattle.bc_fill.proofs.laws.no_sector_is_given_twice.Goals as goal

pub returns-clause-apart : goal.returns-clause-apart
returns-clause-apart c = apart

pub returns-clause-more : goal.returns-clause-more
returns-clause-more c = more

pub returns-clause-opened : goal.returns-clause-opened
returns-clause-opened c = opened

pub returns-clause-begins : goal.returns-clause-begins
returns-clause-begins c = begins
