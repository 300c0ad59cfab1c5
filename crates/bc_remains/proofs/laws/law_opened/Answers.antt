use Rattle.bc_remains.proofs.Fresh as fresh
use Rattle.bc_remains.proofs.Next as next
use Rattle.bc_remains.proofs.Open as open_
use Rattle.bc_remains.proofs.laws.law_opened.Goals as goal

pub returns-clause-opened : goal.returns-clause-opened
returns-clause-opened c = open_.law_opened

pub returns-clause-one : goal.returns-clause-one
returns-clause-one c = next.law_one

pub returns-clause-formatted : goal.returns-clause-formatted
returns-clause-formatted c = fresh.law_formatted
