use Rattle.bc_books.proofs.Safety.{law_raise}
use Rattle.bc_books.proofs.laws.law_raise.Goals as goal

pub returns : goal.returns
returns c = law_raise
