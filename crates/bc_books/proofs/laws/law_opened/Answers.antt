use Rattle.bc_books.proofs.Opening.{law_opened}
use Rattle.bc_books.proofs.laws.law_opened.Goals as goal

pub returns : goal.returns
returns c = law_opened
