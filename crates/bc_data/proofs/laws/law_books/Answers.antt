use Rattle.bc_data.proofs.Steps.{law_books}
use Rattle.bc_data.proofs.laws.law_books.Goals as goal

pub returns : goal.returns
returns c = law_books
