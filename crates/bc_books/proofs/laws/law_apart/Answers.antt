use Rattle.bc_books.proofs.Safety.{law_apart}
use Rattle.bc_books.proofs.laws.law_apart.Goals as goal

pub returns : goal.returns
returns c = law_apart
