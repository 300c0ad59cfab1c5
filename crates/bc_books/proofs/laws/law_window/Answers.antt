use Rattle.bc_books.proofs.Safety.{law_window}
use Rattle.bc_books.proofs.laws.law_window.Goals as goal

pub returns : goal.returns
returns c = law_window
