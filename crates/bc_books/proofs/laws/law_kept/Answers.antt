use Rattle.bc_books.proofs.Opening.{law_kept}
use Rattle.bc_books.proofs.laws.law_kept.Goals as goal

pub returns : goal.returns
returns c = law_kept
