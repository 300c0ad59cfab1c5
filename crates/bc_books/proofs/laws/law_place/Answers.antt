use Rattle.bc_books.proofs.Safety.{law_place}
use Rattle.bc_books.proofs.laws.law_place.Goals as goal

pub returns : goal.returns
returns c = law_place
