use Rattle.bc_books.proofs.Later.{law_stays}
use Rattle.bc_books.proofs.laws.law_stays.Goals as goal

pub returns : goal.returns
returns c = law_stays
