use Rattle.bc_books.proofs.Later.{law_uses}
use Rattle.bc_books.proofs.laws.law_uses.Goals as goal

pub returns : goal.returns
returns c = law_uses
