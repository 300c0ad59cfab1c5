use Rattle.bc_plain.proofs.Spelled.{same_words}
use Rattle.bc_plain.proofs.line.words_of.Goals as goal

pub returns : goal.returns
returns c = simp same_words at c.pieces_of.ensures
