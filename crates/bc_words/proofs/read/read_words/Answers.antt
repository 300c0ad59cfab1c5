use Rattle.bc_words.proofs.Commands.{read_again}
use Rattle.bc_words.proofs.read.read_words.Goals as goal

pub returns-clause-read : goal.returns-clause-read
returns-clause-read c = λ command range is. read_again _ _ command c.command_in.ensures range is
