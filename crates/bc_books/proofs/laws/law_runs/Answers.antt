use Rattle.bc_books.proofs.Runs.{law_runs}
use Rattle.bc_books.proofs.laws.law_runs.Goals as goal

pub returns : goal.returns
returns c = law_runs
