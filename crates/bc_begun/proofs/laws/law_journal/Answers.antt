use Rattle.bc_begun.proofs.Journal.{law_journal}
use Rattle.bc_begun.proofs.laws.law_journal.Goals as goal

pub returns : goal.returns
returns c = law_journal
