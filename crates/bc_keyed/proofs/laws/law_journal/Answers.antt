use Rattle.bc_keyed.proofs.Journal.{law_journal}
use Rattle.bc_keyed.proofs.laws.law_journal.Goals as goal

pub returns : goal.returns
returns c = law_journal
