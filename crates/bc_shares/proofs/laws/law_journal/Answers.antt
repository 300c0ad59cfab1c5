use Rattle.bc_shares.proofs.Law.{law_journal}
use Rattle.bc_shares.proofs.laws.law_journal.Goals as goal

pub returns : goal.returns
returns c = law_journal
