use Rattle.bc_entry.proofs.Waiting.{law_needs}
use Rattle.bc_entry.proofs.laws.law_needs.Goals as goal

pub returns : goal.returns
returns c = law_needs
