use Rattle.bc_uses.proofs.Uses.{law_uses}
use Rattle.bc_uses.proofs.laws.law_uses.Goals as goal

pub returns : goal.returns
returns c = law_uses
