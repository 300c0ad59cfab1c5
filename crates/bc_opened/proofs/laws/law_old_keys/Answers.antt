use Rattle.bc_opened.proofs.Keys.{law_old_keys}
use Rattle.bc_opened.proofs.laws.law_old_keys.Goals as goal

pub returns : goal.returns
returns c = law_old_keys
