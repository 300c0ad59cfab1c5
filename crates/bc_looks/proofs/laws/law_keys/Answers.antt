use Rattle.bc_looks.proofs.Law.{law_keys}
use Rattle.bc_looks.proofs.laws.law_keys.Goals as goal

pub returns : goal.returns
returns c = law_keys
