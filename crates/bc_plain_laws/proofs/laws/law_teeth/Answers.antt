use Rattle.bc_plain_laws.proofs.Example.{law_teeth}
use Rattle.bc_plain_laws.proofs.laws.law_teeth.Goals as goal

pub returns : goal.returns
returns c = law_teeth
