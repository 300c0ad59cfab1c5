use Rattle.bc_state.proofs.Flags.{law_usable}
use Rattle.bc_state.proofs.laws.law_usable.Goals as goal

pub returns : goal.returns
returns c = law_usable
