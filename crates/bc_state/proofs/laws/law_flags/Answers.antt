use Rattle.bc_state.proofs.Flags.{law_flags}
use Rattle.bc_state.proofs.laws.law_flags.Goals as goal

pub returns : goal.returns
returns c = law_flags
