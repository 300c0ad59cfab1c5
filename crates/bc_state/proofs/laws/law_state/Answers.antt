use Rattle.bc_state.proofs.State.{law_state}
use Rattle.bc_state.proofs.laws.law_state.Goals as goal

pub returns : goal.returns
returns c = law_state
