use Rattle.bc_recoverable.proofs.Made.{law_brings_nothing}
use Rattle.bc_recoverable.proofs.laws.law_brings_nothing.Goals as goal

pub returns : goal.returns
returns c = law_brings_nothing
