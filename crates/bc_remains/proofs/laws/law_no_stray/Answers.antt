use Rattle.bc_remains.proofs.Strays as strays
use Rattle.bc_remains.proofs.laws.law_no_stray.Goals as goal

pub returns : goal.returns
returns c = strays.law_no_stray
