use Rattle.bc_remains.proofs.Crash as crash
use Rattle.bc_remains.proofs.laws.law_crash.Goals as goal

pub returns : goal.returns
returns c = crash.law_crash
