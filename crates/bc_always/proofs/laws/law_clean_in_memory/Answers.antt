use Rattle.bc_always.proofs.Crash.{law_clean_in_memory}
use Rattle.bc_always.proofs.laws.law_clean_in_memory.Goals as goal

pub returns : goal.returns
returns c = law_clean_in_memory
