use Rattle.bc_change.proofs.Begins.{law_begin}
use Rattle.bc_change.proofs.laws.law_begin.Goals as goal

pub returns : goal.returns
returns c = law_begin
