use Rattle.bc_facts.proofs.Teeth.{needs_no_stray}
use Rattle.bc_facts.proofs.laws.law_teeth_stray.Goals as goal

pub returns : goal.returns
returns c = needs_no_stray
