use Rattle.bc_needs.proofs.Untouched.{law_untouched}
use Rattle.bc_needs.proofs.laws.law_untouched.Goals as goal

pub returns : goal.returns
returns c = law_untouched
