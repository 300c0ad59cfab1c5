use Rattle.std.proofs.Common.{◌∙◌}
use Rattle.bc_plain_pair.proofs.shown.cached.Goals as goal

pub returns : goal.returns
returns c = (c.in-Some.v, rw c.in-Some.is at c.in_ok-v.ensures, c.in_ok-value.ensures.items ∙ c.value_of.ensures)
