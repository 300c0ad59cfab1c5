use Rattle.std.proofs.Common.{subst}
use Rattle.bc_parts.specs.Steps.{HasBook}
use Rattle.bc_parts.proofs.slots.put_in.Goals as goal

pub returns : goal.returns
returns g c es more has = c.put_event.ensures es more (subst (HasBook g.M.Machine es more) c.in-Some.is has)
