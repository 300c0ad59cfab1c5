use Rattle.bc_set.proofs.SetLaws.{only_set, exact_reason}
use Rattle.bc_set.proofs.read.read_set.Goals as goal

pub returns-clause-only : goal.returns-clause-only
returns-clause-only c = only_set c.args.start c.args.magic c.args.kind c.args.bytes.now c.set_at_front.result c.set_at_front.ensures.found c.set_at_front.ensures.refused

pub returns-clause-exact : goal.returns-clause-exact
returns-clause-exact c = exact_reason c.args.start c.args.magic c.args.kind c.args.bytes.now c.set_at_front.result c.set_at_front.ensures.found c.set_at_front.ensures.refused
