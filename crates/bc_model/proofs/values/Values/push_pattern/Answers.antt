use Rattle.bc_model.proofs.Lists.{length_patterns}
use Rattle.bc_model.proofs.values.Values.push_pattern.Goals as goal

pub push_run-requires-clause-count : goal.push_run-requires-clause-count
push_run-requires-clause-count c = length_patterns c.args.stamp c.args.first c.args.count
