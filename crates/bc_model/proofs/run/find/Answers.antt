use Rattle.std.proofs.Common.{◌∙◌, arith}
use Rattle.bc_model.proofs.Lists.{found_in}
use Rattle.bc_model.proofs.run.find.Goals as goal

pub returns-then-left-count-clause-found : goal.returns-then-left-count-clause-found
returns-then-left-count-clause-found c = found_in c.args.runs.now c.run-item.result c.loop-run.run-index c.loop-run.left c.args.i c.loop-run-test.true c.run-item.is c.loop-run.invariant (omega arith) ∙ c.get.ensures
