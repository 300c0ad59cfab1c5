use Rattle.std.proofs.Common.{◌∙◌, ap, length, arith}
use Rattle.bc_model.specs.declared.run.Run.{Run}
use Rattle.bc_model.specs.Values.{values_in}
use Rattle.bc_model.proofs.Lists.{length_patterns}
use Rattle.bc_script.proofs.Printed.{goes_run_of, goes_zeros}
use Rattle.bc_script.proofs.last.Last.push_run.Goals as goal

pub push_pattern-requires-clause-room : goal.push_pattern-requires-clause-room
push_pattern-requires-clause-room c =
    let long = ap (λ (r : Run). length (values_in r)) c.in-Pattern.is ∙ length_patterns c.in-Pattern.stamp c.in-Pattern.own c.in-Pattern.count in
    let room = c.requires.room in
    omega arith

pub returns-in-Pattern : goal.returns-in-Pattern
returns-in-Pattern c =
    goes_run_of c.push_pattern.result c.args.first c.in-Pattern.own c.in-Pattern.count c.in-Pattern.stamp c.args.run.now c.args.self.now c.push_pattern.new.self c.args.text.now.items c.push_pattern.new.text.items
    c.in-Pattern.is c.if-own-first.true c.push_pattern.ensures

pub returns-in-Zero : goal.returns-in-Zero
returns-in-Zero c = goes_zeros c.push.result c.args.first c.in-Zero.count c.args.run.now c.args.self.now c.push.new.self c.args.text.now.items c.push.new.text.items
    c.in-Zero.is c.push.ensures.last c.push.ensures.few c.push.ensures.prints
