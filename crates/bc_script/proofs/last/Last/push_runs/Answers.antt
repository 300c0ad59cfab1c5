use Rattle.std.proofs.Common.{length, ap, arith}
use Rattle.std.proofs.lemmas.List.Folds.{length-flat_map-take}
use Rattle.bc_model.specs.declared.run.Run.{Run}
use Rattle.bc_model.specs.Values.{values_in}
use Rattle.bc_script.proofs.Printed.{goes_run, length_more}
use Rattle.bc_script.proofs.last.Last.push_runs.Goals as goal

pub push_run-requires-clause-range : goal.push_run-requires-clause-range
push_run-requires-clause-range c =
    let same = ap (λ (r : Run). length (values_in r)) c.run-item.is in
    let fits = length-flat_map-take values_in c.args.runs.now c.loop-run.run-index c.run-item.result c.loop-run-test.true in
    let at = c.loop-run.invariant.next in
    let range = c.requires.range in
    omega arith

pub push_run-requires-clause-room : goal.push_run-requires-clause-room
push_run-requires-clause-room c =
    let same = ap (λ (r : Run). length (values_in r)) c.run-item.is in
    let fits = length-flat_map-take values_in c.args.runs.now c.loop-run.run-index c.run-item.result c.loop-run-test.true in
    let few = c.loop-run.invariant.goes.few in
    let room = c.requires.room in
    omega arith

pub overflow_add-next : goal.overflow_add-next
overflow_add-next c =
    let same = ap (λ (r : Run). length (values_in r)) c.run-item.is in
    let fits = length-flat_map-take values_in c.args.runs.now c.loop-run.run-index c.run-item.result c.loop-run-test.true in
    let at = c.loop-run.invariant.next in
    let range = c.requires.range in
    omega (arith, c.len.ensures)

pub loop-run-preserved : goal.loop-run-preserved
loop-run-preserved c = record {
  next = (let at = c.loop-run.invariant.next in let more = length_more c.loop-run.run-index c.args.runs.now c.run-item.result c.loop-run-test.true c.run-item.is in omega (arith, c.len.ensures));
  goes = goes_run c.args.first c.loop-run.next c.loop-run.run-index c.args.runs.now c.run-item.result c.args.self.now c.loop-run.self c.push_run.new.self
      c.args.text.now.items c.loop-run.text.items c.push_run.new.text.items c.loop-run-test.true c.run-item.is c.loop-run.invariant.next c.loop-run.invariant.goes c.in_ok-push_run.ensures;
}
