use Rattle.std.proofs.Common.{ap, ◌∙◌, Some, arith}
use Rattle.bc_model.specs.declared.run.Run.{Run}
use Rattle.bc_script.proofs.Printed.{none_in, one_stamp, one_zero}
use Rattle.bc_script.proofs.print.push_runs.Goals as goal

pub returns-in-Pattern-clause-ok : goal.returns-in-Pattern-clause-ok
returns-in-Pattern-clause-ok c =
    let runs = c.runs-runs.result.now in
    let run = c.in-Pattern in
    one_stamp c.push_stamp.result c.args.first run.own run.count run.stamp runs.rest.items runs.last c.args.values.now
    c.args.into.now.items c.push_stamp.new.text.items
    (none_in runs.rest.items _ _ runs.rest.ok.0 c.is_empty.ensures c.if-is_empty.true)
    (c.in-Some.is ∙ ap (λ (r : Run). Some r) run.is) c.if-own-first.true (omega arith) (omega arith)
    c.runs-runs.ensures.runs c.runs-runs.ensures.values c.push_stamp.ensures.ok

pub returns-in-Zero-clause-ok : goal.returns-in-Zero-clause-ok
returns-in-Zero-clause-ok c =
    let runs = c.runs-runs.result.now in
    let run = c.in-Zero in
    one_zero c.push_zeros.result c.args.first run.count runs.rest.items runs.last c.args.values.now
    c.args.into.now.items c.push_zeros.new.text.items
    (none_in runs.rest.items _ _ runs.rest.ok.0 c.is_empty.ensures c.if-is_empty.true)
    (c.in-Some.is ∙ ap (λ (r : Run). Some r) run.is) (omega arith)
    c.runs-runs.ensures.values c.push_zeros.ensures.ok
