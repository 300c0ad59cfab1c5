use Rattle.std.proofs.Common.{◌+◌, List, ℕ, false, take, sym, subst, arith}
use Rattle.bc_output.specs.Lines.{StandForAll}
use Rattle.bc_output.proofs.Standing.{on_ok, line_more}
use Rattle.bc_output.proofs.answers.gather.Goals as goal

pub loop-count-preserved : goal.loop-count-preserved
loop-count-preserved c =
    let line = on_ok c.print_line.result (sym c.if-is_err.ensures.value) c.print_line.ensures.ok in (
      omega (arith, c.loop-count-test.true),
      subst (λ (t : List ℕ). StandForAll false (take (c.loop-count.count + 1) c.args.answers.now) t) (sym line.2)
          (line_more c.args.answers.now c.loop-count.count c.index-answers-count.result c.loop-count.lines.items line.0 c.loop-count-test.true c.index-answers-count.is c.loop-count.invariant.1 line.1),
    )
