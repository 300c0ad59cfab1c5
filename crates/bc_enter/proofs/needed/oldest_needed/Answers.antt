use Rattle.std.proofs.Common.{◌≤◌, ◌∙◌, subst}
use Rattle.std.specs.Prelude.{IsTrue}
use Rattle.bc_enter.proofs.Low.{low_kept, low_lower, low_needed, not_false}
use Rattle.bc_enter.proofs.needed.oldest_needed.Goals as goal
use Rattle.bc_enter.proofs.needed.oldest_needed.Goals.{then-not-is_empty, else-not-is_empty}

pub loop-i-preserved : goal.loop-i-preserved
loop-i-preserved c =
    let es = c.args.read.now.entries in
    let e = c.entry.result.now in
    elim c.if-not-is_empty.branch [
      | then-not-is_empty w ↦
          low_lower es c.args.next c.loop-i.low c.if-not-is_empty.low c.loop-i.i e c.loop-i.invariant c.entry.ensures (λ bare. not_false (subst IsTrue w.if-not-is_empty.true (c.is_empty.ensures.1 bare))) (w.low-is ∙ w.min-low.ensures)
      | else-not-is_empty w ↦
          low_kept es c.args.next c.loop-i.low c.if-not-is_empty.low c.loop-i.i e c.loop-i.invariant c.entry.ensures (c.is_empty.ensures.0 w.if-not-is_empty.false) w.low-is
    ]

pub returns-clause-needed : goal.returns-clause-needed
returns-clause-needed c k d =
    low_needed c.args.read.now.entries c.args.next c.loop-i.low c.loop-i.i
    (subst (λ n. n ≤ c.loop-i.i) c.len-i-end.ensures c.loop-i-test.false) c.loop-i.invariant k d
