use Rattle.std.proofs.Common.{get_or, refl, arith}
use Rattle.bc_alloc.proofs.Loops.{there}
use Rattle.bc_ready.proofs.Checks.{all_are, loose_by, loose_once, not_true, one_more}
use Rattle.bc_ready.proofs.go.are_loose.Goals as goal
use Rattle.bc_ready.specs.Free.{IsLooseOnce}

pub returns-then-not-is_loose : goal.returns-then-not-is_loose
returns-then-not-is_loose c = (
  λ yes. absurd (not_true yes),
  λ all. c.if-not-is_loose.ensures.1 (loose_once c.args.part.now c.args.old.now all
      (get_or c.args.old.now c.loop-bucket.bucket-index 0)
      (there c.args.old.now c.loop-bucket.bucket-index c.loop-bucket-test.true)),
)

pub loop-bucket-preserved : goal.loop-bucket-preserved
loop-bucket-preserved c = one_more (IsLooseOnce c.args.part.now c.args.old.now) c.args.old.now
    c.loop-bucket.bucket-index c.loop-bucket-test.true (c.if-not-is_loose.ensures.0 refl)
    c.loop-bucket.invariant

pub returns : goal.returns
returns c = (
  λ yes. loose_by c.args.part.now c.args.old.now
      (all_are (IsLooseOnce c.args.part.now c.args.old.now) c.args.old.now
      c.loop-bucket.bucket-index (let end = c.loop-bucket-test.false in omega (arith, end))
      c.loop-bucket.invariant),
  λ all. refl,
)
