use Rattle.std.proofs.Common.{get_or, refl, arith}
use Rattle.bc_alloc.proofs.Loops.{there}
use Rattle.bc_ready.proofs.Checks.{all_are, taken_by, taken_once, not_true, one_more}
use Rattle.bc_ready.proofs.go.are_taken.Goals as goal
use Rattle.bc_ready.specs.Free.{IsTakenOnce}

pub returns-then-not-is_taken : goal.returns-then-not-is_taken
returns-then-not-is_taken c = (
  λ yes. absurd (not_true yes),
  λ all. c.if-not-is_taken.ensures.1 (taken_once c.args.part.now c.args.new.now all
      (get_or c.args.new.now c.loop-bucket.bucket-index 0)
      (there c.args.new.now c.loop-bucket.bucket-index c.loop-bucket-test.true)),
)

pub loop-bucket-preserved : goal.loop-bucket-preserved
loop-bucket-preserved c = one_more (IsTakenOnce c.args.part.now c.args.new.now) c.args.new.now
    c.loop-bucket.bucket-index c.loop-bucket-test.true (c.if-not-is_taken.ensures.0 refl)
    c.loop-bucket.invariant

pub returns : goal.returns
returns c = (
  λ yes. taken_by c.args.part.now c.args.new.now
      (all_are (IsTakenOnce c.args.part.now c.args.new.now) c.args.new.now
      c.loop-bucket.bucket-index (let end = c.loop-bucket-test.false in omega (arith, end))
      c.loop-bucket.invariant),
  λ all. refl,
)
