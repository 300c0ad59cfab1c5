use Rattle.std.proofs.Common.{◌<◌, ◌+◌, ◌-◌, ◌/◌, length, arith}
use Rattle.bc_extent.proofs.LastKeys.{ends_rise}
use Rattle.bc_extent.proofs.places.count_ended.Goals as goal

pub loop-low-preserved-then-end-sector-2 : goal.loop-low-preserved-then-end-sector-2
loop-low-preserved-then-end-sector-2 c =
    let keys = c.args.rows.now.keys in
    let low = c.loop-low.low in
    let high = c.loop-low.high in
    let keeps = c.loop-low.invariant in
    let some = c.loop-low-test.true in
    let middle = low + (high - low) / 2 in
    let inside : middle < length keys = omega (arith, keeps.high) in
    record {
      low = omega arith;
      high = keeps.high;
      ended = λ k d from below. let rise = ends_rise keys c.requires k middle d (omega arith) inside in omega (arith, rise, c.end-in-loop-low.ensures d, c.if-end-sector-2.true);
      later = keeps.later;
    }

pub loop-low-preserved : goal.loop-low-preserved
loop-low-preserved c =
    let keys = c.args.rows.now.keys in
    let low = c.loop-low.low in
    let high = c.loop-low.high in
    let keeps = c.loop-low.invariant in
    let some = c.loop-low-test.true in
    let middle = low + (high - low) / 2 in
    record {
      low = omega arith;
      high = omega (arith, keeps.high);
      ended = keeps.ended;
      later = λ k d from below. let rise = ends_rise keys c.requires middle k d from below in omega (arith, rise, c.end-in-loop-low.ensures d, c.if-end-sector-2.false);
    }

pub returns-then-end-sector-clause-ended : goal.returns-then-end-sector-clause-ended
returns-then-end-sector-clause-ended c = λ k d from below.
    let keys = c.args.rows.now.keys in
    let last = c.len-high.result - 1 in
    let inside : last < length keys = omega (arith, c.len-high.ensures.count, c.if-high-gt0.true) in
    let rise = ends_rise keys c.requires k last d (omega (arith, c.if-high-gt0.true)) inside in
    omega (arith, rise, c.end.ensures d, c.if-end-sector.true)
