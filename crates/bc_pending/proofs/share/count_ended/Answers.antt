use Rattle.std.proofs.Common.{◌<◌, ◌+◌, ◌-◌, ◌/◌, ◌≤◌, length, subst, arith}
use Rattle.std.proofs.lemmas.List.{get_or_default}
use Rattle.bc_spine.specs.declared.leaf.LeafRange.{LeafRange}
use Rattle.bc_spine.proofs.Rows.{ends_rise}
use Rattle.bc_pending.proofs.share.count_ended.Goals as goal

pub loop-low-preserved-then-leaves-middle : goal.loop-low-preserved-then-leaves-middle
loop-low-preserved-then-leaves-middle c =
    let row = c.args.leaves.now in
    let low = c.loop-low.low in
    let high = c.loop-low.high in
    let keeps = c.loop-low.invariant in
    let some = c.loop-low-test.true in
    let middle = low + (high - low) / 2 in
    let leaf = c.index-leaves-middle.result in
    let inside : middle < length row = omega (arith, keeps.high) in
    record {
      low = omega arith;
      high = keeps.high;
      ended = λ k d from below.
          let rise = ends_rise 0 c.requires.0 row c.requires.1 k middle d (omega arith) inside in
          let same = subst (λ (x : LeafRange). x.end ≤ c.args.sector) (get_or_default row middle leaf d inside) c.if-leaves-middle.true in
          omega arith;
      later = keeps.later;
    }

pub loop-low-preserved : goal.loop-low-preserved
loop-low-preserved c =
    let row = c.args.leaves.now in
    let low = c.loop-low.low in
    let high = c.loop-low.high in
    let keeps = c.loop-low.invariant in
    let some = c.loop-low-test.true in
    let middle = low + (high - low) / 2 in
    let leaf = c.index-leaves-middle.result in
    let inside : middle < length row = omega (arith, keeps.high) in
    record {
      low = omega arith;
      high = omega (arith, keeps.high);
      ended = keeps.ended;
      later = λ k d from below.
          let rise = ends_rise 0 c.requires.0 row c.requires.1 middle k d from below in
          let same = subst (λ (x : LeafRange). c.args.sector < x.end) (get_or_default row middle leaf d inside) c.if-leaves-middle.false in
          omega arith;
    }
