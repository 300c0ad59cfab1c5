use Rattle.std.proofs.Common.{◌<◌, ◌+◌, ◌-◌, ◌/◌, ◌≤◌, length, subst, arith}
use Rattle.bc_spine.specs.declared.leaf.LeafRange.{LeafRange}
use Rattle.std.proofs.lemmas.List.{get_or_default}
use Rattle.bc_spine.proofs.Rows.{ends_rise, found_there}
use Rattle.bc_spine.proofs.row.place_of.Goals as goal

pub loop-low-preserved-then-row-middle : goal.loop-low-preserved-then-row-middle
loop-low-preserved-then-row-middle c =
    let row = c.args.row.now in
    let low = c.loop-low.low in
    let high = c.loop-low.high in
    let keeps = c.loop-low.invariant in
    let some = c.loop-low-test.true in
    let middle = low + (high - low) / 2 in
    let leaf = c.index-row-middle.result in
    let inside : middle < length row = omega (arith, keeps.high) in
    record {
      low = omega arith;
      high = keeps.high;
      ended = λ k d from below.
          let rise = ends_rise 0 c.requires.row.0 row c.requires.row.1 k middle d (omega arith) inside in
          let same = subst (λ (x : LeafRange). x.end ≤ c.args.sector) (get_or_default row middle leaf d inside) c.if-row-middle.true in
          omega arith;
      later = keeps.later;
    }

pub loop-low-preserved : goal.loop-low-preserved
loop-low-preserved c =
    let row = c.args.row.now in
    let low = c.loop-low.low in
    let high = c.loop-low.high in
    let keeps = c.loop-low.invariant in
    let some = c.loop-low-test.true in
    let middle = low + (high - low) / 2 in
    let leaf = c.index-row-middle.result in
    let inside : middle < length row = omega (arith, keeps.high) in
    record {
      low = omega arith;
      high = omega (arith, keeps.high);
      ended = keeps.ended;
      later = λ k d from below.
          let rise = ends_rise 0 c.requires.row.0 row c.requires.row.1 middle k d from below in
          let same = subst (λ (x : LeafRange). c.args.sector < x.end) (get_or_default row middle leaf d inside) c.if-row-middle.false in
          omega arith;
    }

pub returns : goal.returns
returns c =
    let row = c.args.row.now in
    let low = c.loop-low.low in
    let keeps = c.loop-low.invariant in
    let over = c.loop-low-test.false in
    let there = found_there 0 c.requires.row.0 row c.args.sector low c.requires.row.1 (omega arith) c.requires.row.2 (omega (arith, keeps.low, keeps.high)) (λ k d before. keeps.ended k d (omega arith) before) in
    record {
      within = there.0;
      begins = there.1;
      ends = λ d. keeps.later low d over there.0;
    }
