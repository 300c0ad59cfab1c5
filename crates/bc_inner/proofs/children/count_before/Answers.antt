use Rattle.std.proofs.Common.{◌<◌, ◌+◌, ◌-◌, ◌/◌, length, ap, arith}
use Rattle.std.proofs.lemmas.List.{get_or_default}
use Rattle.bc_key.specs.declared.key.Key.{Key}
use Rattle.bc_inner.proofs.ChildLists.{rise_le}
use Rattle.bc_inner.proofs.children.count_before.Goals as goal

pub loop-low-preserved-then-children-middle : goal.loop-low-preserved-then-children-middle
loop-low-preserved-then-children-middle c =
    let cs = c.args.children.now in
    let low = c.loop-low.low in
    let high = c.loop-low.high in
    let keeps = c.loop-low.invariant in
    let some = c.loop-low-test.true in
    let middle = low + (high - low) / 2 in
    let item = c.index-children-middle.result in
    let is = ap (λ (k : Key). k.end) c.index-children-middle.is in
    let inside : middle < length cs = omega (arith, keeps.high) in
    record {
      low = omega arith;
      high = keeps.high;
      before = λ k d from below.
          let up = rise_le cs c.requires k middle d (omega arith) inside in
          let same = ap (λ (c : Key). c.end) (get_or_default cs middle d item inside) in
          omega (arith, up, same, is, c.if-children-middle.true);
      behind = keeps.behind;
    }

pub loop-low-preserved : goal.loop-low-preserved
loop-low-preserved c =
    let cs = c.args.children.now in
    let low = c.loop-low.low in
    let high = c.loop-low.high in
    let keeps = c.loop-low.invariant in
    let some = c.loop-low-test.true in
    let middle = low + (high - low) / 2 in
    let item = c.index-children-middle.result in
    let is = ap (λ (k : Key). k.end) c.index-children-middle.is in
    let inside : middle < length cs = omega (arith, keeps.high) in
    record {
      low = omega arith;
      high = omega (arith, keeps.high);
      before = keeps.before;
      behind = λ k d from below.
          let up = rise_le cs c.requires middle k d from below in
          let same = ap (λ (c : Key). c.end) (get_or_default cs middle d item inside) in
          omega (arith, up, same, is, c.if-children-middle.false);
    }
