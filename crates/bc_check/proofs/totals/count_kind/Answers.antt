use Rattle.std.proofs.Common.{◌<◌, ◌≤◌, length, refl, subst, arith}
use Rattle.bc_node.proofs.KeyLists.{key_here}
use Rattle.bc_counts.proofs.Counting.{between_first, between_next}
use Rattle.bc_check.proofs.Summed.{kinds_next, room_for_kind, kinds_counted}
use Rattle.bc_check.proofs.totals.count_kind.Goals as goal

pub loop-i-init : goal.loop-i-init
loop-i-init c = record { end = 0; between = between_first c.args.index.now.keys; counts = refl }

pub with_row-count-requires : goal.with_row-count-requires
with_row-count-requires c =
    let rows = c.args.index.now.keys in
    let i = c.loop-i.i in
    let row = c.key.result in
    let fits = row.end_fits in
    let most = room_for_kind rows c.key.ensures.order i c.loop-i.invariant.end row (subst (λ n. i < n) c.len-i-end.ensures.count c.loop-i-test.true) (key_here rows i row c.key.ensures.key) c.loop-i.invariant.between c.args.g.now c.args.gens.now c.args.dirty
    c.loop-i.count c.loop-i.invariant.counts in
    omega (arith, most, fits)

pub loop-i-preserved : goal.loop-i-preserved
loop-i-preserved c =
    let rows = c.args.index.now.keys in
    let i = c.loop-i.i in
    let row = c.key.result in
    let inside = subst (λ n. i < n) c.len-i-end.ensures.count c.loop-i-test.true in
    let is = key_here rows i row c.key.ensures.key in
    record {
      end = row.end;
      between = between_next rows c.key.ensures.order i c.loop-i.invariant.end row inside is c.loop-i.invariant.between;
      counts = kinds_next rows c.key.ensures.order i c.loop-i.invariant.end row inside is c.loop-i.invariant.between c.args.g.now c.args.gens.now c.args.dirty c.loop-i.count c.with_row-count.result c.loop-i.invariant.counts c.with_row-count.ensures;
    }

pub returns : goal.returns
returns c =
    let rows = c.args.index.now.keys in
    let all : length rows ≤ c.loop-i.i = subst (λ n. n ≤ c.loop-i.i) c.len-i-end.ensures.count c.loop-i-test.false in
    kinds_counted rows c.len-i-end.ensures.order c.loop-i.i c.loop-i.invariant.end all c.loop-i.invariant.between c.args.g.now c.args.gens.now c.args.dirty c.loop-i.count c.loop-i.invariant.counts
