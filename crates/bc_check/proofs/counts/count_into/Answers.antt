use Rattle.std.proofs.Common.{◌<◌, ◌≤◌, length, get_or, subst, arith}
use Rattle.bc_node.proofs.KeyLists.{key_here}
use Rattle.bc_counts.specs.Counts.{Asks}
use Rattle.bc_counts.proofs.Counting.{between_first, between_next, counts_next, room_for, counted}
use Rattle.bc_check.proofs.counts.count_into.Goals as goal

pub loop-i-init : goal.loop-i-init
loop-i-init c = record { end = 0; between = between_first c.args.index.now.keys; counts = c.requires }

pub add_asked-requires : goal.add_asked-requires
add_asked-requires c = λ bucket low.
    let rows = c.args.index.now.keys in
    let i = c.loop-i.i in
    let row = c.key.result in
    let fits = row.end_fits in
    let most = room_for rows c.key.ensures.order i c.loop-i.invariant.end row (subst (λ n. i < n) c.len-i-end.ensures.count c.loop-i-test.true) (key_here rows i row c.key.ensures.key) c.loop-i.invariant.between c.args.g.now c.args.gens.now (Asks c.args.dirty) bucket
    (get_or c.loop-i.table bucket 0) (c.loop-i.invariant.counts bucket low) in
    omega (arith, most, fits)

pub loop-i-preserved : goal.loop-i-preserved
loop-i-preserved c =
    let rows = c.args.index.now.keys in
    let i = c.loop-i.i in
    let row = c.key.result in
    let inside = subst (λ n. i < n) c.len-i-end.ensures.count c.loop-i-test.true in
    let is = key_here rows i row c.key.ensures.key in
    record {
      end = row.end;
      between = between_next rows c.key.ensures.order i c.loop-i.invariant.end row inside is c.loop-i.invariant.between;
      counts = λ bucket low.
          (let old : bucket < length c.loop-i.table = (let same = c.add_asked.auto.table in omega (arith, low, same)) in
          counts_next rows c.key.ensures.order i c.loop-i.invariant.end row inside is c.loop-i.invariant.between c.args.g.now c.args.gens.now (Asks c.args.dirty) bucket (get_or c.loop-i.table bucket 0) (get_or c.add_asked.new.table bucket 0)
          (c.loop-i.invariant.counts bucket old) (c.add_asked.ensures bucket old));
    }

pub returns : goal.returns
returns c = λ bucket low.
    let rows = c.args.index.now.keys in
    let all : length rows ≤ c.loop-i.i = subst (λ n. n ≤ c.loop-i.i) c.len-i-end.ensures.count c.loop-i-test.false in
    let here : bucket < length c.loop-i.table = (let same = c.loop-i.auto.table in omega (arith, low, same)) in
    counted rows c.len-i-end.ensures.order c.loop-i.i c.loop-i.invariant.end all c.loop-i.invariant.between c.args.g.now c.args.gens.now (Asks c.args.dirty) bucket (get_or c.loop-i.table bucket 0) (c.loop-i.invariant.counts bucket here)
