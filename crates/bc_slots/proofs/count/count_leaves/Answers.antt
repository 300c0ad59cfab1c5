use Rattle.std.proofs.Common.{◌≡◌, ◌+◌, ◌%◌, ◌<◌, ◌∙◌, true, false, length, refl, ap, arith}
use Rattle.std.specs.Prelude.{◌==◌}
use Rattle.std.proofs.lemmas.List.{get_or_default}
use Rattle.std.proofs.lemmas.Nat.{mod_below}
use Rattle.bc_slots.proofs.Made.{counts_end, counts_more, counts_stay, few_counted, here_keys, here_none}
use Rattle.bc_slots.proofs.count.count_leaves.Goals as goal
use Rattle.bc_slots.proofs.count.count_leaves.Goals.{then-not-is_empty, else-not-is_empty}

pub overflow_add-index_mut : goal.overflow_add-index_mut
overflow_add-index_mut c =
    let counts = c.loop-i.counts.items in
    let count = c.args.count in
    let i = c.loop-i.i in
    let at = i % count in
    let below : at < count = mod_below i count c.requires.some in
    let each = c.loop-i.invariant.each in
    let inside : at < length counts = omega (arith, below, each) in
    let is = c.index_mut.ensures.value ∙ get_or_default counts at c.index_mut.result.now 0 inside in
    let few = few_counted c.args.pending.now count i at counts below c.loop-i.invariant in
    omega (arith, few, is, c.requires.few, c.loop-i-test.true)

pub loop-i-preserved : goal.loop-i-preserved
loop-i-preserved c =
    let pending = c.args.pending.now in
    let counts = c.loop-i.counts.items in
    let count = c.args.count in
    let i = c.loop-i.i in
    let at = i % count in
    let item = c.index-pending-i.result in
    let keys = c.as_slice.result.now in
    let below : at < count = mod_below i count c.requires.some in
    let each = c.loop-i.invariant.each in
    let inside : at < length counts = omega (arith, below, each) in
    elim c.if-not-is_empty.branch [
      | then-not-is_empty w ↦
          let some : (length keys == 0) ≡ false = cc (w.if-not-is_empty.ensures) in
          let was = w.index_mut.ensures.value ∙ get_or_default counts at w.index_mut.result.now 0 inside in
          rw w.counts-is (counts_more pending count i at (w.index_mut.result.now + 1) counts c.loop-i-test.true (here_keys pending count i item keys c.loop-i-test.true c.index-pending-i.is c.as_slice.ensures some) refl below (ap (λ n. n + 1) was) c.loop-i.invariant)
      | else-not-is_empty w ↦
          let none : (length keys == 0) ≡ true = cc (w.if-not-is_empty.ensures) in
          rw w.counts-is (counts_stay pending count i counts c.loop-i-test.true (here_none pending count i item keys c.loop-i-test.true c.index-pending-i.is c.as_slice.ensures none) c.loop-i.invariant)
    ]

pub returns : goal.returns
returns c = counts_end c.args.pending.now c.args.count c.loop-i.i c.loop-i.counts.items c.loop-i-test.false c.loop-i.invariant
