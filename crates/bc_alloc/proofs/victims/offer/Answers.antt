use Rattle.std.proofs.Common.{ℕ, ◌+◌, [], List, refl, sym, subst, arith}
use Rattle.std.specs.BinaryHeap.{heap_items}
use Rattle.bc_alloc.specs.Choice.{AreChosen}
use Rattle.bc_alloc.proofs.Chosen.{one_left_out, one_put, one_replaced, one_skipped}
use Rattle.bc_alloc.proofs.victims.offer.Goals as goal

pub returns-then-not-is_open-clause-chosen : goal.returns-then-not-is_open-clause-chosen
returns-then-not-is_open-clause-chosen c =
    one_skipped c.args.records.now c.args.listed.now c.args.k c.args.most (heap_items c.args.ranks.now) (omega arith) c.requires.chosen (λ o. let e = c.if-not-is_open.ensures.1 o in absurd (cc))

pub returns-then-len-most-clause-chosen : goal.returns-then-len-most-clause-chosen
returns-then-len-most-clause-chosen c =
    one_put c.args.records.now c.args.listed.now c.args.k c.args.most c.rank_of-rank.result (heap_items c.args.ranks.now) (heap_items c.put.new.ranks) (omega arith) c.requires.chosen (c.if-not-is_open.ensures.0 refl) c.rank_of-rank.ensures c.put.ensures.more (omega arith)

pub returns-in_default-clause-chosen : goal.returns-in_default-clause-chosen
returns-in_default-clause-chosen c =
    subst (λ (xs : List ℕ). AreChosen c.args.records.now c.args.listed.now (c.args.k + 1) c.args.most xs []) (sym c.in_default.ensures.same.0)
    (one_left_out c.args.records.now c.args.listed.now c.args.k c.args.most c.rank_of-rank.result (heap_items c.args.ranks.now) (omega arith) c.requires.chosen c.rank_of-rank.ensures (omega (arith, c.args.ranks.now.data.ok.0)) c.in_default.ensures.none)

pub returns-clause-chosen : goal.returns-clause-chosen
returns-clause-chosen c =
    one_replaced c.args.records.now c.args.listed.now c.args.k c.args.most c.rank_of-rank.result c.in-Some._last (heap_items c.args.ranks.now) (heap_items c.take_above.new.ranks) (heap_items c.put-2.new.ranks) (omega arith) c.requires.chosen (c.if-not-is_open.ensures.0 refl) c.rank_of-rank.ensures
    (omega (arith, c.args.ranks.now.data.ok.0)) c.in-Some.ensures.above c.in-Some.ensures.out c.in-Some.ensures.last c.put-2.ensures.more
