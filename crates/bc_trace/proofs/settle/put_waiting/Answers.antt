use Rattle.std.proofs.Common.{ap, ◌∙◌}
use Rattle.bc_flush.proofs.Hands.{journal_same}
use Rattle.bc_flush.proofs.Syncing.{as_waited, refused_around, synced_around, taken_done}
use Rattle.bc_leaf_walk.proofs.of_bc_mark.InHand.{on_ok}
use Rattle.bc_leaf_walk.specs.bc_hand.declared.hand.Hand.{Hand}
use Rattle.bc_leaf_walk.specs.bc_machine.World.{cache_among}
use Rattle.bc_trace.proofs.settle.put_waiting.Goals as goal

pub put_within-done-requires-clause-journal : goal.put_within-done-requires-clause-journal
put_within-done-requires-clause-journal g c =
    let took = c.borrow_cache-cache in
    let back = c.return_cache in
    let j = c.requires.journal.0 in
    let here = journal_same c.args.hand.now took.new.hand back.new.hand took.result.0
    took.ensures.hand back.ensures.hand ∙ c.requires.journal.1 in (
      j,
      here,
      c.requires.journal.2,
      c.requires.journal.3,
    )

pub returns-clause-settled : goal.returns-clause-settled
returns-clause-settled g c = on_ok c.put_within-done.result (λ is. (
  is.0,
  ap (λ (h : Hand _ _). h.journal) c.return_cache-2.ensures.hand ∙ is.1,
  is.2,
  is.3,
)) c.put_within-done.ensures.settled

pub returns-clause-ok : goal.returns-clause-ok
returns-clause-ok g c =
    let cf = g.C.Disk.facts in
    let bf = g.B.Disk.facts in
    let took = c.borrow_cache-cache in
    let back = c.return_cache in
    let last = c.return_cache-2 in
    synced_around cf bf c.args.seat.now back.new.seat c.put_within-done.new.seat
    last.new.seat
    (taken_done cf bf c.args.seat.now took.new.seat back.new.seat took.ensures.waited
    back.ensures.waited)
    (as_waited cf bf c.put_within-done.new.seat last.new.seat last.ensures.waited)
    c.put_within-done.result c.put_within-done.ensures.ok

pub returns-clause-err : goal.returns-clause-err
returns-clause-err g c =
    let cf = g.C.Disk.facts in
    let bf = g.B.Disk.facts in
    let took = c.borrow_cache-cache in
    let back = c.return_cache in
    let last = c.return_cache-2 in
    refused_around cf bf c.args.seat.now back.new.seat c.put_within-done.new.seat
    last.new.seat
    (taken_done cf bf c.args.seat.now took.new.seat back.new.seat took.ensures.waited
    back.ensures.waited)
    (as_waited cf bf c.put_within-done.new.seat last.new.seat last.ensures.waited)
    (cache_among cf bf c.args.parts.now.run.start).sectors c.put_within-done.result
    last.ensures.seen c.put_within-done.ensures.err
