use Rattle.std.proofs.Common.{[], ap, sym, subst, arith}
use Rattle.bc_entry.proofs.of_bc_deed.Sequence.{done_both}
use Rattle.bc_entry.specs.bc_hand.declared.hand.Hand.{Hand}
use Rattle.bc_entry.specs.bc_machine.World.{IsJournal, World}
use Rattle.bc_started.proofs.Entering.{all_behind, as_waited, at_opening, cut_result, halt_result, put_result, still_all, still_new, with_journal}
use Rattle.bc_started.proofs.first.put_first.Goals as goal

pub borrow_cache-cache-requires-clause-works : goal.borrow_cache-cache-requires-clause-works
borrow_cache-cache-requires-clause-works g c =
    let cf = g.C.Disk.facts in
    let bf = g.B.Disk.facts in
    let borrow = c.borrow_journal-began_with in
    let lent = borrow.ensures.lent in
    let one = still_new cf bf c.args.seat.now c.promise.new.seat c.requires.new
    c.promise.ensures.done c.promise.ensures.works.seat in
    let two = still_new cf bf c.promise.new.seat borrow.new.seat one
    (as_waited cf bf c.promise.new.seat borrow.new.seat borrow.ensures.waited) lent.seat in
    with_journal cf bf c.args.parts.now borrow.new.seat borrow.new.hand borrow.result.0
    c.args.journal lent (subst (λ (x : World). IsJournal c.args.journal x)
    (sym (at_opening cf bf c.args.parts.now borrow.new.seat two lent.run)) c.requires.can.stands)

pub put_entry-done-requires-clause-promise : goal.put_entry-done-requires-clause-promise
put_entry-done-requires-clause-promise g c =
    let room = c.in-Ok.ensures.ok in
    let first = c.borrow_journal-began_with.ensures.waited.promises in
    let then = c.borrow_cache-cache.ensures.waited.promises in
    omega (arith, room, first, then)

pub put_entry-done-requires-clause-journal : goal.put_entry-done-requires-clause-journal
put_entry-done-requires-clause-journal g c = (
  c.args.journal,
  ap (λ (h : Hand g.row.C.Denot g.row.B.Denot). h.journal) c.borrow_cache-cache.ensures.hand,
  c.requires.can.can,
  c.requires.can.disk,
)

pub returns-clause-all : goal.returns-clause-all
returns-clause-all g c =
    let cf = g.C.Disk.facts in
    let bf = g.B.Disk.facts in
    let borrow = c.borrow_journal-began_with in
    let cache = c.borrow_cache-cache in
    let three = still_all cf bf c.promise.new.seat cache.new.seat [] (still_all cf bf
    c.args.seat.now c.promise.new.seat [] c.requires.new.all c.promise.ensures.done)
    (done_both cf bf [] [] c.promise.new.seat borrow.new.seat cache.new.seat
    (as_waited cf bf c.promise.new.seat borrow.new.seat borrow.ensures.waited)
    (as_waited cf bf borrow.new.seat cache.new.seat cache.ensures.waited)) in
    let put = c.put_entry-done in
    still_all cf bf put.new.seat c.give_back.new.seat []
    (all_behind cf bf put.result cache.new.hand.journal cache.new.seat
    put.new.seat three put.ensures.ok put.ensures.err)
    (as_waited cf bf put.new.seat c.give_back.new.seat c.give_back.ensures.waited)

pub returns-clause-ok : goal.returns-clause-ok
returns-clause-ok g c =
    let cf = g.C.Disk.facts in
    let bf = g.B.Disk.facts in
    let borrow = c.borrow_journal-began_with in
    let cache = c.borrow_cache-cache in
    let put = c.put_entry-done in
    put_result cf bf cache.new.hand.journal c.args.journal
    (ap (λ (h : Hand g.row.C.Denot g.row.B.Denot). h.journal) cache.ensures.hand) c.args.seat.now cache.new.seat put.new.seat c.give_back.new.seat
    (done_both cf bf [] [] c.args.seat.now borrow.new.seat cache.new.seat
    (done_both cf bf [] [] c.args.seat.now c.promise.new.seat borrow.new.seat
    c.promise.ensures.done (as_waited cf bf c.promise.new.seat borrow.new.seat
    borrow.ensures.waited)) (as_waited cf bf borrow.new.seat cache.new.seat cache.ensures.waited))
    c.give_back.ensures.waited c.give_back.ensures.seen put.result put.ensures.ok

pub returns-clause-err : goal.returns-clause-err
returns-clause-err g c =
    let cf = g.C.Disk.facts in
    let bf = g.B.Disk.facts in
    let borrow = c.borrow_journal-began_with in
    let cache = c.borrow_cache-cache in
    let put = c.put_entry-done in
    cut_result cf bf cache.new.hand.journal c.args.journal
    (ap (λ (h : Hand g.row.C.Denot g.row.B.Denot). h.journal) cache.ensures.hand) c.args.seat.now cache.new.seat put.new.seat c.give_back.new.seat
    (done_both cf bf [] [] c.args.seat.now borrow.new.seat cache.new.seat
    (done_both cf bf [] [] c.args.seat.now c.promise.new.seat borrow.new.seat
    c.promise.ensures.done (as_waited cf bf c.promise.new.seat borrow.new.seat
    borrow.ensures.waited)) (as_waited cf bf borrow.new.seat cache.new.seat cache.ensures.waited))
    c.give_back.ensures.waited c.give_back.ensures.seen put.result put.ensures.err

pub returns-clause-no_halt : goal.returns-clause-no_halt
returns-clause-no_halt g c =
    let cf = g.C.Disk.facts in
    let bf = g.B.Disk.facts in
    let borrow = c.borrow_journal-began_with in
    let cache = c.borrow_cache-cache in
    let put = c.put_entry-done in
    halt_result cf bf cache.new.hand.journal c.args.journal
    (ap (λ (h : Hand g.row.C.Denot g.row.B.Denot). h.journal) cache.ensures.hand) c.args.seat.now cache.new.seat put.new.seat c.give_back.new.seat
    (done_both cf bf [] [] c.args.seat.now borrow.new.seat cache.new.seat
    (done_both cf bf [] [] c.args.seat.now c.promise.new.seat borrow.new.seat
    c.promise.ensures.done (as_waited cf bf c.promise.new.seat borrow.new.seat
    borrow.ensures.waited)) (as_waited cf bf borrow.new.seat cache.new.seat cache.ensures.waited))
    c.give_back.ensures.waited c.give_back.ensures.seen put.result c.requires.new
    c.give_back.ensures.works.seat put.ensures.err put.ensures.cause
