use Rattle.std.proofs.Common.{None, ap, subst, sym, ◌∙◌}
use Rattle.bc_journal.specs.Journal.{Journal}
use Rattle.bc_place.proofs.of_bc_deed.May.{did_nothing}
use Rattle.bc_place.proofs.of_bc_hand.Between.{did_between}
use Rattle.bc_place.specs.bc_hand.Seats.{world}
use Rattle.bc_place.specs.bc_machine.World.{FromEach, IsJournal, World}
use Rattle.bc_append.specs.Durable.{IsDurableTo}
use Rattle.bc_append.proofs.Lasting.{law_known, law_told, world_same}
use Rattle.bc_append.proofs.durable.durable_entry.Goals as goal

pub returns-clause-waited : goal.returns-clause-waited
returns-clause-waited g c = (did_between g.C.Disk.facts g.B.Disk.facts None c.args.seat.now
    c.borrow_journal-journal.new.seat c.borrow_journal-journal.new.seat c.return_journal.new.seat
    c.borrow_journal-journal.ensures.still c.borrow_journal-journal.ensures.waited
    (did_nothing g.C.Disk.facts g.B.Disk.facts c.borrow_journal-journal.new.seat
    c.borrow_journal-journal.ensures.lent.seat) c.return_journal.ensures.waited
    c.return_journal.ensures.seen c.return_journal.ensures.heard
    c.return_journal.ensures.works.seat).is

pub returns-clause-knows : goal.returns-clause-knows
returns-clause-knows g c = (law_known g.C.Disk.facts g.B.Disk.facts).waited
    c.borrow_journal-journal.new.seat c.return_journal.new.seat _ c.return_journal.ensures.waited
    (subst (λ n. FromEach (world g.C.Disk.facts g.B.Disk.facts c.borrow_journal-journal.new.seat)
    (IsDurableTo n))
    (sym (c.durable-number.ensures.value ∙ ap (λ (j : Journal). j.durable.seq) c.get.ensures))
    (law_told (world g.C.Disk.facts g.B.Disk.facts c.borrow_journal-journal.new.seat)
    c.borrow_journal-journal.result.0 c.borrow_journal-journal.ensures.lent.stand.journal))

pub returns-clause-told : goal.returns-clause-told
returns-clause-told g c =
    let cf = g.C.Disk.facts in
    let bf = g.B.Disk.facts in
    let lent = c.borrow_journal-journal.new.seat in
    let back = c.return_journal.new.seat in
    record {
      journal = c.borrow_journal-journal.result.0;
      stood = subst (λ (x : World). IsJournal c.borrow_journal-journal.result.0 x)
          (sym (world_same cf bf lent back c.return_journal.ensures.waited.same.run
          c.return_journal.ensures.seen)) c.borrow_journal-journal.ensures.lent.stand.journal;
      number_is = c.durable-number.ensures.value ∙ ap (λ (j : Journal). j.durable.seq) c.get.ensures;
    }
