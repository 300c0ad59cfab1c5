use Rattle.std.proofs.Common.{Some, refl, sym, ap, ◌∙◌, subst}
use Rattle.bc_flush.proofs.Hands.{journal_stands}
use Rattle.bc_flush.proofs.of_bc_hand.Knowing.{m}
use Rattle.bc_flush.specs.bc_hand.declared.hand.Hand.{Hand}
use Rattle.bc_flush.specs.bc_machine.World.{IsJournal}
use Rattle.bc_seats.proofs.Between.{waited_both}
use Rattle.bc_turn.proofs.Known.{come_waited}
use Rattle.bc_turned.proofs.Giving.{low_to_come, same_world}
use Rattle.bc_turned.specs.Turned.{low_of}
use Rattle.bc_turned.proofs.low.look_low.Goals as goal

pub returns-clause-looked : goal.returns-clause-looked
returns-clause-looked g c =
    let cf = g.C.Disk.facts in
    let bf = g.B.Disk.facts in
    let took = c.borrow_journal-journal in
    let back = c.return_journal in
    let h : Hand _ _ = record took.new.hand { journal = Some took.result.0 } in
    record {
      waited = waited_both (m cf bf) c.args.seat.now took.new.seat back.new.seat
          took.ensures.still took.ensures.waited back.ensures.waited;
      journal = took.result.0;
      stands = subst (IsJournal took.result.0)
          (sym (same_world cf bf took.new.seat back.new.seat back.ensures.waited
          back.ensures.seen))
          (journal_stands cf bf c.args.parts.now took.new.seat h took.result.0 took.ensures.lent
          refl);
      low_is = c.low_in-low.ensures ∙ ap low_of c.get.ensures;
    }

pub returns-clause-come : goal.returns-clause-come
returns-clause-come g c =
    let took = c.borrow_journal-journal in
    let h : Hand _ _ = record took.new.hand { journal = Some took.result.0 } in
    come_waited g.C.Disk.facts g.B.Disk.facts took.new.seat c.return_journal.new.seat
    c.low_in-low.result c.return_journal.ensures.waited
    (low_to_come took.result.0 c.low_in-low.result _
    (journal_stands g.C.Disk.facts g.B.Disk.facts c.args.parts.now took.new.seat h took.result.0
    took.ensures.lent refl) (c.low_in-low.ensures ∙ ap low_of c.get.ensures))
