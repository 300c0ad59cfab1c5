use Rattle.std.proofs.Common.{◌≡◌, ◌<◌, ◌≤◌, ◌^◌, None, Some, inl, refl, sym, ap, ◌∙◌, subst}
use Rattle.bc_entry.specs.Seal.{CanSeal}
use Rattle.bc_flush.proofs.Hands.{journal_stands, same_some}
use Rattle.bc_flush.proofs.Syncing.{refused_none, stood_here}
use Rattle.bc_flush.specs.bc_hand.Seats.{world}
use Rattle.bc_flush.specs.bc_machine.World.{cache_among}
use Rattle.bc_flush.specs.declared.error.FlushError.TheVariants as flush
use Rattle.bc_journal.specs.Journal.{HasRoom, Journal, number_of}
use Rattle.bc_turn.proofs.Needing.{law_needed}
use Rattle.bc_turned.proofs.Giving.{can_still, is_unsealed, journal_as, needed_low, no_room, none_put, works_as}
use Rattle.bc_turned.specs.declared.answer.NoEntry.TheVariants as no
use Rattle.bc_turned.proofs.give_up.give_in.Goals as goal

pub returns-in-Some-heard-clause-err : goal.returns-in-Some-heard-clause-err
returns-in-Some-heard-clause-err g c =
    let cf = g.C.Disk.facts in
    let bf = g.B.Disk.facts in
    refused_none cf bf (cache_among cf bf c.args.parts.now.run.start).sectors
    (flush.Halted c.in-Some-heard.device) c.args.seat.now c.requires.works.seat
    (c.in-Some.journal, inl (tt, refl))
    (stood_here cf bf c.args.seat.now c.requires.works.seat c.in-Some.journal
    (journal_stands cf bf c.args.parts.now c.args.seat.now c.args.hand.now c.in-Some.journal
    c.requires.works c.in-Some.is))
    (c.in-Some-heard.ensures.stopped c.in-Some-heard.device refl)

pub returns-then-is_some-clause-err : goal.returns-then-is_some-clause-err
returns-then-is_some-clause-err g c =
    let cf = g.C.Disk.facts in
    let bf = g.B.Disk.facts in
    refused_none cf bf (cache_among cf bf c.args.parts.now.run.start).sectors flush.Memory
    c.args.seat.now c.requires.works.seat refl tt tt

pub returns-then-number-ge-NUMBERS_END-clause-ok : goal.returns-then-number-ge-NUMBERS_END-clause-ok
returns-then-number-ge-NUMBERS_END-clause-ok g c =
    let cf = g.C.Disk.facts in
    let bf = g.B.Disk.facts in
    none_put cf bf no.Number c.in-Some.journal c.args.seat.now c.requires.works.seat
    (journal_stands cf bf c.args.parts.now c.args.seat.now c.args.hand.now c.in-Some.journal
    c.requires.works c.in-Some.is)
    (subst (λ n. 2 ^ 63 ≤ n) (c.number.ensures.value ∙ ap number_of c.get-2.ensures)
    c.if-number-ge-NUMBERS_END.true)

pub returns-then-not-room-clause-ok : goal.returns-then-not-room-clause-ok
returns-then-not-room-clause-ok g c =
    let cf = g.C.Disk.facts in
    let bf = g.B.Disk.facts in
    none_put cf bf no.Place c.in-Some.journal c.args.seat.now c.requires.works.seat
    (journal_stands cf bf c.args.parts.now c.args.seat.now c.args.hand.now c.in-Some.journal
    c.requires.works c.in-Some.is)
    (λ room. no_room c.room.result c.if-not-room.true
    (c.room.ensures.1 (subst (λ (j : Journal). HasRoom j 0) (sym c.get-3.ensures) room)))

pub put_ready-requires-clause-works : goal.put_ready-requires-clause-works
put_ready-requires-clause-works g c =
    let cf = g.C.Disk.facts in
    let bf = g.B.Disk.facts in
    let need = c.need_from.ensures in
    works_as cf bf c.args.parts.now c.args.seat.now
    (record c.args.hand.now { journal = Some need.1 }) c.need_from.new.hand need.4
    (law_needed cf bf c.args.parts.now c.args.seat.now c.args.hand.now need.0 need.1 c.args.low
    need.2 need.3 c.requires.needs c.requires.works)

pub put_ready-requires-clause-ready : goal.put_ready-requires-clause-ready
put_ready-requires-clause-ready g c =
    let cf = g.C.Disk.facts in
    let bf = g.B.Disk.facts in
    let need = c.need_from.ensures in
    let none = is_unsealed c.in-Some.journal c.get.result.now c.sealed.result c.is_some.result
    c.get.ensures c.sealed.ensures.value c.is_some.ensures c.if-is_some.false in
    let can : CanSeal c.in-Some.journal = record {
      none = none;
      room = subst (λ (j : Journal). HasRoom j 0) c.get-3.ensures
          (c.room.ensures.0 c.if-not-room.false);
      numbered = subst (λ n. n < 2 ^ 63) (c.number.ensures.value ∙ ap number_of c.get-2.ensures)
          c.if-number-ge-NUMBERS_END.false;
    } in
    let same = same_some c.args.hand.now.journal c.in-Some.journal need.0 c.in-Some.is need.2 in
    record {
      journal = need.1;
      is = journal_as cf bf c.args.hand.now c.need_from.new.hand need.1 need.4;
      can = can_still need.0 need.1 c.args.low need.3 (subst CanSeal same can);
      from = needed_low need.0 need.1 c.args.low (world cf bf c.args.seat.now)
          (subst (λ (j : Journal). j.sealed ≡ None) same none) need.3
          (journal_stands cf bf c.args.parts.now c.args.seat.now c.args.hand.now need.0
          c.requires.works need.2) c.requires.needs;
    }
