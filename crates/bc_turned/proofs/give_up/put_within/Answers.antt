use Rattle.std.proofs.Common.{◌≤◌, refl, sym, ◌∙◌, subst}
use Rattle.bc_flush.proofs.Hands.{Fits, both_in, is_off, is_on, journal_stands, same_some}
use Rattle.bc_flush.proofs.Syncing.{refused_none, refused_put}
use Rattle.bc_flush.specs.Sync.{HasNotSynced}
use Rattle.bc_flush.specs.bc_hand.Seats.{world}
use Rattle.bc_flush.specs.bc_machine.World.{FromEach, cache_among}
use Rattle.bc_flush.specs.declared.error.FlushError.TheVariants as flush
use Rattle.bc_journal.specs.Journal.{Journal}
use Rattle.bc_turn.proofs.Hearing.{none_heard}
use Rattle.bc_turned.proofs.Giving.{given_put}
use Rattle.bc_turned.proofs.Hearing.{cause_answered, cut_answered, refused_memory}
use Rattle.bc_turned.proofs.give_up.put_within.Goals as goal

pub returns-then-not-is_within-clause-err : goal.returns-then-not-is_within-clause-err
returns-then-not-is_within-clause-err g c =
    let cf = g.C.Disk.facts in
    let bf = g.B.Disk.facts in
    refused_none cf bf (cache_among cf bf c.args.parts.now.run.start).sectors flush.Outside
    c.args.seat.now c.requires.works.seat (
      refl,
      is_off cf bf c.args.parts.now c.args.seat.now c.args.hand.now c.requires.works
          c.requires.ready.journal c.requires.ready.is
          (both_in c.args.hand.now c.requires.hand).cache
          (subst (Fits cf bf c.args.hand.now) c.if-not-is_within.true
          c.is_within.ensures),
    ) tt tt

pub put_entry-requires-clause-journal : goal.put_entry-requires-clause-journal
put_entry-requires-clause-journal g c =
    let cf = g.C.Disk.facts in
    let bf = g.B.Disk.facts in
    let ready = c.requires.ready in (
      ready.journal,
      ready.is,
      ready.can,
      is_on cf bf c.args.parts.now c.args.seat.now c.args.hand.now c.requires.works ready.journal
          ready.is (both_in c.args.hand.now c.requires.hand).cache
          (subst (Fits cf bf c.args.hand.now) c.if-not-is_within.false c.is_within.ensures),
    )

pub returns-in-Ok-clause-ok : goal.returns-in-Ok-clause-ok
returns-in-Ok-clause-ok g c =
    let cf = g.C.Disk.facts in
    let bf = g.B.Disk.facts in
    let put = c.in-Ok.ensures.ok in
    given_put cf bf c.args.low put.0 c.args.seat.now c.put_entry.new.seat c.requires.works.seat
    (journal_stands cf bf c.args.parts.now c.args.seat.now c.args.hand.now put.0 c.requires.works
    put.1)
    (subst (λ (j : Journal). FromEach (world cf bf c.args.seat.now) (λ o st. c.args.low ≤ j.needed))
    (same_some c.args.hand.now.journal c.requires.ready.journal put.0 c.requires.ready.is put.1)
    c.requires.ready.from) put.2

pub returns-in-Err-clause-err : goal.returns-in-Err-clause-err
returns-in-Err-clause-err g c =
    let cf = g.C.Disk.facts in
    let bf = g.B.Disk.facts in
    let sectors = (cache_among cf bf c.args.parts.now.run.start).sectors in
    let cut = c.in-Err.ensures.err in
    subst (λ e. HasNotSynced cf bf sectors e c.args.seat.now
    c.put_entry.new.seat) (sym c.refused.ensures)
    (refused_put cf bf sectors c.or_halt.result cut.0 c.args.seat.now c.put_entry.new.seat
    c.requires.works.seat
    (journal_stands cf bf c.args.parts.now c.args.seat.now c.args.hand.now cut.0 c.requires.works
    cut.1) (cut_answered cf bf c.in-Err.error c.or_halt.result cut.0 c.args.seat.now
    c.put_entry.new.seat c.or_halt.ensures cut.2)
    (cause_answered cf bf c.in-Err.error c.or_halt.result c.put_entry.new.seat c.or_halt.ensures
    c.in-Err.ensures.cause))

pub returns-in-Err-clause-memory : goal.returns-in-Err-clause-memory
returns-in-Err-clause-memory g c memory = none_heard c.in-Err.error c.or_halt.result
    c.put_entry.new.seat.heard c.put_entry.new.seat.seen c.or_halt.ensures
    (refused_memory c.or_halt.result (sym c.refused.ensures ∙ memory))
