use Rattle.std.proofs.Common.{◌≢◌, [], refl, sym, subst}
use Rattle.bc_journal.specs.Journal.{Journal}
use Rattle.bc_flush.proofs.Hands.{Fits, is_off, is_on, journal_stands, same_some}
use Rattle.bc_flush.proofs.Syncing.{refused_none, refused_put, synced_put}
use Rattle.bc_flush.specs.Sync.{HasNotSynced}
use Rattle.bc_flush.specs.declared.error.FlushError.TheVariants as flush
use Rattle.bc_leaf_walk.specs.bc_machine.World.{cache_among}
use Rattle.bc_trace.proofs.Parting.{both_in}
use Rattle.bc_trace.proofs.settle.put_within.Goals as goal

pub returns-then-not-is_within-clause-err : goal.returns-then-not-is_within-clause-err
returns-then-not-is_within-clause-err g c =
    let cf = g.C.Disk.facts in
    let bf = g.B.Disk.facts in
    refused_none cf bf (cache_among cf bf c.args.parts.now.run.start).sectors flush.Outside
    c.args.seat.now c.requires.works.seat (
      refl,
      is_off cf bf c.args.parts.now c.args.seat.now c.args.hand.now c.requires.works
          c.requires.journal.0 c.requires.journal.1 (both_in c.args.hand.now c.requires.hand).cache
          (subst (Fits cf bf c.args.hand.now) c.if-not-is_within.true
          c.is_within.ensures),
    ) tt tt

pub put_entry-requires-clause-journal : goal.put_entry-requires-clause-journal
put_entry-requires-clause-journal g c =
    let cf = g.C.Disk.facts in
    let bf = g.B.Disk.facts in
    let journal = c.requires.journal in (
      journal.0,
      journal.1,
      journal.2,
      is_on cf bf c.args.parts.now c.args.seat.now c.args.hand.now c.requires.works journal.0
          journal.1 (both_in c.args.hand.now c.requires.hand).cache
          (subst (Fits cf bf c.args.hand.now) c.if-not-is_within.false c.is_within.ensures),
    )

pub returns-in-Ok-clause-settled : goal.returns-in-Ok-clause-settled
returns-in-Ok-clause-settled g c = let on = c.in-Ok.ensures.journal in
    (on.1, on.3, on.4.waiting, on.4.sealed)

pub returns-in-Ok-clause-ok : goal.returns-in-Ok-clause-ok
returns-in-Ok-clause-ok g c = let put = c.in-Ok.ensures.ok in
    synced_put g.C.Disk.facts g.B.Disk.facts put.0 c.args.seat.now c.put_entry.new.seat
    c.requires.works.seat
    (journal_stands g.C.Disk.facts g.B.Disk.facts c.args.parts.now c.args.seat.now c.args.hand.now
    put.0 c.requires.works put.1)
    (subst (λ (j : Journal). j.waiting ≢ []) (same_some c.args.hand.now.journal
    c.requires.journal.0 put.0 c.requires.journal.1 put.1) c.requires.journal.3) put.2

pub returns-in-Err-clause-err : goal.returns-in-Err-clause-err
returns-in-Err-clause-err g c =
    let cf = g.C.Disk.facts in
    let bf = g.B.Disk.facts in
    let sectors = (cache_among cf bf c.args.parts.now.run.start).sectors in
    let cut = c.in-Err.ensures.err in
    subst (λ e. HasNotSynced cf bf sectors e c.args.seat.now
    c.put_entry.new.seat) (sym c.refusal.ensures)
    (refused_put cf bf sectors c.in-Err.error cut.0 c.args.seat.now c.put_entry.new.seat
    c.requires.works.seat
    (journal_stands cf bf c.args.parts.now c.args.seat.now c.args.hand.now cut.0 c.requires.works
    cut.1) cut.2 c.in-Err.ensures.cause)
