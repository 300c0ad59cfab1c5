use Rattle.std.proofs.Common.{◌∙◌}
use Rattle.bc_leaf_walk.specs.bc_machine.World.{cache_among}
use Rattle.bc_trace.proofs.Ending.{traced_around}
use Rattle.bc_trace.proofs.Going.{as_waited, both_none, gone_done, stopped_around, stopped_here}
use Rattle.bc_trace.proofs.Leafing.{missed_it}
use Rattle.bc_trace.specs.declared.error.TraceError.TheVariants as error
use Rattle.bc_trace.proofs.Parting.{both_taken, has_journal, none_behind_journal, still_buckets}
use Rattle.bc_trace.proofs.trace.end.Goals as goal

pub take_journal-requires-clause-order : goal.take_journal-requires-clause-order
take_journal-requires-clause-order g c = none_behind_journal c.promise.new.hand
    c.take_buckets.new.hand c.take_buckets.ensures.has.0
    (c.promise.ensures.hand ∙ c.empty-hand.ensures) c.take_buckets.ensures.has.1

pub end_it-done-requires-clause-hand : goal.end_it-done-requires-clause-hand
end_it-done-requires-clause-hand g c = both_taken c.promise.new.hand c.take_buckets.new.hand
    c.take_journal.new.hand c.take_buckets.ensures.has.0 c.take_journal.ensures.has.0
    (c.promise.ensures.hand ∙ c.empty-hand.ensures) c.take_buckets.ensures.has.1
    c.take_journal.ensures.has.1

pub give_journal-requires-clause-has : goal.give_journal-requires-clause-has
give_journal-requires-clause-has g c = has_journal c.end_it-done.new.hand c.end_it-done.ensures.hand

pub give_buckets-requires-clause-has : goal.give_buckets-requires-clause-has
give_buckets-requires-clause-has g c = still_buckets c.end_it-done.new.hand c.give_journal.new.hand
    c.end_it-done.ensures.hand c.give_journal.ensures.hand

pub returns-in_default-clause-err : goal.returns-in_default-clause-err
returns-in_default-clause-err g c = stopped_here g.C.Disk.facts g.B.Disk.facts
    (cache_among g.C.Disk.facts g.B.Disk.facts c.args.parts.now.run.start).sectors
    (error.Step c.missed.result) c.args.seat.now c.promise.new.seat c.promise.ensures.works.seat (
      missed_it g.C.Disk.facts g.B.Disk.facts c.missed.result c.promise.new.seat
          c.missed.ensures,
      gone_done g.C.Disk.facts g.B.Disk.facts c.args.seat.now c.promise.new.seat
          c.promise.ensures.done,
    )

pub returns-clause-ok : goal.returns-clause-ok
returns-clause-ok g c =
    let cf = g.C.Disk.facts in
    let bf = g.B.Disk.facts in
    traced_around cf bf c.end_it-done.result c.args.seat.now c.take_journal.new.seat
    c.end_it-done.new.seat c.give_buckets.new.seat
    (both_none cf bf c.args.seat.now c.promise.new.seat c.take_journal.new.seat
    c.promise.ensures.done
    (both_none cf bf c.promise.new.seat c.take_buckets.new.seat c.take_journal.new.seat
    (as_waited cf bf c.promise.new.seat c.take_buckets.new.seat c.take_buckets.ensures.waited)
    (as_waited cf bf c.take_buckets.new.seat c.take_journal.new.seat
    c.take_journal.ensures.waited)))
    (both_none cf bf c.end_it-done.new.seat c.give_journal.new.seat c.give_buckets.new.seat
    (as_waited cf bf c.end_it-done.new.seat c.give_journal.new.seat c.give_journal.ensures.waited)
    (as_waited cf bf c.give_journal.new.seat c.give_buckets.new.seat c.give_buckets.ensures.waited))
    c.end_it-done.ensures.ok

pub returns-clause-err : goal.returns-clause-err
returns-clause-err g c =
    let cf = g.C.Disk.facts in
    let bf = g.B.Disk.facts in
    stopped_around cf bf (cache_among cf bf c.args.parts.now.run.start).sectors
    c.end_it-done.result c.args.seat.now c.take_journal.new.seat
    c.end_it-done.new.seat c.give_buckets.new.seat
    (both_none cf bf c.args.seat.now c.promise.new.seat c.take_journal.new.seat
    c.promise.ensures.done
    (both_none cf bf c.promise.new.seat c.take_buckets.new.seat c.take_journal.new.seat
    (as_waited cf bf c.promise.new.seat c.take_buckets.new.seat c.take_buckets.ensures.waited)
    (as_waited cf bf c.take_buckets.new.seat c.take_journal.new.seat
    c.take_journal.ensures.waited)))
    (both_none cf bf c.end_it-done.new.seat c.give_journal.new.seat c.give_buckets.new.seat
    (as_waited cf bf c.end_it-done.new.seat c.give_journal.new.seat c.give_journal.ensures.waited)
    (as_waited cf bf c.give_journal.new.seat c.give_buckets.new.seat c.give_buckets.ensures.waited))
    c.end_it-done.ensures.err
