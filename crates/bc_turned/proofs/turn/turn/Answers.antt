use Rattle.std.proofs.Common.{inl, inr, []}
use Rattle.bc_flush.proofs.Counting.{come_lasts}
use Rattle.bc_flush.proofs.Walking.{lasts_done}
use Rattle.bc_flush.proofs.Syncing.{as_waited}
use Rattle.bc_flush.specs.Durable.{HaveComeIn}
use Rattle.bc_flush.specs.bc_machine.World.{cache_among}
use Rattle.bc_flush.specs.declared.error.FlushError.TheVariants as flush
use Rattle.bc_turn.proofs.of_bc_place.Keeping.{keeps_both}
use Rattle.bc_turn.proofs.Known.{law_known}
use Rattle.bc_turned.proofs.Hearing.{none_told, refused_answered}
use Rattle.bc_turned.proofs.Keeping.{keeps_none, keeps_refused, keeps_synced}
use Rattle.bc_turned.proofs.Turning.{durable_ended, no_memory, promised_done, refused_behind, synced_behind}
use Rattle.bc_turned.proofs.turn.turn.Goals as goal

-- the journal that was looked at stood for the run
pub returns-in_default-clause-err : goal.returns-in_default-clause-err
returns-in_default-clause-err g c =
    let cf = g.C.Disk.facts in
    let bf = g.B.Disk.facts in
    let looked = c.look_low-low.ensures.looked in
    let sectors = (cache_among cf bf c.args.parts.now.run.start).sectors in
    inl (refused_answered cf bf sectors flush.Memory c.or_halted.result looked.journal
    c.args.seat.now c.promise.new.seat (record {
      at = c.look_low-low.new.seat;
      before = [];
      went = as_waited cf bf c.args.seat.now c.look_low-low.new.seat looked.waited;
      stands = looked.stands;
    }) c.or_halted.ensures (no_memory cf bf sectors c.args.seat.now c.promise.new.seat
    (promised_done cf bf c.args.seat.now c.look_low-low.new.seat c.promise.new.seat
    looked.waited c.promise.ensures.done)))

pub returns-in_default-clause-memory : goal.returns-in_default-clause-memory
returns-in_default-clause-memory g c memory = none_told flush.Memory c.or_halted.result
    c.promise.new.seat.heard c.promise.new.seat.seen c.or_halted.ensures memory

pub returns-in_default-clause-keeps : goal.returns-in_default-clause-keeps
returns-in_default-clause-keeps g c =
    let cf = g.C.Disk.facts in
    let bf = g.B.Disk.facts in
    keeps_none cf bf c.args.seat.now c.promise.new.seat
    (promised_done cf bf c.args.seat.now c.look_low-low.new.seat c.promise.new.seat
    c.look_low-low.ensures.looked.waited c.promise.ensures.done)

pub returns-in-Err-clause-err : goal.returns-in-Err-clause-err
returns-in-Err-clause-err g c =
    let cf = g.C.Disk.facts in
    let bf = g.B.Disk.facts in
    let looked = c.look_low-low.ensures.looked in
    let sectors = (cache_among cf bf c.args.parts.now.run.start).sectors in
    inl (refused_answered cf bf sectors c.in-Err.error c.or_halted-in-Err.result looked.journal
    c.args.seat.now c.sync_journal.new.seat (record {
      at = c.look_low-low.new.seat;
      before = [];
      went = as_waited cf bf c.args.seat.now c.look_low-low.new.seat looked.waited;
      stands = looked.stands;
    }) c.or_halted-in-Err.ensures
    (refused_behind cf bf c.args.seat.now c.promise.new.seat c.sync_journal.new.seat
    (promised_done cf bf c.args.seat.now c.look_low-low.new.seat c.promise.new.seat
    looked.waited c.promise.ensures.done) sectors c.in-Err.error c.in-Err.ensures.err))

pub returns-in-Err-clause-memory : goal.returns-in-Err-clause-memory
returns-in-Err-clause-memory g c memory = none_told c.in-Err.error c.or_halted-in-Err.result
    c.sync_journal.new.seat.heard c.sync_journal.new.seat.seen c.or_halted-in-Err.ensures memory

pub returns-in-Err-clause-keeps : goal.returns-in-Err-clause-keeps
returns-in-Err-clause-keeps g c =
    let cf = g.C.Disk.facts in
    let bf = g.B.Disk.facts in
    keeps_both cf bf c.args.seat.now c.promise.new.seat c.sync_journal.new.seat
    (keeps_none cf bf c.args.seat.now c.promise.new.seat
    (promised_done cf bf c.args.seat.now c.look_low-low.new.seat c.promise.new.seat
    c.look_low-low.ensures.looked.waited c.promise.ensures.done))
    (keeps_refused cf bf (cache_among cf bf c.args.parts.now.run.start).sectors c.in-Err.error
    c.promise.new.seat c.sync_journal.new.seat c.in-Err.ensures.err)

pub turn_synced-requires-clause-come : goal.turn_synced-requires-clause-come
turn_synced-requires-clause-come g c =
    let cf = g.C.Disk.facts in
    let bf = g.B.Disk.facts in
    let low = c.look_low-low.result in
    let synced = c.in-Ok-sync_journal.ensures.ok in
    (law_known cf bf).come c.promise.new.seat c.sync_journal.new.seat synced.deeds low synced.done
    ((law_known cf bf).come c.look_low-low.new.seat c.promise.new.seat [] low
    c.promise.ensures.done c.look_low-low.ensures.come)

pub returns-in-Ok-turn_synced-clause-ok : goal.returns-in-Ok-turn_synced-clause-ok
returns-in-Ok-turn_synced-clause-ok g c =
    let cf = g.C.Disk.facts in
    let bf = g.B.Disk.facts in
    record {
      low = c.look_low-low.result;
      seen_at = c.look_low-low.new.seat;
      looked = c.look_low-low.ensures.looked;
      at = c.sync_journal.new.seat;
      synced = synced_behind cf bf c.look_low-low.new.seat c.promise.new.seat
          c.sync_journal.new.seat c.promise.ensures.done c.in-Ok-sync_journal.ensures.ok;
      ended = c.in-Ok-turn_synced.ensures.ok;
    }

pub returns-in-Err-turn_synced-clause-err : goal.returns-in-Err-turn_synced-clause-err
returns-in-Err-turn_synced-clause-err g c =
    let cf = g.C.Disk.facts in
    let bf = g.B.Disk.facts in
    inr (record {
      low = c.look_low-low.result;
      seen_at = c.look_low-low.new.seat;
      looked = c.look_low-low.ensures.looked;
      at = c.sync_journal.new.seat;
      synced = synced_behind cf bf c.look_low-low.new.seat c.promise.new.seat
          c.sync_journal.new.seat c.promise.ensures.done c.in-Ok-sync_journal.ensures.ok;
      not_ended = c.in-Err-turn_synced.ensures.err;
    })

pub returns-in-Ok-turn_synced-clause-durable : goal.returns-in-Ok-turn_synced-clause-durable
returns-in-Ok-turn_synced-clause-durable g c =
    let cf = g.C.Disk.facts in
    let bf = g.B.Disk.facts in
    λ n come. durable_ended cf bf c.args.parts.now
    (cache_among cf bf c.args.parts.now.run.start).sectors c.look_low-low.result
    c.in-Ok-turn_synced.answer c.sync_journal.new.seat c.turn_synced.new.seat
    c.in-Ok-turn_synced.ensures.ok n
    (c.in-Ok-sync_journal.ensures.durable n
    (lasts_done cf bf (HaveComeIn n) (come_lasts n) [] c.args.seat.now c.promise.new.seat
    (promised_done cf bf c.args.seat.now c.look_low-low.new.seat c.promise.new.seat
    c.look_low-low.ensures.looked.waited c.promise.ensures.done) come))

pub returns-in-Ok-turn_synced-clause-keeps : goal.returns-in-Ok-turn_synced-clause-keeps
returns-in-Ok-turn_synced-clause-keeps g c =
    let cf = g.C.Disk.facts in
    let bf = g.B.Disk.facts in
    keeps_both cf bf c.args.seat.now c.promise.new.seat c.turn_synced.new.seat
    (keeps_none cf bf c.args.seat.now c.promise.new.seat
    (promised_done cf bf c.args.seat.now c.look_low-low.new.seat c.promise.new.seat
    c.look_low-low.ensures.looked.waited c.promise.ensures.done))
    (keeps_both cf bf c.promise.new.seat c.sync_journal.new.seat c.turn_synced.new.seat
    (keeps_synced cf bf c.promise.new.seat c.sync_journal.new.seat
    c.in-Ok-sync_journal.ensures.ok) c.turn_synced.ensures.keeps)

pub returns-in-Err-turn_synced-clause-keeps : goal.returns-in-Err-turn_synced-clause-keeps
returns-in-Err-turn_synced-clause-keeps g c =
    let cf = g.C.Disk.facts in
    let bf = g.B.Disk.facts in
    keeps_both cf bf c.args.seat.now c.promise.new.seat c.turn_synced.new.seat
    (keeps_none cf bf c.args.seat.now c.promise.new.seat
    (promised_done cf bf c.args.seat.now c.look_low-low.new.seat c.promise.new.seat
    c.look_low-low.ensures.looked.waited c.promise.ensures.done))
    (keeps_both cf bf c.promise.new.seat c.sync_journal.new.seat c.turn_synced.new.seat
    (keeps_synced cf bf c.promise.new.seat c.sync_journal.new.seat
    c.in-Ok-sync_journal.ensures.ok) c.turn_synced.ensures.keeps)
