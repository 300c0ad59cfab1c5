use Rattle.std.proofs.Common.{◌∙◌}
use Rattle.bc_deed.specs.bc_hand.declared.error.StepError.TheVariants as error
use Rattle.bc_deed.proofs.May.{did_nothing}
use Rattle.bc_deed.proofs.of_bc_hand.Knowing.{map_ok}
use Rattle.bc_entry.proofs.Putting.{all_done, cache_kinds, cause_barrier, cause_end, cause_write, cut_again, cut_barrier, cut_end, cut_seal, cut_write, ended_hand, ended_kinds, has_cache, if_err, journal_put, sealed_hand, sealed_kinds, kept_journal, sealed_numbers_are}
use Rattle.bc_entry.proofs.put.put_entry.Goals as goal

pub returns-in-Err-clause-err : goal.returns-in-Err-clause-err
returns-in-Err-clause-err g c = (
  c.requires.journal.0,
  c.requires.journal.1,
  cut_seal g.C.Disk.facts g.B.Disk.facts c.in-Err.error c.requires.journal.0
      c.args.seat.now c.seal.new.seat c.in-Err.ensures.cause c.in-Err.ensures.err,
)

pub returns-in-Err-cache_barrier-clause-kinds : goal.returns-in-Err-cache_barrier-clause-kinds
returns-in-Err-cache_barrier-clause-kinds g c = let ok = c.in-Ok-seal.ensures.ok in
    c.cache_barrier.ensures.hand ∙ sealed_kinds c.args.hand.now c.seal.new.hand ok.1 ok.3
    c.requires.hand.journal

pub returns-in-Err-cache_barrier-clause-err : goal.returns-in-Err-cache_barrier-clause-err
returns-in-Err-cache_barrier-clause-err g c = let ok = c.in-Ok-seal.ensures.ok in (
  ok.0,
  ok.2,
  cut_barrier g.C.Disk.facts g.B.Disk.facts ok.0 c.in-Ok-seal.entry ok.1 ok.4
      c.args.seat.now c.seal.new.seat ok.5 c.in-Err-cache_barrier.error c.cache_barrier.new.seat
      c.in-Err-cache_barrier.ensures.err,
)

pub returns-in-Err-cache_barrier-clause-cause : goal.returns-in-Err-cache_barrier-clause-cause
returns-in-Err-cache_barrier-clause-cause g c = cause_barrier g.C.Disk.facts g.B.Disk.facts
    c.in-Err-cache_barrier.error c.seal.new.seat c.cache_barrier.new.seat
    c.in-Err-cache_barrier.ensures.err

pub write_entry-requires-clause-ready : goal.write_entry-requires-clause-ready
write_entry-requires-clause-ready g c = let ok = c.in-Ok-seal.ensures.ok in
    (c.in-Ok-cache_barrier.ensures.firm (sealed_hand c.args.hand.now c.seal.new.hand ok.1 ok.3
    c.requires.hand)).ready c.in-Ok-seal.entry c.in-Ok-seal.ensures.knows

pub returns-in-Err-write_entry-clause-kinds : goal.returns-in-Err-write_entry-clause-kinds
returns-in-Err-write_entry-clause-kinds g c = let ok = c.in-Ok-seal.ensures.ok in
    cache_kinds c.cache_barrier.new.hand c.write_entry.new.hand c.write_entry.ensures.rest
    (has_cache c.seal.new.hand c.cache_barrier.new.hand c.cache_barrier.ensures.hand
    (sealed_hand c.args.hand.now c.seal.new.hand ok.1 ok.3 c.requires.hand).cache)
    c.write_entry.ensures.hand.cache
    ∙ c.cache_barrier.ensures.hand ∙ sealed_kinds c.args.hand.now c.seal.new.hand ok.1 ok.3
    c.requires.hand.journal

pub returns-in-Err-write_entry-clause-err : goal.returns-in-Err-write_entry-clause-err
returns-in-Err-write_entry-clause-err g c = let ok = c.in-Ok-seal.ensures.ok in (
  ok.0,
  ok.2,
  cut_write g.C.Disk.facts g.B.Disk.facts ok.0 c.in-Ok-seal.entry ok.1 ok.4
      c.args.seat.now c.seal.new.seat ok.5 c.cache_barrier.new.seat
      c.in-Ok-cache_barrier.ensures.ok c.in-Err-write_entry.error c.write_entry.new.seat
      c.in-Err-write_entry.ensures.err,
)

pub returns-in-Err-write_entry-clause-cause : goal.returns-in-Err-write_entry-clause-cause
returns-in-Err-write_entry-clause-cause g c = cause_write g.C.Disk.facts g.B.Disk.facts
    c.in-Err-write_entry.error c.in-Ok-seal.entry c.cache_barrier.new.seat c.write_entry.new.seat
    c.in-Err-write_entry.ensures.err

pub returns-in-Err-cache_barrier-2-clause-kinds : goal.returns-in-Err-cache_barrier-2-clause-kinds
returns-in-Err-cache_barrier-2-clause-kinds g c = let ok = c.in-Ok-seal.ensures.ok in
    c.cache_barrier-2.ensures.hand
    ∙ cache_kinds c.cache_barrier.new.hand c.write_entry.new.hand c.write_entry.ensures.rest
    (has_cache c.seal.new.hand c.cache_barrier.new.hand c.cache_barrier.ensures.hand
    (sealed_hand c.args.hand.now c.seal.new.hand ok.1 ok.3 c.requires.hand).cache)
    c.write_entry.ensures.hand.cache
    ∙ c.cache_barrier.ensures.hand ∙ sealed_kinds c.args.hand.now c.seal.new.hand ok.1 ok.3
    c.requires.hand.journal

pub returns-in-Err-cache_barrier-2-clause-err : goal.returns-in-Err-cache_barrier-2-clause-err
returns-in-Err-cache_barrier-2-clause-err g c = let ok = c.in-Ok-seal.ensures.ok in (
  ok.0,
  ok.2,
  cut_again g.C.Disk.facts g.B.Disk.facts ok.0 c.in-Ok-seal.entry ok.1 ok.4
      c.args.seat.now c.seal.new.seat ok.5 c.cache_barrier.new.seat
      c.in-Ok-cache_barrier.ensures.ok c.write_entry.new.seat c.in-Ok-write_entry.ensures.ok
      c.in-Err-cache_barrier-2.error c.cache_barrier-2.new.seat
      c.in-Err-cache_barrier-2.ensures.err,
)

pub make_durable-requires-clause-journal : goal.make_durable-requires-clause-journal
make_durable-requires-clause-journal g c = let ok = c.in-Ok-seal.ensures.ok in (
  ok.1,
  kept_journal c.args.hand.now c.seal.new.hand c.cache_barrier.new.hand c.write_entry.new.hand
      c.cache_barrier-2.new.hand ok.1 ok.3 c.cache_barrier.ensures.rest c.write_entry.ensures.rest
      c.cache_barrier-2.ensures.rest,
  sealed_numbers_are ok.0 c.in-Ok-seal.entry ok.1 ok.4,
)

pub make_durable-requires-clause-safe : goal.make_durable-requires-clause-safe
make_durable-requires-clause-safe g c =
    (c.in-Ok-cache_barrier-2.ensures.firm c.write_entry.ensures.hand).safe c.in-Ok-seal.entry
    c.in-Ok-write_entry.ensures.knows

pub returns-clause-hand : goal.returns-clause-hand
returns-clause-hand g c = let ok = c.in-Ok-seal.ensures.ok in
    ended_hand c.make_durable.result c.cache_barrier-2.new.hand c.make_durable.new.hand
    c.in-Ok-seal.entry
    ok.1
    (kept_journal c.args.hand.now c.seal.new.hand c.cache_barrier.new.hand c.write_entry.new.hand
    c.cache_barrier-2.new.hand ok.1 ok.3 c.cache_barrier.ensures.rest c.write_entry.ensures.rest
    c.cache_barrier-2.ensures.rest)
    (has_cache c.write_entry.new.hand c.cache_barrier-2.new.hand c.cache_barrier-2.ensures.hand
    c.write_entry.ensures.hand.cache) c.make_durable.ensures.journal c.make_durable.ensures.same

pub returns-clause-kinds : goal.returns-clause-kinds
returns-clause-kinds g c = let ok = c.in-Ok-seal.ensures.ok in
    ended_kinds c.make_durable.result c.cache_barrier-2.new.hand c.make_durable.new.hand
    c.in-Ok-seal.entry
    ok.1
    (kept_journal c.args.hand.now c.seal.new.hand c.cache_barrier.new.hand c.write_entry.new.hand
    c.cache_barrier-2.new.hand ok.1 ok.3 c.cache_barrier.ensures.rest c.write_entry.ensures.rest
    c.cache_barrier-2.ensures.rest) c.make_durable.ensures.journal c.make_durable.ensures.same
    ∙ c.cache_barrier-2.ensures.hand
    ∙ cache_kinds c.cache_barrier.new.hand c.write_entry.new.hand c.write_entry.ensures.rest
    (has_cache c.seal.new.hand c.cache_barrier.new.hand c.cache_barrier.ensures.hand
    (sealed_hand c.args.hand.now c.seal.new.hand ok.1 ok.3 c.requires.hand).cache)
    c.write_entry.ensures.hand.cache
    ∙ c.cache_barrier.ensures.hand ∙ sealed_kinds c.args.hand.now c.seal.new.hand ok.1 ok.3
    c.requires.hand.journal

pub returns-clause-ok : goal.returns-clause-ok
returns-clause-ok g c = let ok = c.in-Ok-seal.ensures.ok in
    map_ok c.make_durable.result (λ put. (ok.0, ok.2, put))
    (all_done g.C.Disk.facts g.B.Disk.facts ok.0 c.in-Ok-seal.entry ok.1 ok.4
    c.args.seat.now c.seal.new.seat ok.5 c.cache_barrier.new.seat c.in-Ok-cache_barrier.ensures.ok
    c.write_entry.new.seat c.in-Ok-write_entry.ensures.ok c.cache_barrier-2.new.seat
    c.in-Ok-cache_barrier-2.ensures.ok c.make_durable.new.seat c.make_durable.result
    c.make_durable.ensures.ok c.make_durable.ensures.knows)

pub returns-clause-err : goal.returns-clause-err
returns-clause-err g c = let ok = c.in-Ok-seal.ensures.ok in
    if_err c.make_durable.result (λ e cut. (ok.0, ok.2, cut))
    (cut_end g.C.Disk.facts g.B.Disk.facts ok.0 c.in-Ok-seal.entry ok.1 ok.4
    c.args.seat.now c.seal.new.seat ok.5 c.cache_barrier.new.seat c.in-Ok-cache_barrier.ensures.ok
    c.write_entry.new.seat c.in-Ok-write_entry.ensures.ok c.cache_barrier-2.new.seat
    c.in-Ok-cache_barrier-2.ensures.ok c.make_durable.new.seat c.make_durable.result
    c.make_durable.ensures.halted c.make_durable.ensures.err)

pub returns-clause-cause : goal.returns-clause-cause
returns-clause-cause g c = cause_end g.C.Disk.facts g.B.Disk.facts c.make_durable.result
    c.make_durable.new.seat.seen c.make_durable.ensures.halted

pub returns-clause-journal : goal.returns-clause-journal
returns-clause-journal g c = let ok = c.in-Ok-seal.ensures.ok in
    journal_put c.make_durable.result c.cache_barrier-2.new.hand c.make_durable.new.hand
    c.args.hand.now.journal ok.0 c.in-Ok-seal.entry ok.1 ok.2 ok.4
    (kept_journal c.args.hand.now c.seal.new.hand c.cache_barrier.new.hand c.write_entry.new.hand
    c.cache_barrier-2.new.hand ok.1 ok.3 c.cache_barrier.ensures.rest c.write_entry.ensures.rest
    c.cache_barrier-2.ensures.rest) c.make_durable.ensures.journal

pub returns-in_default-clause-err : goal.returns-in_default-clause-err
returns-in_default-clause-err g c = (
  c.requires.journal.0,
  c.requires.journal.1,
  cut_seal g.C.Disk.facts g.B.Disk.facts error.Memory c.requires.journal.0 c.args.seat.now
      c.args.seat.now tt
      (did_nothing g.C.Disk.facts g.B.Disk.facts c.args.seat.now c.requires.works.seat),
)
