use Rattle.std.proofs.Common.{◌∙◌}
use Rattle.bc_entry.proofs.Putting.{cache_kinds, cause_barrier, cause_end, cause_write, ended_hand, ended_kinds, has_cache}
use Rattle.bc_change.proofs.Behind.{all_done, cache_alone, cache_then, cut_again, cut_end, cut_first, cut_write, has_spine, journal_ended, keeps_any, keeps_barrier, keeps_both, keeps_failed, keeps_lost, keeps_tree, keeps_write, rest_ended, still_journal}
use Rattle.bc_change.proofs.put.put_sealed.Goals as goal

pub returns-in-Err-clause-err : goal.returns-in-Err-clause-err
returns-in-Err-clause-err g c = cut_first g.C.Disk.facts g.B.Disk.facts c.args.entry
    c.args.seat.now c.cache_barrier.new.seat c.in-Err.error c.in-Err.ensures.err

pub returns-in-Err-clause-under : goal.returns-in-Err-clause-under
returns-in-Err-clause-under g c = keeps_failed g.C.Disk.facts g.B.Disk.facts c.in-Err.error
    c.args.seat.now
    c.cache_barrier.new.seat (keeps_tree g.C.Disk.facts g.B.Disk.facts c.args.parts.now
    c.args.seat.now c.args.hand.now
    c.requires.works c.requires.tree) c.in-Err.ensures.err

pub write_entry-requires-clause-ready : goal.write_entry-requires-clause-ready
write_entry-requires-clause-ready g c = (c.in-Ok.ensures.firm c.requires.hand).ready
    c.args.entry c.requires.fixed

pub returns-in-Err-write_entry-clause-err : goal.returns-in-Err-write_entry-clause-err
returns-in-Err-write_entry-clause-err g c = cut_write g.C.Disk.facts g.B.Disk.facts c.args.entry
    c.args.seat.now c.cache_barrier.new.seat c.in-Ok.ensures.ok c.in-Err-write_entry.error
    c.write_entry.new.seat c.in-Err-write_entry.ensures.err

pub returns-in-Err-write_entry-clause-cause : goal.returns-in-Err-write_entry-clause-cause
returns-in-Err-write_entry-clause-cause g c = cause_write g.C.Disk.facts g.B.Disk.facts
    c.in-Err-write_entry.error c.args.entry c.cache_barrier.new.seat c.write_entry.new.seat
    c.in-Err-write_entry.ensures.err

pub returns-in-Err-write_entry-clause-under : goal.returns-in-Err-write_entry-clause-under
returns-in-Err-write_entry-clause-under g c = keeps_both g.C.Disk.facts g.B.Disk.facts
    c.args.seat.now c.cache_barrier.new.seat c.write_entry.new.seat c.in-Ok.ensures.ok.is.same.first
    (keeps_barrier g.C.Disk.facts g.B.Disk.facts c.args.seat.now c.cache_barrier.new.seat
    (keeps_tree g.C.Disk.facts g.B.Disk.facts c.args.parts.now c.args.seat.now c.args.hand.now
    c.requires.works c.requires.tree) c.in-Ok.ensures.ok)
    (keeps_lost g.C.Disk.facts g.B.Disk.facts c.in-Err-write_entry.error c.args.entry
    c.cache_barrier.new.seat c.write_entry.new.seat (keeps_tree g.C.Disk.facts g.B.Disk.facts
    c.args.parts.now c.cache_barrier.new.seat
    c.cache_barrier.new.hand c.cache_barrier.ensures.works
    (has_spine c.args.hand.now c.cache_barrier.new.hand c.cache_barrier.ensures.hand
    c.requires.tree)) c.in-Err-write_entry.ensures.err)

pub returns-in-Err-cache_barrier-clause-err : goal.returns-in-Err-cache_barrier-clause-err
returns-in-Err-cache_barrier-clause-err g c = cut_again g.C.Disk.facts g.B.Disk.facts
    c.args.entry c.args.seat.now c.cache_barrier.new.seat c.in-Ok.ensures.ok c.write_entry.new.seat
    c.in-Ok-write_entry.ensures.ok c.in-Err-cache_barrier.error c.cache_barrier-2.new.seat
    c.in-Err-cache_barrier.ensures.err

pub returns-in-Err-cache_barrier-clause-cause : goal.returns-in-Err-cache_barrier-clause-cause
returns-in-Err-cache_barrier-clause-cause g c = cause_barrier g.C.Disk.facts g.B.Disk.facts
    c.in-Err-cache_barrier.error c.write_entry.new.seat c.cache_barrier-2.new.seat
    c.in-Err-cache_barrier.ensures.err

pub returns-in-Err-cache_barrier-clause-under : goal.returns-in-Err-cache_barrier-clause-under
returns-in-Err-cache_barrier-clause-under g c = keeps_both g.C.Disk.facts g.B.Disk.facts
    c.args.seat.now c.write_entry.new.seat c.cache_barrier-2.new.seat
    (c.in-Ok-write_entry.ensures.ok.2.is.same.first ∙ c.in-Ok.ensures.ok.is.same.first)
    (keeps_both g.C.Disk.facts g.B.Disk.facts c.args.seat.now c.cache_barrier.new.seat
    c.write_entry.new.seat c.in-Ok.ensures.ok.is.same.first
    (keeps_barrier g.C.Disk.facts g.B.Disk.facts c.args.seat.now c.cache_barrier.new.seat
    (keeps_tree g.C.Disk.facts g.B.Disk.facts c.args.parts.now c.args.seat.now c.args.hand.now
    c.requires.works c.requires.tree) c.in-Ok.ensures.ok)
    (keeps_write g.C.Disk.facts g.B.Disk.facts c.args.entry c.cache_barrier.new.seat
    c.write_entry.new.seat (keeps_tree g.C.Disk.facts g.B.Disk.facts c.args.parts.now
    c.cache_barrier.new.seat
    c.cache_barrier.new.hand c.cache_barrier.ensures.works
    (has_spine c.args.hand.now c.cache_barrier.new.hand c.cache_barrier.ensures.hand
    c.requires.tree)) c.in-Ok-write_entry.ensures.ok))
    (keeps_failed g.C.Disk.facts g.B.Disk.facts c.in-Err-cache_barrier.error
    c.write_entry.new.seat c.cache_barrier-2.new.seat (keeps_tree g.C.Disk.facts g.B.Disk.facts
    c.args.parts.now c.write_entry.new.seat
    c.write_entry.new.hand c.write_entry.ensures.works
    (has_spine c.args.hand.now c.write_entry.new.hand (cache_kinds c.cache_barrier.new.hand
    c.write_entry.new.hand c.write_entry.ensures.rest
    (has_cache c.args.hand.now c.cache_barrier.new.hand c.cache_barrier.ensures.hand
    c.requires.hand.cache) c.write_entry.ensures.hand.cache
    ∙ c.cache_barrier.ensures.hand) c.requires.tree))
    c.in-Err-cache_barrier.ensures.err)

pub make_durable-requires-clause-journal : goal.make_durable-requires-clause-journal
make_durable-requires-clause-journal g c = (
  c.requires.journal.0,
  (still_journal c.write_entry.new.hand c.cache_barrier-2.new.hand c.cache_barrier-2.ensures.rest
      ∙ still_journal c.cache_barrier.new.hand c.write_entry.new.hand c.write_entry.ensures.rest
      ∙ still_journal c.args.hand.now c.cache_barrier.new.hand c.cache_barrier.ensures.rest)
      ∙ c.requires.journal.1,
  c.requires.journal.2,
)

pub make_durable-requires-clause-safe : goal.make_durable-requires-clause-safe
make_durable-requires-clause-safe g c = (c.in-Ok-cache_barrier.ensures.firm
    c.write_entry.ensures.hand).safe c.args.entry c.in-Ok-write_entry.ensures.knows

pub returns-clause-hand : goal.returns-clause-hand
returns-clause-hand g c = ended_hand c.make_durable.result c.cache_barrier-2.new.hand
    c.make_durable.new.hand c.args.entry c.requires.journal.0 ((still_journal
    c.write_entry.new.hand c.cache_barrier-2.new.hand c.cache_barrier-2.ensures.rest
    ∙ still_journal c.cache_barrier.new.hand c.write_entry.new.hand c.write_entry.ensures.rest
    ∙ still_journal c.args.hand.now c.cache_barrier.new.hand c.cache_barrier.ensures.rest) ∙
    c.requires.journal.1)
    (has_cache c.write_entry.new.hand c.cache_barrier-2.new.hand c.cache_barrier-2.ensures.hand
    c.write_entry.ensures.hand.cache) c.make_durable.ensures.journal c.make_durable.ensures.same

pub returns-clause-kinds : goal.returns-clause-kinds
returns-clause-kinds g c = ended_kinds c.make_durable.result c.cache_barrier-2.new.hand
    c.make_durable.new.hand c.args.entry c.requires.journal.0 ((still_journal
    c.write_entry.new.hand c.cache_barrier-2.new.hand c.cache_barrier-2.ensures.rest
    ∙ still_journal c.cache_barrier.new.hand c.write_entry.new.hand c.write_entry.ensures.rest
    ∙ still_journal c.args.hand.now c.cache_barrier.new.hand c.cache_barrier.ensures.rest) ∙
    c.requires.journal.1)
    c.make_durable.ensures.journal c.make_durable.ensures.same
    ∙ c.cache_barrier-2.ensures.hand ∙ (cache_kinds c.cache_barrier.new.hand c.write_entry.new.hand
    c.write_entry.ensures.rest
    (has_cache c.args.hand.now c.cache_barrier.new.hand c.cache_barrier.ensures.hand
    c.requires.hand.cache) c.write_entry.ensures.hand.cache
    ∙ c.cache_barrier.ensures.hand)

pub returns-clause-journal : goal.returns-clause-journal
returns-clause-journal g c = journal_ended c.make_durable.result c.args.hand.now.journal
    c.cache_barrier-2.new.hand c.make_durable.new.hand c.args.entry (still_journal
    c.write_entry.new.hand c.cache_barrier-2.new.hand c.cache_barrier-2.ensures.rest
    ∙ still_journal c.cache_barrier.new.hand c.write_entry.new.hand c.write_entry.ensures.rest
    ∙ still_journal c.args.hand.now c.cache_barrier.new.hand c.cache_barrier.ensures.rest)
    c.make_durable.ensures.journal

pub returns-clause-ok : goal.returns-clause-ok
returns-clause-ok g c = all_done g.C.Disk.facts g.B.Disk.facts c.args.entry c.args.seat.now
    c.cache_barrier.new.seat c.in-Ok.ensures.ok c.write_entry.new.seat
    c.in-Ok-write_entry.ensures.ok c.cache_barrier-2.new.seat c.in-Ok-cache_barrier.ensures.ok
    c.make_durable.new.seat c.make_durable.result c.make_durable.ensures.ok

pub returns-clause-err : goal.returns-clause-err
returns-clause-err g c = cut_end g.C.Disk.facts g.B.Disk.facts c.args.entry c.args.seat.now
    c.cache_barrier.new.seat c.in-Ok.ensures.ok c.write_entry.new.seat
    c.in-Ok-write_entry.ensures.ok c.cache_barrier-2.new.seat c.in-Ok-cache_barrier.ensures.ok
    c.make_durable.new.seat c.make_durable.result c.make_durable.ensures.halted
    c.make_durable.ensures.err

pub returns-clause-cause : goal.returns-clause-cause
returns-clause-cause g c = cause_end g.C.Disk.facts g.B.Disk.facts c.make_durable.result
    c.make_durable.new.seat.seen c.make_durable.ensures.halted

pub returns-clause-under : goal.returns-clause-under
returns-clause-under g c = keeps_both g.C.Disk.facts g.B.Disk.facts c.args.seat.now
    c.cache_barrier-2.new.seat c.make_durable.new.seat
    (c.in-Ok-cache_barrier.ensures.ok.is.same.first ∙
    (c.in-Ok-write_entry.ensures.ok.2.is.same.first ∙ c.in-Ok.ensures.ok.is.same.first))
    (keeps_both g.C.Disk.facts g.B.Disk.facts c.args.seat.now c.write_entry.new.seat
    c.cache_barrier-2.new.seat (c.in-Ok-write_entry.ensures.ok.2.is.same.first ∙
    c.in-Ok.ensures.ok.is.same.first)
    (keeps_both g.C.Disk.facts g.B.Disk.facts c.args.seat.now c.cache_barrier.new.seat
    c.write_entry.new.seat c.in-Ok.ensures.ok.is.same.first
    (keeps_barrier g.C.Disk.facts g.B.Disk.facts c.args.seat.now c.cache_barrier.new.seat
    (keeps_tree g.C.Disk.facts g.B.Disk.facts c.args.parts.now c.args.seat.now c.args.hand.now
    c.requires.works c.requires.tree) c.in-Ok.ensures.ok)
    (keeps_write g.C.Disk.facts g.B.Disk.facts c.args.entry c.cache_barrier.new.seat
    c.write_entry.new.seat (keeps_tree g.C.Disk.facts g.B.Disk.facts c.args.parts.now
    c.cache_barrier.new.seat
    c.cache_barrier.new.hand c.cache_barrier.ensures.works
    (has_spine c.args.hand.now c.cache_barrier.new.hand c.cache_barrier.ensures.hand
    c.requires.tree)) c.in-Ok-write_entry.ensures.ok))
    (keeps_barrier g.C.Disk.facts g.B.Disk.facts c.write_entry.new.seat
    c.cache_barrier-2.new.seat (keeps_tree g.C.Disk.facts g.B.Disk.facts c.args.parts.now
    c.write_entry.new.seat
    c.write_entry.new.hand c.write_entry.ensures.works
    (has_spine c.args.hand.now c.write_entry.new.hand (cache_kinds c.cache_barrier.new.hand
    c.write_entry.new.hand c.write_entry.ensures.rest
    (has_cache c.args.hand.now c.cache_barrier.new.hand c.cache_barrier.ensures.hand
    c.requires.hand.cache) c.write_entry.ensures.hand.cache
    ∙ c.cache_barrier.ensures.hand) c.requires.tree)) c.in-Ok-cache_barrier.ensures.ok))
    (keeps_any g.C.Disk.facts g.B.Disk.facts c.make_durable.result c.cache_barrier-2.new.seat
    c.make_durable.new.seat (keeps_tree g.C.Disk.facts g.B.Disk.facts c.args.parts.now
    c.cache_barrier-2.new.seat
    c.cache_barrier-2.new.hand c.cache_barrier-2.ensures.works
    (has_spine c.args.hand.now c.cache_barrier-2.new.hand (c.cache_barrier-2.ensures.hand ∙
    (cache_kinds c.cache_barrier.new.hand c.write_entry.new.hand c.write_entry.ensures.rest
    (has_cache c.args.hand.now c.cache_barrier.new.hand c.cache_barrier.ensures.hand
    c.requires.hand.cache) c.write_entry.ensures.hand.cache
    ∙ c.cache_barrier.ensures.hand))
    c.requires.tree))
    c.make_durable.ensures.ok c.make_durable.ensures.err)

pub returns-in-Err-clause-rest : goal.returns-in-Err-clause-rest
returns-in-Err-clause-rest g c = cache_alone c.args.hand.now c.cache_barrier.new.hand
    c.cache_barrier.ensures.rest

pub returns-in-Err-write_entry-clause-rest : goal.returns-in-Err-write_entry-clause-rest
returns-in-Err-write_entry-clause-rest g c = cache_alone c.args.hand.now c.write_entry.new.hand
    (cache_then c.args.hand.now c.cache_barrier.new.hand c.write_entry.new.hand
    c.cache_barrier.ensures.rest c.write_entry.ensures.rest)

pub returns-in-Err-cache_barrier-clause-rest : goal.returns-in-Err-cache_barrier-clause-rest
returns-in-Err-cache_barrier-clause-rest g c =
    cache_alone c.args.hand.now c.cache_barrier-2.new.hand
    (cache_then c.args.hand.now c.write_entry.new.hand c.cache_barrier-2.new.hand
    (cache_then c.args.hand.now c.cache_barrier.new.hand c.write_entry.new.hand
    c.cache_barrier.ensures.rest c.write_entry.ensures.rest) c.cache_barrier-2.ensures.rest)

pub returns-clause-rest : goal.returns-clause-rest
returns-clause-rest g c =
    let all = cache_then c.args.hand.now c.write_entry.new.hand c.cache_barrier-2.new.hand
    (cache_then c.args.hand.now c.cache_barrier.new.hand c.write_entry.new.hand
    c.cache_barrier.ensures.rest c.write_entry.ensures.rest) c.cache_barrier-2.ensures.rest in
    rest_ended c.make_durable.result c.args.hand.now c.cache_barrier-2.new.hand
    c.make_durable.new.hand c.args.entry c.requires.journal.0 all
    (((still_journal c.write_entry.new.hand c.cache_barrier-2.new.hand
    c.cache_barrier-2.ensures.rest
    ∙ still_journal c.cache_barrier.new.hand c.write_entry.new.hand c.write_entry.ensures.rest
    ∙ still_journal c.args.hand.now c.cache_barrier.new.hand c.cache_barrier.ensures.rest)
    ∙ c.requires.journal.1)) c.make_durable.ensures.journal c.make_durable.ensures.same
