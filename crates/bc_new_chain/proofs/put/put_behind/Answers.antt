use Rattle.std.proofs.Common.{◌∙◌, ap}
use Rattle.std.specs.Prelude.{◌≡◌, is_some}
use Rattle.bc_chain.specs.bc_hand.Seats.{kinds}
use Rattle.bc_chain.specs.bc_hand.declared.hand.Hand.{Hand}
use Rattle.bc_entry.specs.Entry.{HasJournalAndCache}
use Rattle.bc_entry.proofs.Putting.{cache_kinds, ended_hand, ended_kinds, has_cache}
use Rattle.bc_new_chain.proofs.Behind.{all_done, cause_barrier, cause_end, cause_write, cut_again, cut_end, cut_first, cut_write, has_both, holds_both, journal_ended, readies, rest_both, rest_cache, rest_ended, still_buckets, still_ended, still_journal}
use Rattle.bc_new_chain.proofs.Keeping.{Keeps, holds_on, keeps_barrier, keeps_end, keeps_entry, keeps_no_barrier, keeps_no_entry, keeps_then}
use Rattle.bc_new_chain.proofs.put.put_behind.Goals as goal

-- a barrier and the write leave the kinds of what is in hand
kinds_one : {C B : Type 0} (h a b : Hand C B) → kinds a ≡ kinds h → b ≡ record a { cache = b.cache }
    → HasJournalAndCache h → HasJournalAndCache b → kinds b ≡ kinds h
kinds_one h a b first second had has = cache_kinds a b second (has_cache h a first had.cache) has.cache
    ∙ first

pub returns-in-Err-clause-err : goal.returns-in-Err-clause-err
returns-in-Err-clause-err g c = cut_first g.C.Disk.facts g.B.Disk.facts c.args.entry
    c.args.seat.now c.cache_barrier.new.seat c.in-Err.error c.in-Err.ensures.err

pub returns-in-Err-clause-cause : goal.returns-in-Err-clause-cause
returns-in-Err-clause-cause g c = cause_barrier g.C.Disk.facts g.B.Disk.facts
    c.in-Err.error c.args.seat.now c.cache_barrier.new.seat c.in-Err.ensures.err

pub returns-in-Err-clause-keeps : goal.returns-in-Err-clause-keeps
returns-in-Err-clause-keeps g c = (keeps_no_barrier g.C.Disk.facts g.B.Disk.facts c.in-Err.error
    c.args.seat.now c.cache_barrier.new.seat c.requires.works.seat c.in-Err.ensures.err).places

pub returns-in-Err-clause-held : goal.returns-in-Err-clause-held
returns-in-Err-clause-held g c = (keeps_no_barrier g.C.Disk.facts g.B.Disk.facts c.in-Err.error
    c.args.seat.now c.cache_barrier.new.seat c.requires.works.seat c.in-Err.ensures.err).held

pub write_entry-requires-clause-ready : goal.write_entry-requires-clause-ready
write_entry-requires-clause-ready g c = (c.in-Ok.ensures.firm c.requires.hand).ready
    c.args.entry c.requires.fixed

pub returns-in-Err-write_entry-clause-err : goal.returns-in-Err-write_entry-clause-err
returns-in-Err-write_entry-clause-err g c = cut_write g.C.Disk.facts g.B.Disk.facts c.args.entry
    c.args.seat.now c.cache_barrier.new.seat c.in-Ok.ensures.ok c.in-Err-write_entry.error
    c.write_entry.new.seat c.in-Err-write_entry.ensures.err

pub returns-in-Err-write_entry-clause-cause : goal.returns-in-Err-write_entry-clause-cause
returns-in-Err-write_entry-clause-cause g c = cause_write g.C.Disk.facts g.B.Disk.facts
    c.in-Err-write_entry.error c.args.entry c.cache_barrier.new.seat c.write_entry.new.seat
    c.in-Err-write_entry.ensures.err

pub returns-in-Err-cache_barrier-clause-err : goal.returns-in-Err-cache_barrier-clause-err
returns-in-Err-cache_barrier-clause-err g c = cut_again g.C.Disk.facts g.B.Disk.facts
    c.args.entry c.args.seat.now c.cache_barrier.new.seat c.in-Ok.ensures.ok c.write_entry.new.seat
    c.in-Ok-write_entry.ensures.ok c.in-Err-cache_barrier.error c.cache_barrier-2.new.seat
    c.in-Err-cache_barrier.ensures.err

pub returns-in-Err-cache_barrier-clause-cause : goal.returns-in-Err-cache_barrier-clause-cause
returns-in-Err-cache_barrier-clause-cause g c = cause_barrier g.C.Disk.facts g.B.Disk.facts
    c.in-Err-cache_barrier.error c.write_entry.new.seat c.cache_barrier-2.new.seat
    c.in-Err-cache_barrier.ensures.err

pub make_durable-requires-clause-journal : goal.make_durable-requires-clause-journal
make_durable-requires-clause-journal g c = (
  c.requires.journal.0,
  (still_journal c.write_entry.new.hand c.cache_barrier-2.new.hand c.cache_barrier-2.ensures.rest
      ∙ still_journal c.cache_barrier.new.hand c.write_entry.new.hand c.write_entry.ensures.rest
      ∙ still_journal c.args.hand.now c.cache_barrier.new.hand c.cache_barrier.ensures.rest)
      ∙ c.requires.journal.1,
  c.requires.journal.2,
)

pub make_durable-requires-clause-safe : goal.make_durable-requires-clause-safe
make_durable-requires-clause-safe g c = (c.in-Ok-cache_barrier.ensures.firm
    c.write_entry.ensures.hand).safe c.args.entry c.in-Ok-write_entry.ensures.knows

pub returns-clause-hand : goal.returns-clause-hand
returns-clause-hand g c = ended_hand c.make_durable.result c.cache_barrier-2.new.hand
    c.make_durable.new.hand c.args.entry c.requires.journal.0 ((still_journal
    c.write_entry.new.hand c.cache_barrier-2.new.hand c.cache_barrier-2.ensures.rest
    ∙ still_journal c.cache_barrier.new.hand c.write_entry.new.hand c.write_entry.ensures.rest
    ∙ still_journal c.args.hand.now c.cache_barrier.new.hand c.cache_barrier.ensures.rest) ∙
    c.requires.journal.1)
    (has_cache c.write_entry.new.hand c.cache_barrier-2.new.hand c.cache_barrier-2.ensures.hand
    c.write_entry.ensures.hand.cache) c.make_durable.ensures.journal c.make_durable.ensures.same

pub returns-clause-kinds : goal.returns-clause-kinds
returns-clause-kinds g c = ended_kinds c.make_durable.result c.cache_barrier-2.new.hand
    c.make_durable.new.hand c.args.entry c.requires.journal.0 ((still_journal
    c.write_entry.new.hand c.cache_barrier-2.new.hand c.cache_barrier-2.ensures.rest
    ∙ still_journal c.cache_barrier.new.hand c.write_entry.new.hand c.write_entry.ensures.rest
    ∙ still_journal c.args.hand.now c.cache_barrier.new.hand c.cache_barrier.ensures.rest) ∙
    c.requires.journal.1)
    c.make_durable.ensures.journal c.make_durable.ensures.same
    ∙ c.cache_barrier-2.ensures.hand ∙ (cache_kinds c.cache_barrier.new.hand c.write_entry.new.hand
    c.write_entry.ensures.rest
    (has_cache c.args.hand.now c.cache_barrier.new.hand c.cache_barrier.ensures.hand
    c.requires.hand.cache) c.write_entry.ensures.hand.cache
    ∙ c.cache_barrier.ensures.hand)

pub returns-clause-journal : goal.returns-clause-journal
returns-clause-journal g c = journal_ended c.make_durable.result c.args.hand.now.journal
    c.cache_barrier-2.new.hand c.make_durable.new.hand c.args.entry (still_journal
    c.write_entry.new.hand c.cache_barrier-2.new.hand c.cache_barrier-2.ensures.rest
    ∙ still_journal c.cache_barrier.new.hand c.write_entry.new.hand c.write_entry.ensures.rest
    ∙ still_journal c.args.hand.now c.cache_barrier.new.hand c.cache_barrier.ensures.rest)
    c.make_durable.ensures.journal

pub returns-clause-ok : goal.returns-clause-ok
returns-clause-ok g c = all_done g.C.Disk.facts g.B.Disk.facts c.args.entry c.args.seat.now
    c.cache_barrier.new.seat c.in-Ok.ensures.ok c.write_entry.new.seat
    c.in-Ok-write_entry.ensures.ok c.cache_barrier-2.new.seat c.in-Ok-cache_barrier.ensures.ok
    c.make_durable.new.seat c.make_durable.result c.make_durable.ensures.ok

pub returns-clause-err : goal.returns-clause-err
returns-clause-err g c = cut_end g.C.Disk.facts g.B.Disk.facts c.args.entry c.args.seat.now
    c.cache_barrier.new.seat c.in-Ok.ensures.ok c.write_entry.new.seat
    c.in-Ok-write_entry.ensures.ok c.cache_barrier-2.new.seat c.in-Ok-cache_barrier.ensures.ok
    c.make_durable.new.seat c.make_durable.result c.make_durable.ensures.halted
    c.make_durable.ensures.err

pub returns-clause-cause : goal.returns-clause-cause
returns-clause-cause g c = cause_end c.make_durable.result
    c.make_durable.new.seat.seen c.make_durable.ensures.halted

pub returns-in-Err-clause-rest : goal.returns-in-Err-clause-rest
returns-in-Err-clause-rest g c = rest_cache c.args.hand.now c.cache_barrier.new.hand
    c.cache_barrier.ensures.rest

pub returns-in-Err-clause-still : goal.returns-in-Err-clause-still
returns-in-Err-clause-still g c = still_journal c.args.hand.now c.cache_barrier.new.hand
    c.cache_barrier.ensures.rest

pub returns-in-Err-write_entry-clause-rest : goal.returns-in-Err-write_entry-clause-rest
returns-in-Err-write_entry-clause-rest g c = rest_cache c.args.hand.now c.write_entry.new.hand
    (rest_both c.args.hand.now c.cache_barrier.new.hand c.write_entry.new.hand
    c.cache_barrier.ensures.rest c.write_entry.ensures.rest)

pub returns-in-Err-write_entry-clause-still : goal.returns-in-Err-write_entry-clause-still
returns-in-Err-write_entry-clause-still g c = still_journal c.args.hand.now c.write_entry.new.hand
    (rest_both c.args.hand.now c.cache_barrier.new.hand c.write_entry.new.hand
    c.cache_barrier.ensures.rest c.write_entry.ensures.rest)

pub returns-in-Err-cache_barrier-clause-rest : goal.returns-in-Err-cache_barrier-clause-rest
returns-in-Err-cache_barrier-clause-rest g c =
    let h0 = c.args.hand.now in
    let h2 = c.write_entry.new.hand in
    let h3 = c.cache_barrier-2.new.hand in
    rest_cache h0 h3 (rest_both h0 h2 h3 (rest_both h0 c.cache_barrier.new.hand h2
    c.cache_barrier.ensures.rest c.write_entry.ensures.rest) c.cache_barrier-2.ensures.rest)

pub returns-in-Err-cache_barrier-clause-still : goal.returns-in-Err-cache_barrier-clause-still
returns-in-Err-cache_barrier-clause-still g c =
    let h0 = c.args.hand.now in
    let h2 = c.write_entry.new.hand in
    let h3 = c.cache_barrier-2.new.hand in
    still_journal h0 h3 (rest_both h0 h2 h3 (rest_both h0 c.cache_barrier.new.hand h2
    c.cache_barrier.ensures.rest c.write_entry.ensures.rest) c.cache_barrier-2.ensures.rest)

pub returns-clause-rest : goal.returns-clause-rest
returns-clause-rest g c =
    let h0 = c.args.hand.now in
    let h2 = c.write_entry.new.hand in
    let h3 = c.cache_barrier-2.new.hand in
    rest_ended c.make_durable.result h0 h3 c.make_durable.new.hand c.args.entry
    c.requires.journal.0 c.requires.journal.1
    (rest_both h0 h2 h3 (rest_both h0 c.cache_barrier.new.hand h2
    c.cache_barrier.ensures.rest c.write_entry.ensures.rest) c.cache_barrier-2.ensures.rest)
    c.make_durable.ensures.journal c.make_durable.ensures.same

pub returns-clause-still : goal.returns-clause-still
returns-clause-still g c =
    let h0 = c.args.hand.now in
    let h2 = c.write_entry.new.hand in
    let h3 = c.cache_barrier-2.new.hand in
    still_ended c.make_durable.result h0 h3 c.make_durable.new.hand
    (rest_both h0 h2 h3 (rest_both h0 c.cache_barrier.new.hand h2
    c.cache_barrier.ensures.rest c.write_entry.ensures.rest) c.cache_barrier-2.ensures.rest)
    c.make_durable.ensures.same

pub returns-in-Err-write_entry-clause-keeps : goal.returns-in-Err-write_entry-clause-keeps
returns-in-Err-write_entry-clause-keeps g c =
    let cf = g.C.Disk.facts in
    let bf = g.B.Disk.facts in
    let t = c.args.seat.now in
    let u = c.cache_barrier.new.seat in
    let first = c.cache_barrier.ensures in
    let all = keeps_then cf bf t u c.write_entry.new.seat
    (holds_on cf bf c.args.parts.now t u c.args.hand.now c.cache_barrier.new.hand c.requires.works
    first.works first.hand)
    (keeps_barrier cf bf t u c.requires.works.seat c.in-Ok.ensures.ok)
    (keeps_no_entry cf bf c.in-Err-write_entry.error c.args.entry u c.write_entry.new.seat
    first.works.seat c.in-Err-write_entry.ensures.err) in all.places

pub returns-in-Err-write_entry-clause-held : goal.returns-in-Err-write_entry-clause-held
returns-in-Err-write_entry-clause-held g c =
    let cf = g.C.Disk.facts in
    let bf = g.B.Disk.facts in
    let t = c.args.seat.now in
    let u = c.cache_barrier.new.seat in
    let first = c.cache_barrier.ensures in
    let all = keeps_then cf bf t u c.write_entry.new.seat
    (holds_on cf bf c.args.parts.now t u c.args.hand.now c.cache_barrier.new.hand c.requires.works
    first.works first.hand)
    (keeps_barrier cf bf t u c.requires.works.seat c.in-Ok.ensures.ok)
    (keeps_no_entry cf bf c.in-Err-write_entry.error c.args.entry u c.write_entry.new.seat
    first.works.seat c.in-Err-write_entry.ensures.err) in all.held

pub returns-in-Err-cache_barrier-clause-keeps : goal.returns-in-Err-cache_barrier-clause-keeps
returns-in-Err-cache_barrier-clause-keeps g c =
    let cf = g.C.Disk.facts in
    let bf = g.B.Disk.facts in
    let p = c.args.parts.now in
    let h = c.args.hand.now in
    let t = c.args.seat.now in
    let u = c.cache_barrier.new.seat in
    let v = c.write_entry.new.seat in
    let w = c.cache_barrier-2.new.seat in
    let first = c.cache_barrier.ensures in
    let second = c.write_entry.ensures in
    let one = kinds_one h c.cache_barrier.new.hand c.write_entry.new.hand first.hand second.rest
    c.requires.hand second.hand in
    let all = keeps_then cf bf t v w
    (holds_on cf bf p t v h c.write_entry.new.hand c.requires.works second.works one)
    (keeps_then cf bf t u v
    (holds_on cf bf p t u h c.cache_barrier.new.hand c.requires.works first.works first.hand)
    (keeps_barrier cf bf t u c.requires.works.seat c.in-Ok.ensures.ok)
    (keeps_entry cf bf c.args.entry u v first.works.seat c.in-Ok-write_entry.ensures.ok))
    (keeps_no_barrier cf bf c.in-Err-cache_barrier.error v w second.works.seat
    c.in-Err-cache_barrier.ensures.err) in all.places

pub returns-in-Err-cache_barrier-clause-held : goal.returns-in-Err-cache_barrier-clause-held
returns-in-Err-cache_barrier-clause-held g c =
    let cf = g.C.Disk.facts in
    let bf = g.B.Disk.facts in
    let p = c.args.parts.now in
    let h = c.args.hand.now in
    let t = c.args.seat.now in
    let u = c.cache_barrier.new.seat in
    let v = c.write_entry.new.seat in
    let w = c.cache_barrier-2.new.seat in
    let first = c.cache_barrier.ensures in
    let second = c.write_entry.ensures in
    let one = kinds_one h c.cache_barrier.new.hand c.write_entry.new.hand first.hand second.rest
    c.requires.hand second.hand in
    let all = keeps_then cf bf t v w
    (holds_on cf bf p t v h c.write_entry.new.hand c.requires.works second.works one)
    (keeps_then cf bf t u v
    (holds_on cf bf p t u h c.cache_barrier.new.hand c.requires.works first.works first.hand)
    (keeps_barrier cf bf t u c.requires.works.seat c.in-Ok.ensures.ok)
    (keeps_entry cf bf c.args.entry u v first.works.seat c.in-Ok-write_entry.ensures.ok))
    (keeps_no_barrier cf bf c.in-Err-cache_barrier.error v w second.works.seat
    c.in-Err-cache_barrier.ensures.err) in all.held

pub returns-clause-keeps : goal.returns-clause-keeps
returns-clause-keeps g c =
    let cf = g.C.Disk.facts in
    let bf = g.B.Disk.facts in
    let p = c.args.parts.now in
    let h = c.args.hand.now in
    let t = c.args.seat.now in
    let u = c.cache_barrier.new.seat in
    let v = c.write_entry.new.seat in
    let w = c.cache_barrier-2.new.seat in
    let x = c.make_durable.new.seat in
    let first = c.cache_barrier.ensures in
    let second = c.write_entry.ensures in
    let third = c.cache_barrier-2.ensures in
    let one = kinds_one h c.cache_barrier.new.hand c.write_entry.new.hand first.hand second.rest
    c.requires.hand second.hand in
    let all = keeps_then cf bf t w x
    (holds_on cf bf p t w h c.cache_barrier-2.new.hand c.requires.works third.works
    (third.hand ∙ one))
    (keeps_then cf bf t v w
    (holds_on cf bf p t v h c.write_entry.new.hand c.requires.works second.works one)
    (keeps_then cf bf t u v
    (holds_on cf bf p t u h c.cache_barrier.new.hand c.requires.works first.works first.hand)
    (keeps_barrier cf bf t u c.requires.works.seat c.in-Ok.ensures.ok)
    (keeps_entry cf bf c.args.entry u v first.works.seat c.in-Ok-write_entry.ensures.ok))
    (keeps_barrier cf bf v w second.works.seat c.in-Ok-cache_barrier.ensures.ok))
    (keeps_end cf bf c.make_durable.result w x third.works.seat c.make_durable.ensures.ok
    c.make_durable.ensures.err) in all.places

pub returns-clause-held : goal.returns-clause-held
returns-clause-held g c =
    let cf = g.C.Disk.facts in
    let bf = g.B.Disk.facts in
    let p = c.args.parts.now in
    let h = c.args.hand.now in
    let t = c.args.seat.now in
    let u = c.cache_barrier.new.seat in
    let v = c.write_entry.new.seat in
    let w = c.cache_barrier-2.new.seat in
    let x = c.make_durable.new.seat in
    let first = c.cache_barrier.ensures in
    let second = c.write_entry.ensures in
    let third = c.cache_barrier-2.ensures in
    let one = kinds_one h c.cache_barrier.new.hand c.write_entry.new.hand first.hand second.rest
    c.requires.hand second.hand in
    let all = keeps_then cf bf t w x
    (holds_on cf bf p t w h c.cache_barrier-2.new.hand c.requires.works third.works
    (third.hand ∙ one))
    (keeps_then cf bf t v w
    (holds_on cf bf p t v h c.write_entry.new.hand c.requires.works second.works one)
    (keeps_then cf bf t u v
    (holds_on cf bf p t u h c.cache_barrier.new.hand c.requires.works first.works first.hand)
    (keeps_barrier cf bf t u c.requires.works.seat c.in-Ok.ensures.ok)
    (keeps_entry cf bf c.args.entry u v first.works.seat c.in-Ok-write_entry.ensures.ok))
    (keeps_barrier cf bf v w second.works.seat c.in-Ok-cache_barrier.ensures.ok))
    (keeps_end cf bf c.make_durable.result w x third.works.seat c.make_durable.ensures.ok
    c.make_durable.ensures.err) in all.held

pub returns-clause-next : goal.returns-clause-next
returns-clause-next g c =
    let cf = g.C.Disk.facts in
    let bf = g.B.Disk.facts in
    let h0 = c.args.hand.now in
    let h1 = c.cache_barrier.new.hand in
    let h2 = c.write_entry.new.hand in
    let h3 = c.cache_barrier-2.new.hand in
    let first = still_buckets h0 h1 c.cache_barrier.ensures.rest in
    let second = still_buckets h1 h2 c.write_entry.ensures.rest ∙ first in
    let third = still_buckets h2 h3 c.cache_barrier-2.ensures.rest ∙ second in
    let some1 = ap is_some first ∙ c.requires.buckets in
    let some2 = ap is_some second ∙ c.requires.buckets in
    let some3 = ap is_some third ∙ c.requires.buckets in
    readies cf bf c.args.entry c.args.seat.now c.cache_barrier.new.seat c.write_entry.new.seat
    c.cache_barrier-2.new.seat c.make_durable.new.seat
    (holds_both cf bf c.args.parts.now c.args.seat.now h0 c.requires.works c.requires.buckets
    c.requires.hand.journal)
    (holds_both cf bf c.args.parts.now c.cache_barrier.new.seat h1 c.cache_barrier.ensures.works
    some1 (has_both h0 h1 c.cache_barrier.ensures.hand c.requires.hand).journal)
    (holds_both cf bf c.args.parts.now c.write_entry.new.seat h2 c.write_entry.ensures.works
    some2 c.write_entry.ensures.hand.journal)
    (holds_both cf bf c.args.parts.now c.cache_barrier-2.new.seat h3
    c.cache_barrier-2.ensures.works some3
    (has_both h2 h3 c.cache_barrier-2.ensures.hand c.write_entry.ensures.hand).journal)
    c.in-Ok.ensures.ok c.in-Ok-write_entry.ensures.ok c.in-Ok-cache_barrier.ensures.ok
    c.make_durable.result c.make_durable.ensures.ok
