use Rattle.std.proofs.Common.{refl, sym, ◌∙◌}
use Rattle.bc_deed.proofs.of_bc_hand.Knowing.{map_ok}
use Rattle.bc_deed.proofs.May.{did_nothing}
use Rattle.bc_journal.specs.Sealed.{sector_at}
use Rattle.bc_entry.proofs.Holding.{works_cache_held, works_journal_held}
use Rattle.bc_entry.proofs.Writing.{knows_written, works_called}
use Rattle.bc_entry.proofs.write.write_entry.Goals as goal

pub returns-in-Some-clause-err : goal.returns-in-Some-clause-err
returns-in-Some-clause-err g c = (
  c.in-Some.ensures.stopped c.in-Some.device refl,
  did_nothing g.C.Disk.facts g.B.Disk.facts c.args.seat.now c.requires.works.seat,
)

pub returns-clause-works : goal.returns-clause-works
returns-clause-works g c = works_called g.C.Disk.facts g.B.Disk.facts c.args.parts.now
    c.args.seat.now c.write_in-done.new.seat c.args.hand.now c.in-Some-take.cache
    c.write_in-done.new.cache (sym c.take.ensures.value ∙ c.in-Some-take.is) c.requires.works
    c.write_in-done.ensures.seat c.write_in-done.ensures.kept c.write_in-done.ensures.cache

pub returns-clause-knows : goal.returns-clause-knows
returns-clause-knows g c = let s = c.args.entry.now in
    map_ok c.write_in-done.result (λ did. knows_written g.C.Disk.facts g.B.Disk.facts
    c.args.seat.now c.write_in-done.new.seat
    (works_journal_held g.C.Disk.facts g.B.Disk.facts c.args.parts.now c.args.seat.now
    c.args.hand.now c.requires.works c.requires.hand.journal)
    (works_cache_held g.C.Disk.facts g.B.Disk.facts c.args.parts.now c.args.seat.now
    c.args.hand.now c.requires.works c.requires.hand.cache) s (sector_at s.geometry s.place) did.0
    c.requires.ready did.2) c.write_in-done.ensures.ok
