use Rattle.std.proofs.Common.{Some, refl, sym, ap, ◌∙◌, subst, arith}
use Rattle.bc_deed.specs.bc_hand.Seats.{Works}
use Rattle.bc_deed.proofs.of_bc_hand.Lending.{works_waited}
use Rattle.bc_deed.proofs.May.{did_nothing, holds_only, kept_as}
use Rattle.bc_entry.proofs.Allowed.{may_end}
use Rattle.bc_entry.proofs.CacheDevice.{cached_by}
use Rattle.bc_entry.proofs.Ending.{journal_changed, knows_newest, works_ended}
use Rattle.bc_entry.proofs.Holding.{some_is, works_journal_held}
use Rattle.bc_entry.proofs.durable.make_durable.Goals as goal

pub returns-in-Some-clause-err : goal.returns-in-Some-clause-err
returns-in-Some-clause-err g c = did_nothing g.C.Disk.facts g.B.Disk.facts c.args.seat.now
    c.requires.works.seat

pub returns-in-Some-clause-halted : goal.returns-in-Some-clause-halted
returns-in-Some-clause-halted g c = c.in-Some.ensures.stopped c.in-Some.device refl

pub commit-requires-clause-holds : goal.commit-requires-clause-holds
commit-requires-clause-holds g c = holds_only g.C.Disk.facts g.B.Disk.facts c.args.seat.now.parts 3
    _ journal_changed (works_journal_held g.C.Disk.facts g.B.Disk.facts c.args.parts.now
    c.args.seat.now c.args.hand.now c.requires.works
    (some_is c.args.hand.now.journal c.requires.journal.0 c.requires.journal.1))

pub commit-requires-clause-may : goal.commit-requires-clause-may
commit-requires-clause-may g c = may_end g.C.Disk.facts g.B.Disk.facts c.args.seat.now
    c.requires.works.seat (cached_by g.C.Disk.facts g.B.Disk.facts c.args.parts.now c.args.seat.now
    c.requires.works.run c.requires.cached) c.args.entry
    (works_journal_held g.C.Disk.facts g.B.Disk.facts c.args.parts.now
    c.args.seat.now c.args.hand.now c.requires.works
    (some_is c.args.hand.now.journal c.requires.journal.0 c.requires.journal.1)) c.requires.safe

pub returns-in-Err-clause-works : goal.returns-in-Err-clause-works
returns-in-Err-clause-works g c = works_waited g.C.Disk.facts g.B.Disk.facts c.args.parts.now
    c.args.seat.now c.commit.new.seat c.args.hand.now c.requires.works c.in-Err.ensures.kept.seat
    c.in-Err.ensures.err.is c.in-Err.ensures.kept.parts

pub returns-clause-works : goal.returns-clause-works
returns-clause-works g c = subst (λ j. Works g.C.Disk.facts g.B.Disk.facts c.args.parts.now
    c.commit.new.seat (record c.args.hand.now { journal = Some j })) (sym c.written.ensures)
    (works_ended g.C.Disk.facts g.B.Disk.facts c.args.parts.now c.args.seat.now c.commit.new.seat
    c.args.hand.now c.get_mut.result.now c.args.entry
    (sym c.take.ensures.value ∙ c.in-Some-take.is ∙ ap Some (sym c.get_mut.ensures.part)) c.requires.works c.requires.safe
    c.in_default-commit.ensures.ok
    (kept_as g.C.Disk.facts g.B.Disk.facts c.args.seat.now c.commit.new.seat _ _ journal_changed
    c.commit.ensures.kept))

pub returns-clause-knows : goal.returns-clause-knows
returns-clause-knows g c = knows_newest g.C.Disk.facts g.B.Disk.facts c.args.seat.now
    c.commit.new.seat
    (works_journal_held g.C.Disk.facts g.B.Disk.facts c.args.parts.now
    c.args.seat.now c.args.hand.now c.requires.works
    (some_is c.args.hand.now.journal c.requires.journal.0 c.requires.journal.1)) c.args.entry
    c.requires.safe c.in_default-commit.ensures.ok

pub returns-in-Err-clause-left : goal.returns-in-Err-clause-left
returns-in-Err-clause-left g c = let none = c.in-Err.ensures.err.is.promises in omega (arith, none)

pub returns-clause-left : goal.returns-clause-left
returns-clause-left g c =
    let used = c.in_default-commit.ensures.ok.is.promises in
    omega (arith, used)
