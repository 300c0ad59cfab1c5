use Rattle.std.proofs.Common.{refl, sym, ap, ◌∙◌, subst, arith}
use Rattle.bc_entry.specs.bc_hand.Seats.{Works}
use Rattle.bc_entry.specs.bc_hand.declared.hand.Hand.{Hand}
use Rattle.bc_entry.proofs.Sealing.{rest_is_entry}
use Rattle.bc_entry.proofs.of_bc_deed.May.{did_nothing}
use Rattle.bc_entry.proofs.of_bc_hand.Lending.{works_waited}
use Rattle.bc_entry.specs.bc_machine.World.{are_plain}
use Rattle.bc_entry.specs.bc_machine.declared.part.CorePart.{CorePart}
use Rattle.bc_journal.specs.Journal.{IsSealed, Journal}
use Rattle.bc_parts.specs.Seat.{Run}
use Rattle.bc_entry.specs.Seal.{IsNext}
use Rattle.bc_change.proofs.Seated.{changed_held, did_sealing, fixed_behind, has_sealed_root, kept_sealing, may_seal_root_at, same_some, some_of, under_behind, works_sealed}
use Rattle.bc_change.proofs.root.seal_root.Goals as goal

pub returns-in-Some-clause-err : goal.returns-in-Some-clause-err
returns-in-Some-clause-err g c = did_nothing g.C.Disk.facts g.B.Disk.facts c.args.seat.now
    c.requires.works.seat

pub returns-in_default-next_in-clause-err : goal.returns-in_default-next_in-clause-err
returns-in_default-next_in-clause-err g c = did_nothing g.C.Disk.facts g.B.Disk.facts
    c.args.seat.now c.requires.works.seat

pub commit-requires-clause-holds : goal.commit-requires-clause-holds
commit-requires-clause-holds g c =
    let may = c.requires.may in
    let next = c.in-Some-next_in.next in
    λ k on. changed_held g.C.Disk.facts g.B.Disk.facts c.args.parts.now c.args.seat.now
    c.args.hand.now c.requires.works
    (ap (λ (r : Run (CorePart g.row.C.Denot g.row.B.Denot)).
    are_plain g.C.Disk.facts g.B.Disk.facts r.start) c.requires.works.run ∙ c.requires.cached)
    c.args.plan.now c.args.heads.now c.args.root c.args.change may
    (c.tree_in-tree.ensures may.can.spine may.can.is_spine).1
    (c.next_in.ensures.good may.can.journal may.can.is_journal) next.last_seq next.bucket next.rest
    c.requires.works.run k on

pub commit-requires-clause-may : goal.commit-requires-clause-may
commit-requires-clause-may g c =
    let may = c.requires.may in
    let next = c.in-Some-next_in.next in
    let is : IsNext may.can.journal c.args.heads.now next = some_of
    (IsNext may.can.journal c.args.heads.now) c.next_in.result next
    c.in-Some-next_in.is (c.next_in.ensures.next may.can.journal may.can.is_journal) in
    may_seal_root_at g.C.Disk.facts g.B.Disk.facts c.args.parts.now c.args.seat.now
    c.args.hand.now c.requires.works
    (ap (λ (r : Run (CorePart g.row.C.Denot g.row.B.Denot)).
    are_plain g.C.Disk.facts g.B.Disk.facts r.start) c.requires.works.run ∙ c.requires.cached)
    c.args.plan.now c.args.heads.now c.args.root c.args.change may
    (c.tree_in-tree.ensures may.can.spine may.can.is_spine).1
    (c.next_in.ensures.good may.can.journal may.can.is_journal) next.last_seq next.bucket
    is.last_seq is.bucket next.rest

pub returns-in-Err-clause-works : goal.returns-in-Err-clause-works
returns-in-Err-clause-works g c = works_waited g.C.Disk.facts g.B.Disk.facts c.args.parts.now
    c.args.seat.now c.commit.new.seat c.args.hand.now c.requires.works
    c.in-Err.ensures.err.seat.seat c.in-Err.ensures.err.is c.commit.ensures.kept.parts

pub returns-clause-works : goal.returns-clause-works
returns-clause-works g c =
    let cf = g.C.Disk.facts in
    let bf = g.B.Disk.facts in
    let may = c.requires.may in
    let next = c.in-Some-next_in.next in
    let is : IsNext may.can.journal c.args.heads.now next = some_of
    (IsNext may.can.journal c.args.heads.now) c.next_in.result next
    c.in-Some-next_in.is (c.next_in.ensures.next may.can.journal may.can.is_journal) in
    let done = c.seal_next.ensures in
    let sealed = subst (λ (j : Journal). IsSealed j c.args.heads.now c.seal_next.result done.1)
    (same_some c.args.hand.now.journal done.0 may.can.journal done.2 may.can.is_journal) done.4 in
    subst (λ (x : Hand g.row.C.Denot g.row.B.Denot). Works cf bf c.args.parts.now c.commit.new.seat x)
    (sym done.3) (works_sealed cf bf c.args.parts.now c.args.seat.now c.args.hand.now
    c.requires.works (ap (λ (r : Run (CorePart g.row.C.Denot g.row.B.Denot)).
    are_plain cf bf r.start) c.requires.works.run ∙ c.requires.cached)
    c.args.plan.now c.args.heads.now c.args.root c.args.change may
    (c.tree_in-tree.ensures may.can.spine may.can.is_spine).1
    (c.next_in.ensures.good may.can.journal may.can.is_journal) c.commit.new.seat next.rest
    c.seal_next.result done.1 sealed
    (rest_is_entry may.can.journal c.args.heads.now c.seal_next.result done.1 may.can.journal.waiting
    next.rest.items sealed is.rest refl)
    (did_sealing cf bf c.args.seat.now c.commit.new.seat may.can.journal next.rest c.args.root
    c.args.change next.last_seq next.bucket is.last_seq is.bucket c.in_default-commit.ensures.ok)
    (kept_sealing cf bf c.args.seat.now c.commit.new.seat may.can.journal next.rest c.args.root
    c.args.change next.last_seq next.bucket is.last_seq is.bucket c.commit.ensures.kept))

pub returns-clause-ok : goal.returns-clause-ok
returns-clause-ok g c =
    let cf = g.C.Disk.facts in
    let bf = g.B.Disk.facts in
    let may = c.requires.may in
    let next = c.in-Some-next_in.next in
    let is : IsNext may.can.journal c.args.heads.now next = some_of
    (IsNext may.can.journal c.args.heads.now) c.next_in.result next
    c.in-Some-next_in.is (c.next_in.ensures.next may.can.journal may.can.is_journal) in
    let done = c.seal_next.ensures in
    let sealed = subst (λ (j : Journal). IsSealed j c.args.heads.now c.seal_next.result done.1)
    (same_some c.args.hand.now.journal done.0 may.can.journal done.2 may.can.is_journal) done.4 in (
      may.can.journal,
      done.1,
      may.can.is_journal,
      done.3,
      sealed,
      has_sealed_root cf bf c.args.seat.now c.commit.new.seat may.can.journal next.rest c.args.root
          c.args.change c.args.heads.now c.seal_next.result done.1 sealed
          (rest_is_entry may.can.journal c.args.heads.now c.seal_next.result done.1
          may.can.journal.waiting next.rest.items sealed is.rest refl)
          (did_sealing cf bf c.args.seat.now c.commit.new.seat may.can.journal next.rest c.args.root
          c.args.change next.last_seq next.bucket is.last_seq is.bucket
          c.in_default-commit.ensures.ok),
    )

pub returns-clause-fixed : goal.returns-clause-fixed
returns-clause-fixed g c =
    let cf = g.C.Disk.facts in
    let bf = g.B.Disk.facts in
    let may = c.requires.may in
    let next = c.in-Some-next_in.next in
    let is : IsNext may.can.journal c.args.heads.now next = some_of
    (IsNext may.can.journal c.args.heads.now) c.next_in.result next
    c.in-Some-next_in.is (c.next_in.ensures.next may.can.journal may.can.is_journal) in
    let done = c.seal_next.ensures in
    let sealed = subst (λ (j : Journal). IsSealed j c.args.heads.now c.seal_next.result done.1)
    (same_some c.args.hand.now.journal done.0 may.can.journal done.2 may.can.is_journal) done.4 in
    fixed_behind cf bf c.args.parts.now c.args.seat.now c.args.hand.now
    c.requires.works (ap (λ (r : Run (CorePart g.row.C.Denot g.row.B.Denot)).
    are_plain cf bf r.start) c.requires.works.run ∙ c.requires.cached)
    c.args.plan.now c.args.heads.now c.args.root c.args.change may
    (c.tree_in-tree.ensures may.can.spine may.can.is_spine).1
    (c.next_in.ensures.good may.can.journal may.can.is_journal) c.commit.new.seat next.rest
    c.seal_next.result done.1 sealed
    (rest_is_entry may.can.journal c.args.heads.now c.seal_next.result done.1 may.can.journal.waiting
    next.rest.items sealed is.rest refl)
    (did_sealing cf bf c.args.seat.now c.commit.new.seat may.can.journal next.rest c.args.root
    c.args.change next.last_seq next.bucket is.last_seq is.bucket c.in_default-commit.ensures.ok)

pub returns-clause-under : goal.returns-clause-under
returns-clause-under g c =
    let cf = g.C.Disk.facts in
    let bf = g.B.Disk.facts in
    let may = c.requires.may in
    let next = c.in-Some-next_in.next in
    let is : IsNext may.can.journal c.args.heads.now next = some_of
    (IsNext may.can.journal c.args.heads.now) c.next_in.result next
    c.in-Some-next_in.is (c.next_in.ensures.next may.can.journal may.can.is_journal) in
    let done = c.seal_next.ensures in
    let sealed = subst (λ (j : Journal). IsSealed j c.args.heads.now c.seal_next.result done.1)
    (same_some c.args.hand.now.journal done.0 may.can.journal done.2 may.can.is_journal) done.4 in
    under_behind cf bf c.args.parts.now c.args.seat.now c.args.hand.now
    c.requires.works (ap (λ (r : Run (CorePart g.row.C.Denot g.row.B.Denot)).
    are_plain cf bf r.start) c.requires.works.run ∙ c.requires.cached)
    c.args.plan.now c.args.heads.now c.args.root c.args.change may
    (c.tree_in-tree.ensures may.can.spine may.can.is_spine).1
    (c.next_in.ensures.good may.can.journal may.can.is_journal) c.commit.new.seat next.rest
    c.seal_next.result done.1 sealed
    (rest_is_entry may.can.journal c.args.heads.now c.seal_next.result done.1 may.can.journal.waiting
    next.rest.items sealed is.rest refl)
    (did_sealing cf bf c.args.seat.now c.commit.new.seat may.can.journal next.rest c.args.root
    c.args.change next.last_seq next.bucket is.last_seq is.bucket c.in_default-commit.ensures.ok)

pub returns-in-Err-clause-left : goal.returns-in-Err-clause-left
returns-in-Err-clause-left g c = let none = c.in-Err.ensures.err.is.promises in omega (arith, none)

pub returns-clause-left : goal.returns-clause-left
returns-clause-left g c =
    let used = c.in_default-commit.ensures.ok.is.promises in
    omega (arith, used)
