use Rattle.std.proofs.Common.{◌-◌, ap, ◌∙◌, subst}
use Rattle.bc_append.proofs.of_bc_place.Keeping.{keeps_waited}
use Rattle.bc_change.specs.bc_machine.World.{are_plain}
use Rattle.bc_change.specs.bc_machine.declared.part.CorePart.{CorePart}
use Rattle.bc_change.proofs.of_bc_deed.May.{did_nothing}
use Rattle.bc_change.proofs.of_bc_hand.Lending.{works_waited}
use Rattle.bc_parts.specs.Seat.{Run}
use Rattle.bc_install.specs.Step.{IsPutIn}
use Rattle.bc_install.proofs.Keeping.{keeps_install, keeps_nothing}
use Rattle.bc_install.proofs.Installing.{has_installed, install_held, kinds_put, may_install, works_put}
use Rattle.bc_install.proofs.install.install.Goals as goal

pub returns-in-Some-clause-err : goal.returns-in-Some-clause-err
returns-in-Some-clause-err g c = did_nothing g.C.Disk.facts g.B.Disk.facts c.args.seat.now
    c.requires.works.seat

pub returns-in-Some-clause-places : goal.returns-in-Some-clause-places
returns-in-Some-clause-places g c = keeps_nothing g.C.Disk.facts g.B.Disk.facts c.args.seat.now
    c.requires.works.seat

pub returns-in-Err-clause-places : goal.returns-in-Err-clause-places
returns-in-Err-clause-places g c = keeps_waited g.C.Disk.facts g.B.Disk.facts c.args.seat.now
    c.commit.new.seat c.requires.works.seat c.in-Err.ensures.err.is

pub returns-clause-places : goal.returns-clause-places
returns-clause-places g c = keeps_install g.C.Disk.facts g.B.Disk.facts c.args.seat.now
    c.commit.new.seat c.args.change c.args.come c.args.gone c.requires.works.seat
    c.in_default-commit.ensures.ok

pub commit-requires-clause-holds : goal.commit-requires-clause-holds
commit-requires-clause-holds g c = λ k on. install_held g.C.Disk.facts g.B.Disk.facts
    c.args.parts.now c.args.seat.now c.args.hand.now c.requires.works
    (ap (λ (r : Run (CorePart g.row.C.Denot g.row.B.Denot)).
    are_plain g.C.Disk.facts g.B.Disk.facts r.start) c.requires.works.run ∙ c.requires.cached)
    c.args.plan c.args.first c.args.change c.args.come c.args.gone c.requires.may
    c.requires.works.run k on

pub commit-requires-clause-may : goal.commit-requires-clause-may
commit-requires-clause-may g c = may_install g.C.Disk.facts g.B.Disk.facts
    c.args.parts.now c.args.seat.now c.args.hand.now c.requires.works
    (ap (λ (r : Run (CorePart g.row.C.Denot g.row.B.Denot)).
    are_plain g.C.Disk.facts g.B.Disk.facts r.start) c.requires.works.run ∙ c.requires.cached)
    c.args.plan c.args.first c.args.change c.args.come c.args.gone c.requires.may

pub returns-in-Err-clause-works : goal.returns-in-Err-clause-works
returns-in-Err-clause-works g c = works_waited g.C.Disk.facts g.B.Disk.facts c.args.parts.now
    c.args.seat.now c.commit.new.seat c.args.hand.now c.requires.works
    c.in-Err.ensures.err.seat.seat c.in-Err.ensures.err.is c.commit.ensures.kept.parts

pub returns-clause-works : goal.returns-clause-works
returns-clause-works g c = works_put g.C.Disk.facts g.B.Disk.facts
    c.args.parts.now c.args.seat.now c.args.hand.now c.requires.works
    (ap (λ (r : Run (CorePart g.row.C.Denot g.row.B.Denot)).
    are_plain g.C.Disk.facts g.B.Disk.facts r.start) c.requires.works.run ∙ c.requires.cached)
    c.args.plan c.args.first c.args.change c.args.come c.args.gone c.requires.may
    c.commit.new.seat c.in_default-commit.ensures.ok c.requires.works.run c.put_in.new.hand
    c.args.made.now c.args.unmade.now c.requires.made c.requires.unmade
    (subst (λ n. IsPutIn (n - 6) c.args.plan c.args.first c.args.made.now c.args.unmade.now
    c.args.hand.now c.put_in.new.hand) c.part_count.ensures c.put_in.ensures) c.commit.ensures.kept

pub returns-clause-kinds : goal.returns-clause-kinds
returns-clause-kinds g c = kinds_put g.C.Disk.facts g.B.Disk.facts
    c.args.parts.now c.args.seat.now c.args.hand.now c.requires.works
    (ap (λ (r : Run (CorePart g.row.C.Denot g.row.B.Denot)).
    are_plain g.C.Disk.facts g.B.Disk.facts r.start) c.requires.works.run ∙ c.requires.cached)
    c.args.plan c.args.first c.args.change c.args.come c.args.gone c.requires.may
    c.commit.new.seat c.in_default-commit.ensures.ok c.requires.works.run c.put_in.new.hand
    c.args.made.now c.args.unmade.now c.requires.made c.requires.unmade
    (subst (λ n. IsPutIn (n - 6) c.args.plan c.args.first c.args.made.now c.args.unmade.now
    c.args.hand.now c.put_in.new.hand) c.part_count.ensures c.put_in.ensures)

pub returns-clause-ok : goal.returns-clause-ok
returns-clause-ok g c = has_installed g.C.Disk.facts g.B.Disk.facts
    c.args.parts.now c.args.seat.now c.args.hand.now c.requires.works
    (ap (λ (r : Run (CorePart g.row.C.Denot g.row.B.Denot)).
    are_plain g.C.Disk.facts g.B.Disk.facts r.start) c.requires.works.run ∙ c.requires.cached)
    c.args.plan c.args.first c.args.change c.args.come c.args.gone c.requires.may
    c.commit.new.seat c.in_default-commit.ensures.ok c.requires.works.run c.put_in.new.hand
    c.args.made.now c.args.unmade.now c.requires.made c.requires.unmade
    (subst (λ n. IsPutIn (n - 6) c.args.plan c.args.first c.args.made.now c.args.unmade.now
    c.args.hand.now c.put_in.new.hand) c.part_count.ensures c.put_in.ensures)
