use Rattle.std.proofs.Common.{refl, sym, ap, ◌∙◌}
use Rattle.bc_change.proofs.of_bc_deed.May.{did_nothing}
use Rattle.bc_change.specs.bc_machine.World.{are_plain}
use Rattle.bc_change.specs.bc_machine.declared.part.CorePart.{CorePart}
use Rattle.bc_parts.specs.Seat.{Run}
use Rattle.bc_parent_set.proofs.Sent.{failed_now, holds_sent, kinds_now, may_sent, places_now, works_now, wrote_now}
use Rattle.bc_parent_set.proofs.write.write_parent_set.Goals as goal

pub returns-in-Some-clause-err : goal.returns-in-Some-clause-err
returns-in-Some-clause-err g c = (
  c.in-Some.ensures.stopped c.in-Some.device refl,
  did_nothing g.C.Disk.facts g.B.Disk.facts c.args.seat.now c.requires.works.seat,
  refl,
)

pub commit_sent-requires-clause-holds : goal.commit_sent-requires-clause-holds
commit_sent-requires-clause-holds g c =
    let may = c.requires.may in
    holds_sent g.C.Disk.facts g.B.Disk.facts c.args.parts.now c.args.seat.now c.args.hand.now
    c.requires.works (ap (λ (r : Run (CorePart g.row.C.Denot g.row.B.Denot)).
    are_plain g.C.Disk.facts g.B.Disk.facts r.start) c.requires.works.run ∙ c.requires.cached)
    (sym c.in_default.ensures.heard) c.args.plan.now c.args.slot c.args.change may.0 may.1.0 may.1.1
    c.send_in-place.result.2 c.send_in-place.result.0 c.send_in-place.result.1
    c.send_in-place.new.hand
    (c.send_in-place.ensures may.0.spine may.1.0 may.0.is_spine may.1.1) c.requires.works.run

pub commit_sent-requires-clause-may : goal.commit_sent-requires-clause-may
commit_sent-requires-clause-may g c =
    let may = c.requires.may in
    may_sent g.C.Disk.facts g.B.Disk.facts c.args.parts.now c.args.seat.now c.args.hand.now
    c.requires.works (ap (λ (r : Run (CorePart g.row.C.Denot g.row.B.Denot)).
    are_plain g.C.Disk.facts g.B.Disk.facts r.start) c.requires.works.run ∙ c.requires.cached)
    (sym c.in_default.ensures.heard) c.args.plan.now c.args.slot c.args.change may.0 may.1.0 may.1.1
    c.send_in-place.result.2 c.send_in-place.result.0 c.send_in-place.result.1
    c.send_in-place.new.hand
    (c.send_in-place.ensures may.0.spine may.1.0 may.0.is_spine may.1.1)

pub returns-clause-works : goal.returns-clause-works
returns-clause-works g c =
    let may = c.requires.may in
    works_now g.C.Disk.facts g.B.Disk.facts c.args.parts.now c.args.seat.now c.args.hand.now
    c.requires.works (ap (λ (r : Run (CorePart g.row.C.Denot g.row.B.Denot)).
    are_plain g.C.Disk.facts g.B.Disk.facts r.start) c.requires.works.run ∙ c.requires.cached)
    (sym c.in_default.ensures.heard) c.args.plan.now c.args.slot c.args.change may.0 may.1.0 may.1.1
    c.send_in-place.result.2 c.send_in-place.result.0 c.send_in-place.result.1
    c.send_in-place.new.hand
    (c.send_in-place.ensures may.0.spine may.1.0 may.0.is_spine may.1.1)
    c.commit_sent.new.seat c.commit_sent.ensures.did c.commit_sent.ensures.kept
    c.commit_sent.result c.commit_sent.ensures.answer

pub returns-clause-kinds : goal.returns-clause-kinds
returns-clause-kinds g c =
    let may = c.requires.may in
    kinds_now g.C.Disk.facts g.B.Disk.facts c.args.parts.now c.args.seat.now c.args.hand.now
    c.requires.works (ap (λ (r : Run (CorePart g.row.C.Denot g.row.B.Denot)).
    are_plain g.C.Disk.facts g.B.Disk.facts r.start) c.requires.works.run ∙ c.requires.cached)
    (sym c.in_default.ensures.heard) c.args.plan.now c.args.slot c.args.change may.0 may.1.0 may.1.1
    c.send_in-place.result.2 c.send_in-place.result.0 c.send_in-place.result.1
    c.send_in-place.new.hand
    (c.send_in-place.ensures may.0.spine may.1.0 may.0.is_spine may.1.1)
    c.commit_sent.new.seat c.commit_sent.ensures.did c.commit_sent.ensures.kept
    c.commit_sent.result c.commit_sent.ensures.answer

pub returns-clause-ok : goal.returns-clause-ok
returns-clause-ok g c =
    let may = c.requires.may in
    wrote_now g.C.Disk.facts g.B.Disk.facts c.args.parts.now c.args.seat.now c.args.hand.now
    c.requires.works (ap (λ (r : Run (CorePart g.row.C.Denot g.row.B.Denot)).
    are_plain g.C.Disk.facts g.B.Disk.facts r.start) c.requires.works.run ∙ c.requires.cached)
    (sym c.in_default.ensures.heard) c.args.plan.now c.args.slot c.args.change may.0 may.1.0 may.1.1
    c.send_in-place.result.2 c.send_in-place.result.0 c.send_in-place.result.1
    c.send_in-place.new.hand
    (c.send_in-place.ensures may.0.spine may.1.0 may.0.is_spine may.1.1)
    c.commit_sent.new.seat c.commit_sent.ensures.did c.commit_sent.ensures.kept
    c.commit_sent.result c.commit_sent.ensures.answer

pub returns-clause-err : goal.returns-clause-err
returns-clause-err g c =
    let may = c.requires.may in
    failed_now g.C.Disk.facts g.B.Disk.facts c.args.parts.now c.args.seat.now c.args.hand.now
    c.requires.works (ap (λ (r : Run (CorePart g.row.C.Denot g.row.B.Denot)).
    are_plain g.C.Disk.facts g.B.Disk.facts r.start) c.requires.works.run ∙ c.requires.cached)
    (sym c.in_default.ensures.heard) c.args.plan.now c.args.slot c.args.change may.0 may.1.0 may.1.1
    c.send_in-place.result.2 c.send_in-place.result.0 c.send_in-place.result.1
    c.send_in-place.new.hand
    (c.send_in-place.ensures may.0.spine may.1.0 may.0.is_spine may.1.1)
    c.commit_sent.new.seat c.commit_sent.ensures.did c.commit_sent.ensures.kept
    c.commit_sent.result c.commit_sent.ensures.answer

pub returns-clause-keeps : goal.returns-clause-keeps
returns-clause-keeps g c =
    let may = c.requires.may in
    places_now g.C.Disk.facts g.B.Disk.facts c.args.parts.now c.args.seat.now c.args.hand.now
    c.requires.works (ap (λ (r : Run (CorePart g.row.C.Denot g.row.B.Denot)).
    are_plain g.C.Disk.facts g.B.Disk.facts r.start) c.requires.works.run ∙ c.requires.cached)
    (sym c.in_default.ensures.heard) c.args.plan.now c.args.slot c.args.change may.0 may.1.0 may.1.1
    c.send_in-place.result.2 c.send_in-place.result.0 c.send_in-place.result.1
    c.send_in-place.new.hand
    (c.send_in-place.ensures may.0.spine may.1.0 may.0.is_spine may.1.1)
    c.commit_sent.new.seat c.commit_sent.ensures.did c.commit_sent.ensures.kept
    c.commit_sent.result c.commit_sent.ensures.answer
