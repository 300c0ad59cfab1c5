use Rattle.std.proofs.Common.{ap, ◌∙◌}
use Rattle.bc_parts.specs.Seat.{Run}
use Rattle.bc_looks.specs.bc_machine.declared.part.CorePart.{CorePart}
use Rattle.bc_looks.specs.bc_machine.World.{are_plain}
use Rattle.bc_deed.proofs.May.{did_nothing, none_changed, works_kept}
use Rattle.bc_sight.proofs.Looking.{may_look, knows_look}
use Rattle.bc_sight.proofs.look.look.Goals as goal

pub returns-in-Some-clause-err : goal.returns-in-Some-clause-err
returns-in-Some-clause-err g c = did_nothing g.C.Disk.facts g.B.Disk.facts c.args.seat.now
    c.requires.works.seat

pub commit-requires-clause-may : goal.commit-requires-clause-may
commit-requires-clause-may g c = may_look g.C.Disk.facts g.B.Disk.facts c.args.parts.now c.args.seat.now
    c.args.hand.now c.requires.works
    (ap (λ (r : Run (CorePart g.row.C.Denot g.row.B.Denot)). are_plain g.C.Disk.facts g.B.Disk.facts r.start)
    c.requires.works.run ∙ c.requires.cached) c.args.leaf c.requires.leaf.0 c.requires.leaf.1 c.requires.leaf.2

pub returns-in-Ok-clause-works : goal.returns-in-Ok-clause-works
returns-in-Ok-clause-works g c = works_kept g.C.Disk.facts g.B.Disk.facts c.args.parts.now c.args.seat.now
    c.commit.new.seat c.args.hand.now _ c.requires.works c.in-Ok.ensures.ok.seat c.commit.ensures.kept
    none_changed

pub returns-in-Ok-clause-knows : goal.returns-in-Ok-clause-knows
returns-in-Ok-clause-knows g c = λ slot cached b has is. knows_look g.C.Disk.facts g.B.Disk.facts c.args.parts.now
    c.args.seat.now c.args.hand.now c.requires.works
    (ap (λ (r : Run (CorePart g.row.C.Denot g.row.B.Denot)). are_plain g.C.Disk.facts g.B.Disk.facts r.start)
    c.requires.works.run ∙ c.requires.cached) c.args.leaf slot cached has b is c.commit.new.seat c.in-Ok.ensures.ok

pub returns-in-Err-clause-works : goal.returns-in-Err-clause-works
returns-in-Err-clause-works g c = works_kept g.C.Disk.facts g.B.Disk.facts c.args.parts.now c.args.seat.now
    c.commit.new.seat c.args.hand.now _ c.requires.works c.in-Err.ensures.err.seat c.commit.ensures.kept
    none_changed
