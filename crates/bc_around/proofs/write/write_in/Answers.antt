use Rattle.std.proofs.Common.{◌≡◌, ◌+◌, List, length, Some, refl, ap, ◌∙◌, subst, arith}
use Rattle.bc_model.specs.Sector.{Value, values_of}
use Rattle.bc_disk.specs.Disk.{IsWritten, IsFailedWrite}
use Rattle.bc_events.specs.declared.event.Deed.TheVariants as deed
use Rattle.bc_events.specs.declared.event.Failure.TheVariants as failure
use Rattle.bc_flush.proofs.of_bc_deed.May.{committed_backing, on_disk, backing_changed}
use Rattle.bc_flush.proofs.of_bc_deed.Devices.{behind_write, behind_failed_write}
use Rattle.bc_flush.specs.bc_machine.World.{are_plain}
use Rattle.bc_flush.specs.bc_machine.declared.part.CorePart.{CorePart}
use Rattle.bc_parts.specs.Seat.{Run}
use Rattle.bc_around.proofs.Writing.{may_fail_around, may_write_around}
use Rattle.bc_around.proofs.write.write_in.Goals as goal

pub called-requires-clause-may : goal.called-requires-clause-may
called-requires-clause-may g c = may_write_around g.C.Disk.facts g.B.Disk.facts c.args.seat.now
    c.requires.seat c.requires.unheard
    (ap (λ (r : Run (CorePart g.row.C.Denot g.row.B.Denot)).
    are_plain g.C.Disk.facts g.B.Disk.facts r.start) c.requires.run ∙ c.requires.cached)
    c.args.of c.requires.line c.args.first c.args.values c.requires.some c.requires.may
    c.requires.bare

pub called-requires-in-Err-clause-may : goal.called-requires-in-Err-clause-may
called-requires-in-Err-clause-may g c = may_fail_around g.C.Disk.facts g.B.Disk.facts
    c.args.seat.now c.requires.seat c.requires.unheard
    (ap (λ (r : Run (CorePart g.row.C.Denot g.row.B.Denot)).
    are_plain g.C.Disk.facts g.B.Disk.facts r.start) c.requires.run ∙ c.requires.cached)
    c.args.of c.requires.line c.args.first c.args.values c.requires.some c.requires.may
    c.requires.bare

pub returns-in-Ok-clause-backing : goal.returns-in-Ok-clause-backing
returns-in-Ok-clause-backing g c = let v = c.args.seat.now in
    let values : values_of c.args.bytes.now ≡ c.args.values =
    c.requires.bytes.0 in
    committed_backing g.C.Disk.facts g.B.Disk.facts v c.called.new.seat c.args.backing.now _
    (deed.BackingWrite c.args.first (Some c.args.of) c.args.values) c.requires.seat
    c.requires.holds c.requires.backing
    c.called.ensures.did
    (λ x on. behind_write g.C.Disk.facts g.B.Disk.facts c.args.backing.now _ x v.first on refl refl
    c.args.first (Some c.args.of) c.args.values
    (subst (λ (vs : List Value). IsWritten (c.args.backing.now.offset + c.args.first) vs
    (g.B.Disk.facts c.args.backing.now.disk) (g.B.Disk.facts c.write.new.self)) values
    c.in-Ok.ensures.ok)
    c.in-Ok.ensures.counted)

pub returns-in-Err-clause-backing : goal.returns-in-Err-clause-backing
returns-in-Err-clause-backing g c = let v = c.args.seat.now in
    let values : values_of c.args.bytes.now ≡ c.args.values =
    c.requires.bytes.0 in
    committed_backing g.C.Disk.facts g.B.Disk.facts v c.called-in-Err.new.seat c.args.backing.now _
    (deed.DeviceFault (failure.BackingWrite c.args.first (Some c.args.of) c.args.values))
    c.requires.seat c.requires.holds
    c.requires.backing c.called-in-Err.ensures.did
    (λ x on. behind_failed_write g.C.Disk.facts g.B.Disk.facts c.args.backing.now _ x v.first on
    refl refl
    c.args.first (Some c.args.of) c.args.values
    (subst (λ (vs : List Value). IsFailedWrite (c.args.backing.now.offset + c.args.first) vs
    (g.B.Disk.facts c.args.backing.now.disk) (g.B.Disk.facts c.write.new.self)) values
    c.in-Err.ensures.failed)
    c.in-Err.ensures.counted)

pub called-requires-clause-alone : goal.called-requires-clause-alone
called-requires-clause-alone g c = backing_changed

pub called-requires-in-Err-clause-alone : goal.called-requires-in-Err-clause-alone
called-requires-in-Err-clause-alone g c = backing_changed

pub write-requires : goal.write-requires
write-requires g c = let inside = c.requires.inside in
    let all = on_disk g.C.Disk.facts g.B.Disk.facts c.args.seat.now c.args.backing.now
    c.requires.backing in
    record {
      on_disk = (
        length c.args.values,
        c.requires.some,
        c.requires.bytes.1,
        omega arith,
      );
    }
