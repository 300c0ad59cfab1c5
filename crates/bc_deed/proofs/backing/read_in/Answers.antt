use Rattle.std.proofs.Common.{◌≡◌, ℕ, ◌+◌, ◌/◌, List, ◌++◌, length, refl, sym, ap, ◌∙◌, subst, arith}
use Rattle.bc_model.specs.Sector.{Value, values_of}
use Rattle.bc_model.proofs.Sectors.{length_values_of}
use Rattle.bc_disk.specs.Disk.{IsRead}
use Rattle.bc_disk.specs.declared.disk.Device.TheVariants as device
use Rattle.bc_events.specs.declared.event.Deed.TheVariants as deed
use Rattle.bc_events.specs.declared.event.Failure.TheVariants as failure
use Rattle.bc_hand.specs.Seats.{note}
use Rattle.bc_deed.specs.Asked.{IsWithin}
use Rattle.bc_deed.proofs.May.{committed_backing, on_disk, may_read, backing_changed}
use Rattle.bc_deed.proofs.Devices.{behind_read, behind_failed_read}
use Rattle.bc_deed.proofs.backing.read_in.Goals as goal

pub called-requires-clause-may : goal.called-requires-clause-may
called-requires-clause-may g c =
    let v = c.args.seat.now in
    let bytes = c.in-Ok-extend_from_slice.ensures.items
    ∙ ap (λ (bs : List ℕ). bs ++ c.read.new.into) c.requires.room.0 in
    let values : c.from_sectors-values.result ≡ values_of c.read.new.into =
    c.from_sectors-values.ensures ∙ ap (λ (bs : List ℕ). values_of bs) bytes in
    let count : length c.from_sectors-values.result ≡ length c.args.into.now / 512 =
    ap (λ (vs : List Value). length vs) values ∙ length_values_of c.read.new.into
    ∙ ap (λ n. n / 512) c.read.auto.into in
    may_read g.C.Disk.facts g.B.Disk.facts v c.args.backing.now c.args.first c.from_sectors-values.result
    c.requires.seat c.requires.unheard c.requires.holds c.requires.backing c.requires.looked
    (subst (λ n. IsWithin (note g.C.Disk.facts g.B.Disk.facts v).range c.args.first n) (sym count) c.requires.covered)
    (subst (λ (vs : List Value). IsRead (c.args.backing.now.offset + c.args.first) vs
    (g.B.Disk.facts c.args.backing.now.disk)) (sym values) c.in-Ok.ensures.ok)

pub returns-in-Ok-extend_from_slice-clause-backing : goal.returns-in-Ok-extend_from_slice-clause-backing
returns-in-Ok-extend_from_slice-clause-backing g c = let v = c.args.seat.now in
    committed_backing g.C.Disk.facts g.B.Disk.facts v c.called.new.seat c.args.backing.now _
    (deed.BackingRead c.args.first c.from_sectors-values.result) c.requires.seat c.requires.holds c.requires.backing
    c.called.ensures.did
    (λ x on. behind_read g.C.Disk.facts g.B.Disk.facts c.args.backing.now _ x v.first on refl refl
    c.args.first c.from_sectors-values.result c.in-Ok.ensures.kept c.in-Ok.ensures.counted)

pub returns-in-Err-clause-backing : goal.returns-in-Err-clause-backing
returns-in-Err-clause-backing g c = let v = c.args.seat.now in
    committed_backing g.C.Disk.facts g.B.Disk.facts v c.called-in-Err.new.seat c.args.backing.now _
    (deed.DeviceFault (failure.Read device.Backing)) c.requires.seat c.requires.holds c.requires.backing
    c.called-in-Err.ensures.did
    (λ x on. behind_failed_read g.C.Disk.facts g.B.Disk.facts c.args.backing.now _ x v.first on refl refl
    c.in-Err.ensures.kept c.in-Err.ensures.counted)

pub called-requires-clause-alone : goal.called-requires-clause-alone
called-requires-clause-alone g c = backing_changed

pub called-requires-in-Err-clause-alone : goal.called-requires-in-Err-clause-alone
called-requires-in-Err-clause-alone g c = backing_changed

pub read-requires : goal.read-requires
read-requires g c = let s = c.requires.sectors in let inside = s.3 in
    let all = on_disk g.C.Disk.facts g.B.Disk.facts c.args.seat.now c.args.backing.now c.requires.backing in
    record { on_disk = (length c.args.into.now / 512, s.1, s.0, omega arith) }
