use Rattle.std.proofs.Common.{◌≡◌, sym, subst, ap}
use Rattle.std.specs.Prelude.{Ok, Err}
use Rattle.bc_super.specs.declared.backing.BackingSuper.{BackingSuper}
use Rattle.bc_super.specs.declared.error.SuperError.TheVariants as super
use Rattle.bc_replay.specs.declared.error.OpenError.{OpenError}
use Rattle.bc_replay.specs.Causes.{IsBackingCause, RisesWith}
use Rattle.bc_replay.proofs.Refusals.{backing_cause, backing_rises, once}
use Rattle.bc_replay.proofs.supers.backing_of.Goals as goal

pub returns-in-Err-clause-refused : goal.returns-in-Err-clause-refused
returns-in-Err-clause-refused g c =
    let d = g.B.Disk.facts c.args.backing.now in
    let why = c.in-Err.why in
    subst (IsBackingCause d) (sym c.refusal.ensures) (backing_cause why d c.in-Err.ensures.refused (λ small. (let no = c.in-Err.ensures.small.1 small in let is : why ≡ super.DeviceSmall = cc in is)))

pub returns-in-Err-clause-faults : goal.returns-in-Err-clause-faults
returns-in-Err-clause-faults g c =
    let old = g.B.Disk.facts c.args.backing.now in
    let new = g.B.Disk.facts c.read_backing.new.disk in
    subst (λ (e : OpenError). RisesWith {T = BackingSuper} (Err e) old.faults new.faults) (sym c.refusal.ensures)
    (backing_rises BackingSuper c.in-Err.why old new c.in-Err.ensures.refused (λ small. ap (λ d. (g.B.Disk.facts d).faults) (c.in-Err.ensures.untouched small)) c.in-Err.ensures.counted)

pub returns-in-Ok-clause-called : goal.returns-in-Ok-clause-called
returns-in-Ok-clause-called g c =
    once BackingSuper (Ok c.in-Ok.b) (g.B.Disk.facts c.args.backing.now) (g.B.Disk.facts c.read_backing.new.disk) (λ small. ap (λ d. (g.B.Disk.facts d).calls) (c.in-Ok.ensures.untouched small)) c.in-Ok.ensures.counted

pub returns-in-Err-clause-called : goal.returns-in-Err-clause-called
returns-in-Err-clause-called g c =
    once BackingSuper (Err c.in-Err.why) (g.B.Disk.facts c.args.backing.now) (g.B.Disk.facts c.read_backing.new.disk) (λ small. ap (λ d. (g.B.Disk.facts d).calls) (c.in-Err.ensures.untouched small)) c.in-Err.ensures.counted
