use Rattle.std.proofs.Common.{ap, subst, sym}
use Rattle.bc_replay.specs.declared.error.OpenError.{OpenError}
use Rattle.bc_top.specs.Opened.{IsLoneCause}
use Rattle.bc_top.proofs.Settled.{open_failed, opened, same_settled}
use Rattle.bc_top.proofs.opening.open_backing.Goals as goal

pub returns-in-Ok-read_backing-clause-ok : goal.returns-in-Ok-read_backing-clause-ok
returns-in-Ok-read_backing-clause-ok g c =
    let r = c.in-Ok-read_backing.ensures in
    opened (g.B.Disk.facts c.args.backing.now) (g.B.Disk.facts c.barrier.new.self) (g.B.Disk.facts c.read_backing.new.disk) c.in-Ok-read_backing.s c.in-Ok.ensures.ok c.in-Ok.ensures.counted r.kept r.counted (λ few. let never = r.small.1 few in absurd (cc)) r.ok

pub returns-in-Ok-read_backing-clause-same : goal.returns-in-Ok-read_backing-clause-same
returns-in-Ok-read_backing-clause-same g c = same_settled (g.B.Disk.facts c.args.backing.now) (g.B.Disk.facts c.barrier.new.self) (g.B.Disk.facts c.read_backing.new.disk) c.in-Ok.ensures.ok c.in-Ok-read_backing.ensures.kept

pub returns-in-Err-clause-cause : goal.returns-in-Err-clause-cause
returns-in-Err-clause-cause g c =
    let r = c.in-Err.ensures in
    let old = g.B.Disk.facts c.args.backing.now in
    let new = g.B.Disk.facts c.read_backing.new.disk in
    subst (λ (x : OpenError). IsLoneCause x old new) (sym c.refusal.ensures)
    (open_failed old (g.B.Disk.facts c.barrier.new.self) new c.in-Err.error c.in-Ok.ensures.ok c.in-Ok.ensures.counted r.kept r.counted (λ few. (ap (λ d. (g.B.Disk.facts d).faults) (r.untouched few), ap (λ d. (g.B.Disk.facts d).calls) (r.untouched few))) (λ few. let is = r.small.1 few in cc) r.refused)

pub returns-in-Err-clause-same : goal.returns-in-Err-clause-same
returns-in-Err-clause-same g c = same_settled (g.B.Disk.facts c.args.backing.now) (g.B.Disk.facts c.barrier.new.self) (g.B.Disk.facts c.read_backing.new.disk) c.in-Ok.ensures.ok c.in-Err.ensures.kept
