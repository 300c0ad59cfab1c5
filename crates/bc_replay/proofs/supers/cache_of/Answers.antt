use Rattle.std.proofs.Common.{◌≡◌, ◌≤◌, inl, inr, sym, subst, ap}
use Rattle.std.specs.Prelude.{Ok, Err}
use Rattle.std.proofs.lemmas.Bool.{cases_lt}
use Rattle.bc_super.specs.declared.cache.CacheSuper.{CacheSuper}
use Rattle.bc_super.specs.declared.error.SuperError.TheVariants as super
use Rattle.bc_replay.specs.declared.error.OpenError.{OpenError}
use Rattle.bc_replay.specs.Causes.{IsCacheCauseOf, RisesWith}
use Rattle.bc_replay.proofs.Refusals.{cache_cause, cache_rises, once}
use Rattle.bc_replay.proofs.supers.cache_of.Goals as goal

pub returns-in-Ok-clause-found : goal.returns-in-Ok-clause-found
returns-in-Ok-clause-found g c =
    let d = g.C.Disk.facts c.args.cache.now in
    let large : 16 ≤ d.sectors = elim (cases_lt d.sectors 16) [ inl small ↦ absurd (let no = c.in-Ok.ensures.small small in cc) | inr large ↦ large ] in
    (large, c.in-Ok.ensures.ok)

pub returns-in-Ok-clause-faults : goal.returns-in-Ok-clause-faults
returns-in-Ok-clause-faults g c =
    let d = g.C.Disk.facts c.args.cache.now in
    let large : 16 ≤ d.sectors = elim (cases_lt d.sectors 16) [ inl small ↦ absurd (let no = c.in-Ok.ensures.small small in cc) | inr large ↦ large ] in
    (c.in-Ok.ensures.counted large).1

pub returns-in-Err-clause-refused : goal.returns-in-Err-clause-refused
returns-in-Err-clause-refused g c =
    let d = g.C.Disk.facts c.args.cache.now in
    let why = c.in-Err.why in
    subst (IsCacheCauseOf d) (sym c.refusal.ensures) (cache_cause why d c.in-Err.ensures.refused (λ small. (let no = c.in-Err.ensures.small small in let is : why ≡ super.DeviceSmall = cc in is)))

pub returns-in-Err-clause-faults : goal.returns-in-Err-clause-faults
returns-in-Err-clause-faults g c =
    let old = g.C.Disk.facts c.args.cache.now in
    let new = g.C.Disk.facts c.read_cache.new.disk in
    subst (λ (e : OpenError). RisesWith {T = CacheSuper} (Err e) old.faults new.faults) (sym c.refusal.ensures)
    (cache_rises CacheSuper c.in-Err.why old new c.in-Err.ensures.refused (λ small. ap (λ d. (g.C.Disk.facts d).faults) (c.in-Err.ensures.untouched small)) c.in-Err.ensures.counted)

pub returns-in-Ok-clause-called : goal.returns-in-Ok-clause-called
returns-in-Ok-clause-called g c =
    once CacheSuper (Ok c.in-Ok.c) (g.C.Disk.facts c.args.cache.now) (g.C.Disk.facts c.read_cache.new.disk) (λ small. ap (λ d. (g.C.Disk.facts d).calls) (c.in-Ok.ensures.untouched small)) c.in-Ok.ensures.counted

pub returns-in-Err-clause-called : goal.returns-in-Err-clause-called
returns-in-Err-clause-called g c =
    once CacheSuper (Err c.in-Err.why) (g.C.Disk.facts c.args.cache.now) (g.C.Disk.facts c.read_cache.new.disk) (λ small. ap (λ d. (g.C.Disk.facts d).calls) (c.in-Err.ensures.untouched small)) c.in-Err.ensures.counted
