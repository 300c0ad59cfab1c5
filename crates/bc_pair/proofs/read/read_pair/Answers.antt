use Rattle.std.proofs.Common.{inl, inr, ◌≤◌, sym, ap, subst}
use Rattle.std.proofs.lemmas.Bool.{cases_lt}
use Rattle.bc_super.specs.declared.backing.BackingSuper.{BackingSuper}
use Rattle.bc_super.specs.declared.cache.CacheSuper.{CacheSuper}
use Rattle.bc_pair.specs.Causes.{BackingFirst, FaultRose, IsShowCause}
use Rattle.bc_pair.specs.declared.error.PairError.{PairError}
use Rattle.bc_pair.proofs.Refusals.{backing_asked, backing_first, backing_rose, cache_asked, cache_behind, cache_cause, cache_rose, failures_of}
use Rattle.bc_pair.proofs.read.read_pair.Goals as goal

pub returns-in-Err-clause-faults : goal.returns-in-Err-clause-faults
returns-in-Err-clause-faults g c =
    let cache = g.C.Disk.facts c.args.cache.now in
    let old = g.B.Disk.facts c.args.backing.now in
    let new = g.B.Disk.facts c.read_backing.new.disk in
    let why = c.in-Err.why in
    let failed = failures_of BackingSuper why old new (backing_asked why old c.in-Err.ensures.refused) (λ small. ap (λ d. (g.B.Disk.facts d).faults) (c.in-Err.ensures.untouched small)) c.in-Err.ensures.counted in
    subst (λ (e : PairError). FaultRose e cache cache old new) (sym c.refusal.ensures) (backing_rose why cache old new failed)

pub returns-in-Err-read_cache-clause-cause : goal.returns-in-Err-read_cache-clause-cause
returns-in-Err-read_cache-clause-cause g c =
    let cache = g.C.Disk.facts c.args.cache.now in
    let backing = g.B.Disk.facts c.args.backing.now in
    let why = c.in-Err-read_cache.why in
    subst (λ (e : PairError). IsShowCause e cache backing) (sym c.refusal-in-Err-read_cache.ensures) (cache_cause why cache backing c.in-Ok.b c.in-Ok.ensures.ok c.in-Err-read_cache.ensures.refused)

pub returns-in-Err-read_cache-clause-faults : goal.returns-in-Err-read_cache-clause-faults
returns-in-Err-read_cache-clause-faults g c =
    let old = g.C.Disk.facts c.args.cache.now in
    let new = g.C.Disk.facts c.read_cache.new.disk in
    let backing = g.B.Disk.facts c.args.backing.now in
    let read = g.B.Disk.facts c.read_backing.new.disk in
    let why = c.in-Err-read_cache.why in
    let large : 16 ≤ backing.sectors = elim (cases_lt backing.sectors 16) [ inl small ↦ absurd (let no = c.in-Ok.ensures.small.1 small in cc) | inr large ↦ large ] in
    let failed = failures_of CacheSuper why old new (cache_asked why old c.in-Err-read_cache.ensures.refused) (λ small. ap (λ d. (g.C.Disk.facts d).faults) (c.in-Err-read_cache.ensures.untouched small))
    c.in-Err-read_cache.ensures.counted in
    subst (λ (e : PairError). FaultRose e old new backing read) (sym c.refusal-in-Err-read_cache.ensures) (cache_rose why old new backing read (c.in-Ok.ensures.counted large).1 failed)

pub returns-clause-counted : goal.returns-clause-counted
returns-clause-counted g c =
    let cache = g.C.Disk.facts c.args.cache.now in
    let backing = g.B.Disk.facts c.args.backing.now in
    let large : 16 ≤ backing.sectors = elim (cases_lt backing.sectors 16) [ inl small ↦ absurd (let no = c.in-Ok.ensures.small.1 small in cc) | inr large ↦ large ] in
    let room : 16 ≤ cache.sectors = elim (cases_lt cache.sectors 16) [ inl small ↦ absurd (let no = c.in-Ok-read_cache.ensures.small small in cc) | inr large ↦ large ] in
    (c.in-Ok-read_cache.ensures.counted room, c.in-Ok.ensures.counted large)

pub returns-in-Err-clause-order : goal.returns-in-Err-clause-order
returns-in-Err-clause-order g c =
    let backing = g.B.Disk.facts c.args.backing.now in
    subst (λ (e : PairError). BackingFirst e c.args.cache.now c.args.cache.now backing) (sym c.refusal.ensures) (backing_first c.in-Err.why c.args.cache.now backing)

pub returns-in-Err-read_cache-clause-order : goal.returns-in-Err-read_cache-clause-order
returns-in-Err-read_cache-clause-order g c =
    let backing = g.B.Disk.facts c.args.backing.now in
    subst (λ (e : PairError). BackingFirst e c.args.cache.now c.read_cache.new.disk backing) (sym c.refusal-in-Err-read_cache.ensures) (cache_behind c.in-Err-read_cache.why c.args.cache.now c.read_cache.new.disk backing c.in-Ok.b c.in-Ok.ensures.ok)
