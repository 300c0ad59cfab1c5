use Rattle.std.proofs.Common.{Option, ℕ, subst}
use Rattle.bc_disk.specs.Disk.{IfTold}
use Rattle.bc_prio.proofs.Chains.{kept_all}
use Rattle.bc_replay.specs.Causes.{OfHeld}
use Rattle.bc_check.specs.Apart.{TellsRows}
use Rattle.bc_check.specs.Strays.{TellsStray}
use Rattle.bc_check.proofs.Says.{says_journal, says_age, says_agree, says_sound}
use Rattle.bc_check.proofs.pair.verdict_of.Goals as goal

pub returns-in-Some-clause-found : goal.returns-in-Some-clause-found
returns-in-Some-clause-found g c =
    let s = c.args.s.now in
    let cache = g.C.Disk.facts c.args.cache.now in
    let stray = subst (λ (o : Option ℕ). IfTold cache.holds (λ image. TellsStray s.supers.geometry image s.journal o)) c.in-Some.is c.in_ok-bucket.ensures.found in
    says_journal s.supers.backing s.supers.cache s.supers.geometry s.journal s.gens s.seen.items s.index.keys s.uses.items cache (g.B.Disk.facts c.args.backing.now) c.in-Some.bucket stray

pub returns-in-Some-first_aged-clause-found : goal.returns-in-Some-first_aged-clause-found
returns-in-Some-first_aged-clause-found g c =
    let s = c.args.s.now in
    let cache = g.C.Disk.facts c.args.cache.now in
    let stray = subst (λ (o : Option ℕ). IfTold cache.holds (λ image. TellsStray s.supers.geometry image s.journal o)) c.in_default.is c.in_ok-bucket.ensures.found in
    says_age s.supers.backing s.supers.cache s.supers.geometry s.journal s.gens s.seen.items s.index.keys s.uses.items cache (g.B.Disk.facts c.args.backing.now) stray c.in-Some-first_aged.sector c.in-Some-first_aged.ensures

pub returns-in-Some-2-clause-found : goal.returns-in-Some-2-clause-found
returns-in-Some-2-clause-found g c =
    let s = c.args.s.now in
    let cache = g.C.Disk.facts c.args.cache.now in
    let backing = g.B.Disk.facts c.args.backing.now in
    let mid = g.C.Disk.facts c.first_stray.new.cache in
    let stray = subst (λ (o : Option ℕ). IfTold cache.holds (λ image. TellsStray s.supers.geometry image s.journal o)) c.in_default.is c.in_ok-bucket.ensures.found in
    let apart = subst (λ (o : Option ℕ). OfHeld (λ p. TellsRows s.supers.geometry s.gens p s.supers.backing.data_offset s.index.keys o) mid backing) c.in-Some-2.is c.in_ok-sector.ensures.found in
    says_agree s.supers.backing s.supers.cache s.supers.geometry s.journal s.gens s.seen.items s.index.keys s.uses.items cache backing stray c.in_default-first_aged.ensures c.requires mid backing
    (record { cache_kept = c.in_ok-bucket.ensures.kept; backing_kept = kept_all backing }) c.in-Some-2.sector apart

pub returns-clause-found : goal.returns-clause-found
returns-clause-found g c =
    let s = c.args.s.now in
    let cache = g.C.Disk.facts c.args.cache.now in
    let backing = g.B.Disk.facts c.args.backing.now in
    let mid = g.C.Disk.facts c.first_stray.new.cache in
    let stray = subst (λ (o : Option ℕ). IfTold cache.holds (λ image. TellsStray s.supers.geometry image s.journal o)) c.in_default.is c.in_ok-bucket.ensures.found in
    let apart = subst (λ (o : Option ℕ). OfHeld (λ p. TellsRows s.supers.geometry s.gens p s.supers.backing.data_offset s.index.keys o) mid backing) c.in_default-2.is c.in_ok-sector.ensures.found in
    says_sound s.supers.backing s.supers.cache s.supers.geometry s.journal s.gens s.seen.items s.index.keys s.uses.items cache backing stray c.in_default-first_aged.ensures c.requires mid backing
    (record { cache_kept = c.in_ok-bucket.ensures.kept; backing_kept = kept_all backing }) c.count_sectors-totals.result.dirty c.count_sectors-totals.result.clean c.count_sectors-totals.ensures.dirty c.count_sectors-totals.ensures.clean apart
