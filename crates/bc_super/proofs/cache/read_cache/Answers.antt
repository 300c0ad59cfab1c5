use Rattle.std.proofs.Common.{◌≡◌, ℕ, refl, lit<, subst, arith}
use Rattle.std.specs.Prelude.{IfErr}
use Rattle.bc_super.specs.Cache.{IsCacheRefused}
use Rattle.bc_super.proofs.Readings.{is_cache_cause}
use Rattle.bc_super.proofs.cache.read_cache.Goals as goal

pub read-requires : goal.read-requires
read-requires g c = record { on_disk = (5, lit< tt, refl, omega arith) }

pub returns-clause-refused : goal.returns-clause-refused
returns-clause-refused g c =
    let d = g.D.Disk.facts c.args.disk.now in
    let bytes = c.read.new.into in
    let size : c.sectors-sectors.result ≡ d.sectors = c.sectors-sectors.ensures in
    is_cache_cause d bytes (omega arith) (record { whole = search (arith); read = c.in_ok-read.ensures.ok }) c.decode.result
    (subst (λ (n : ℕ). IfErr c.decode.result (λ e. IsCacheRefused bytes n e)) size c.decode.ensures.refused)
