use Rattle.std.proofs.Common.{◌≡◌, ℕ, refl, lit<, subst, arith}
use Rattle.std.specs.Prelude.{IfErr}
use Rattle.bc_super.specs.Super.{IsRefused}
use Rattle.bc_super.proofs.Readings.{is_cause}
use Rattle.bc_super.proofs.backing.read_backing.Goals as goal

pub read-requires : goal.read-requires
read-requires g c = record { on_disk = (5, lit< tt, refl, omega arith) }

pub returns-clause-refused : goal.returns-clause-refused
returns-clause-refused g c =
    let d = g.D.Disk.facts c.args.disk.now in
    let bytes = c.read.new.into in
    let size : c.sectors-sectors.result ≡ d.sectors = c.sectors-sectors.ensures in
    is_cause d bytes (omega arith) (record { whole = search (arith); read = c.in_ok-read.ensures.ok }) c.decode.result
    (subst (λ (n : ℕ). IfErr c.decode.result (λ e. IsRefused bytes n e)) size c.decode.ensures.refused)
