use Rattle.std.proofs.Common.{◌≡◌, ℕ, subst, arith}
use Rattle.std.specs.Prelude.{string_bytes}
use Rattle.bc_super.specs.Show.{IsShown}
use Rattle.bc_super.specs.Super.{data_sectors}
use Rattle.bc_pair.proofs.show.show_pair.Goals as goal

pub returns-clause-shown : goal.returns-clause-shown
returns-clause-shown g c =
    let b = c.in_ok-c.b in
    let backing = g.B.Disk.facts c.args.backing.now in
    let known : c.sectors.result ≡ backing.sectors = omega (arith, c.sectors.ensures, c.in_ok-c.ensures.kept.1.sectors) in
    let size : c.data_sectors-size.result ≡ data_sectors backing.sectors b = rw known at c.data_sectors-size.ensures in
    (b, c.in_ok-c.ensures.backing, (c.in_ok-c.c, c.in_ok-c.ensures.cache, subst (λ (n : ℕ). IsShown c.in_ok-c.c b n (string_bytes c.in_ok-show.field-0)) size c.in_ok-show.ensures))
