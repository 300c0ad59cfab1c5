use Rattle.std.proofs.Common.{◌≡◌, ◌*◌, ◌/◌, length, subst, sym, ◌∙◌}
use Rattle.bc_check.specs.Apart.{IsFirstNot, AreSameIn}
use Rattle.bc_check.proofs.Runs.{first_within, piece_told, sectors_in}
use Rattle.bc_check.proofs.apart.piece_apart.Goals as goal

pub returns-clause-found : goal.returns-clause-found
returns-clause-found g c =
    let one = c.read_of.new.into in
    let other = c.read_of-2.new.into in
    let n = length c.args.one.now / 512 in
    let whole : length c.args.one.now ≡ 512 * n = sectors_in c.args.place (length c.args.one.now) (g.C.Disk.facts c.args.cache.now) c.requires.cache in
    let long : length one ≡ length c.args.one.now = c.read_of.auto.into in
    let wide : length other ≡ length c.args.other.now = c.read_of-2.auto.into in
    let first : IsFirstNot (AreSameIn one other) (length one / 512) c.first_other.result = c.first_other.ensures in
    piece_told (g.C.Disk.facts c.args.cache.now) (g.B.Disk.facts c.args.backing.now) c.args.place c.args.at n one other c.first_other.result (long ∙ whole) (wide ∙ sym c.requires.same ∙ whole) c.in_ok-read_of.ensures.read
    c.in_ok-read_of-2.ensures.read (subst (λ m. IsFirstNot (AreSameIn one other) (m / 512) c.first_other.result) long first)

pub returns-clause-within : goal.returns-clause-within
returns-clause-within g c =
    let long : length c.read_of.new.into ≡ length c.args.one.now = c.read_of.auto.into in
    first_within (AreSameIn c.read_of.new.into c.read_of-2.new.into) (length c.args.one.now / 512) c.first_other.result (subst (λ m. IsFirstNot (AreSameIn c.read_of.new.into c.read_of-2.new.into) (m / 512) c.first_other.result) long c.first_other.ensures)
