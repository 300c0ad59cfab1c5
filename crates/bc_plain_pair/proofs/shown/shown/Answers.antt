use Rattle.std.proofs.Common.{◌≡◌, ◌+◌, ap, ◌∙◌, arith}
use Rattle.bc_disk.specs.Bytes.{image_of}
use Rattle.bc_plain_pair.specs.PairBytes.{pair_of}
use Rattle.bc_plain_pair.proofs.Shows.{cached_shows, through_shows}
use Rattle.bc_plain_pair.proofs.shown.shown.Goals as goal

pub returns-then-not-is_pass_through : goal.returns-then-not-is_pass_through
returns-then-not-is_pass_through c =
    cached_shows (pair_of c.args.cache.now c.args.backing.now) c.in-Some.b c.args.sector (λ v. v.items) c.cached.result (rw c.in-Some.is at c.in_ok-b.ensures)
    (λ alone. (let never = c.if-not-is_pass_through.ensures.1 alone in absurd (cc))) c.cached.ensures

pub returns : goal.returns
returns c =
    let b = c.in-Some.b in
    let sum : c.from.result + c.from-2.result ≡ b.data_offset + c.args.sector = omega arith in
    through_shows (pair_of c.args.cache.now c.args.backing.now) b c.args.sector c.in_ok-value.value.items (rw c.in-Some.is at c.in_ok-b.ensures)
    (c.is_pass_through.ensures.0 c.if-not-is_pass_through.false) (c.in_ok-value.ensures.items ∙ c.sector_of.ensures ∙ ap (image_of c.args.backing.now) sum)
