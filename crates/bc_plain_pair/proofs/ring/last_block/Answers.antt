use Rattle.std.proofs.Common.{◌≡◌, ◌+◌, ◌*◌, ap, ◌∙◌, arith}
use Rattle.bc_plain_pair.proofs.Rings.{block_within}
use Rattle.bc_plain_pair.proofs.ring.last_block.Goals as goal

pub overflow_sub-result : goal.overflow_sub-result
overflow_sub-result c =
    let low = block_within c.args.g.now c.args.bucket in
    let same : c.from.result * (c.from-2.result + 1) ≡ c.args.g.now.bucket * (c.args.bucket + 1) = ap (λ n. n * (c.from-2.result + 1)) c.from.ensures ∙ ap (λ n. c.args.g.now.bucket * (n + 1)) c.from-2.ensures in
    omega (arith, low, same)

pub returns : goal.returns
returns c =
    let low = block_within c.args.g.now c.args.bucket in
    let same : c.from.result * (c.from-2.result + 1) ≡ c.args.g.now.bucket * (c.args.bucket + 1) = ap (λ n. n * (c.from-2.result + 1)) c.from.ensures ∙ ap (λ n. c.args.g.now.bucket * (n + 1)) c.from-2.ensures in
    omega (arith, low, same)
