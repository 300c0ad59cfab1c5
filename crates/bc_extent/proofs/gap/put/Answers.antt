use Rattle.std.proofs.Common.{◌≡◌, ◌+◌, insert, take, drop, sym, ap, ◌∙◌, arith}
use Rattle.bc_extent.proofs.Edits.{put_in}
use Rattle.bc_extent.proofs.gap.put.Goals as goal

pub returns-clause-before : goal.returns-clause-before
returns-clause-before c =
    let gap = c.args.gap in
    ap (take (gap.from + 1)) c.insert.ensures.keys ∙ (put_in c.args.rows.now.keys gap.from c.args.slot (omega (arith, gap.ordered, c.requires.within))).0

pub returns-clause-behind : goal.returns-clause-behind
returns-clause-behind c =
    let gap = c.args.gap in
    let same : gap.to ≡ gap.from = omega (arith, gap.ordered, c.if-from-to.false) in
    ap (drop (gap.to + 1)) c.insert.ensures.keys
    ∙ ap (λ n. drop (n + 1) (insert c.args.rows.now.keys gap.from c.args.slot)) same
    ∙ (put_in c.args.rows.now.keys gap.from c.args.slot (omega (arith, gap.ordered, c.requires.within))).1
    ∙ ap (λ n. drop n c.args.rows.now.keys) (sym same)
