use Rattle.std.proofs.Common.{◌<◌, length, get_or, ap, ◌∙◌, arith}
use Rattle.std.proofs.lemmas.List.{length-take-le}
use Rattle.bc_key.specs.declared.key.Key.{Key}
use Rattle.bc_extent.specs.Rings.{joined}
use Rattle.bc_extent.proofs.Joins.{row_at, length-joined}
use Rattle.bc_extent.proofs.rows.Rows.pointers.Goals as goal

pub returns : goal.returns
returns c = λ d.
    let rings = c.self.inside.rings.items in
    let n = c.self.inside.count in
    let holds = c.self.invariant in
    let low : c.args.i < n = omega (arith, c.requires, ap (λ rows. length rows.keys) c.self.view_is, length-take-le n (joined rings) (omega (arith, length-joined rings holds.full, holds.room))) in
    c.pointers.ensures d ∙ ap (λ (key : Key). key.count) (row_at rings n c.args.i c.index.result.now holds.full low holds.room c.index.ensures d ∙ ap (λ rows. get_or rows.keys c.args.i d) c.self.view_is)
