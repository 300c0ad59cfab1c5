use Rattle.std.proofs.Common.{◌<◌, ◌/◌, length, get_or, set, take, ap, ◌∙◌, arith}
use Rattle.std.proofs.lemmas.List.{length-take-le}
use Rattle.bc_extent.specs.Rings.{joined}
use Rattle.bc_extent.proofs.Joins.{row_at, row_set, length-joined}
use Rattle.bc_extent.proofs.rows.Rows.swap_in.Goals as goal

pub returns-clause-keys : goal.returns-clause-keys
returns-clause-keys c =
    let rings = c.self.inside.rings.items in
    let n = c.self.inside.count in
    let holds = c.self.invariant in
    let low : c.args.i < n = omega (arith, c.requires, ap (λ rows. length rows.keys) c.self.view_is, length-take-le n (joined rings) (omega (arith, length-joined rings holds.full, holds.room))) in
    ap (λ ring. take n (joined (set rings (c.args.i / 512) ring))) c.swap_in.ensures.new
    ∙ row_set rings n c.args.i c.index_mut-ring.result.now holds.full low holds.room c.index_mut-ring.ensures.value c.args.slot
    ∙ ap (λ rows. set rows.keys c.args.i c.args.slot) c.self.view_is

pub returns-clause-old : goal.returns-clause-old
returns-clause-old c = λ d.
    let rings = c.self.inside.rings.items in
    let n = c.self.inside.count in
    let holds = c.self.invariant in
    let low : c.args.i < n = omega (arith, c.requires, ap (λ rows. length rows.keys) c.self.view_is, length-take-le n (joined rings) (omega (arith, length-joined rings holds.full, holds.room))) in
    c.swap_in.ensures.old d
    ∙ row_at rings n c.args.i c.index_mut-ring.result.now holds.full low holds.room c.index_mut-ring.ensures.value d
    ∙ ap (λ rows. get_or rows.keys c.args.i d) c.self.view_is
