use Rattle.std.proofs.Common.{◌-◌, take, ap, ◌∙◌, arith}
use Rattle.bc_extent.specs.Rings.{joined}
use Rattle.bc_extent.proofs.Joins.{joined_first}
use Rattle.bc_extent.proofs.rows.Rows.shrink.Goals as goal

pub returns-clause-keys : goal.returns-clause-keys
returns-clause-keys c =
    let rings = c.self.inside.rings.items in
    let count = c.self.inside.count in
    let holds = c.self.invariant in
    ap (λ all. take count (joined all)) c.truncate.ensures.items
    ∙ joined_first rings (c.len.result - c.args.rings) count holds.full (omega (arith, c.len.ensures)) (omega (arith, c.len.ensures, holds.room, c.requires, ap (λ rows. rows.spare) c.self.view_is))
    ∙ ap (λ rows. rows.keys) c.self.view_is
