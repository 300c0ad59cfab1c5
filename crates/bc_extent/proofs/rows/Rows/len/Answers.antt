use Rattle.std.proofs.Common.{length, sym, ap, ◌∙◌, arith}
use Rattle.std.proofs.lemmas.List.{length-take-le}
use Rattle.bc_extent.specs.Rings.{joined}
use Rattle.bc_extent.proofs.Joins.{length-joined}
use Rattle.bc_extent.proofs.rows.Rows.len.Goals as goal

pub returns-clause-count : goal.returns-clause-count
returns-clause-count c =
    let rings = c.self.inside.rings.items in
    let holds = c.self.invariant in
    sym (length-take-le c.self.inside.count (joined rings) (omega (arith, length-joined rings holds.full, holds.room)))
    ∙ ap (λ rows. length rows.keys) c.self.view_is

pub returns-clause-small : goal.returns-clause-small
returns-clause-small c =
    let rings = c.self.inside.rings.items in
    let holds = c.self.invariant in
    let taken = length-take-le c.self.inside.count (joined rings) (omega (arith, length-joined rings holds.full, holds.room)) in
    omega (arith, taken, ap (λ rows. length rows.keys) c.self.view_is, ap (λ rows. rows.spare) c.self.view_is, holds.few, holds.room)
