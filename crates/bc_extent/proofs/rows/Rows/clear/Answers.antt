use Rattle.std.proofs.Common.{length, ap, arith}
use Rattle.std.proofs.lemmas.List.{length-take-le}
use Rattle.bc_extent.specs.Rings.{joined}
use Rattle.bc_extent.proofs.Joins.{length-joined}
use Rattle.bc_extent.proofs.rows.Rows.clear.Goals as goal

pub returns-clause-room : goal.returns-clause-room
returns-clause-room c =
    let rings = c.self.inside.rings.items in
    let holds = c.self.invariant in
    let taken = length-take-le c.self.inside.count (joined rings) (omega (arith, length-joined rings holds.full, holds.room)) in
    omega (arith, taken, ap (λ rows. length rows.keys) c.self.view_is, ap (λ rows. rows.spare) c.self.view_is, holds.room)
