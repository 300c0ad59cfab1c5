use Rattle.std.proofs.Common.{take, [], ◌∷◌, ap, ◌∙◌, arith}
use Rattle.std.proofs.lemmas.List.{take-append-le}
use Rattle.bc_extent.specs.Rings.{joined}
use Rattle.bc_extent.proofs.Joins.{joined-append, length-joined}
use Rattle.bc_extent.proofs.rows.Rows.grow.Goals as goal

pub returns-clause-keys : goal.returns-clause-keys
returns-clause-keys c =
    let rings = c.self.inside.rings.items in
    let count = c.self.inside.count in
    let holds = c.self.invariant in
    ap (λ all. take count (joined all)) c.in_ok-push.ensures.items
    ∙ ap (take count) (joined-append rings (c.in_ok-ring.ring ∷ []))
    ∙ take-append-le count (joined rings) (joined (c.in_ok-ring.ring ∷ [])) (omega (arith, length-joined rings holds.full, holds.room))
    ∙ ap (λ rows. rows.keys) c.self.view_is
