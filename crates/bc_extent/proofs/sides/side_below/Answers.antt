use Rattle.std.proofs.Common.{◌<◌, length, sym, subst, arith}
use Rattle.bc_key.specs.declared.key.Key.{Key}
use Rattle.bc_extent.proofs.Cuts.{uncut_below, cut_below}
use Rattle.bc_extent.proofs.sides.side_below.Goals as goal
use Rattle.bc_extent.proofs.sides.side_below.Goals.{else-place-len-via-then-place-len+else-start-sector, else-place-len-via-else-place-len}

pub returns-then-start-sector-clause-below : goal.returns-then-start-sector-clause-below
returns-then-start-sector-clause-below c =
    let place = c.count_ended-place.result in
    let counted = c.count_ended-place.ensures in
    let whole = c.key.result in
    let is = c.key.ensures whole in
    let part = c.part_below.ensures in
    let inside : place < length c.args.rows.now.keys = omega (arith, c.if-place-len.true, c.len.ensures) in
    let crossed : c.args.sector < whole.end = subst (λ (key : Key). c.args.sector < key.end) (sym is) (counted.later place whole (omega arith) inside) in
    cut_below c.args.rows.now.keys c.requires c.args.sector place counted.within counted.ended whole c.part_below.result inside is part.part part.range crossed part.from part.to

pub returns-else-place-len-clause-below : goal.returns-else-place-len-clause-below
returns-else-place-len-clause-below c =
    let counted = c.count_ended-place.ensures in
    uncut_below c.args.rows.now.keys c.requires c.args.sector c.count_ended-place.result counted.within counted.ended (λ inside d.
    elim c.else-place-len.branch [
      | else-place-len-via-then-place-len+else-start-sector w ↦ omega (arith, w.start.ensures d, w.if-start-sector.false)
      | else-place-len-via-else-place-len w ↦ absurd (omega (arith, w.if-place-len.false, c.len.ensures))
    ])
