use Rattle.std.proofs.Common.{◌<◌, ◌-◌, sym, subst, arith}
use Rattle.bc_key.specs.declared.key.Key.{Key}
use Rattle.bc_key.specs.Key.{start_of}
use Rattle.bc_extent.proofs.Cuts.{uncut_above, cut_above}
use Rattle.bc_extent.proofs.sides.side_above.Goals as goal
use Rattle.bc_extent.proofs.sides.side_above.Goals.{else-place-gt0-via-then-place-gt0+else-end-sector, else-place-gt0-via-else-place-gt0}

pub returns-then-end-sector-clause-above : goal.returns-then-end-sector-clause-above
returns-then-end-sector-clause-above c =
    let place = c.count_begun-place.result in
    let counted = c.count_begun-place.ensures in
    let whole = c.key.result in
    let is = c.key.ensures whole in
    let part = c.part_above.ensures in
    let some = c.if-place-gt0.true in
    let crossed : start_of whole < c.args.sector = subst (λ (key : Key). start_of key < c.args.sector) (sym is) (counted.begun (place - 1) whole (omega arith) (omega arith)) in
    cut_above c.args.rows.now.keys c.requires.order c.args.sector place counted.within counted.later whole c.part_above.result some is part.part part.range crossed part.from part.to

pub returns-else-place-gt0-clause-above : goal.returns-else-place-gt0-clause-above
returns-else-place-gt0-clause-above c =
    let counted = c.count_begun-place.ensures in
    uncut_above c.args.rows.now.keys c.requires.order c.args.sector c.count_begun-place.result counted.within counted.later (λ some d.
    elim c.else-place-gt0.branch [
      | else-place-gt0-via-then-place-gt0+else-end-sector w ↦ omega (arith, w.end.ensures d, w.if-end-sector.false)
      | else-place-gt0-via-else-place-gt0 w ↦ absurd (omega (arith, w.if-place-gt0.false))
    ])
