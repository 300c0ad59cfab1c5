use Rattle.std.proofs.Common.{◌≤◌, ◌<◌, ◌-◌, sym, subst, arith}
use Rattle.std.proofs.lemmas.List.{get_or_default}
use Rattle.bc_key.specs.declared.key.Key.{Key}
use Rattle.bc_key.specs.Key.{start_of}
use Rattle.bc_extent.proofs.Cuts.{uncut_above, cut_above}
use Rattle.bc_plain.proofs.vector.sides.side_above.Goals as goal
use Rattle.bc_plain.proofs.vector.sides.side_above.Goals.{else-place-gt0-via-then-place-gt0+else-keys-place, else-place-gt0-via-else-place-gt0}

pub returns-then-keys-place-clause-above : goal.returns-then-keys-place-clause-above
returns-then-keys-place-clause-above c =
    let place = c.count_begun-place.result in
    let counted = c.count_begun-place.ensures in
    let whole = c.index-keys-place-then-keys-place.result in
    let is = c.index-keys-place-then-keys-place.is in
    let part = c.part_above.ensures in
    let some = c.if-place-gt0.true in
    let crossed : start_of whole < c.args.sector = subst (λ (key : Key). start_of key < c.args.sector) (sym is) (counted.begun (place - 1) whole (omega arith) (omega arith)) in
    cut_above c.args.keys.now c.requires c.args.sector place counted.within counted.later whole c.part_above.result some is part.part part.range crossed part.from part.to

pub returns-else-place-gt0-clause-above : goal.returns-else-place-gt0-clause-above
returns-else-place-gt0-clause-above c =
    let counted = c.count_begun-place.ensures in
    uncut_above c.args.keys.now c.requires c.args.sector c.count_begun-place.result counted.within counted.later (λ some d.
    elim c.else-place-gt0.branch [
      | else-place-gt0-via-then-place-gt0+else-keys-place w ↦
          let same = get_or_default c.args.keys.now (c.count_begun-place.result - 1) w.index-keys-place.result d (omega (arith, counted.within)) in
          subst (λ (key : Key). key.end ≤ c.args.sector) same w.if-keys-place.false
      | else-place-gt0-via-else-place-gt0 w ↦ absurd (omega (arith, w.if-place-gt0.false))
    ])
