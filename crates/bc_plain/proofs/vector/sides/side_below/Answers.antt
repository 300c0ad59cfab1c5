use Rattle.std.proofs.Common.{◌≤◌, ◌<◌, sym, subst, arith}
use Rattle.std.proofs.lemmas.List.{get_or_read}
use Rattle.bc_key.specs.declared.key.Key.{Key}
use Rattle.bc_key.specs.Key.{start_of}
use Rattle.bc_extent.proofs.Cuts.{uncut_below, cut_below}
use Rattle.bc_plain.proofs.vector.sides.side_below.Goals as goal
use Rattle.bc_plain.proofs.vector.sides.side_below.Goals.{else-place-keys-via-then-place-keys+else-start-sector, else-place-keys-via-else-place-keys}

pub returns-then-start-sector-clause-below : goal.returns-then-start-sector-clause-below
returns-then-start-sector-clause-below c =
    let place = c.count_ended-place.result in
    let counted = c.count_ended-place.ensures in
    let whole = c.index-keys-place-then-start-sector.result in
    let is = c.index-keys-place-then-start-sector.is in
    let part = c.part_below.ensures in
    let crossed : c.args.sector < whole.end = subst (λ (key : Key). c.args.sector < key.end) (sym is) (counted.later place whole (omega arith) c.if-place-keys.true) in
    cut_below c.args.keys.now c.requires c.args.sector place counted.within counted.ended whole c.part_below.result c.if-place-keys.true is part.part part.range crossed part.from part.to

pub returns-else-place-keys-clause-below : goal.returns-else-place-keys-clause-below
returns-else-place-keys-clause-below c =
    let counted = c.count_ended-place.ensures in
    uncut_below c.args.keys.now c.requires c.args.sector c.count_ended-place.result counted.within counted.ended (λ inside d.
    elim c.else-place-keys.branch [
      | else-place-keys-via-then-place-keys+else-start-sector w ↦
          let same = get_or_read c.args.keys.now c.count_ended-place.result w.index-keys-place.result inside w.index-keys-place.is d in
          subst (λ (key : Key). c.args.sector ≤ start_of key) same (omega (arith, w.start.ensures, w.if-start-sector.false))
      | else-place-keys-via-else-place-keys w ↦ absurd (omega (arith, w.if-place-keys.false))
    ])
