use Rattle.std.proofs.Common.{◌<◌, ◌≤◌, length, sym, subst, arith}
use Rattle.bc_key.specs.declared.key.Key.{Key}
use Rattle.bc_key.specs.Key.{start_of}
use Rattle.bc_extent.proofs.LastKeys.{last_key_at}
use Rattle.bc_extent.proofs.Found.{nothing_there}
use Rattle.bc_extent.proofs.places.key_at.Goals as goal
use Rattle.bc_extent.proofs.places.key_at.Goals.{else-place-len-via-then-place-len+else-start-sector, else-place-len-via-else-place-len}

pub returns-then-start-sector : goal.returns-then-start-sector
returns-then-start-sector c =
    let keys = c.args.rows.now.keys in
    let place = c.count_ended-place.result in
    let key = c.key.result in
    let is = c.key.ensures key in
    let inside : place < length keys = omega (arith, c.if-place-len.true, c.len.ensures) in
    let ends : c.args.sector < key.end = subst (λ (k : Key). c.args.sector < k.end) (sym is) (c.count_ended-place.ensures.later place key (omega arith) inside) in
    let begins : start_of key ≤ c.args.sector = subst (λ (k : Key). start_of k ≤ c.args.sector) (sym is) (omega (arith, c.start.ensures key, c.if-start-sector.true)) in
    sym (last_key_at keys c.args.sector key c.requires (place, inside, sym is) (begins, ends))

pub returns-else-place-len : goal.returns-else-place-len
returns-else-place-len c =
    let counted = c.count_ended-place.ensures in
    sym (nothing_there c.args.rows.now.keys c.requires c.args.sector c.count_ended-place.result counted.ended counted.later (λ inside d.
    elim c.else-place-len.branch [
      | else-place-len-via-then-place-len+else-start-sector w ↦ omega (arith, w.start.ensures d, w.if-start-sector.false)
      | else-place-len-via-else-place-len w ↦ absurd (omega (arith, w.if-place-len.false, c.len.ensures))
    ]))
