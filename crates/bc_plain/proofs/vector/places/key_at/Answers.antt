use Rattle.std.proofs.Common.{◌≡◌, ◌<◌, ◌≤◌, ◌∙◌, sym, subst, arith}
use Rattle.std.proofs.lemmas.List.{get_or_default, get_or_read}
use Rattle.bc_key.specs.declared.key.Key.{Key}
use Rattle.bc_key.specs.Key.{start_of}
use Rattle.bc_extent.proofs.LastKeys.{last_key_at}
use Rattle.bc_extent.proofs.Found.{nothing_there}
use Rattle.bc_plain.proofs.vector.places.key_at.Goals as goal
use Rattle.bc_plain.proofs.vector.places.key_at.Goals.{else-place-keys-via-then-place-keys+else-start-sector, else-place-keys-via-else-place-keys}

pub returns-then-start-sector : goal.returns-then-start-sector
returns-then-start-sector c =
    let place = c.count_ended-place.result in
    let key = c.index-keys-place-then-start-sector.result in
    let is = c.index-keys-place-then-start-sector.is in
    let inside = c.if-place-keys.true in
    let ends : c.args.sector < key.end = subst (λ (k : Key). c.args.sector < k.end) (sym is) (c.count_ended-place.ensures.later place key (omega arith) inside) in
    let read = c.index-keys-place.result in
    let same : read ≡ key = c.index-keys-place.is ∙ get_or_default c.args.keys.now place read key inside ∙ sym is in
    let begins : start_of key ≤ c.args.sector = subst (λ (k : Key). start_of k ≤ c.args.sector) same (omega (arith, c.start.ensures)) in
    sym (last_key_at c.args.keys.now c.args.sector key c.requires (place, inside, sym is) (begins, ends))

pub returns-else-place-keys : goal.returns-else-place-keys
returns-else-place-keys c =
    let counted = c.count_ended-place.ensures in
    sym (nothing_there c.args.keys.now c.requires c.args.sector c.count_ended-place.result counted.ended counted.later (λ inside d.
    elim c.else-place-keys.branch [
      | else-place-keys-via-then-place-keys+else-start-sector w ↦
          let same = get_or_read c.args.keys.now c.count_ended-place.result w.index-keys-place.result inside w.index-keys-place.is d in
          subst (λ (key : Key). c.args.sector < start_of key) same (omega (arith, w.start.ensures, w.if-start-sector.false))
      | else-place-keys-via-else-place-keys w ↦ absurd (omega (arith, w.if-place-keys.false))
    ]))
