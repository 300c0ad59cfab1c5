use Rattle.std.proofs.Common.{◌≡◌, ◌<◌, ◌∙◌, length, get_or, sym, ap, arith}
use Rattle.bc_extent.proofs.Found.{stands_there}
use Rattle.bc_extent.proofs.SameKeys.{key_decides}
use Rattle.bc_extent.proofs.places.place_of.Goals as goal
use Rattle.bc_extent.proofs.places.place_of.Goals.{else-place-len-via-then-place-len+else-eq, else-place-len-via-else-place-len}

pub returns-then-eq-clause-found : goal.returns-then-eq-clause-found
returns-then-eq-clause-found c =
    let key = c.key.result in
    let inside : c.count_ended-place.result < length c.args.rows.now.keys = omega (arith, c.if-place-len.true, c.len.ensures) in
    let same : key ≡ c.args.key.now = (key_decides key c.args.key.now).0 (sym c.eq.ensures ∙ c.if-eq.true) in
    (inside, sym (c.key.ensures c.args.key.now) ∙ same)

pub returns-else-place-len-clause-none : goal.returns-else-place-len-clause-none
returns-else-place-len-clause-none c here =
    let counted = c.count_ended-place.ensures in
    let there = stands_there c.args.rows.now.keys c.requires c.start.result c.count_ended-place.result counted.ended counted.later c.args.key.now here (sym c.start.ensures) in
    elim c.else-place-len.branch [
      | else-place-len-via-then-place-len+else-eq w ↦
          let key = w.key.result in
          let same : key ≡ c.args.key.now = w.key.ensures c.args.key.now ∙ ap (λ n. get_or c.args.rows.now.keys n c.args.key.now) (sym there) ∙ here.2 in
          let is = (key_decides key c.args.key.now).1 same in
          let not = sym w.eq.ensures ∙ w.if-eq.false in
          cc
      | else-place-len-via-else-place-len w ↦ let inside = here.1 in omega (arith, w.if-place-len.false, c.len.ensures)
    ]
