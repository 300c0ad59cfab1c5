use Rattle.std.proofs.Common.{◌≡◌, ◌∙◌, get_or, sym, ap, arith}
use Rattle.std.proofs.lemmas.List.{get_or_default}
use Rattle.bc_extent.proofs.Found.{stands_there}
use Rattle.bc_extent.proofs.SameKeys.{key_decides}
use Rattle.bc_plain.proofs.vector.places.place_of.Goals as goal
use Rattle.bc_plain.proofs.vector.places.place_of.Goals.{else-place-keys-via-then-place-keys+else-eq, else-place-keys-via-else-place-keys}

pub returns-then-eq-clause-found : goal.returns-then-eq-clause-found
returns-then-eq-clause-found c =
    let place = c.count_ended-place.result in
    let key = c.index-keys-place.result in
    let inside = c.if-place-keys.true in
    let same : key ≡ c.args.key.now = (key_decides key c.args.key.now).0 (sym c.eq.ensures ∙ c.if-eq.true) in
    (inside, get_or_default c.args.keys.now place c.args.key.now key inside ∙ sym c.index-keys-place.is ∙ same)

pub returns-else-place-keys-clause-none : goal.returns-else-place-keys-clause-none
returns-else-place-keys-clause-none c here =
    let counted = c.count_ended-place.ensures in
    let there = stands_there c.args.keys.now c.requires c.start.result c.count_ended-place.result counted.ended counted.later c.args.key.now here (sym c.start.ensures) in
    elim c.else-place-keys.branch [
      | else-place-keys-via-then-place-keys+else-eq w ↦
          let key = w.index-keys-place.result in
          let same : key ≡ c.args.key.now =
          w.index-keys-place.is ∙ get_or_default c.args.keys.now c.count_ended-place.result key c.args.key.now w.if-place-keys.true ∙ ap (λ n. get_or c.args.keys.now n c.args.key.now) (sym there) ∙ here.2 in
          let is = (key_decides key c.args.key.now).1 same in
          let not = sym w.eq.ensures ∙ w.if-eq.false in
          cc
      | else-place-keys-via-else-place-keys w ↦ let inside = here.1 in omega (arith, w.if-place-keys.false)
    ]
