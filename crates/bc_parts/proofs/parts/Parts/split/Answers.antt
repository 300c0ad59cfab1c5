use Rattle.std.proofs.Common.{rules, ◌≡◌, ◌<◌, sym, ap, subst, arith}
use Rattle.bc_parts.proofs.Keeping.{marks, splits}
use Rattle.bc_parts.proofs.parts.Parts.split.Goals as goal

pub store-requires : goal.store-requires
store-requires g c = let table = c.self.inside.table.shared in let key = table.key in let place = c.seat.inside.place in
    (search rules, search rules, marks g.M.Machine key.parts.value.items key.seats table.table_id.slots place.id c.from.result place.me)

pub split_seat-place-requires : goal.split_seat-place-requires
split_seat-place-requires g c = let key = c.self.inside.table.shared.key in let v = c.seat.inside.place.me.0 in
    let is = ap (λ me. me.0) c.store.ensures.2 in
    let low : v.first < c.from.result = let a = c.requires.at.0 in let e = ap (λ w. w.first) c.seat.view_is in let f = c.from.ensures in omega (arith, a, e, f) in
    let high : c.from.result < v.end = let b = c.requires.at.1 in let e = ap (λ w. w.end) c.seat.view_is in let f = c.from.ensures in omega (arith, b, e, f) in
    (search rules, search rules, splits g.M.Machine key.parts.value.items key.seats c.store.new.seat.id c.store.new.seat.me.0 (subst (λ z. z.middle ≡ z.end) (sym is) c.seat.invariant.0.whole) (subst (λ z. z.first < z.cut) (sym is) low) (subst (λ z. z.cut < z.end) (sym is) high))
