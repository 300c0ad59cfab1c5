use Rattle.std.proofs.Common.{rules, ◌≡◌, ◌<◌, [], Some, sym, ap, ◌∙◌, subst, arith}
use Rattle.std.specs.Prelude.{length}
use Rattle.bc_parts.specs.Later.{Grows}
use Rattle.bc_parts.specs.Steps.{looking}
use Rattle.bc_parts.proofs.Keeping.{joins, looks}
use Rattle.bc_parts.proofs.Resting.{Rests-joining, still_stopped, told_either}
use Rattle.bc_parts.proofs.parts.Parts.join.Goals as goal

pub join_seat-requires : goal.join_seat-requires
join_seat-requires g c = let key = c.self.inside.table.shared.key in let one = c.seat.inside.place in let two = c.other.inside.place in let r = c.seat.invariant.0 in let r' = c.other.invariant.0 in
    let next : two.me.0.first ≡ one.me.0.end = ap (λ w. w.first) c.other.view_is ∙ (c.requires.next ∙ ap (λ w. w.end) (sym c.seat.view_is)) in
    let idle : two.me.0.held ≡ [] = ap (λ w. w.parts) c.other.view_is ∙ c.requires.idle in
    (search rules, search rules, search rules, search rules, joins g.M.Machine key.parts.value.items key.seats one.id two.id one.me.0 two.me.0 r.live r.whole r'.live r'.whole next idle)

pub load-requires : goal.load-requires
load-requires g c = let table = c.self.inside.table.shared in let key = table.key in let v = c.seat.inside.place.me.0 in let w = c.other.inside.place.me.0 in
    let next : w.first ≡ v.end = ap (λ x. x.first) c.other.view_is ∙ (c.requires.next ∙ ap (λ x. x.end) (sym c.seat.view_is)) in
    let live : v.first < w.end = let a = c.seat.invariant.0.live in let b = c.other.invariant.0.live in omega (arith, a, b, next) in
    (search rules, search rules, looks g.M.Machine key.parts.value.items key.seats g.met.M.Machine.frame table.table_id.slots c.join_seat.new.seat.id c.join_seat.new.seat.me (subst (λ me. me.0.first < me.0.end) (sym c.join_seat.ensures.2) live))

pub invariant_of-seat : goal.invariant_of-seat
invariant_of-seat g c = let m = g.M.Machine in let me = c.seat.inside.place.me in let v = me.0 in let w = c.other.inside.place.me.0 in let joined = c.join_seat.ensures.2 in let looked = c.load.ensures.2 in
    let seen = c.load.new.seat.me.0.seen in
    let next : w.first ≡ v.end = ap (λ x. x.first) c.other.view_is ∙ (c.requires.next ∙ ap (λ x. x.end) (sym c.seat.view_is)) in
    let a = c.seat.invariant.0.live in let b = c.other.invariant.0.live in let whole = c.seat.invariant.0.whole in
    let is = looked.is ∙ ap (λ z. (looking z.0 seen, z.1)) joined in
    let later : Grows m (length v.start) v.first v.middle v.held v.seen seen = subst (λ z. Grows m (length z.0.start) z.0.first z.0.middle z.0.held z.0.seen seen) joined looked.later.grows in
    let beside : Grows m (length v.start) v.middle w.end [] w.seen seen = subst (λ z. z.0.middle < z.0.end → Grows m (length z.0.start) z.0.middle z.0.end [] z.0.beside seen) joined (λ l. (looked.beside l).grows) (omega (arith, a, b, next, whole)) in (
      Rests-joining m me c.load.new.seat.me w seen c.seat.invariant.0 (omega (arith, a, b, next)) is,
      c.seat.invariant.1 ∙ sym (ap (λ new. new.0.first) is),
      (λ s heard. told_either (λ t. m.stop seen ≡ Some t) c.seat.inside.heard c.other.inside.heard
          (still_stopped m g.met.M.Machine.stays (length v.start) v.first v.middle v.held v.seen seen c.seat.inside.heard later c.seat.invariant.2)
          (still_stopped m g.met.M.Machine.stays (length v.start) v.middle w.end [] w.seen seen c.other.inside.heard beside c.other.invariant.2)
          s (sym c.or-seat-inside.ensures ∙ heard)),
    )
