use Rattle.std.proofs.Common.{rules, ◌≡◌, [], ◌∷◌, length, Some, None, refl, sym, ap, ◌∙◌, subst, arith}
use Rattle.bc_parts.specs.Rule.{Has}
use Rattle.bc_parts.specs.Seat.{SeatView, Holds, without}
use Rattle.bc_parts.specs.Machine.{state_after}
use Rattle.bc_parts.specs.Steps.{giving, Carries}
use Rattle.bc_parts.specs.declared.table.Cargo.TheVariants.{Part}
use Rattle.bc_parts.proofs.Keeping.{fetches}
use Rattle.bc_parts.proofs.Resting.{as_seat, Rests-giving}
use Rattle.bc_parts.proofs.parts.Parts.give.Goals as goal

pub load-requires : goal.load-requires
load-requires g c = let key = c.self.inside.table.shared.key in let place = c.seat.inside.place in
    (search rules, search rules, fetches g.M.Machine key.parts.value.items key.seats _ place.id c.args.part place.me (subst (λ hs. Holds hs c.args.part) (sym (ap (λ v. v.parts) c.seat.view_is)) c.requires.holds) c.seat.invariant.0.home)

pub fill-requires-clause-empty : goal.fill-requires-clause-empty
fill-requires-clause-empty g c = ap (λ me. me.1) (c.load.ensures.2 c.args.part refl) ∙ ap (λ cs. (c.args.part, None) ∷ cs) c.seat.invariant.0.bare

pub clear-requires-clause-filled : goal.clear-requires-clause-filled
clear-requires-clause-filled g c = let m = g.M.Machine in let v = c.seat.inside.place.me.0 in let rests = c.seat.invariant.0 in
    let is = c.fill.ensures.filled ∙ ap (λ me. (me.0, (c.args.part, Some (Part c.args.value)) ∷ [])) (c.load.ensures.2 c.args.part refl) in
    let has : Has v c.args.part = subst (λ hs. Holds hs c.args.part) (sym (ap (λ w. w.parts) c.seat.view_is)) c.requires.holds in
    let stands : m.stands c.args.part c.args.value (state_after m v.start v.seen) = subst (λ w. m.stands c.args.part c.args.value (state_after m w.run.start w.seen)) (sym c.seat.view_is) c.requires.value in (
      Some (Part c.args.value),
      subst (λ me. Carries m c.args.part me (Some (Part c.args.value))) (sym is) record { live = rests.live; whole = rests.whole; has = has; out = refl; carried = refl },
      (
        (λ _. (c.args.value, refl, subst (λ me. m.stands c.args.part c.args.value (state_after m me.0.start me.0.seen)) (sym is) stands)),
        (λ e. let inside = rests.parts c.args.part has in let e' = e ∙ ap (λ me. length me.0.start) is in absurd (omega (arith, inside, e'))),
      ),
    )

pub invariant_of-seat : goal.invariant_of-seat
invariant_of-seat g c = let m = g.M.Machine in let me = c.seat.inside.place.me in
    let is = c.clear.ensures.given ∙ ap (λ z. (giving z.0 c.args.part, [])) (c.fill.ensures.filled ∙ ap (λ z. (z.0, (c.args.part, Some (Part c.args.value)) ∷ [])) (c.load.ensures.2 c.args.part refl)) in (
      Rests-giving m me c.clear.new.place.me c.args.part c.seat.invariant.0 is,
      c.seat.invariant.1 ∙ sym (ap (λ new. new.0.first) is),
      subst (λ es. (s : _) → c.seat.inside.heard ≡ Some s → m.stop es ≡ Some s) (sym (ap (λ new. new.0.seen) is)) c.seat.invariant.2,
    )

pub returns : goal.returns
returns g c = let place = c.seat.inside.place in let heard = c.seat.inside.heard in
    let table = c.clear.ensures.table.0 ∙ (c.fill.ensures.table.0 ∙ c.load.ensures.0) in
    let is = c.clear.ensures.given ∙ ap (λ z. (giving z.0 c.args.part, [])) (c.fill.ensures.filled ∙ ap (λ z. (z.0, (c.args.part, Some (Part c.args.value)) ∷ [])) (c.load.ensures.2 c.args.part refl)) in
    ap (λ t. as_seat t c.clear.new.place.me.0 heard) table ∙ (ap (λ me. as_seat place.table_id me.0 heard) is ∙ ap (λ (w : SeatView _ _ _). record w { parts = without c.args.part w.parts }) c.seat.view_is)
