use Rattle.std.proofs.Common.{rules, ◌≡◌, ◌+◌, [], length, Some, refl, inl, sym, ap, ◌∙◌, subst}
use Rattle.bc_parts.specs.Seat.{SeatView}
use Rattle.bc_parts.specs.Rule.{Has}
use Rattle.bc_parts.specs.Steps.{IsAway, HasBook, taking, giving, promising}
use Rattle.bc_parts.proofs.Holding.{without-taken}
use Rattle.bc_parts.proofs.Keeping.{promises}
use Rattle.bc_parts.proofs.Resting.{as_seat, last_slot, Rests-returning, Rests-book, still_stopped}
use Rattle.bc_parts.proofs.parts.Parts.promise.Goals as goal

pub store-requires : goal.store-requires
store-requires g c = let m = g.M.Machine in let key = c.self.inside.table.shared.key in let slots = c.self.inside.table.shared.table_id.slots in let k = c.self.inside.count in
    let own = c.reserve-made.ensures.view ∙ c.take_book.ensures.view in
    let has : Has c.reserve-made.new.place.me.0 (length key.parts.value.items) = subst (λ v. Has v (length key.parts.value.items)) (sym own) (inl (sym c.self.invariant.0)) in
    (search rules, search rules, promises m key.parts.value.items key.seats slots c.reserve-made.new.place.id c.from.result c.reserve-made.new.place.me has)

pub put_back-requires-clause-away : goal.put_back-requires-clause-away
put_back-requires-clause-away g c = let r = c.seat.invariant.0 in let k = c.self.inside.count in
    let own = ap (λ me. me.0) c.store.ensures.2 ∙ ap (λ v. promising v c.from.result) (c.reserve-made.ensures.view ∙ c.take_book.ensures.view) in
    subst (IsAway g.M.Machine k) (sym own) record { live = r.live; whole = r.whole; has = inl refl; out = refl }

pub put_back-requires-clause-book : goal.put_back-requires-clause-book
put_back-requires-clause-book g c = let m = g.M.Machine in let b = c.reserve-made.ensures.book in let is = c.store.ensures.2 in
    let view = ap (λ me. me.0) is ∙ ap (λ v. promising v c.from.result) c.reserve-made.ensures.view in (
      b.0,
      ap (λ me. me.1) is ∙ b.1,
      subst (λ v. HasBook m v.seen v.owed b.0) (sym view) (subst (λ n. HasBook m c.take_book.new.place.me.0.seen (c.take_book.new.place.me.0.owed + n) b.0) (sym (c.from.ensures ∙ c.granted-granted.ensures)) b.2),
    )

pub invariant_of-seat : goal.invariant_of-seat
invariant_of-seat g c = let m = g.M.Machine in let me = c.seat.inside.place.me in let k = c.self.inside.count in let more = c.from.result in let rests = c.seat.invariant.0 in
    let book = c.take_book.new.place.me.0 in
    let is = c.put_back.ensures.given ∙ (ap (λ z. (giving z.0 k, [])) c.store.ensures.2 ∙ ap (λ v. (giving (promising v more) k, [])) (c.reserve-made.ensures.view ∙ c.take_book.ensures.view)) in
    let last = last_slot k _ _ _ _ c.self.invariant.0 c.seat.view_is c.self.view_is c.requires.run in (
      Rests-returning m me c.put_back.new.place.me k (promising (taking me.0 k book.seen book.owed) more) rests last rests.live rests.whole refl refl is,
      c.seat.invariant.1 ∙ sym (ap (λ new. new.0.first) is),
      subst (λ es. (s : _) → c.seat.inside.heard ≡ Some s → m.stop es ≡ Some s) (sym (ap (λ new. new.0.seen) is))
          (still_stopped m g.met.M.Machine.stays (length me.0.start) me.0.first me.0.end me.0.held me.0.seen book.seen c.seat.inside.heard c.take_book.ensures.later.grows c.seat.invariant.2),
    )

pub returns-clause-seat : goal.returns-clause-seat
returns-clause-seat g c = let place = c.seat.inside.place in let me = place.me in let k = c.self.inside.count in let more = c.from.result in let heard = c.seat.inside.heard in
    let book = c.take_book.new.place.me.0 in
    let is = c.put_back.ensures.given ∙ (ap (λ z. (giving z.0 k, [])) c.store.ensures.2 ∙ ap (λ v. (giving (promising v more) k, [])) (c.reserve-made.ensures.view ∙ c.take_book.ensures.view)) in
    let last = last_slot k _ _ _ _ c.self.invariant.0 c.seat.view_is c.self.view_is c.requires.run in
    let back = without-taken k me.0.held (Rests-book g.M.Machine me k c.seat.invariant.0 last) in
    ap (λ t. as_seat t c.put_back.new.place.me.0 heard) (c.put_back.ensures.table.0 ∙ (c.store.ensures.0 ∙ (c.reserve-made.ensures.table.0 ∙ c.take_book.ensures.table.0)))
    ∙ (ap (λ z. as_seat place.table_id z.0 heard) is
    ∙ (ap (λ hs. as_seat place.table_id (record me.0 { seen = book.seen; held = hs; promises = me.0.promises + more }) heard) back
    ∙ (ap (λ (v : SeatView _ _ _). record v { seen = book.seen; promises = v.promises + more }) c.seat.view_is
    ∙ (ap (λ es. record c.args.seat.now { seen = es; promises = c.args.seat.now.promises + more }) (sym (ap (λ new. new.0.seen) is))
    ∙ ap (λ n. record c.args.seat.now { seen = c.put_back.new.place.me.0.seen; promises = c.args.seat.now.promises + n }) (c.from.ensures ∙ c.granted-granted.ensures)))))
