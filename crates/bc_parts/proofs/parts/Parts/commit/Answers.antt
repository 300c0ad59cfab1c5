use Rattle.std.proofs.Common.{◌<◌, ◌-◌, ◌++◌, [], ◌∷◌, Some, refl, sym, ap, ◌∙◌, subst}
use Rattle.bc_parts.specs.Machine.{state_after, IsRun}
use Rattle.bc_parts.specs.Seat.{SeatView}
use Rattle.bc_parts.specs.Later.{SeesLater, AtCommit, AddsOwn}
use Rattle.bc_parts.specs.Steps.{taking, giving, committing}
use Rattle.bc_parts.proofs.Holding.{without-taken}
use Rattle.bc_parts.proofs.Interference.{AtCommit-later, AddsOwn-commit, IsRun-push}
use Rattle.bc_parts.proofs.Resting.{as_seat, last_slot, Rests-returning, Rests-book}
use Rattle.bc_parts.proofs.parts.Parts.commit.Goals as goal
use Rattle.bc_parts.proofs.parts.Parts.commit.Goals.{In-Ok}
use Rattle.bc_parts.proofs.parts.Parts.commit.Given.{Over}

-- what the seat knows where the Book admits the event
at_commit : (g : Over) → (c : In-Ok g) → AtCommit g.M.Machine c.args.seat.now c.args.event c.take_book.new.place.me.0.seen
at_commit g c = let m = g.M.Machine in let place = c.seat.inside.place in let es = c.take_book.new.place.me.0.seen in
    let admitted = sym c.in-Ok.ensures.verdict in
    subst (λ v. AtCommit m v c.args.event es) c.seat.view_is (AtCommit-later m (as_seat place.table_id place.me.0 c.seat.inside.heard) c.args.event es c.take_book.ensures.later admitted)

pub add-stop-requires-clause-enabled : goal.add-stop-requires-clause-enabled
add-stop-requires-clause-enabled g c = let m = g.M.Machine in let es = c.take_book.new.place.me.0.seen in
    let own = ap (λ me. me.0) c.admits.ensures.same ∙ c.take_book.ensures.view in
    subst (λ v. m.enabled (state_after m v.start v.seen) c.args.event) (sym own)
    (subst (λ ps. m.enabled (state_after m ps es) c.args.event) (ap (λ v. v.run.start) (sym c.seat.view_is)) (c.requires.enabled es (at_commit g (goal.at.add-stop-requires-clause-enabled g c).In-Ok)))

pub invariant_of-seat : goal.invariant_of-seat
invariant_of-seat g c = let m = g.M.Machine in let me = c.seat.inside.place.me in let k = c.self.inside.count in let rests = c.seat.invariant.0 in
    let book = c.take_book.new.place.me.0 in
    let w = committing (taking me.0 k book.seen book.owed) (book.seen ++ c.args.event ∷ []) in
    let is = c.add-stop.ensures.given ∙ ap (λ v. (giving (committing v (v.seen ++ c.args.event ∷ [])) k, [])) (ap (λ me. me.0) c.admits.ensures.same ∙ c.take_book.ensures.view) in
    let last = last_slot k _ _ _ _ c.self.invariant.0 c.seat.view_is c.self.view_is c.requires.run in (
      Rests-returning m me c.add-stop.new.place.me k w rests last rests.live rests.whole refl refl is,
      c.seat.invariant.1 ∙ sym (ap (λ new. new.0.first) is),
      (λ s heard. ap (λ new. m.stop new.0.seen) is ∙ (ap (λ v. m.stop (v.seen ++ c.args.event ∷ [])) (sym (ap (λ me. me.0) c.admits.ensures.same ∙ c.take_book.ensures.view)) ∙ (sym c.add-stop.ensures.stop ∙ heard))),
    )

pub invariant_of-seat-in-Err : goal.invariant_of-seat-in-Err
invariant_of-seat-in-Err g c = let m = g.M.Machine in let me = c.seat.inside.place.me in let k = c.self.inside.count in let rests = c.seat.invariant.0 in
    let book = c.take_book.new.place.me.0 in
    let is = c.put_back.ensures.given ∙ ap (λ v. (giving v k, [])) (ap (λ me. me.0) c.admits.ensures.same ∙ c.take_book.ensures.view) in
    let last = last_slot k _ _ _ _ c.self.invariant.0 c.seat.view_is c.self.view_is c.requires.run in
    let refused = sym c.in-Err.ensures.verdict in (
      Rests-returning m me c.put_back.new.place.me k (taking me.0 k book.seen book.owed) rests last rests.live rests.whole refl refl is,
      c.seat.invariant.1 ∙ sym (ap (λ new. new.0.first) is),
      (λ s heard. ap (λ new. m.stop new.0.seen) is ∙ (g.met.M.Machine.names book.seen c.args.event c.in-Err.stop refused ∙ heard)),
    )

pub returns-in-Ok-clause-ok : goal.returns-in-Ok-clause-ok
returns-in-Ok-clause-ok g c = let m = g.M.Machine in let place = c.seat.inside.place in let me = place.me in let k = c.self.inside.count in let book = c.take_book.new.place.me.0 in
    let is = c.add-stop.ensures.given ∙ ap (λ v. (giving (committing v (v.seen ++ c.args.event ∷ [])) k, [])) (ap (λ me. me.0) c.admits.ensures.same ∙ c.take_book.ensures.view) in
    let last = last_slot k _ _ _ _ c.self.invariant.0 c.seat.view_is c.self.view_is c.requires.run in
    let back = without-taken k me.0.held (Rests-book g.M.Machine me k c.seat.invariant.0 last) in
    let stop = c.add-stop.result in (
      book.seen,
      at_commit g (goal.at.returns-in-Ok-clause-ok g c).In-Ok,
      ap (λ t. as_seat t c.add-stop.new.place.me.0 stop) (c.add-stop.ensures.table.0 ∙ (c.admits.ensures.table.0 ∙ c.take_book.ensures.table.0))
          ∙ (ap (λ z. as_seat place.table_id z.0 stop) is
          ∙ (ap (λ hs. as_seat place.table_id (record me.0 { seen = book.seen ++ c.args.event ∷ []; held = hs; promises = me.0.promises - 1 }) stop) back
          ∙ ap (λ (v : SeatView _ _ _). record v { seen = book.seen ++ c.args.event ∷ []; promises = v.promises - 1; heard = stop }) c.seat.view_is)),
      c.add-stop.ensures.stop ∙ ap (λ v. m.stop (v.seen ++ c.args.event ∷ [])) (ap (λ me. me.0) c.admits.ensures.same ∙ c.take_book.ensures.view),
    )

pub returns-in-Ok-clause-own : goal.returns-in-Ok-clause-own
returns-in-Ok-clause-own g c = let m = g.M.Machine in let book = c.take_book.new.place.me.0 in let seat = c.args.seat.now in
    let is = c.add-stop.ensures.given ∙ ap (λ v. (giving (committing v (v.seen ++ c.args.event ∷ [])) c.self.inside.count, [])) (ap (λ me. me.0) c.admits.ensures.same ∙ c.take_book.ensures.view) in
    let live = subst (λ v. v.first < v.end) c.seat.view_is c.seat.invariant.0.live in
    subst (AddsOwn m seat c.args.event) (sym (ap (λ new. new.0.seen) is)) (AddsOwn-commit m seat c.args.event book.seen (at_commit g (goal.at.returns-in-Ok-clause-own g c).In-Ok) live c.requires.number)

pub returns-in-Ok-clause-run : goal.returns-in-Ok-clause-run
returns-in-Ok-clause-run g c = let m = g.M.Machine in let es = c.take_book.new.place.me.0.seen in let start = c.args.seat.now.run.start in
    let at = at_commit g (goal.at.returns-in-Ok-clause-run g c).In-Ok in
    let is = c.add-stop.ensures.given ∙ ap (λ v. (giving (committing v (v.seen ++ c.args.event ∷ [])) c.self.inside.count, [])) (ap (λ me. me.0) c.admits.ensures.same ∙ c.take_book.ensures.view) in
    subst (IsRun m (m.opening start)) (sym (ap (λ new. new.0.seen) is)) (IsRun-push m start es c.args.event at.run (c.requires.enabled es at))

pub returns-in-Err-clause-refused : goal.returns-in-Err-clause-refused
returns-in-Err-clause-refused g c = let m = g.M.Machine in let place = c.seat.inside.place in let me = place.me in let k = c.self.inside.count in let book = c.take_book.new.place.me.0 in
    let refused = sym c.in-Err.ensures.verdict in
    let is = c.put_back.ensures.given ∙ ap (λ v. (giving v k, [])) (ap (λ me. me.0) c.admits.ensures.same ∙ c.take_book.ensures.view) in
    let seen = ap (λ new. new.0.seen) is in
    let last = last_slot k _ _ _ _ c.self.invariant.0 c.seat.view_is c.self.view_is c.requires.run in
    let back = without-taken k me.0.held (Rests-book m me k c.seat.invariant.0 last) in
    let later = subst (λ v. SeesLater m v book.seen) c.seat.view_is c.take_book.ensures.later in
    let heard = Some c.in-Err.stop in (
      subst (SeesLater m c.args.seat.now) (sym seen) later,
      ap (λ l. m.verdict l c.args.event) seen ∙ refused,
      ap (λ t. as_seat t c.put_back.new.place.me.0 heard) (c.put_back.ensures.table.0 ∙ (c.admits.ensures.table.0 ∙ c.take_book.ensures.table.0))
          ∙ (ap (λ z. as_seat place.table_id z.0 heard) is
          ∙ (ap (λ hs. as_seat place.table_id (record me.0 { seen = book.seen; held = hs }) heard) back
          ∙ (ap (λ (v : SeatView _ _ _). record v { seen = book.seen; heard = heard }) c.seat.view_is
          ∙ ap (λ es. record c.args.seat.now { seen = es; heard = heard }) (sym seen)))),
    )
