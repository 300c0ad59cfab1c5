-- What a seat of the core knows of a state to which others have led the run.
use Rattle.std.proofs.Common.{◌≡◌, ◌≢◌, inl, ℕ, ◌<◌, ◌≤◌, Bool, true, false, List, [], ◌∷◌, ◌++◌, Option, Some, None, Ok, refl, sym, ap, ◌∙◌, subst, arith}
use Rattle.std.specs.Prelude.{◌==◌, fold, filter, All, Result, Err, OnOk, OnErr, length, if◌then◌else◌}
use Rattle.std.proofs.lemmas.Bool.{lt-ltb}
use Rattle.std.proofs.lemmas.List.{append-nil}
use Rattle.std.proofs.lemmas.List.Sums.{fold-append}
use Rattle.std.proofs.lemmas.List.Elements.{filter-append, All-head, All-tail}
use Rattle.bc_disk.specs.Disk.{DiskFacts}
use Rattle.bc_disk.specs.declared.disk.Device.{Device}
use Rattle.bc_parts.specs.declared.machine.Machine.{Ghosts}
use Rattle.bc_parts.specs.Seat.{SeatView, Run}
use Rattle.bc_parts.proofs.Interference.{Frame}
use Rattle.bc_seats.specs.Seats.{own_events, IsSeat, Foreign, Since, Waited, Committed}
use Rattle.bc_seats.proofs.Knowing.{still, lasts, held}
use Rattle.bc_events.specs.Columns.{halt_of, verdict_of, verdict_by, outlasts_halt}
use Rattle.bc_events.specs.Run.{Opening, line_after}
use Rattle.bc_events.specs.declared.event.LineNumber.{LineNumber}
use Rattle.bc_events.specs.declared.event.Deed.{Deed}
use Rattle.bc_events.specs.declared.event.Deed.TheVariants as deed
use Rattle.bc_events.specs.declared.event.Event.{Event}
use Rattle.bc_book.specs.declared.book.Book.{Book}
use Rattle.bc_machine.specs.declared.machine.Core.{Core}
use Rattle.bc_machine.specs.declared.part.CorePart.{CorePart}
use Rattle.bc_machine.specs.World.{World, Origin, IsSeenFrom, data_of, is_plain, are_plain, opening, after, IsView, InEach, IsEnabled}
use Rattle.bc_machine.specs.Frame.{by_test}
use Rattle.bc_machine.specs.Standing.{frames, in_each}
use Rattle.bc_machine.specs.Note.{no_note, note_of, note_by, note_after, IsFirmer}
use Rattle.bc_machine.specs.Bare.{IsBareRun}
use Rattle.bc_machine.proofs.Noting.{own_note, other_event, firmer_is, late_events, halted_events}
use Rattle.bc_machine.proofs.Baring.{bare_event}
use Rattle.bc_machine.proofs.Viewing.{view_run, opening_stays, lines_same, view_like, bare_view, new_view, may_happen}
use Rattle.bc_hand.specs.Seats.{core, by, world, note, IsCoreSeat, AtDeed, MayDo, Did}

pub map_ok : {A E P Q : Type 0} (r : Result A E) → (P → Q) → OnOk r P → OnOk r Q
map_ok (Ok a) f h = f h
map_ok (Err e) f h = tt

pub map_err : {A E P Q : Type 0} (r : Result A E) → (P → Q) → OnErr r P → OnErr r Q
map_err (Ok a) f h = tt
map_err (Err e) f h = f h

not_true : (b : Bool) → (b ≡ true → ⊥) → b ≡ false
not_true false h = refl
not_true true h = absurd (h refl)

not_halted : (b : Bool) (h : Option Device) → verdict_by b h ≡ Ok tt → b ≡ false → h ≡ None
not_halted true h is off = absurd (cc)
not_halted false None is off = refl
not_halted false (Some d) is off = absurd (cc)

module _ {C B : Type 0} (cache_facts : C → DiskFacts) (backing_facts : B → DiskFacts) where
  abbrev pub View : Type 0
  View = SeatView (CorePart C B) Event Device

  abbrev pub m : Ghosts (Core C B) (CorePart C B) Event Book Device
  m = core cache_facts backing_facts

  pub framed : Frame m
  framed start es k p e run may off h = frames cache_facts backing_facts start es k p e run may off h

  abbrev opened : View → World
  opened v = opening cache_facts backing_facts v.run.start

  -- ---- others' events

  none_own : (v : View) (es : List Event) → v.first < v.end → All (Foreign m v) es
      → filter (λ e. e.seat == v.first) es ≡ []
  none_own v [] live foreign = refl
  none_own v (e ∷ es) live foreign =
      ap (λ b. if b then e ∷ filter (λ e. e.seat == v.first) es else filter (λ e. e.seat == v.first) es)
      (by_test e.seat v.first (λ b. b ≡ false)
      (λ is. absurd ((All-head (Foreign m v) e es foreign).0 v.first (omega arith) live is)) (λ ne. refl))
      ∙ none_own v es live (All-tail (Foreign m v) e es foreign)

  -- the seat's own events stay what they were
  own_since : (v : View) (others : List Event) → v.first < v.end → All (Foreign m v) others
      → filter (λ e. e.seat == v.first) (v.seen ++ others) ≡ own_events m v
  own_since v others live foreign = filter-append (λ e. e.seat == v.first) v.seen others
      ∙ ap (λ es. own_events m v ++ es) (none_own v others live foreign)
      ∙ append-nil (own_events m v)

  state_is : (v : View) (x : World) (since : Since m v x)
      → x ≡ fold after (opened v) (v.seen ++ since.others)
  state_is v x since = since.is
      ∙ sym (fold-append after (opened v) v.seen since.others)

  pub bare_since : (v : View) (x : World) → IsBareRun (world cache_facts backing_facts v) → Since m v x
      → IsBareRun x
  bare_since v x h since = lasts m v x IsBareRun (λ y e may is. bare_event y e may is) since h

  -- ---- a view of what events lead to

  late_view : (v : View) (es : List Event) (y : World) → IsView (fold after (opened v) es) y → (n : ℕ)
      → halt_of es ≡ None → (data_of y).late n ≡ false
  late_view v es y view n none = let one = view_run (opened v) es y view in
      let new = new_view cache_facts backing_facts v.run.start one.0 one.1 in
      subst (λ (z : World). (data_of z).late n ≡ false) (sym one.2) (not_true _ (λ on.
      halted_events one.0 es None (λ is. absurd (cc (is, new.halted)))
      (late_events one.0 es (λ k is. absurd (cc (is, new.late k))) n on) none))

  running_view : (v : View) (es : List Event) (y : World) → IsView (fold after (opened v) es) y
      → halt_of es ≡ None → (data_of y).halted ≡ false
  running_view v es y view none = let one = view_run (opened v) es y view in
      let new = new_view cache_facts backing_facts v.run.start one.0 one.1 in
      subst (λ (z : World). (data_of z).halted ≡ false) (sym one.2) (not_true _ (λ on.
      halted_events one.0 es None (λ is. absurd (cc (is, new.halted))) on none))

  note_view : (v : View) (es : List Event) (y : World) → IsView (fold after (opened v) es) y
      → IsFirmer (note_by (are_plain cache_facts backing_facts v.run.start)
      (filter (λ e. e.seat == v.first) es)) (note_of y v.first)
  note_view v es y view = let one = view_run (opened v) es y view in
      let new = new_view cache_facts backing_facts v.run.start one.0 one.1 in
      subst (λ (z : World). IsFirmer (note_by (are_plain cache_facts backing_facts v.run.start)
      (filter (λ e. e.seat == v.first) es)) (note_of z v.first)) (sym one.2)
      (subst (λ b. IsFirmer (note_by b (filter (λ e. e.seat == v.first) es))
      (note_of (fold after one.0 es) v.first)) (view_like (opened v) one.0 one.1).plain
      (own_note v.first no_note one.0 es (firmer_is no_note (note_of one.0 v.first) (new.notes v.first))))

  -- ---- what others leave

  abbrev pub IsFresh : ℕ → World → Type 0
  IsFresh i x = InEach x (λ y. (data_of y).late i ≡ false)

  pub fresh_since : (v : View) (x : World) → v.first < v.end → Since m v x
      → IsFresh v.first (world cache_facts backing_facts v) → IsFresh v.first x
  fresh_since v x live since h = still m v x (IsFresh v.first)
      (λ y e may other fresh. in_each y e (λ z. (data_of z).late v.first ≡ false)
      (λ z view on. (other_event z e v.first (other.0 v.first (omega arith) live)).1 ∙ on) fresh) since h

  other_lines : (i n : ℕ) (line : ℕ → Option LineNumber) (d : Deed) → i ≢ n → line_after line i d n ≡ line n
  other_lines i n line (deed.LineFrom of) ne = by_test n i (λ b. (if b then Some of else line n) ≡ line n)
      (λ is. absurd (ne (sym is))) (λ no. refl)
  other_lines i n line (deed.LineDone of) ne = by_test n i (λ b. (if b then None else line n) ≡ line n)
      (λ is. absurd (ne (sym is))) (λ no. refl)
  other_lines i n line d ne = refl

  line_since : (v : View) (x : World) → v.first < v.end → Since m v x
      → x.now.line v.first ≡ (world cache_facts backing_facts v).now.line v.first
  line_since v x live since = still m v x
      (λ y. y.now.line v.first ≡ (world cache_facts backing_facts v).now.line v.first)
      (λ y e may other h. other_lines e.seat v.first y.now.line e.deed (other.0 v.first (omega arith) live) ∙ h)
      since refl

  -- each view has the lines that the events make
  line_view : (v : View) (es : List Event) (y : World) → IsView (fold after (opened v) es) y
      → y.now.line ≡ (fold after (opened v) es).now.line
  line_view v es y view = let one = view_run (opened v) es y view in
      let new = new_view cache_facts backing_facts v.run.start one.0 one.1 in
      ap (λ (z : World). z.now.line) one.2
      ∙ lines_same (opened v) one.0 es new.line

  -- a view has the seat's note, but for what others made firm
  pub note_since : (v : View) (x y : World) → v.first < v.end → Since m v x → IsView x y
      → IsFirmer (note cache_facts backing_facts v) (note_of y v.first)
  note_since v x y live since view =
      subst (λ own. IsFirmer (note_by (are_plain cache_facts backing_facts v.run.start) own) (note_of y v.first))
      (own_since v since.others live since.foreign) (note_view v (v.seen ++ since.others) y
      (subst (λ (z : World). IsView z y) (state_is v x since) view))

  -- ---- at a commit

  pub opening_seen : (v : View) (x : World) → Since m v x → x.opening ≡ (opened v).opening
  opening_seen v x since = ap (λ (y : World). y.opening) (state_is v x since)
      ∙ opening_stays (opened v) (v.seen ++ since.others)

  pub is_plain_at : (v : View) (x : World) → Since m v x
      → is_plain x ≡ are_plain cache_facts backing_facts v.run.start
  is_plain_at v x since = ap (λ (o : Opening). o.machine.flow.plain) (opening_seen v x since)

  -- so it is in the state that the seat has seen
  pub note_seen : (v : View) → IsCoreSeat cache_facts backing_facts v
      → IsFirmer (note cache_facts backing_facts v) (note_of (world cache_facts backing_facts v) v.first)
  note_seen v seat = note_view v v.seen (world cache_facts backing_facts v) (inl refl)

  pub at_deed : (v : View) (d : Deed) (x y : World) → IsCoreSeat cache_facts backing_facts v
      → (since : Since m v x) → verdict_of (v.seen ++ since.others) (by v.first d) ≡ Ok tt → IsView x y
      → (is_plain x ≡ false → (o : Origin) × IsSeenFrom o x y)
      → AtDeed cache_facts backing_facts v d x y
  at_deed v d x y seat since is view from =
      let es = v.seen ++ since.others in
      let there = subst (λ (z : World). IsView z y) (state_is v x since) view in
      let like = view_like x y view in
      let alike = opening_seen v x since ∙ sym (opening_stays (opened v) v.seen) in record {
        since = since;
        view = view;
        from = from;
        note = note_since v x y seat.seat.live since view;
        line = ap (λ (f : ℕ → Option LineNumber). f v.first) (line_view v es y there
            ∙ ap (λ (z : World). z.now.line) (sym (state_is v x since)))
            ∙ line_since v x seat.seat.live since;
        late = λ none. fresh_since v x seat.seat.live since (seat.fresh none) y view;
        running = λ off. running_view v es y there
            (not_halted (outlasts_halt d) (halt_of es) is off);
        size = like.size ∙ ap (λ (o : Opening). o.machine.flow.books.size) alike;
        worker = like.worker v.first ∙ ap (λ (o : Opening). o.worker v.first) alike;
        plain = like.plain ∙ ap (λ (o : Opening). o.machine.flow.plain) (opening_seen v x since);
        bare = bare_view x y (bare_since v x seat.bare since) view;
        stand = λ k p holds h. held m framed v x k p seat.seat since holds h;
      }

  -- what may be done in each view may happen
  pub may_commit : (v : View) (d : Deed) (x : World) → IsCoreSeat cache_facts backing_facts v
      → MayDo cache_facts backing_facts v d → (since : Since m v x)
      → verdict_of (v.seen ++ since.others) (by v.first d) ≡ Ok tt → IsEnabled x (by v.first d)
  may_commit v d x seat may since is = may_happen x (by v.first d)
      (lt-ltb v.first 320 (let live = seat.seat.live in let most = seat.numbers in omega arith))
      (λ y view from told. may x y (at_deed v d x y seat since is view from) told)

  -- ---- behind a step

  pub seat_waited : (v w : View) → IsCoreSeat cache_facts backing_facts v → IsSeat m w → Waited m v w
      → IsCoreSeat cache_facts backing_facts w
  seat_waited v w seat live waited = record {
    seat = live;
    numbers = subst (λ n. n ≤ 320) (sym waited.same.end) seat.numbers;
    parts = subst (λ (r : Run (CorePart C B)). 5 < length r.start) (sym waited.same.run) seat.parts;
    fresh = λ none. subst (λ n. IsFresh n (world cache_facts backing_facts w)) (sym waited.same.first)
        (fresh_since v (world cache_facts backing_facts w) seat.seat.live waited.since
        (seat.fresh (waited.heard none)));
    bare = bare_since v (world cache_facts backing_facts w) seat.bare waited.since;
  }

  pub seat_committed : (v w : View) (e : Event) → IsCoreSeat cache_facts backing_facts v → IsSeat m w
      → Committed m v e w → IsCoreSeat cache_facts backing_facts w
  seat_committed v w e seat live done = record {
    seat = live;
    numbers = subst (λ n. n ≤ 320) (sym done.same.end) seat.numbers;
    parts = subst (λ (r : Run (CorePart C B)). 5 < length r.start) (sym done.same.run) seat.parts;
    fresh = λ none y view. late_view w w.seen y view w.first (sym done.heard ∙ none);
    bare = subst IsBareRun (sym done.state) (bare_event done.before e done.may
        (bare_since v done.before seat.bare done.since));
  }

  -- ---- notes

  plain_same : (v w : View) → w.run ≡ v.run → are_plain cache_facts backing_facts w.run.start
      ≡ are_plain cache_facts backing_facts v.run.start
  plain_same v w run = ap (λ (r : Run (CorePart C B)). are_plain cache_facts backing_facts r.start) run

  pub note_waited_is : (v w : View) → Waited m v w
      → note cache_facts backing_facts w ≡ note cache_facts backing_facts v
  note_waited_is v w waited = ap (λ b. note_by b (own_events m w)) (plain_same v w waited.same.run)
      ∙ ap (λ es. note_by (are_plain cache_facts backing_facts v.run.start) es) waited.own

  pub note_committed_is : (v w : View) (e : Event) → Committed m v e w
      → note cache_facts backing_facts w
      ≡ note_after (are_plain cache_facts backing_facts v.run.start) (note cache_facts backing_facts v) e.deed
  note_committed_is v w e done = ap (λ b. note_by b (own_events m w)) (plain_same v w done.same.run)
      ∙ ap (λ es. note_by (are_plain cache_facts backing_facts v.run.start) es) done.own
      ∙ fold-append (λ o (e : Event). note_after (are_plain cache_facts backing_facts v.run.start) o e.deed)
      no_note (own_events m v) (e ∷ [])

  pub note_waited : (v w : View) → IsCoreSeat cache_facts backing_facts v → Waited m v w
      → IsFirmer (note cache_facts backing_facts v) (note cache_facts backing_facts w)
  note_waited v w seat waited = firmer_is (note cache_facts backing_facts v) _ (note_waited_is v w waited)

  pub plain_world : (v : View) → (world cache_facts backing_facts v).opening.machine.flow.plain
      ≡ are_plain cache_facts backing_facts v.run.start
  plain_world v = ap (λ (o : Opening). o.machine.flow.plain) (opening_stays (opened v) v.seen)

  pub note_committed : (v w : View) (d : Deed) → IsCoreSeat cache_facts backing_facts v
      → Committed m v (by v.first d) w
      → IsFirmer (note_after (world cache_facts backing_facts v).opening.machine.flow.plain
      (note cache_facts backing_facts v) d) (note cache_facts backing_facts w)
  note_committed v w d seat done = firmer_is _ _ (note_committed_is v w (by v.first d) done
      ∙ ap (λ b. note_after b (note cache_facts backing_facts v) d) (sym (plain_world v)))

  pub did_commit : (v w : View) (d : Deed) (i : ℕ) → IsCoreSeat cache_facts backing_facts v → IsSeat m w
      → i ≡ v.first → Committed m v (by i d) w → Did cache_facts backing_facts (Some d) v w
  did_commit v w d i seat live is done = record {
    is = subst (λ n. Committed m v (by n d) w) is done;
    seat = seat_committed v w (by i d) seat live done;
  }

  pub did_wait : (v w : View) → IsCoreSeat cache_facts backing_facts v → IsSeat m w → Waited m v w
      → Did cache_facts backing_facts None v w
  did_wait v w seat live waited = record { is = waited; seat = seat_waited v w seat live waited }
