-- What the seat's last write rests on, from the write to its acknowledgement.
use Rattle.std.proofs.Common.{◌≡◌, ◌≢◌, ℕ, ◌≤◌, true, false, [], ◌∷◌, Some, refl, sym, ap, ◌∙◌, subst, arith}
use Rattle.std.specs.Prelude.{if◌then◌else◌}
use Rattle.std.proofs.lemmas.List.Elements.{All-cons, All-nil}
use Rattle.bc_around.specs.Owed.{IsLastDurable}
use Rattle.bc_books.specs.Books.{Books}
use Rattle.bc_data.specs.After.{seat_after, seats_after}
use Rattle.bc_data.specs.Data as flow
use Rattle.bc_data.specs.Data.{Act, BackingBarrier}
use Rattle.bc_data.specs.Seats.{Seat, put_seat}
use Rattle.bc_flush.specs.bc_deed.Asked.{IsLast}
use Rattle.bc_flush.proofs.of_bc_deed.May.{can_alone, low}
use Rattle.bc_flush.proofs.of_bc_deed.Sequence.{done_one}
use Rattle.bc_disk.specs.Disk.{DiskFacts}
use Rattle.bc_events.specs.Run as core
use Rattle.bc_events.specs.Run.{Opening}
use Rattle.bc_events.specs.declared.event.Deed.{Deed}
use Rattle.bc_events.specs.declared.event.Deed.TheVariants as deed
use Rattle.bc_events.specs.declared.event.Event.{Event}
use Rattle.bc_events.specs.declared.event.LineNumber.{LineNumber}
use Rattle.bc_flush.proofs.Counting.{after_each, onward_event, turn_replay}
use Rattle.bc_flush.proofs.Walking.{kept_done}
use Rattle.bc_flush.specs.bc_hand.Seats.{Did, IsCoreSeat, MayDo, by, note, world}
use Rattle.bc_flush.proofs.of_bc_hand.Knowing.{View, is_plain_at, m}
use Rattle.bc_flush.specs.bc_machine.Frame.{Keeps, by_test, in_acts}
use Rattle.bc_flush.specs.bc_machine.Plain.{worker_of}
use Rattle.bc_flush.specs.bc_machine.World.{FromEach, IsSeenFrom, Origin, World, after, are_plain, data_of, opening, replay}
use Rattle.bc_flush.proofs.of_bc_machine.Noting.{any_acts}
use Rattle.bc_flush.proofs.of_bc_machine.Viewing.{opening_stays}
use Rattle.bc_model.specs.declared.values.Values.{Values}
use Rattle.bc_seats.specs.Seats.{Since}
use Rattle.bc_seats.proofs.Knowing.{still}
use Rattle.bc_shares.specs.Shares.{books_of}

-- how many insertions the last write rests on
abbrev keys_of : ℕ → core.State → ℕ
keys_of i st = (st.machine.whole.flow.seats i).last.keys

abbrev SameKeys : ℕ → flow.State → flow.State → Type 0
SameKeys i a b = (b.seats i).last.keys ≡ (a.seats i).last.keys

put_own : (seats : ℕ → Seat) (i : ℕ) (x : Seat) → put_seat seats i x i ≡ x
put_own seats i x =
    by_test i i (λ b. (if b then x else seats i) ≡ x) (λ is. refl) (λ ne. absurd (ne refl))

-- ---- other seats

other_act : (w : flow.Opening) (k : Books) (seats : ℕ → Seat) (i : ℕ) (act : Act) (j : ℕ) → j ≢ i
    → (seats_after w k seats i act j).last.keys ≡ (seats j).last.keys
other_act w k seats i BackingBarrier j ne = refl
other_act w k seats i act j ne = by_test j i
    (λ b. (if b then seat_after w k (seats i) act else seats j).last.keys ≡ (seats j).last.keys)
    (λ is. absurd (ne is)) (λ no. refl)

other_keeps : (i j : ℕ) → j ≢ i → Keeps (λ act. Unit {0}) i (SameKeys j)
other_keeps i j ne = record {
  same = λ a. refl;
  both = λ a b c x y. y ∙ x;
  one = λ w st act any. other_act w st.books st.seats i act j ne;
}

other_event : (w : core.Opening) (st : core.State) (e : Event) (j : ℕ) → j ≢ e.seat
    → keys_of j (core.after w st e) ≡ keys_of j st
other_event w st e j ne = in_acts (λ act. Unit {0}) e.seat (SameKeys j) (other_keeps e.seat j ne)
    w.machine st.machine (core.acts w st e) (any_acts e.seat (core.acts w st e))

last_other : (x : World) (e : Event) (i : ℕ) → e.seat ≢ i → FromEach x (IsLastDurable i)
    → FromEach (after x e) (IsLastDurable i)
last_other x e i ne = after_each x e (IsLastDurable i) (IsLastDurable i) (λ o is course on h.
    let st = replay o x.log in
    let same = other_event o.opening st e i (λ seat. ne (sym seat)) in
    let later = (onward_event o.opening st e (turn_replay o x.log)).durable in
    omega (arith, h, same, later))

-- ---- its own

barrier_keys : (w : core.Opening) (st : core.State) (i : ℕ)
    → keys_of i (core.after w st (by i deed.BackingBarrier)) ≡ keys_of i st
barrier_keys w st i = refl

last_barrier : (x : World) (i : ℕ) (d : Deed) → d ≡ deed.BackingBarrier
    → FromEach x (IsLastDurable i) → FromEach (after x (by i d)) (IsLastDurable i)
last_barrier x i d is = subst (λ (b : Deed). FromEach x (IsLastDurable i)
    → FromEach (after x (by i b)) (IsLastDurable i)) (sym is)
    (after_each x (by i deed.BackingBarrier) (IsLastDurable i) (IsLastDurable i)
    (λ o is course on h.
    let st = replay o x.log in
    let same = barrier_keys o.opening st i in
    let later = (onward_event o.opening st (by i deed.BackingBarrier)
    (turn_replay o x.log)).durable in
    omega (arith, h, same, later)))

write_keys : (w : core.Opening) (st : core.State) (i first : ℕ) (of : LineNumber)
    (values : Values)
    → keys_of i (core.after w st (by i (deed.BackingWrite first (Some of) values)))
    ≡ (books_of st.machine).journal.durable
write_keys w st i first of values =
    ap (λ (x : Seat). x.last.keys) (put_own st.machine.whole.flow.seats i _)

write_same : (w : core.Opening) (st : core.State) (i first : ℕ) (of : LineNumber)
    (values : Values)
    → (books_of (core.after w st
    (by i (deed.BackingWrite first (Some of) values))).machine).journal.durable
    ≡ (books_of st.machine).journal.durable
write_same w st i first of values = refl

last_begins : (x : World) (i first : ℕ) (of : LineNumber) (values : Values)
    → FromEach (after x (by i (deed.BackingWrite first (Some of) values))) (IsLastDurable i)
last_begins x i first of values o is course =
    let st = replay o x.log in
    let keys = write_keys o.opening st i first of values in
    let same = write_same o.opening st i first of values in omega (arith, keys, same)

module _ {C B : Type 0} (cache_facts : C → DiskFacts) (backing_facts : B → DiskFacts) where
  abbrev seen : View cache_facts backing_facts → World
  seen v = world cache_facts backing_facts v

  -- a write rests on what was durable
  pub last_written : (v w : View cache_facts backing_facts) (first : ℕ) (of : LineNumber)
      (values : Values)
      → Did cache_facts backing_facts (Some (deed.BackingWrite first (Some of) values)) v w
      → FromEach (seen w) (IsLastDurable w.first)
  last_written v w first of values did =
      subst (λ i. FromEach (seen w) (IsLastDurable i)) (sym did.is.same.first)
      (subst (λ x. FromEach x (IsLastDurable v.first)) (sym did.is.state)
      (last_begins did.is.before v.first first of values))

  -- and does so behind a barrier
  pub last_firm : (v w : View cache_facts backing_facts)
      → Did cache_facts backing_facts (Some deed.BackingBarrier) v w
      → FromEach (seen v) (IsLastDurable v.first) → FromEach (seen w) (IsLastDurable w.first)
  last_firm v w did h =
      subst (λ i. FromEach (seen w) (IsLastDurable i)) (sym did.is.same.first)
      (kept_done cache_facts backing_facts (IsLastDurable v.first)
      (λ (d : Deed). d ≡ deed.BackingBarrier) (deed.BackingBarrier ∷ []) v w
      (done_one cache_facts backing_facts (Some deed.BackingBarrier) v w did)
      (All-cons (λ (d : Deed). d ≡ deed.BackingBarrier) deed.BackingBarrier [] refl
      (All-nil (λ (d : Deed). d ≡ deed.BackingBarrier)))
      (λ x e ne. last_other x e v.first ne) (λ x d is. last_barrier x v.first d is) h)

  -- ---- its acknowledgement

  last_since : (v : View cache_facts backing_facts) (x : World)
      → IsCoreSeat cache_facts backing_facts v → Since (m cache_facts backing_facts) v x
      → FromEach (seen v) (IsLastDurable v.first) → FromEach x (IsLastDurable v.first)
  last_since v x seat since h = still (m cache_facts backing_facts) v x
      (λ y. FromEach y (IsLastDurable v.first)) (λ y e may foreign before.
      last_other y e v.first (foreign.0 v.first (omega arith) seat.seat.live) before) since h

  keys_in : (x y : World) (o : Origin) (i : ℕ) → IsSeenFrom o x y → FromEach x (IsLastDurable i)
      → ((data_of y).seats i).last.keys ≤ (data_of y).books.journal.durable
  keys_in x y o i seen h = subst (λ (z : World). ((data_of z).seats i).last.keys
      ≤ (data_of z).books.journal.durable) (sym seen.is) (h o seen.origin seen.course)

  pub may_acknowledge : (v : View cache_facts backing_facts) (of : LineNumber) (first count : ℕ)
      → IsCoreSeat cache_facts backing_facts v → worker_of v.first ≡ of.worker
      → are_plain cache_facts backing_facts v.run.start ≡ false
      → (note cache_facts backing_facts v).range.exclusive ≡ true
      → (note cache_facts backing_facts v).wrote ≡ true
      → IsLast (note cache_facts backing_facts v).last of.line first count
      → FromEach (seen v) (IsLastDurable v.first)
      → MayDo cache_facts backing_facts v (deed.Durable of first count)
  may_acknowledge v of first count seat line cached alone wrote last durable = λ x y at told.
      let from = at.from (is_plain_at cache_facts backing_facts v x at.since ∙ cached) in
      can_alone y v.first (deed.Durable of first count)
      (flow.Say (flow.Acknowledge of.line first count)) (low cache_facts backing_facts v seat)
      refl refl
      (let less = last.its_count in let same = at.note.last.2 in record {
        heard = at.running refl;
        steps = tt;
        can = record {
          exclusive = ap (λ r. r.exclusive) at.note.range ∙ alone;
          wrote = at.note.wrote ∙ wrote;
          its_line = at.note.last.0 ∙ last.its_line;
          its_first = at.note.last.1 ∙ last.its_first;
          its_count = omega arith;
          keys = keys_in x y from.0 v.first from.1 (last_since v x seat at.since durable);
          firm = at.note.last.3 last.firm;
        };
      }) tt (at.worker ∙ ap (λ (o : Opening). o.worker v.first)
      (opening_stays (opening cache_facts backing_facts v.run.start) v.seen) ∙ line) tt tt
