-- What had come in when a seat began its flush: the seat noted it, and only the next flush changes
-- that.
use Rattle.std.proofs.Common.{◌≡◌, ◌≢◌, ◌⊎◌, inl, inr, ℕ, ◌≤◌, false, List, Some, refl, sym, ap, ◌∙◌, subst, arith}
use Rattle.std.specs.Prelude.{All, if◌then◌else◌}
use Rattle.bc_books.specs.Books.{Books}
use Rattle.bc_data.specs.After.{seat_after, seats_after}
use Rattle.bc_data.specs.Data as flow
use Rattle.bc_data.specs.Data.{Act, BackingBarrier, BackingWrite, Say}
use Rattle.bc_data.specs.Seats.{Seat, put_seat}
use Rattle.bc_entry.specs.bc_deed.Flushed.{HasDone}
use Rattle.bc_disk.specs.Disk.{DiskFacts}
use Rattle.bc_events.specs.Run as core
use Rattle.bc_events.specs.declared.event.Deed.{Deed}
use Rattle.bc_events.specs.declared.event.Deed.TheVariants as deed
use Rattle.bc_events.specs.declared.event.Event.{Event}
use Rattle.bc_events.specs.declared.event.LineNumber.{LineNumber}
use Rattle.bc_entry.specs.bc_hand.Seats.{Did, by, world}
use Rattle.bc_entry.proofs.of_bc_hand.Knowing.{View}
use Rattle.bc_entry.proofs.of_bc_machine.Noting.{any_acts}
use Rattle.bc_entry.specs.bc_machine.Frame.{Keeps, Notes, by_test, in_acts, is_noted, rows, touches}
use Rattle.bc_entry.specs.bc_machine.World.{FromEach, Origin, World, after, replay}
use Rattle.bc_shares.specs.Shares.{books_of}
use Rattle.bc_flush.specs.Durable.{AreDurable, HaveComeIn, IsFlushed}
use Rattle.bc_flush.proofs.Counting.{after_each, onward_event, turn_replay}
use Rattle.bc_flush.proofs.Walking.{kept_done}

-- how many insertions there were
abbrev pub keys_of : ℕ → core.State → ℕ
keys_of i st = (st.machine.whole.flow.seats i).flush.keys

-- in this state, by each opening
abbrev pub keys_at : World → ℕ → Origin → ℕ
keys_at x i o = keys_of i (replay o x.log)

-- it is still what it was there
abbrev pub AreStill : World → ℕ → Origin → core.State → Type 0
AreStill x i o st = keys_of i st ≡ keys_at x i o

-- ---- acts

abbrev SameKeys : ℕ → flow.State → flow.State → Type 0
SameKeys i a b = (b.seats i).flush.keys ≡ (a.seats i).flush.keys

put_own : (seats : ℕ → Seat) (i : ℕ) (x : Seat) → put_seat seats i x i ≡ x
put_own seats i x =
    by_test i i (λ b. (if b then x else seats i) ≡ x) (λ is. refl) (λ ne. absurd (ne refl))

other_act : (w : flow.Opening) (k : Books) (seats : ℕ → Seat) (i : ℕ) (act : Act) (j : ℕ) → j ≢ i
    → (seats_after w k seats i act j).flush.keys ≡ (seats j).flush.keys
other_act w k seats i BackingBarrier j ne = refl
other_act w k seats i act j ne = by_test j i
    (λ b. (if b then seat_after w k (seats i) act else seats j).flush.keys ≡ (seats j).flush.keys)
    (λ is. absurd (ne is)) (λ no. refl)

other_keeps : (i j : ℕ) → j ≢ i → Keeps (λ act. Unit {0}) i (SameKeys j)
other_keeps i j ne = record {
  same = λ a. refl;
  both = λ a b c x y. y ∙ x;
  one = λ w st act any. other_act w st.books st.seats i act j ne;
}

own_seat : (w : flow.Opening) (k : Books) (x : Seat) (act : Act) → touches act Notes ≡ false
    → (seat_after w k x act).flush.keys ≡ x.flush.keys
own_seat w k x (BackingWrite route first values) off = absurd (cc)
own_seat w k x (Say speech) off = absurd (cc)
own_seat w k x act off = refl

own_act : (w : flow.Opening) (k : Books) (seats : ℕ → Seat) (i : ℕ) (act : Act)
    → touches act Notes ≡ false
    → (seats_after w k seats i act i).flush.keys ≡ (seats i).flush.keys
own_act w k seats i BackingBarrier off = refl
own_act w k seats i act off = ap (λ (x : Seat). x.flush.keys) (put_own seats i _)
    ∙ own_seat w k (seats i) act off

own_keeps : (i : ℕ) → Keeps (λ act. touches act Notes ≡ false) i (SameKeys i)
own_keeps i = record {
  same = λ a. refl;
  both = λ a b c x y. y ∙ x;
  one = λ w st act off. own_act w st.books st.seats i act off;
}

-- ---- events

other_event : (w : core.Opening) (st : core.State) (e : Event) (j : ℕ) → j ≢ e.seat
    → keys_of j (core.after w st e) ≡ keys_of j st
other_event w st e j ne = in_acts (λ act. Unit {0}) e.seat (SameKeys j) (other_keeps e.seat j ne)
    w.machine st.machine (core.acts w st e) (any_acts e.seat (core.acts w st e))

own_event : (w : core.Opening) (st : core.State) (i : ℕ) (d : Deed) → is_noted d ≡ false
    → keys_of i (core.after w st (by i d)) ≡ keys_of i st
own_event w st i d off = in_acts (λ act. touches act Notes ≡ false) i (SameKeys i) (own_keeps i)
    w.machine st.machine (core.acts w st (by i d)) (rows Notes i w.machine st.machine d off)

barrier_event : (w : core.Opening) (st : core.State) (i : ℕ)
    → keys_of i (core.after w st (by i deed.BackingBarrier)) ≡ keys_of i st
barrier_event w st i = refl

pub other_still : (x y : World) (e : Event) (i : ℕ) → e.seat ≢ i → FromEach y (AreStill x i)
    → FromEach (after y e) (AreStill x i)
other_still x y e i ne = after_each y e (AreStill x i) (AreStill x i)
    (λ o is course on h. other_event o.opening (replay o y.log) e i (λ same. ne (sym same)) ∙ h)

own_still : (x y : World) (i : ℕ) (d : Deed) → is_noted d ≡ false → FromEach y (AreStill x i)
    → FromEach (after y (by i d)) (AreStill x i)
own_still x y i d off = after_each y (by i d) (AreStill x i) (AreStill x i)
    (λ o is course on h. own_event o.opening (replay o y.log) i d off ∙ h)

-- another seat takes nothing back
pub flushed_other : (x : World) (e : Event) (i : ℕ) → e.seat ≢ i → FromEach x (IsFlushed i)
    → FromEach (after x e) (IsFlushed i)
flushed_other x e i ne = after_each x e (IsFlushed i) (IsFlushed i) (λ o is course on h.
    let st = replay o x.log in
    let same = other_event o.opening st e i (λ seat. ne (sym seat)) in
    let later = (onward_event o.opening st e (turn_replay o x.log)).durable in
    omega (arith, h, same, later))

-- the seat itself by no deed that isn't the beginning of a flush
flushed_keys : (x : World) (i : ℕ) (d : Deed)
    → ((o : Origin) (st : core.State) → keys_of i (core.after o.opening st (by i d)) ≡ keys_of i st)
    → FromEach x (IsFlushed i) → FromEach (after x (by i d)) (IsFlushed i)
flushed_keys x i d stays = after_each x (by i d) (IsFlushed i) (IsFlushed i) (λ o is course on h.
    let st = replay o x.log in
    let same = stays o st in
    let later = (onward_event o.opening st (by i d) (turn_replay o x.log)).durable in
    omega (arith, h, same, later))

-- it notes nothing, or is a barrier
abbrev pub IsStill : Deed → Type 0
IsStill d = (is_noted d ≡ false) ⊎ (d ≡ deed.BackingBarrier)

flushed_itself : (x : World) (i : ℕ) (d : Deed) → IsStill d → FromEach x (IsFlushed i)
    → FromEach (after x (by i d)) (IsFlushed i)
flushed_itself x i d (inl off) = flushed_keys x i d (λ o st. own_event o.opening st i d off)
flushed_itself x i d (inr is) = subst (λ (b : Deed). FromEach x (IsFlushed i)
    → FromEach (after x (by i b)) (IsFlushed i)) (sym is)
    (flushed_keys x i deed.BackingBarrier (λ o st. barrier_event o.opening st i))

-- ---- a flush begins

flush_begins : (w : core.Opening) (st : core.State) (i : ℕ) (of : LineNumber)
    → keys_of i (core.after w st (by i (deed.FlushFrom of)))
    ≡ (books_of (core.after w st (by i (deed.FlushFrom of))).machine).index.count
flush_begins w st i of =
    ap (λ (x : Seat). x.flush.keys) (put_own st.machine.whole.flow.seats i _)

is_most : (a b : ℕ) → a ≡ b → a ≤ b
is_most a b is = omega (arith, is)

still_least : (a b n : ℕ) → a ≡ n → n ≤ b → a ≤ b
still_least a b n is low = omega (arith, is, low)

module _ {C B : Type 0} (cache_facts : C → DiskFacts) (backing_facts : B → DiskFacts) where
  abbrev seen : View cache_facts backing_facts → World
  seen v = world cache_facts backing_facts v

  -- what it noted then had come in
  pub begun_with : (v w : View cache_facts backing_facts) (of : LineNumber)
      → Did cache_facts backing_facts (Some (deed.FlushFrom of)) v w
      → FromEach (seen w) (HaveComeIn (keys_at (seen w) v.first))
  begun_with v w of did = subst (λ x. FromEach x (HaveComeIn (keys_at x v.first)))
      (sym did.is.state) (λ o is course.
      let st = replay o did.is.before.log in
      is_most (keys_of v.first (core.after o.opening st (by v.first (deed.FlushFrom of)))) _
      (flush_begins o.opening st v.first of))

  -- and is what it has noted, behind deeds that note nothing
  pub still_noted : (x : World) (ds : List Deed) (v w : View cache_facts backing_facts)
      → HasDone cache_facts backing_facts ds v w → All (λ d. is_noted d ≡ false) ds
      → FromEach (seen v) (AreStill x v.first) → FromEach (seen w) (AreStill x v.first)
  still_noted x ds v w done all = kept_done cache_facts backing_facts (AreStill x v.first)
      (λ d. is_noted d ≡ false) ds v w done all (λ y e ne. other_still x y e v.first ne)
      (λ y d off. own_still x y v.first d off)

  -- what is flushed stays so
  pub flushed_done : (ds : List Deed) (v w : View cache_facts backing_facts)
      → HasDone cache_facts backing_facts ds v w → All IsStill ds
      → FromEach (seen v) (IsFlushed v.first) → FromEach (seen w) (IsFlushed v.first)
  flushed_done ds v w done all = kept_done cache_facts backing_facts (IsFlushed v.first) IsStill ds
      v w done all (λ y e ne. flushed_other y e v.first ne)
      (λ y d its. flushed_itself y v.first d its)

  -- so all of it is durable once as many insertions are
  pub all_flushed : (x y : World) (i : ℕ) → FromEach y (AreDurable (keys_at x i))
      → FromEach y (AreStill x i) → FromEach y (IsFlushed i)
  all_flushed x y i durable still o is course = still_least (keys_of i (replay o y.log)) _
      (keys_at x i o) (still o is course) (durable o is course)
