-- What an event makes of the note of its seat, and of those of other seats.
use Rattle.std.proofs.Common.{◌≡◌, ◌≢◌, ◌⊎◌, inl, inr, ℕ, Bool, true, false, List, [], ◌∷◌, Option, Some, None, refl, sym, ap, ◌∙◌, subst}
use Rattle.std.specs.Prelude.{◌==◌, ◌||◌, if◌then◌else◌, is_some, filter, fold, reverse}
use Rattle.bc_model.specs.Sector.{Value, at_run}
use Rattle.bc_books.specs.Books.{Books}
use Rattle.bc_data.specs.Seats.{Claim, Seat, put_seat, nothing, noted}
use Rattle.bc_data.specs.Data as flow
use Rattle.bc_data.specs.Data.{Note as DataNote, Look, CacheRead, BackingRead, Form, DropKeys, CleanKeys, MoveKeys, StaleKeys, Route, Around, Copy, Fault, CacheFault, BackingFault, BarrierFault, ReadFault, Speech, Answer, BeginFlush, EndFlush, Acknowledge, Act, MakeClaim, Release, Learn, CacheWrite, CacheBarrier, BackingWrite, BackingBarrier, InsertWrite, Insert, NoteCandidate, Settle, PinPlaces, UnpinPlaces, UnpinDead, Shelve, Say, Fail}
use Rattle.bc_data.specs.After as flow_step
use Rattle.bc_data.specs.After.{seat_after, seats_after, late_after}
use Rattle.bc_data.specs.Enabled.{Moment, Calls, moment}
use Rattle.bc_disk.specs.declared.disk.Device.{Device}
use Rattle.bc_whole.specs.State as whole
use Rattle.bc_known.specs.Acts as known
use Rattle.bc_known.specs.Acts.{Alone, FailCache}
use Rattle.bc_known.specs.Run as machine
use Rattle.bc_events.specs.Acts.{is_exclusive, route_of, claimed, read_for, failed}
use Rattle.bc_events.specs.Keys.{book_keys}
use Rattle.bc_events.specs.Writes.{map_some, beginning, with_beginning, write_of}
use Rattle.bc_whole.specs.Together.{payload_of, place_of}
use Rattle.bc_events.specs.Run as core
use Rattle.bc_events.specs.Run.{acts_or_none}
use Rattle.bc_events.specs.Columns.{halt_by, halt_after, first_halt}
use Rattle.bc_events.specs.declared.event.LineNumber.{LineNumber}
use Rattle.bc_events.specs.declared.event.Written.{Written}
use Rattle.bc_events.specs.declared.event.Written.TheVariants as written
use Rattle.bc_events.specs.declared.event.Failure.{Failure}
use Rattle.bc_events.specs.declared.event.Failure.TheVariants as failure
use Rattle.bc_events.specs.declared.event.Deed.{Deed}
use Rattle.bc_events.specs.declared.event.Deed.TheVariants as deed
use Rattle.bc_events.specs.declared.event.Event.{Event}
use Rattle.bc_machine.specs.World.{World, is_plain, after, data_of}
use Rattle.bc_machine.specs.Frame.{Column, Notes, Halts, touches, is_noted, by_test, Keeps, AllData, AllOf, in_acts, rows, stays_event}
use Rattle.bc_machine.specs.Note.{Note, note_in, note_of, note_after, after_failure, with_range, no_range, with_try, with_write, with_barrier, IsFirmer}

-- ---- one act

abbrev said_by : Note → Speech → Note
said_by o (BeginFlush line) = record o { flush = record { going = true; line = line; firm = false } }
said_by o (EndFlush line) = record o { flush = record o.flush { going = false } }
said_by o speech = o

abbrev learnt_by : Note → DataNote → Note
learnt_by o (Look leaf) = record o { looked = true; read = nothing }
learnt_by o (CacheRead first values) = o
learnt_by o (BackingRead first values) = record o { read = λ s. noted (at_run first values s) (o.read s) }

abbrev failed_by : Note → Fault → Note
failed_by o (BackingFault (Around line) first values) = with_try o
failed_by o fault = o

abbrev routed_by : Note → Route → ℕ → List Value → Note
routed_by o (Around line) first values = with_write line first values false o
routed_by o Copy first values = o

-- what an act makes of its seat's note
abbrev note_by : Note → Act → Note
note_by o (MakeClaim first count exclusive) =
    with_range (record { first = first; count = count; exclusive = exclusive }) false o
note_by o Release = with_range no_range false o
note_by o (Learn note) = learnt_by o note
note_by o (BackingWrite route first values) = routed_by o route first values
note_by o BackingBarrier = with_barrier o
note_by o (InsertWrite line leaf keys first values) = with_write line first values true o
note_by o (Say speech) = said_by o speech
note_by o (Fail fault) = failed_by o fault
note_by o act = o

in_learnt : (w : flow.Opening) (k : Books) (x : Seat) (note : DataNote)
    → note_in (seat_after w k x (Learn note)) ≡ learnt_by (note_in x) note
in_learnt w k x (Look leaf) = refl
in_learnt w k x (CacheRead first values) = refl
in_learnt w k x (BackingRead first values) = refl

in_routed : (w : flow.Opening) (k : Books) (x : Seat) (route : Route) (first : ℕ) (values : List Value)
    → note_in (seat_after w k x (BackingWrite route first values)) ≡ routed_by (note_in x) route first values
in_routed w k x (Around line) first values = refl
in_routed w k x Copy first values = refl

in_said : (w : flow.Opening) (k : Books) (x : Seat) (speech : Speech)
    → note_in (seat_after w k x (Say speech)) ≡ said_by (note_in x) speech
in_said w k x (Answer line first values) = refl
in_said w k x (BeginFlush line) = refl
in_said w k x (EndFlush line) = refl
in_said w k x (Acknowledge line first count) = refl

in_failed : (w : flow.Opening) (k : Books) (x : Seat) (fault : Fault)
    → note_in (seat_after w k x (Fail fault)) ≡ failed_by (note_in x) fault
in_failed w k x (BackingFault (Around line) first values) = refl
in_failed w k x (BackingFault Copy first values) = refl
in_failed w k x (CacheFault payload place values) = refl
in_failed w k x BarrierFault = refl
in_failed w k x ReadFault = refl

in_seat : (w : flow.Opening) (k : Books) (x : Seat) (act : Act) → act ≢ BackingBarrier
    → note_in (seat_after w k x act) ≡ note_by (note_in x) act
in_seat w k x (Learn note) ne = in_learnt w k x note
in_seat w k x (BackingWrite route first values) ne = in_routed w k x route first values
in_seat w k x (Say speech) ne = in_said w k x speech
in_seat w k x (Fail fault) ne = in_failed w k x fault
in_seat w k x BackingBarrier ne = absurd (ne refl)
in_seat w k x act ne = refl

put_own : (seats : ℕ → Seat) (i : ℕ) (x : Seat) → put_seat seats i x i ≡ x
put_own seats i x = by_test i i (λ b. (if b then x else seats i) ≡ x) (λ is. refl) (λ ne. absurd (ne refl))

pub note_act : (w : flow.Opening) (k : Books) (seats : ℕ → Seat) (i : ℕ) (act : Act)
    → note_in (seats_after w k seats i act i) ≡ note_by (note_in (seats i)) act
note_act w k seats i BackingBarrier = refl
note_act w k seats i act = ap note_in (put_own seats i (seat_after w k (seats i) act))
    ∙ in_seat w k (seats i) act (λ is. absurd (cc))

-- ---- one event, of its own seat

-- an act that notes nothing
abbrev Quiet : Act → Type 0
Quiet act = (o : Note) → note_by o act ≡ o

off_quiet : (act : Act) → touches act Notes ≡ false → Quiet act
off_quiet (MakeClaim first count exclusive) off = absurd (cc)
off_quiet Release off = absurd (cc)
off_quiet (Learn note) off = absurd (cc)
off_quiet (BackingWrite route first values) off = absurd (cc)
off_quiet BackingBarrier off = absurd (cc)
off_quiet (InsertWrite line leaf keys first values) off = absurd (cc)
off_quiet (Say speech) off = absurd (cc)
off_quiet (Fail (CacheFault payload place values)) off = absurd (cc)
off_quiet (Fail (BackingFault route first values)) off = absurd (cc)
off_quiet (Fail BarrierFault) off = absurd (cc)
off_quiet (Fail ReadFault) off = absurd (cc)
off_quiet act off = λ o. refl

abbrev SameNote : ℕ → flow.State → flow.State → Type 0
SameNote i a b = note_in (b.seats i) ≡ note_in (a.seats i)

quiet_keeps : (i : ℕ) → Keeps (λ act. touches act Notes ≡ false) i (SameNote i)
quiet_keeps i = record {
  same = λ a. refl;
  both = λ a b d x y. y ∙ x;
  one = λ w st act off. note_act w st.books st.seats i act
      ∙ off_quiet act off (note_in (st.seats i));
}

quiet_event : (x : World) (e : Event) → is_noted e.deed ≡ false
    → note_of (after x e) e.seat ≡ note_of x e.seat
quiet_event x e off = in_acts (λ act. touches act Notes ≡ false) e.seat (SameNote e.seat)
    (quiet_keeps e.seat) x.opening.machine x.now.machine _
    (rows Notes e.seat x.opening.machine x.now.machine e.deed off)

-- acts of the data alone
alone_one : (x : World) (i : ℕ) (act : Act)
    → note_in ((known.after x.opening.machine x.now.machine i (Alone act)).whole.flow.seats i)
    ≡ note_by (note_of x i) act
alone_one x i act = note_act x.opening.machine.flow (data_of x).books (data_of x).seats i act

read_note : (x : World) (i : ℕ) (first : Option ℕ) (values : List Value)
    → note_in ((machine.run x.opening.machine x.now.machine (core.by i (read_for first values))).whole.flow.seats i)
    ≡ note_of x i
read_note x i None values = alone_one x i (Fail ReadFault)
read_note x i (Some first) values = alone_one x i (Learn (CacheRead first values))

claim_note : (x : World) (i : ℕ) (plain : Bool) (leaf first count : ℕ) (exclusive : Bool)
    → note_in ((machine.run x.opening.machine x.now.machine
    (core.by i (claimed plain leaf first count exclusive))).whole.flow.seats i)
    ≡ with_range (record { first = first; count = count; exclusive = exclusive }) plain (note_of x i)
claim_note x i false leaf first count exclusive = alone_one x i (MakeClaim first count exclusive)
claim_note x i true leaf first count exclusive =
    let w = x.opening.machine in
    let y = known.after w x.now.machine i (Alone (MakeClaim first count exclusive)) in
    note_act w.flow y.whole.flow.books y.whole.flow.seats i (Learn (Look leaf))
    ∙ ap (λ o. note_by o (Learn (Look leaf))) (alone_one x i (MakeClaim first count exclusive))

write_note : (x : World) (i : ℕ) (of : Option LineNumber) (first : ℕ) (values : List Value) (plain : Bool)
    → routed_by (note_of x i) (route_of of) first values
    ≡ note_after plain (note_of x i) (deed.BackingWrite first of values)
write_note x i None first values plain = refl
write_note x i (Some of) first values plain = refl

fail_note : (w : whole.Opening) (st : known.State) (i : ℕ) (y : whole.Write) (values : List Value)
    → note_in ((known.after w st i (FailCache y values)).whole.flow.seats i) ≡ note_in (st.whole.flow.seats i)
fail_note w st i y values = note_act w.flow st.whole.flow.books st.whole.flow.seats i
    (Fail (CacheFault (payload_of y) (place_of w.layout st.whole y) values))

-- a failed call of a device
failed_note : (x : World) (i : ℕ) (d : Failure) → note_in ((machine.run x.opening.machine x.now.machine
    (core.by i (acts_or_none (failed x.opening.machine x.now.machine d)))).whole.flow.seats i)
    ≡ after_failure (note_of x i) d
failed_note x i (failure.Read device) = alone_one x i (Fail ReadFault)
failed_note x i (failure.Barrier device) = alone_one x i (Fail BarrierFault)
failed_note x i (failure.BackingWrite first None values) =
    alone_one x i (Fail (BackingFault Copy first values))
failed_note x i (failure.BackingWrite first (Some of) values) =
    alone_one x i (Fail (BackingFault (Around of.line) first values))
failed_note x i (failure.CacheWrite at what values) =
    go (write_of x.opening.machine x.now.machine what at values) what
  where
    go : (o : Option whole.Write) (what : Written) → note_in ((machine.run x.opening.machine x.now.machine
        (core.by i (acts_or_none (map_some (λ y. with_beginning x.now.machine what (FailCache y values ∷ [])) o)))).whole.flow.seats i)
        ≡ note_of x i
    go None what = refl
    go (Some y) (written.Parent inner change) =
        fail_note x.opening.machine (known.after x.opening.machine x.now.machine i (beginning x.now.machine change)) i y values
    go (Some y) written.Data = fail_note x.opening.machine x.now.machine i y values
    go (Some y) written.Entry = fail_note x.opening.machine x.now.machine i y values
    go (Some y) (written.Set leaf) = fail_note x.opening.machine x.now.machine i y values
    go (Some y) (written.Leaf node) = fail_note x.opening.machine x.now.machine i y values
    go (Some y) (written.Inner node) = fail_note x.opening.machine x.now.machine i y values
    go (Some y) (written.Priorities bucket part) = fail_note x.opening.machine x.now.machine i y values

pub note_event : (x : World) (e : Event)
    → note_of (after x e) e.seat ≡ note_after x.opening.machine.flow.plain (note_of x e.seat) e.deed
note_event x e = go e.seat e.deed
  where
    go : (i : ℕ) (d : Deed) → note_of (after x (record { seat = i; deed = d })) i
        ≡ note_after x.opening.machine.flow.plain (note_of x i) d
    go i (deed.Claim first count how) =
        claim_note x i x.opening.machine.flow.plain ((data_of x).books.index.leaf first) first count (is_exclusive how)
    go i deed.Release = alone_one x i Release
    go i (deed.Look leaf) = alone_one x i (Learn (Look leaf))
    go i (deed.CacheRead at first values) = read_note x i first values
    go i (deed.BackingRead first values) = alone_one x i (Learn (BackingRead first values))
    go i (deed.BackingWrite first of values) = alone_one x i (BackingWrite (route_of of) first values)
        ∙ write_note x i of first values x.opening.machine.flow.plain
    go i deed.BackingBarrier = alone_one x i BackingBarrier
    go i (deed.InsertWrite leaf keys of first values) =
        note_act x.opening.machine.flow (data_of x).books (data_of x).seats i
        (InsertWrite of.line leaf (book_keys x.opening.machine.flow.books.bucket
        (data_of x).books.generations.version (reverse keys)) first values)
    go i (deed.Answer of first values) = alone_one x i (Say (Answer of.line first values))
    go i (deed.FlushFrom of) = alone_one x i (Say (BeginFlush of.line))
    go i (deed.FlushDone of) = alone_one x i (Say (EndFlush of.line))
    go i (deed.Durable of first count) = alone_one x i (Say (Acknowledge of.line first count))
    go i (deed.DeviceFault d) = failed_note x i d
    go i d = quiet_event x (record { seat = i; deed = d }) refl

-- ---- one event, of another seat

pub firmer_same : (o : Note) → IsFirmer o o
firmer_same o = record {
  range = refl;
  wrote = refl;
  looked = refl;
  read = λ s. refl;
  last = (refl, refl, refl, λ is. is);
  flush = (refl, refl, λ is. is);
}

pub firmer_both : (a b d : Note) → IsFirmer a b → IsFirmer b d → IsFirmer a d
firmer_both a b d x y = record {
  range = y.range ∙ x.range;
  wrote = y.wrote ∙ x.wrote;
  looked = y.looked ∙ x.looked;
  read = λ s. y.read s ∙ x.read s;
  last = (
    y.last.0 ∙ x.last.0,
    y.last.1 ∙ x.last.1,
    y.last.2 ∙ x.last.2,
    λ is. y.last.3 (x.last.3 is),
  );
  flush = (y.flush.0 ∙ x.flush.0, y.flush.1 ∙ x.flush.1, λ is. y.flush.2 (x.flush.2 is));
}

pub firmer_is : (a b : Note) → b ≡ a → IsFirmer a b
firmer_is a b is = subst (IsFirmer a) (sym is) (firmer_same a)

any_data : (acts : List Act) → AllData (λ act. Unit {0}) acts
any_data [] = tt
any_data (a ∷ acts) = (tt, any_data acts)

pub any_acts : (i : ℕ) (acts : List known.Act) → AllOf (λ act. Unit {0}) i acts
any_acts i [] = tt
any_acts i (act ∷ acts) = ((λ w st. any_data (machine.data_of w st i act)), any_acts i acts)

put_other : (seats : ℕ → Seat) (i j : ℕ) (x : Seat) → i ≢ j → put_seat seats i x j ≡ seats j
put_other seats i j x ne = by_test j i (λ b. (if b then x else seats j) ≡ seats j)
    (λ is. absurd (ne (sym is))) (λ no. refl)

other_seat : (w : flow.Opening) (k : Books) (seats : ℕ → Seat) (i j : ℕ) (act : Act) → i ≢ j
    → IsFirmer (note_in (seats j)) (note_in (seats_after w k seats i act j))
other_seat w k seats i j BackingBarrier ne = record {
  range = refl;
  wrote = refl;
  looked = refl;
  read = λ s. refl;
  last = (refl, refl, refl, λ is. refl);
  flush = (refl, refl, λ is. refl);
}
other_seat w k seats i j act ne = firmer_is (note_in (seats j)) _
    (ap note_in (put_other seats i j (seat_after w k (seats i) act) ne))

put_late : (late : ℕ → Bool) (i j : ℕ) (m : Moment) (halted : Bool) → i ≢ j
    → late_after late i m halted j ≡ late j
put_late late i j Calls halted ne = by_test j i (λ b. (if b then halted || late i else late j) ≡ late j)
    (λ is. absurd (ne (sym is))) (λ no. refl)
put_late late i j m halted ne = refl

-- what a seat knows of itself beside its note: whether its last device call is behind it
abbrev Others : ℕ → flow.State → flow.State → Type 0
Others j a b = IsFirmer (note_in (a.seats j)) (note_in (b.seats j)) × (b.late j ≡ a.late j)

others_keep : (i j : ℕ) → i ≢ j → Keeps (λ act. Unit {0}) i (Others j)
others_keep i j ne = record {
  same = λ a. (firmer_same (note_in (a.seats j)), refl);
  both = λ a b d x y. (firmer_both _ _ _ x.0 y.0, y.1 ∙ x.1);
  one = λ w st act any. (
    other_seat w st.books st.seats i j act ne,
    put_late st.late i j (moment act) (flow_step.halted_after st.halted act) ne,
  );
}

pub other_event : (x : World) (e : Event) (j : ℕ) → e.seat ≢ j → Others j (data_of x) (data_of (after x e))
other_event x e j ne = in_acts (λ act. Unit {0}) e.seat (Others j) (others_keep e.seat j ne)
    x.opening.machine x.now.machine (core.acts x.opening x.now e)
    (any_acts e.seat (core.acts x.opening x.now e))

-- what is firmer before an event is so behind it
firmer_failed : (a b : Note) (x : Failure) → IsFirmer a b → IsFirmer (after_failure a x) (after_failure b x)
firmer_failed a b (failure.BackingWrite first (Some of) values) h = record {
  range = h.range;
  wrote = refl;
  looked = refl;
  read = λ s. refl;
  last = h.last;
  flush = h.flush;
}
firmer_failed a b (failure.BackingWrite first None values) h = h
firmer_failed a b x h = h

firmer_written : (a b : Note) (line first : ℕ) (values : List Value) (firm : Bool) → IsFirmer a b
    → IsFirmer (with_write line first values firm a) (with_write line first values firm b)
firmer_written a b line first values firm h = record {
  range = h.range;
  wrote = refl;
  looked = refl;
  read = λ s. refl;
  last = (refl, refl, refl, λ is. is);
  flush = h.flush;
}

pub firmer_after : (plain : Bool) (a b : Note) (d : Deed) → IsFirmer a b
    → IsFirmer (note_after plain a d) (note_after plain b d)
firmer_after plain a b (deed.Claim first count how) h = record {
  range = refl;
  wrote = refl;
  looked = refl;
  read = λ s. refl;
  last = h.last;
  flush = h.flush;
}
firmer_after plain a b deed.Release h = record {
  range = refl;
  wrote = refl;
  looked = refl;
  read = λ s. refl;
  last = h.last;
  flush = h.flush;
}
firmer_after plain a b (deed.Look leaf) h = record {
  range = h.range;
  wrote = h.wrote;
  looked = refl;
  read = λ s. refl;
  last = h.last;
  flush = h.flush;
}
firmer_after plain a b (deed.BackingRead first values) h = record {
  range = h.range;
  wrote = h.wrote;
  looked = h.looked;
  read = λ s. ap (noted (at_run first values s)) (h.read s);
  last = h.last;
  flush = h.flush;
}
firmer_after plain a b (deed.BackingWrite first (Some of) values) h =
    firmer_written a b of.line first values false h
firmer_after plain a b (deed.BackingWrite first None values) h = h
firmer_after plain a b deed.BackingBarrier h = record {
  range = h.range;
  wrote = h.wrote;
  looked = h.looked;
  read = h.read;
  last = (h.last.0, h.last.1, h.last.2, λ is. refl);
  flush = (h.flush.0, h.flush.1, λ is. refl);
}
firmer_after plain a b (deed.InsertWrite leaf keys of first values) h =
    firmer_written a b of.line first values true h
firmer_after plain a b (deed.FlushFrom of) h = record {
  range = h.range;
  wrote = h.wrote;
  looked = h.looked;
  read = h.read;
  last = h.last;
  flush = (refl, refl, λ is. is);
}
firmer_after plain a b (deed.FlushDone of) h = record {
  range = h.range;
  wrote = h.wrote;
  looked = h.looked;
  read = h.read;
  last = h.last;
  flush = (refl, h.flush.1, h.flush.2);
}
firmer_after plain a b (deed.DeviceFault x) h = firmer_failed a b x h
firmer_after plain a b d h = h

-- ---- runs

-- a seat's own events make the note that it has in the state, but for what others made firm
pub own_note : (i : ℕ) (a : Note) (x : World) (es : List Event) → IsFirmer a (note_of x i)
    → IsFirmer (fold (λ o e. note_after (is_plain x) o e.deed) a (filter (λ e. e.seat == i) es))
    (note_of (fold after x es) i)
own_note i a x [] h = h
own_note i a x (e ∷ es) h = by_test e.seat i
    (λ b. IsFirmer (fold (λ o e. note_after (is_plain x) o e.deed) a
    (if b then e ∷ filter (λ e. e.seat == i) es else filter (λ e. e.seat == i) es))
    (note_of (fold after (after x e) es) i))
    (λ is. own_note i (note_after (is_plain x) a e.deed) (after x e) es
    (firmer_both _ _ _ (firmer_after (is_plain x) a (note_of x i) e.deed h)
    (firmer_is (note_after (is_plain x) (note_of x i) e.deed) (note_of (after x e) i)
    (subst (λ n. note_of (after x e) n ≡ note_after (is_plain x) (note_of x n) e.deed) is (note_event x e)))))
    (λ ne. own_note i a (after x e) es (firmer_both _ _ _ h (other_event x e i ne).0))

-- ---- halts

-- a halt stays
abbrev StaysHalted : flow.State → flow.State → Type 0
StaysHalted a b = a.halted ≡ true → b.halted ≡ true

halted_on : (old : Bool) (act : Act) → old ≡ true → flow_step.halted_after old act ≡ true
halted_on old (Fail ReadFault) is = is
halted_on old (Fail (CacheFault payload place values)) is = refl
halted_on old (Fail (BackingFault route first values)) is = refl
halted_on old (Fail BarrierFault) is = refl
halted_on old act is = is

-- who has made its last call, has done so since a halt
abbrev pub AreLate : flow.State → Type 0
AreLate st = (n : ℕ) → st.late n ≡ true → st.halted ≡ true

or_true : (a b : Bool) → (a || b) ≡ true → (a ≡ true) ⊎ (b ≡ true)
or_true true b is = inl refl
or_true false b is = inr is

late_on : (late : ℕ → Bool) (i n : ℕ) (m : Moment) (old new : Bool) → (old ≡ true → new ≡ true)
    → ((k : ℕ) → late k ≡ true → old ≡ true) → late_after late i m new n ≡ true → new ≡ true
late_on late i n Calls old new up all = by_test n i
    (λ b. (if b then new || late i else late n) ≡ true → new ≡ true)
    (λ is on. elim (or_true new (late i) on) [ inl a ↦ a | inr b ↦ up (all i b) ])
    (λ no on. up (all n on))
late_on late i n m old new up all = λ on. up (all n on)

late_keeps : (i : ℕ) → Keeps (λ act. Unit {0}) i (λ a b. AreLate a → AreLate b)
late_keeps i = record {
  same = λ a h. h;
  both = λ a b d x y h. y (x h);
  one = λ w st act any h n. late_on st.late i n (moment act) st.halted
      (flow_step.halted_after st.halted act) (halted_on st.halted act) h;
}

late_event : (x : World) (e : Event) → AreLate (data_of x) → AreLate (data_of (after x e))
late_event x e = in_acts (λ act. Unit {0}) e.seat (λ a b. AreLate a → AreLate b) (late_keeps e.seat)
    x.opening.machine x.now.machine (core.acts x.opening x.now e)
    (any_acts e.seat (core.acts x.opening x.now e))

pub late_events : (x : World) (es : List Event) → AreLate (data_of x) → AreLate (data_of (fold after x es))
late_events x [] h = h
late_events x (e ∷ es) h = late_events (after x e) es (late_event x e h)

-- the state is halted only where the events tell of a halt
pub halted_event : (x : World) (e : Event) (h : Option Device) → (data_of (after x e)).halted ≡ true
    → ((data_of x).halted ≡ true → h ≢ None) → halt_after h e ≢ None
halted_event x e None on told = go (halt_by e.deed) refl
  where
    go : (o : Option Device) → halt_by e.deed ≡ o → first_halt None (halt_by e.deed) ≢ None
    go None is = λ none. told (sym (stays_event Halts x e (ap is_some is)) ∙ on) refl
    go (Some d) is = λ none. absurd (cc (is, none))
halted_event x e (Some d) on told = λ none. absurd (cc)

pub halted_events : (x : World) (es : List Event) (h : Option Device)
    → ((data_of x).halted ≡ true → h ≢ None) → (data_of (fold after x es)).halted ≡ true
    → fold halt_after h es ≢ None
halted_events x [] h told on = told on
halted_events x (e ∷ es) h told on = halted_events (after x e) es (halt_after h e)
    (λ y. halted_event x e h y told) on
