-- What events leave alone of the state: what none of their columns names.
use Rattle.std.specs.Prelude.{◌≡◌, ◌≢◌, ◌⊎◌, ℕ, ◌+◌, ◌≤◌, Bool, true, false, ◌==◌, ◌&&◌, ◌||◌, List, [], ◌∷◌, ◌++◌, reverse, Option, Some, None, is_some, Err, if◌then◌else◌, refl}
use Rattle.std.proofs.Common.{inl, inr, sym, ap, ◌∙◌, subst}
use Rattle.std.proofs.lemmas.Bool.Decides.{eqb_tells}
use Rattle.std.proofs.lemmas.List.Sums.{fold-append}
use Rattle.bc_model.specs.Sector.{Value}
use Rattle.bc_disk.specs.Device.{Content}
use Rattle.bc_books.specs.Books.{Books, Step}
use Rattle.bc_books.specs.Books as book
use Rattle.bc_data.specs.Seats.{Candidate, Claim, Seat, put_seat}
use Rattle.bc_data.specs.Data as flow
use Rattle.bc_books.specs.Index as index
use Rattle.bc_data.specs.Data.{Note, Look, CacheRead, BackingRead, Form, DropKeys, CleanKeys, MoveKeys, StaleKeys, Route, Around, Copy, Fault, CacheFault, BackingFault, BarrierFault, ReadFault, Act, MakeClaim, Release, Learn, CacheWrite, CacheBarrier, BackingWrite, BackingBarrier, InsertWrite, Insert, NoteCandidate, Settle, PinPlaces, UnpinPlaces, UnpinDead, Shelve, Say, Fail}
use Rattle.bc_data.specs.After as flow_step
use Rattle.bc_data.specs.After.{learnt, routed, with_keys, claim_at_fault, seat_after, seats_after, candidates_after, cache_after, backing_after}
use Rattle.bc_whole.specs.State as whole
use Rattle.bc_whole.specs.Run.{by as by_data}
use Rattle.bc_known.specs.Acts as known
use Rattle.bc_known.specs.Acts.{Alone, Keyed, WriteCache, FailCache, Seal, MakeDurable, BeginBucket, Take, LetGo, ReadyChain, BeginChange, Install, ForgetDrafts}
use Rattle.bc_known.specs.Run as machine
use Rattle.bc_alloc.specs.declared.purpose.Purpose.{Purpose}
use Rattle.bc_alloc.specs.declared.purpose.Purpose.TheVariants as list
use Rattle.bc_disk.specs.declared.disk.Device.{Device}
use Rattle.bc_disk.specs.declared.disk.Device.TheVariants.{Cache, Backing}
use Rattle.bc_events.specs.Acts.{acts_of, is_exclusive, route_of, shelve, claimed, pinned, let_go, taken, listed, read_for, put_keys, begun, root_beginning, installed, marked, failed}
use Rattle.bc_key.specs.declared.key.Key.{Key}
use Rattle.bc_events.specs.Keys.{book_keys}
use Rattle.bc_events.specs.Changes.{regroup, made, dropped}
use Rattle.bc_events.specs.declared.event.Change.{Change}
use Rattle.bc_events.specs.declared.event.LineNumber.{LineNumber}
use Rattle.bc_events.specs.Writes.{map_some, with_beginning, write_of}
use Rattle.bc_events.specs.Run as core
use Rattle.bc_events.specs.Run.{acts_or_none}
use Rattle.bc_events.specs.Columns.{Call, call_by, first_halt, halt_by, halt_after, halt_of, outlasts_halt, verdict_by, verdict_of}
use Rattle.bc_events.specs.declared.event.UnpinKind.{UnpinKind}
use Rattle.bc_events.specs.declared.event.UnpinKind.TheVariants as unpin
use Rattle.bc_events.specs.declared.event.MarkForm.{MarkForm}
use Rattle.bc_events.specs.declared.event.MarkForm.TheVariants as mark
use Rattle.bc_events.specs.declared.event.Listing.{Listing}
use Rattle.bc_events.specs.declared.event.NewRoot.{NewRoot}
use Rattle.bc_events.specs.declared.event.Written.{Written}
use Rattle.bc_events.specs.declared.event.Written.TheVariants as written
use Rattle.bc_events.specs.declared.event.Failure.{Failure}
use Rattle.bc_events.specs.declared.event.Failure.TheVariants as failure
use Rattle.bc_events.specs.declared.event.Deed.{Deed}
use Rattle.bc_events.specs.declared.event.Deed.TheVariants as deed
use Rattle.bc_events.specs.declared.event.Event.{Event}
use Rattle.bc_whole.specs.Together.{shelved}
use Rattle.bc_machine.specs.World.{World, after, data_of, is_call_of, kept_of, touches_flight}

-- ---- what acts of the data touch

-- what a frame speaks of: the ranges of claims and the candidates, the contents of the two devices,
-- what the acting seat notes, and a halt
pub data Column : Type 0 where
  Claims OnCache OnBacking Notes Halts : Column

abbrev pub touches : Act → Column → Bool
touches (MakeClaim first count exclusive) Claims = true
touches Release Claims = true
touches (NoteCandidate number first count place) Claims = true
touches (Settle number leaf keys) Claims = true
touches (UnpinDead number) Claims = true
touches (CacheWrite payload place values) OnCache = true
touches CacheBarrier OnCache = true
touches (BackingWrite route first values) OnBacking = true
touches BackingBarrier OnBacking = true
touches (Fail (CacheFault payload place values)) OnCache = true
touches (Fail (BackingFault route first values)) OnBacking = true
touches (MakeClaim first count exclusive) Notes = true
touches Release Notes = true
touches (Learn note) Notes = true
touches (BackingWrite route first values) Notes = true
touches BackingBarrier Notes = true
touches (InsertWrite line leaf keys first values) Notes = true
touches (Say speech) Notes = true
touches (Fail fault) Notes = true
touches (Fail (CacheFault payload place values)) Halts = true
touches (Fail (BackingFault route first values)) Halts = true
touches (Fail BarrierFault) Halts = true
touches act c = false

-- the range of a claim, and whose it may be beside
pub record Range : Type 0 where
  pub first : ℕ
  pub count : ℕ
  pub exclusive : Bool

abbrev pub range_of : Claim → Range
range_of c = record { first = c.first; count = c.count; exclusive = c.exclusive }

abbrev pub range_at : (ℕ → Seat) → ℕ → Range
range_at seats n = range_of (seats n).claim

pub by_test : (a b : ℕ) (P : Bool → Type 0) → (a ≡ b → P true) → (a ≢ b → P false) → P (a == b)
by_test a b P same other = go (eqb_tells a b)
  where
    go : (((a == b) ≡ true) × (a ≡ b)) ⊎ (((a == b) ≡ false) × (a ≢ b)) → P (a == b)
    go (inl t) = subst P (sym t.0) (same t.1)
    go (inr t) = subst P (sym t.0) (other t.1)

put_range : (seats : ℕ → Seat) (i : ℕ) (x : Seat) (n : ℕ) → range_of x.claim ≡ range_at seats i
    → range_at (put_seat seats i x) n ≡ range_at seats n
put_range seats i x n same = by_test n i (λ b. range_of (if b then x else seats n).claim ≡ range_at seats n)
    (λ is. same ∙ ap (range_at seats) (sym is)) (λ ne. refl)

learnt_range : (w : flow.Opening) (k : Books) (c : Claim) (note : Note)
    → range_of (learnt w k c note) ≡ range_of c
learnt_range w k c (Look leaf) = refl
learnt_range w k c (CacheRead first values) = refl
learnt_range w k c (BackingRead first values) = refl

routed_range : (k : Books) (x : Seat) (route : Route) (first : ℕ) (values : List Value)
    → range_of (routed k x route first values).claim ≡ range_of x.claim
routed_range k x (Around line) first values = refl
routed_range k x Copy first values = refl

fault_range : (c : Claim) (x : Fault) → range_of (claim_at_fault c x) ≡ range_of c
fault_range c (BackingFault (Around line) first values) = refl
fault_range c (BackingFault Copy first values) = refl
fault_range c x = refl

seat_range : (w : flow.Opening) (k : Books) (x : Seat) (act : Act) → touches act Claims ≡ false
    → range_of (seat_after w k x act).claim ≡ range_of x.claim
seat_range w k x (MakeClaim first count exclusive) off = absurd (cc)
seat_range w k x Release off = absurd (cc)
seat_range w k x (Learn note) off = learnt_range w k x.claim note
seat_range w k x (BackingWrite route first values) off = routed_range k x route first values
seat_range w k x (Fail fault) off = fault_range x.claim fault
seat_range w k x act off = refl

seats_range : (w : flow.Opening) (k : Books) (seats : ℕ → Seat) (i : ℕ) (act : Act) (n : ℕ)
    → touches act Claims ≡ false → range_at (seats_after w k seats i act) n ≡ range_at seats n
seats_range w k seats i BackingBarrier n off = refl
seats_range w k seats i act n off =
    put_range seats i (seat_after w k (seats i) act) n (seat_range w k (seats i) act off)

-- of the candidates a barrier of the backing device changes only whether they are firm
candidates_kept : (xs : ℕ → Candidate) (act : Act) (c : ℕ) → touches act Claims ≡ false
    → kept_of (candidates_after xs act c) ≡ kept_of (xs c)
candidates_kept xs (MakeClaim first count exclusive) c off = absurd (cc)
candidates_kept xs BackingBarrier c off = refl
candidates_kept xs (NoteCandidate number first count place) c off = absurd (cc)
candidates_kept xs (Settle number leaf keys) c off = absurd (cc)
candidates_kept xs (UnpinDead number) c off = absurd (cc)
candidates_kept xs act c off = refl

fault_cache : (d : Content) (x : Fault) → touches (Fail x) OnCache ≡ false
    → flow_step.cache_at_fault d x ≡ d
fault_cache d (CacheFault payload place values) off = absurd (cc)
fault_cache d x off = refl

act_cache : (d : Content) (act : Act) → touches act OnCache ≡ false → cache_after d act ≡ d
act_cache d (CacheWrite payload place values) off = absurd (cc)
act_cache d CacheBarrier off = absurd (cc)
act_cache d (Fail x) off = fault_cache d x off
act_cache d act off = refl

fault_backing : (d : Content) (x : Fault) → touches (Fail x) OnBacking ≡ false
    → flow_step.backing_at_fault d x ≡ d
fault_backing d (BackingFault route first values) off = absurd (cc)
fault_backing d x off = refl

act_backing : (d : Content) (act : Act) → touches act OnBacking ≡ false → backing_after d act ≡ d
act_backing d (BackingWrite route first values) off = absurd (cc)
act_backing d BackingBarrier off = absurd (cc)
act_backing d (Fail x) off = fault_backing d x off
act_backing d act off = refl

fault_halted : (old : Bool) (x : Fault) → touches (Fail x) Halts ≡ false
    → flow_step.halted_at_fault x old ≡ old
fault_halted old ReadFault off = refl
fault_halted old (CacheFault payload place values) off = absurd (cc)
fault_halted old (BackingFault route first values) off = absurd (cc)
fault_halted old BarrierFault off = absurd (cc)

act_halted : (old : Bool) (act : Act) → touches act Halts ≡ false
    → flow_step.halted_after old act ≡ old
act_halted old (Fail x) off = fault_halted old x off
act_halted old act off = refl

-- the same ranges of claims, and the same candidates but for whether they are firm
pub record SameFlight (a b : flow.State) : Type 0 where
  pub ranges : (n : ℕ) → range_at b.seats n ≡ range_at a.seats n
  pub candidates : (c : ℕ) → kept_of (b.candidates c) ≡ kept_of (a.candidates c)

-- what a column has
abbrev pub Stays : Column → flow.State → flow.State → Type 0
Stays Claims a b = SameFlight a b
Stays OnCache a b = b.cache ≡ a.cache
Stays OnBacking a b = b.backing ≡ a.backing
Stays Notes a b = Unit {0}
Stays Halts a b = b.halted ≡ a.halted

stays_same : (c : Column) (a : flow.State) → Stays c a a
stays_same Claims a = record { ranges = λ n. refl; candidates = λ c. refl }
stays_same OnCache a = refl
stays_same OnBacking a = refl
stays_same Notes a = tt
stays_same Halts a = refl

stays_both : (c : Column) (a b d : flow.State) → Stays c a b → Stays c b d → Stays c a d
stays_both Claims a b d x y = record {
  ranges = λ n. y.ranges n ∙ x.ranges n;
  candidates = λ c. y.candidates c ∙ x.candidates c;
}
stays_both OnCache a b d x y = y ∙ x
stays_both OnBacking a b d x y = y ∙ x
stays_both Notes a b d x y = tt
stays_both Halts a b d x y = y ∙ x

stays_act : (c : Column) (w : flow.Opening) (st : flow.State) (i : ℕ) (act : Act)
    → touches act c ≡ false → Stays c st (flow_step.after w st i act)
stays_act Claims w st i act off = record {
  ranges = λ n. seats_range w st.books st.seats i act n off;
  candidates = λ c. candidates_kept st.candidates act c off;
}
stays_act OnCache w st i act off = act_cache st.cache act off
stays_act OnBacking w st i act off = act_backing st.backing act off
stays_act Notes w st i act off = tt
stays_act Halts w st i act off = act_halted st.halted act off

-- ---- facts that each act of the data keeps, an event keeps

-- each act has P
abbrev pub AllData : (Act → Type 0) → List Act → Type 0
AllData P [] = Unit {0}
AllData P (a ∷ acts) = P a × AllData P acts

-- whatever the state is
abbrev pub IsOf : (Act → Type 0) → ℕ → known.Act → Type 0
IsOf P i act = (w : whole.Opening) (st : known.State) → AllData P (machine.data_of w st i act)

abbrev pub AllOf : (Act → Type 0) → ℕ → List known.Act → Type 0
AllOf P i [] = Unit {0}
AllOf P i (act ∷ acts) = IsOf P i act × AllOf P i acts

-- a relation of states that acts of seat i with P keep
pub record Keeps (P : Act → Type 0) (i : ℕ) (R : flow.State → flow.State → Type 0) : Type 0 where
  pub same : (a : flow.State) → R a a
  pub both : (a b d : flow.State) → R a b → R b d → R a d
  pub one : (w : flow.Opening) (st : flow.State) (act : Act) → P act
      → R st (flow_step.after w st i act)

-- of the data, an act is these
data_is : (w : whole.Opening) (st : known.State) (i : ℕ) (act : known.Act)
    → (known.after w st i act).whole.flow
    ≡ flow_step.course w.flow st.whole.flow (by_data i (machine.data_of w st i act))
data_is w st i (Alone act) = refl
data_is w st i (Keyed act slot keys) = refl
data_is w st i (WriteCache x values) = refl
data_is w st i (FailCache x values) = refl
data_is w st i known.CacheBarrier = refl
data_is w st i (Seal last_seq rest root chain) = refl
data_is w st i MakeDurable = refl
data_is w st i (BeginBucket b) = refl
data_is w st i (Take p b) = refl
data_is w st i (LetGo b room) = refl
data_is w st i (ReadyChain room) = refl
data_is w st i (BeginChange low high gone come old new unused) = refl
data_is w st i (Install unused steps) = refl
data_is w st i ForgetDrafts = refl

module _ (P : Act → Type 0) (i : ℕ) (R : flow.State → flow.State → Type 0) (keeps : Keeps P i R) where
  in_data : (w : flow.Opening) (st : flow.State) (acts : List Act) → AllData P acts
      → R st (flow_step.course w st (by_data i acts))
  in_data w st [] all = keeps.same st
  in_data w st (act ∷ acts) all = keeps.both st (flow_step.after w st i act) _
      (keeps.one w st act all.0) (in_data w (flow_step.after w st i act) acts all.1)

  in_act : (w : whole.Opening) (st : known.State) (act : known.Act) → IsOf P i act
      → R st.whole.flow (known.after w st i act).whole.flow
  in_act w st act of = subst (R st.whole.flow) (sym (data_is w st i act))
      (in_data w.flow st.whole.flow (machine.data_of w st i act) (of w st))

  pub in_acts : (w : whole.Opening) (st : known.State) (acts : List known.Act) → AllOf P i acts
      → R st.whole.flow (machine.run w st (core.by i acts)).whole.flow
  in_acts w st [] all = keeps.same st.whole.flow
  in_acts w st (act ∷ acts) all = keeps.both st.whole.flow (known.after w st i act).whole.flow _
      (in_act w st act all.0) (in_acts w (known.after w st i act) acts all.1)

stays : (c : Column) (i : ℕ) → Keeps (λ act. touches act c ≡ false) i (Stays c)
stays c i = record {
  same = stays_same c;
  both = stays_both c;
  one = λ w st act off. stays_act c w st i act off;
}

-- ---- the rows of the table

-- the seat may note something by it
abbrev pub is_noted : Deed → Bool
is_noted (deed.Claim first count how) = true
is_noted deed.Release = true
is_noted (deed.Look leaf) = true
is_noted (deed.CacheRead at first values) = true
is_noted (deed.BackingRead first values) = true
is_noted (deed.BackingWrite first of values) = true
is_noted deed.BackingBarrier = true
is_noted (deed.InsertWrite leaf keys of first values) = true
is_noted (deed.Answer of first values) = true
is_noted (deed.FlushFrom of) = true
is_noted (deed.FlushDone of) = true
is_noted (deed.Durable of first count) = true
is_noted (deed.DeviceFault x) = true
is_noted d = false

abbrev pub changed : Deed → Column → Bool
changed d Claims = touches_flight d
changed d OnCache = is_call_of Cache (call_by d)
changed d OnBacking = is_call_of Backing (call_by d)
changed d Notes = is_noted d
changed d Halts = is_some (halt_by d)

module _ (c : Column) (i : ℕ) where
  abbrev Off : Act → Type 0
  Off act = touches act c ≡ false

  one : (act : Act) → Off act → AllOf Off i (Alone act ∷ [])
  one act off = ((λ w st. (off, tt)), tt)

  shelves : (step : Step) → AllOf Off i (shelve step)
  shelves step = one (Shelve step) refl

  all_listed : (xs : List Listing) → AllOf Off i (listed xs)
  all_listed [] = tt
  all_listed (x ∷ xs) = ((λ w st. (refl, tt)), all_listed xs)

  all_steps : (steps : List Step) → AllData Off (shelved steps)
  all_steps [] = tt
  all_steps (x ∷ xs) = (refl, all_steps xs)

  all_installed : (st : known.State) (change : Change) (come gone : List ℕ)
      → AllOf Off i (installed st i change come gone)
  all_installed st change come gone = (
    (λ w x. all_steps
        (regroup st.whole.flow.books.index st.whole.parts.leaves change ∷ (made i come ++ dropped gone))),
    tt,
  )

  all_claimed : (plain : Bool) (leaf first count : ℕ) (exclusive : Bool)
      → Off (MakeClaim first count exclusive) → Off (Learn (Look leaf))
      → AllOf Off i (claimed plain leaf first count exclusive)
  all_claimed false leaf first count exclusive off look = ((λ w st. (off, tt)), tt)
  all_claimed true leaf first count exclusive off look =
      ((λ w st. (off, tt)), ((λ w st. (look, tt)), tt))

  all_pinned : (w : whole.Opening) (at count : ℕ) (full : Bool) → AllOf Off i (pinned w at count full)
  all_pinned w at count false = one (PinPlaces at count) refl
  all_pinned w at count true = ((λ w st. (refl, tt)), ((λ w st. (refl, tt)), tt))

  all_taken : (p : Purpose) (b : ℕ) → AllOf Off i (taken i p b)
  all_taken list.Plain b = ((λ w st. (refl, tt)), tt)
  all_taken list.Priorities b = ((λ w st. (refl, tt)), tt)
  all_taken list.Moving b = ((λ w st. (refl, tt)), tt)
  all_taken list.Tree b = ((λ w st. (refl, tt)), tt)

  all_marked : (form : MarkForm) → AllOf Off i (marked form)
  all_marked mark.Begin = ((λ w st. (refl, tt)), tt)
  all_marked (mark.Walk leaf) = ((λ w st. (refl, tt)), tt)
  all_marked mark.End = ((λ w st. (refl, tt)), tt)
  all_marked mark.Drop = ((λ w st. (refl, tt)), tt)

  all_sealed : (st : known.State) (bucket : Option ℕ) (root : Option NewRoot) (seal : known.Act)
      → IsOf Off i seal → AllOf Off i (begun bucket ++ (root_beginning st root ++ (seal ∷ [])))
  all_sealed st None None seal of = (of, tt)
  all_sealed st None (Some x) seal of = ((λ w st. tt), (of, tt))
  all_sealed st (Some b) None seal of = ((λ w st. tt), (of, tt))
  all_sealed st (Some b) (Some x) seal of = ((λ w st. tt), ((λ w st. tt), (of, tt)))

  all_put : (w : whole.Opening) (st : known.State) (keys : List Key) (act : List index.Key → Act)
      (leaf : ℕ) → ((ks : List index.Key) → Off (act ks)) → AllOf Off i (put_keys w st keys act leaf)
  all_put w st keys act leaf off = (
    (λ x y. (
      off (book_keys w.flow.books.bucket
          st.whole.flow.books.generations.version (reverse keys)),
      tt,
    )),
    tt,
  )

  all_read : (first : Option ℕ) (values : List Value) → Off (Fail ReadFault)
      → Off (Learn (CacheRead 0 [])) → AllOf Off i (read_for first values)
  all_read None values fail learn = one (Fail ReadFault) fail
  all_read (Some first) values fail learn = one (Learn (CacheRead first values)) learn

module _ (c : Column) (i : ℕ) (st : known.State) where
  begun_with : (what : Written) (act : known.Act) → IsOf (Off c i) i act
      → AllOf (Off c i) i (with_beginning st what (act ∷ []))
  begun_with (written.Parent inner change) act of = ((λ w st. tt), (of, tt))
  begun_with what act of = (of, tt)

  written_by : (what : Written) (f : whole.Write → known.Act)
      → ((x : whole.Write) → IsOf (Off c i) i (f x)) → (o : Option whole.Write)
      → AllOf (Off c i) i (acts_or_none (map_some (λ x. with_beginning st what (f x ∷ [])) o))
  written_by what f all None = tt
  written_by what f all (Some x) = begun_with what (f x) (all x)

write_off : (c : Column) (i : ℕ) (x : whole.Write) (values : List Value) → changed deed.CacheBarrier c ≡ false
    → IsOf (Off c i) i (WriteCache x values)
write_off OnCache i x values off = absurd (cc)
write_off Claims i x values off = λ w st. (refl, tt)
write_off OnBacking i x values off = λ w st. (refl, tt)
write_off Notes i x values off = λ w st. (refl, tt)
write_off Halts i x values off = λ w st. (refl, tt)

fail_off : (c : Column) (i : ℕ) (x : whole.Write) (at : ℕ) (what : Written) (values : List Value)
    → changed (deed.DeviceFault (failure.CacheWrite at what values)) c ≡ false
    → IsOf (Off c i) i (FailCache x values)
fail_off Claims i x at what values off = λ w st. (refl, tt)
fail_off OnCache i x at what values off = absurd (cc)
fail_off OnBacking i x at what values off = λ w st. (refl, tt)
fail_off Notes i x at what values off = absurd (cc)
fail_off Halts i x at what values off = absurd (cc)

-- rows whose acts some columns name
candidate_off : (c : Column) (number first count at : ℕ)
    → changed (deed.Candidate number first count at) c ≡ false
    → touches (NoteCandidate number first count at) c ≡ false
candidate_off Claims number first count at off = absurd (cc)
candidate_off OnCache number first count at off = refl
candidate_off OnBacking number first count at off = refl
candidate_off Notes number first count at off = refl
candidate_off Halts number first count at off = refl

settle_off : (c : Column) (leaf number : ℕ) (keys : List Key) (ks : List index.Key)
    → changed (deed.Settle leaf number keys) c ≡ false
    → touches (Settle number leaf ks) c ≡ false
settle_off Claims leaf number keys ks off = absurd (cc)
settle_off OnCache leaf number keys ks off = refl
settle_off OnBacking leaf number keys ks off = refl
settle_off Notes leaf number keys ks off = refl
settle_off Halts leaf number keys ks off = refl

dead_off : (c : Column) (number : ℕ) → changed (deed.Unpin (unpin.Dead number)) c ≡ false
    → touches (UnpinDead number) c ≡ false
dead_off Claims number off = absurd (cc)
dead_off OnCache number off = refl
dead_off OnBacking number off = refl
dead_off Notes number off = refl
dead_off Halts number off = refl

learn_off : (c : Column) (d : Deed) (note : Note) → is_noted d ≡ true → changed d c ≡ false
    → touches (Learn note) c ≡ false
learn_off Claims d note on off = refl
learn_off OnCache d note on off = refl
learn_off OnBacking d note on off = refl
learn_off Notes d note on off = absurd (cc)
learn_off Halts d note on off = refl

say_off : (c : Column) (d : Deed) (speech : flow.Speech) → is_noted d ≡ true → changed d c ≡ false
    → touches (Say speech) c ≡ false
say_off Claims d speech on off = refl
say_off OnCache d speech on off = refl
say_off OnBacking d speech on off = refl
say_off Notes d speech on off = absurd (cc)
say_off Halts d speech on off = refl

read_off : (c : Column) (d : Deed) → is_noted d ≡ true → changed d c ≡ false
    → touches (Fail ReadFault) c ≡ false
read_off Claims d on off = refl
read_off OnCache d on off = refl
read_off OnBacking d on off = refl
read_off Notes d on off = absurd (cc)
read_off Halts d on off = refl

barrier_off : (c : Column) (device : Device) → changed (deed.DeviceFault (failure.Barrier device)) c ≡ false
    → touches (Fail BarrierFault) c ≡ false
barrier_off Claims device off = refl
barrier_off OnCache device off = refl
barrier_off OnBacking device off = refl
barrier_off Notes device off = absurd (cc)
barrier_off Halts device off = absurd (cc)

insert_off : (c : Column) (leaf : ℕ) (ks : List index.Key) (of : LineNumber) (first : ℕ) (values : List Value)
    (d : Deed) → is_noted d ≡ true → changed d c ≡ false
    → touches (InsertWrite of.line leaf ks first values) c ≡ false
insert_off Claims leaf ks of first values d on off = refl
insert_off OnCache leaf ks of first values d on off = refl
insert_off OnBacking leaf ks of first values d on off = refl
insert_off Notes leaf ks of first values d on off = absurd (cc)
insert_off Halts leaf ks of first values d on off = refl

faults : (c : Column) (i : ℕ) (w : whole.Opening) (st : known.State) (x : Failure)
    → changed (deed.DeviceFault x) c ≡ false → AllOf (Off c i) i (acts_or_none (failed w st x))
faults c i w st (failure.Read device) off =
    one c i (Fail ReadFault) (read_off c (deed.DeviceFault (failure.Read device)) refl off)
faults c i w st (failure.Barrier device) off = one c i (Fail BarrierFault) (barrier_off c device off)
faults c i w st (failure.CacheWrite at what values) off = written_by c i st what
    (λ x. FailCache x values) (λ x. fail_off c i x at what values off) (write_of w st what at values)
faults Claims i w st (failure.BackingWrite first of values) off =
    one Claims i (Fail (BackingFault (route_of of) first values)) refl
faults OnCache i w st (failure.BackingWrite first of values) off =
    one OnCache i (Fail (BackingFault (route_of of) first values)) refl
faults c i w st (failure.BackingWrite first of values) off = absurd (cc)

cache_off : (c : Column) (at : ℕ) (what : Written) (values : List Value)
    → changed (deed.CacheWrite at what values) c ≡ false → changed deed.CacheBarrier c ≡ false
cache_off Claims at what values off = refl
cache_off OnCache at what values off = off
cache_off OnBacking at what values off = refl
cache_off Notes at what values off = refl
cache_off Halts at what values off = refl

pub rows : (c : Column) (i : ℕ) (w : whole.Opening) (st : known.State) (d : Deed) → changed d c ≡ false
    → AllOf (Off c i) i (acts_or_none (acts_of w st i d))
rows Claims i w st (deed.Claim first count how) off = absurd (cc)
rows OnCache i w st (deed.Claim first count how) off = all_claimed OnCache i w.flow.plain
    (st.whole.flow.books.index.leaf first) first count (is_exclusive how) refl refl
rows OnBacking i w st (deed.Claim first count how) off = all_claimed OnBacking i w.flow.plain
    (st.whole.flow.books.index.leaf first) first count (is_exclusive how) refl refl
rows Notes i w st (deed.Claim first count how) off = absurd (cc)
rows Halts i w st (deed.Claim first count how) off = all_claimed Halts i w.flow.plain
    (st.whole.flow.books.index.leaf first) first count (is_exclusive how) refl refl
rows Claims i w st deed.Release off = absurd (cc)
rows OnCache i w st deed.Release off = one OnCache i Release refl
rows OnBacking i w st deed.Release off = one OnBacking i Release refl
rows Notes i w st deed.Release off = absurd (cc)
rows Halts i w st deed.Release off = one Halts i Release refl
rows c i w st (deed.Look leaf) off =
    one c i (Learn (Look leaf)) (learn_off c (deed.Look leaf) (Look leaf) refl off)
rows c i w st (deed.Pin at count full) off = all_pinned c i w at count full
rows c i w st (deed.Unpin (unpin.Place at count)) off = one c i (UnpinPlaces at count) refl
rows c i w st (deed.Unpin (unpin.Dead candidate)) off =
    one c i (UnpinDead candidate) (dead_off c candidate off)
rows c i w st (deed.Unpin (unpin.Hold bucket back)) off = ((λ w st. (refl, tt)), tt)
rows c i w st (deed.Take purpose bucket) off = all_taken c i purpose bucket
rows c i w st (deed.Raise bucket) off = shelves c i (book.Raise bucket)
rows c i w st (deed.Ready back named) off = ((λ w st. (refl, tt)), all_listed c i named.items)
rows c i w st (deed.CacheRead at first values) off = all_read c i first values
    (read_off c (deed.CacheRead at first values) refl off)
    (learn_off c (deed.CacheRead at first values) (CacheRead 0 []) refl off)
rows c i w st (deed.CacheWrite at what values) off = written_by c i st what
    (λ x. WriteCache x values)
    (λ x. write_off c i x values (cache_off c at what values off))
    (write_of w st what at values)
rows Claims i w st deed.CacheBarrier off = ((λ w st. (refl, tt)), tt)
rows OnCache i w st deed.CacheBarrier off = absurd (cc)
rows OnBacking i w st deed.CacheBarrier off = ((λ w st. (refl, tt)), tt)
rows Notes i w st deed.CacheBarrier off = ((λ w st. (refl, tt)), tt)
rows Halts i w st deed.CacheBarrier off = ((λ w st. (refl, tt)), tt)
rows c i w st (deed.BackingRead first values) off = one c i (Learn (BackingRead first values))
    (learn_off c (deed.BackingRead first values) (BackingRead first values) refl off)
rows Claims i w st (deed.BackingWrite first of values) off =
    one Claims i (BackingWrite (route_of of) first values) refl
rows OnCache i w st (deed.BackingWrite first of values) off =
    one OnCache i (BackingWrite (route_of of) first values) refl
rows Halts i w st (deed.BackingWrite first of values) off =
    one Halts i (BackingWrite (route_of of) first values) refl
rows c i w st (deed.BackingWrite first of values) off = absurd (cc)
rows Claims i w st deed.BackingBarrier off = one Claims i BackingBarrier refl
rows OnCache i w st deed.BackingBarrier off = one OnCache i BackingBarrier refl
rows Halts i w st deed.BackingBarrier off = one Halts i BackingBarrier refl
rows c i w st deed.BackingBarrier off = absurd (cc)
rows c i w st (deed.InsertWrite leaf keys of first values) off = all_put c i w st keys
    (λ ks. flow.InsertWrite of.line leaf ks first values) leaf
    (λ ks. insert_off c leaf ks of first values (deed.InsertWrite leaf keys of first values) refl off)
rows c i w st (deed.Insert leaf keys form) off = ((λ w st. (refl, tt)), tt)
rows c i w st (deed.Candidate candidate first count at) off =
    one c i (NoteCandidate candidate first count at) (candidate_off c candidate first count at off)
rows c i w st (deed.Settle leaf candidate keys) off = all_put c i w st keys
    (λ ks. flow.Settle candidate leaf ks) leaf (λ ks. settle_off c leaf candidate keys ks off)
rows c i w st (deed.Seal last_seq bucket rest new_root chain) off =
    all_sealed c i st bucket new_root _ (λ w st. (refl, tt))
rows c i w st deed.Sealed off = ((λ w st. (refl, tt)), tt)
rows c i w st (deed.Install change come gone) off =
    all_installed c i st change come.items gone.items
rows c i w st (deed.Mark form) off = all_marked c i form
rows c i w st (deed.Answer of first values) off = one c i (Say (flow.Answer of.line first values))
    (say_off c (deed.Answer of first values) (flow.Answer of.line first values) refl off)
rows c i w st (deed.FlushFrom of) off = one c i (Say (flow.BeginFlush of.line))
    (say_off c (deed.FlushFrom of) (flow.BeginFlush of.line) refl off)
rows c i w st (deed.FlushDone of) off = one c i (Say (flow.EndFlush of.line))
    (say_off c (deed.FlushDone of) (flow.EndFlush of.line) refl off)
rows c i w st (deed.Durable of first count) off = one c i (Say (flow.Acknowledge of.line first count))
    (say_off c (deed.Durable of first count) (flow.Acknowledge of.line first count) refl off)
rows c i w st (deed.LineFrom of) off = tt
rows c i w st (deed.LineDone of) off = tt
rows c i w st (deed.DeviceFault x) off = faults c i w st x off

-- what a column has, an event that it doesn't name leaves
pub stays_event : (c : Column) (x : World) (e : Event) → changed e.deed c ≡ false
    → Stays c (data_of x) (data_of (after x e))
stays_event c x e off = in_acts (Off c e.seat) e.seat (Stays c) (stays c e.seat) x.opening.machine
    x.now.machine _ (rows c e.seat x.opening.machine x.now.machine e.deed off)

-- ---- a halt

-- what has halted a run stays what has halted it
pub stays_halted : (es : List Event) (e : Event) (d : Device) → halt_of es ≡ Some d
    → halt_of (es ++ e ∷ []) ≡ Some d
stays_halted es e d is = fold-append halt_after None es (e ∷ [])
    ∙ ap (λ h. first_halt h (halt_by e.deed)) is

-- an event that is refused names the device that has halted the run
pub names_halt : (es : List Event) (e : Event) (d : Device) → verdict_of es e ≡ Err d
    → halt_of es ≡ Some d
names_halt es e d is = go (outlasts_halt e.deed) (halt_of es) is
  where
    go : (b : Bool) (h : Option Device) → verdict_by b h ≡ Err d → h ≡ Some d
    go true h is = absurd (cc)
    go false None is = absurd (cc)
    go false (Some x) is = let e2 : x ≡ d = cc in ap Some e2
