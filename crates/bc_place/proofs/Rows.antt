-- Which deeds leave the places of their seat alone: by the table of events.
use Rattle.std.proofs.Common.{◌≡◌, ◌≢◌, ℕ, Bool, true, false, List, [], ◌∷◌, ◌++◌, Option, Some, None, refl, ap, ◌∙◌}
use Rattle.std.specs.Prelude.{if◌then◌else◌}
use Rattle.bc_model.specs.Sector.{Value}
use Rattle.bc_alloc.specs.declared.purpose.Purpose.{Purpose}
use Rattle.bc_alloc.specs.declared.purpose.Purpose.TheVariants as list
use Rattle.bc_books.specs.Books.{Books, Step, Put, Pin, Unpin, Keep, Raise}
use Rattle.bc_data.specs.Seats.{Seat, put_seat}
use Rattle.bc_data.specs.Data as flow
use Rattle.bc_data.specs.Data.{Act, Note, Look, CacheRead, BackingRead, Payload, Data, Metadata, JournalEntry, Route, Around, Copy, Fault, BackingFault, CacheFault, BarrierFault, ReadFault, MakeClaim, Release, Learn, CacheWrite, CacheBarrier, BackingWrite, BackingBarrier, InsertWrite, Insert, NoteCandidate, Settle, PinPlaces, UnpinPlaces, UnpinDead, Shelve, Say, Fail}
use Rattle.bc_data.specs.After.{seat_after, seats_after}
use Rattle.bc_data.specs.After as flow_step
use Rattle.bc_events.specs.Acts.{acts_of, is_exclusive, route_of, claimed, taken, listed, read_for, begun, root_of, root_beginning, chain_of, installed, marked, failed}
use Rattle.bc_events.specs.Changes.{made, dropped}
use Rattle.bc_events.specs.Run as core
use Rattle.bc_events.specs.Run.{acts_or_none}
use Rattle.bc_events.specs.Writes.{draft_inner, draft_leaf, map_some, set_in, with_beginning, write_of}
use Rattle.bc_events.specs.declared.event.Change.{Change}
use Rattle.bc_events.specs.declared.event.Deed.{Deed}
use Rattle.bc_events.specs.declared.event.Deed.TheVariants as deed
use Rattle.bc_events.specs.declared.event.Event.{Event}
use Rattle.bc_events.specs.declared.event.Failure.{Failure}
use Rattle.bc_events.specs.declared.event.Failure.TheVariants as failure
use Rattle.bc_events.specs.declared.event.Listing.{Listing}
use Rattle.bc_events.specs.declared.event.MarkForm.{MarkForm}
use Rattle.bc_events.specs.declared.event.MarkForm.TheVariants as mark
use Rattle.bc_events.specs.declared.event.NewChain.{NewChain}
use Rattle.bc_events.specs.declared.event.NewRoot.{NewRoot}
use Rattle.bc_events.specs.declared.event.Written.{Written}
use Rattle.bc_events.specs.declared.event.Written.TheVariants as written
use Rattle.bc_known.specs.Acts as known
use Rattle.bc_known.specs.Acts.{Alone, WriteCache, FailCache}
use Rattle.bc_deed.proofs.of_bc_machine.Noting.{any_acts}
use Rattle.bc_deed.specs.bc_machine.Frame.{AllData, AllOf, IsOf, Keeps, by_test, in_acts}
use Rattle.bc_whole.specs.State as whole
use Rattle.bc_whole.specs.State.{Root, OfEntry, OfInner, OfLeaf, OfParent, OfPriorities, OfSet}
use Rattle.bc_whole.specs.Together.{shelved}
use Rattle.bc_leaves.specs.Parts.{inner_owner, leaf_owner}
use Rattle.bc_place.specs.Written.{leaves_places}

-- ---- acts

abbrev step_leaves : Step → Bool
step_leaves (Put leaf keys) = false
step_leaves (Pin i place count) = false
step_leaves (Unpin place count) = false
step_leaves (Keep c place count) = false
step_leaves (Raise b) = false
step_leaves step = true

abbrev act_leaves : Act → Bool
act_leaves (CacheWrite Data place values) = false
act_leaves (InsertWrite line leaf keys first values) = false
act_leaves (Insert form leaf keys) = false
act_leaves (NoteCandidate number first count place) = false
act_leaves (Settle number leaf keys) = false
act_leaves (PinPlaces place count) = false
act_leaves (UnpinPlaces place count) = false
act_leaves (UnpinDead number) = false
act_leaves (Shelve step) = step_leaves step
act_leaves act = true

-- who has each place, which version each bucket has, and what the seat wrote
pub record SamePlaces (i : ℕ) (a b : flow.State) : Type 0 where
  pub owner : (t : ℕ) → b.books.owner t ≡ a.books.owner t
  pub version : (q : ℕ) → b.books.generations.version q ≡ a.books.generations.version q
  pub placed : (t : ℕ) → (b.seats i).placed t ≡ (a.seats i).placed t

pub put_own : (seats : ℕ → Seat) (i : ℕ) (x : Seat) → put_seat seats i x i ≡ x
put_own seats i x =
    by_test i i (λ b. (if b then x else seats i) ≡ x) (λ is. refl) (λ ne. absurd (ne refl))

routed_placed : (k : Books) (x : Seat) (route : Route) (first : ℕ) (values : List Value) (t : ℕ)
    → (flow_step.routed k x route first values).placed t ≡ x.placed t
routed_placed k x (Around line) first values t = refl
routed_placed k x Copy first values t = refl

seat_placed : (w : flow.Opening) (k : Books) (x : Seat) (act : Act) (t : ℕ) → act_leaves act ≡ true
    → (seat_after w k x act).placed t ≡ x.placed t
seat_placed w k x (CacheWrite Data place values) t on = absurd (cc)
seat_placed w k x (CacheWrite Metadata place values) t on = refl
seat_placed w k x (CacheWrite JournalEntry place values) t on = refl
seat_placed w k x (BackingWrite route first values) t on = routed_placed k x route first values t
seat_placed w k x (PinPlaces place count) t on = absurd (cc)
seat_placed w k x act t on = refl

own_placed : (w : flow.Opening) (k : Books) (seats : ℕ → Seat) (i : ℕ) (act : Act) (t : ℕ)
    → act_leaves act ≡ true → (seats_after w k seats i act i).placed t ≡ (seats i).placed t
own_placed w k seats i BackingBarrier t on = refl
own_placed w k seats i act t on = ap (λ (x : Seat). x.placed t) (put_own seats i _)
    ∙ seat_placed w k (seats i) act t on

step_same : (w : flow.Opening) (st : flow.State) (i : ℕ) (step : Step) → step_leaves step ≡ true
    → SamePlaces i st (flow_step.after w st i (Shelve step))
step_same w st i (Put leaf keys) on = absurd (cc)
step_same w st i (Pin j place count) on = absurd (cc)
step_same w st i (Unpin place count) on = absurd (cc)
step_same w st i (Keep c place count) on = absurd (cc)
step_same w st i (Raise b) on = absurd (cc)
step_same w st i step on = record {
  owner = λ t. refl;
  version = λ q. refl;
  placed = λ t. own_placed w st.books st.seats i (Shelve step) t on;
}

pub act_same : (w : flow.Opening) (st : flow.State) (i : ℕ) (act : Act) → act_leaves act ≡ true
    → SamePlaces i st (flow_step.after w st i act)
act_same w st i (InsertWrite line leaf keys first values) on = absurd (cc)
act_same w st i (Insert form leaf keys) on = absurd (cc)
act_same w st i (NoteCandidate number first count place) on = absurd (cc)
act_same w st i (Settle number leaf keys) on = absurd (cc)
act_same w st i (PinPlaces place count) on = absurd (cc)
act_same w st i (UnpinPlaces place count) on = absurd (cc)
act_same w st i (UnpinDead number) on = absurd (cc)
act_same w st i (Shelve step) on = step_same w st i step on
act_same w st i act on = record {
  owner = λ t. refl;
  version = λ q. refl;
  placed = λ t. own_placed w st.books st.seats i act t on;
}

pub same_both : (i : ℕ) (a b c : flow.State) → SamePlaces i a b → SamePlaces i b c
    → SamePlaces i a c
same_both i a b c x y = record {
  owner = λ t. y.owner t ∙ x.owner t;
  version = λ q. y.version q ∙ x.version q;
  placed = λ t. y.placed t ∙ x.placed t;
}

abbrev Leaves : Act → Type 0
Leaves act = act_leaves act ≡ true

leaves_same : (i : ℕ) → Keeps Leaves i (SamePlaces i)
leaves_same i = record {
  same = λ a. record { owner = λ t. refl; version = λ q. refl; placed = λ t. refl };
  both = same_both i;
  one = λ w st act on. act_same w st i act on;
}

-- ---- the rows of the table

module _ (i : ℕ) where
  one : (act : Act) → Leaves act → AllOf Leaves i (Alone act ∷ [])
  one act on = ((λ w st. (on, tt)), tt)

  all_claimed : (plain : Bool) (leaf first count : ℕ) (exclusive : Bool)
      → AllOf Leaves i (claimed plain leaf first count exclusive)
  all_claimed false leaf first count exclusive = ((λ w st. (refl, tt)), tt)
  all_claimed true leaf first count exclusive =
      ((λ w st. (refl, tt)), ((λ w st. (refl, tt)), tt))

  all_taken : (p : Purpose) (b : ℕ) → AllOf Leaves i (taken i p b)
  all_taken list.Plain b = ((λ w st. (refl, tt)), tt)
  all_taken list.Priorities b = ((λ w st. (refl, tt)), tt)
  all_taken list.Moving b = ((λ w st. (refl, tt)), tt)
  all_taken list.Tree b = ((λ w st. (refl, tt)), tt)

  all_listed : (xs : List Listing) → AllOf Leaves i (listed xs)
  all_listed [] = tt
  all_listed (x ∷ xs) = ((λ w st. (refl, tt)), all_listed xs)

  all_read : (first : Option ℕ) (values : List Value) → AllOf Leaves i (read_for first values)
  all_read None values = ((λ w st. (refl, tt)), tt)
  all_read (Some first) values = ((λ w st. (refl, tt)), tt)

  all_marked : (form : MarkForm) → AllOf Leaves i (marked form)
  all_marked mark.Begin = ((λ w st. (refl, tt)), tt)
  all_marked (mark.Walk leaf) = ((λ w st. (refl, tt)), tt)
  all_marked mark.End = ((λ w st. (refl, tt)), tt)
  all_marked mark.Drop = ((λ w st. (refl, tt)), tt)

  seal_leaves : (w : whole.Opening) (st : known.State) (last_seq : ℕ) (rest : List ℕ) (root : Root)
      (chain : Option NewChain) → IsOf Leaves i (known.Seal last_seq rest root (chain_of w st chain))
  seal_leaves w st last_seq rest root None = λ x y. (refl, tt)
  seal_leaves w st last_seq rest root (Some c) = λ x y. (refl, tt)

  all_sealed : (st : known.State) (bucket : Option ℕ) (root : Option NewRoot) (seal : known.Act)
      → IsOf Leaves i seal → AllOf Leaves i (begun bucket ++ (root_beginning st root ++ (seal ∷ [])))
  all_sealed st None None seal of = (of, tt)
  all_sealed st None (Some x) seal of = ((λ w y. tt), (of, tt))
  all_sealed st (Some b) None seal of = ((λ w y. tt), (of, tt))
  all_sealed st (Some b) (Some x) seal of = ((λ w y. tt), ((λ w z. tt), (of, tt)))

  all_dropped : (gone : List ℕ) → AllData Leaves (shelved (dropped gone))
  all_dropped [] = tt
  all_dropped (b ∷ bs) = (refl, all_dropped bs)

  all_made : (come gone : List ℕ) → AllData Leaves (shelved (made i come ++ dropped gone))
  all_made [] gone = all_dropped gone
  all_made (b ∷ bs) gone = (refl, all_made bs gone)

  all_installed : (st : known.State) (change : Change) (come gone : List ℕ)
      → AllOf Leaves i (installed st i change come gone)
  all_installed st change come gone = ((λ w x. (refl, all_made come gone)), tt)

  module _ (st : known.State) (values : List Value) where
    begun_with : (what : Written) (act : known.Act) → IsOf Leaves i act
        → AllOf Leaves i (with_beginning st what (act ∷ []))
    begun_with (written.Parent inner change) act of = ((λ w x. tt), (of, tt))
    begun_with what act of = (of, tt)

    -- a write, if the values spell what it is
    written_as : {A : Type 0} (what : Written) (f : whole.Write → known.Act) (g : A → whole.Write)
        → ((x : A) → IsOf Leaves i (f (g x))) → (o : Option A)
        → AllOf Leaves i (acts_or_none (map_some (λ x. with_beginning st what (f x ∷ []))
        (map_some g o)))
    written_as what f g of None = tt
    written_as what f g of (Some x) = begun_with what (f (g x)) (of x)

    failed_as : (what : Written) (o : Option whole.Write)
        → AllOf Leaves i (acts_or_none (map_some (λ x. with_beginning st what
        (FailCache x values ∷ [])) o))
    failed_as what None = tt
    failed_as what (Some x) = begun_with what (FailCache x values) (λ w y. (refl, tt))

    all_written : (w : whole.Opening) (at : ℕ) (what : Written)
        → leaves_places (deed.CacheWrite at what values) ≡ true
        → AllOf Leaves i (acts_or_none (acts_of w st i (deed.CacheWrite at what values)))
    all_written w at written.Data on = absurd (cc)
    all_written w at written.Entry on = ((λ x y. (refl, tt)), tt)
    all_written w at (written.Set leaf) on = written_as (written.Set leaf)
        (λ x. WriteCache x values) (OfSet leaf) (λ x y z. (refl, tt))
        (set_in w (leaf_owner (st.whole.parts.leaves leaf)) values)
    all_written w at (written.Parent inner change) on = written_as (written.Parent inner change)
        (λ x. WriteCache x values) (OfParent inner) (λ x y z. (refl, tt))
        (set_in w (inner_owner (st.whole.parts.inner_nodes inner)) values)
    all_written w at (written.Leaf node) on = written_as (written.Leaf node)
        (λ x. WriteCache x values) (OfLeaf node.slot (draft_leaf node)) (λ x y z. (refl, tt)) _
    all_written w at (written.Inner node) on = written_as (written.Inner node)
        (λ x. WriteCache x values) (OfInner node.slot (draft_inner node)) (λ x y z. (refl, tt)) _
    all_written w at (written.Priorities bucket part) on = written_as (written.Priorities bucket part)
        (λ x. WriteCache x values) (OfPriorities bucket part) (λ x y z. (refl, tt)) _

  all_failed : (w : whole.Opening) (st : known.State) (x : Failure)
      → AllOf Leaves i (acts_or_none (failed w st x))
  all_failed w st (failure.Read device) = ((λ x y. (refl, tt)), tt)
  all_failed w st (failure.Barrier device) = ((λ x y. (refl, tt)), tt)
  all_failed w st (failure.CacheWrite at what values) =
      failed_as st values what (write_of w st what at values)
  all_failed w st (failure.BackingWrite first of values) = ((λ x y. (refl, tt)), tt)

  rows : (w : whole.Opening) (st : known.State) (d : Deed) → leaves_places d ≡ true
      → AllOf Leaves i (acts_or_none (acts_of w st i d))
  rows w st (deed.Claim first count how) on = all_claimed w.flow.plain
      (st.whole.flow.books.index.leaf first) first count (is_exclusive how)
  rows w st deed.Release on = one Release refl
  rows w st (deed.Look leaf) on = one (Learn (Look leaf)) refl
  rows w st (deed.Pin at count full) on = absurd (cc)
  rows w st (deed.Unpin kind) on = absurd (cc)
  rows w st (deed.Take purpose bucket) on = all_taken purpose bucket
  rows w st (deed.Raise bucket) on = absurd (cc)
  rows w st (deed.Ready back named) on = ((λ x y. (refl, tt)), all_listed named.items)
  rows w st (deed.CacheRead at first values) on = all_read first values
  rows w st (deed.CacheWrite at what values) on = all_written st values w at what on
  rows w st deed.CacheBarrier on = ((λ x y. (refl, tt)), tt)
  rows w st (deed.BackingRead first values) on = one (Learn (BackingRead first values)) refl
  rows w st (deed.BackingWrite first of values) on =
      one (BackingWrite (route_of of) first values) refl
  rows w st deed.BackingBarrier on = one BackingBarrier refl
  rows w st (deed.InsertWrite leaf keys of first values) on = absurd (cc)
  rows w st (deed.Insert leaf keys form) on = absurd (cc)
  rows w st (deed.Candidate candidate first count at) on = absurd (cc)
  rows w st (deed.Settle leaf candidate keys) on = absurd (cc)
  rows w st (deed.Seal last_seq bucket rest new_root chain) on = all_sealed st bucket new_root
      (known.Seal last_seq rest.items (root_of new_root) (chain_of w st chain))
      (seal_leaves w st last_seq rest.items (root_of new_root) chain)
  rows w st deed.Sealed on = ((λ x y. (refl, tt)), tt)
  rows w st (deed.Install change come gone) on = all_installed st change come.items gone.items
  rows w st (deed.Mark form) on = all_marked form
  rows w st (deed.Answer of first values) on = ((λ x y. (refl, tt)), tt)
  rows w st (deed.FlushFrom of) on = ((λ x y. (refl, tt)), tt)
  rows w st (deed.FlushDone of) on = ((λ x y. (refl, tt)), tt)
  rows w st (deed.Durable of first count) on = ((λ x y. (refl, tt)), tt)
  rows w st (deed.LineFrom of) on = tt
  rows w st (deed.LineDone of) on = tt
  rows w st (deed.DeviceFault x) on = all_failed w st x

pub event_same : (w : core.Opening) (st : core.State) (e : Event) → leaves_places e.deed ≡ true
    → SamePlaces e.seat st.machine.whole.flow (core.after w st e).machine.whole.flow
event_same w st e on = in_acts Leaves e.seat (SamePlaces e.seat) (leaves_same e.seat) w.machine
    st.machine (core.acts w st e) (rows e.seat w.machine st.machine e.deed on)

-- ---- other seats

abbrev SamePlaced : ℕ → flow.State → flow.State → Type 0
SamePlaced j a b = (t : ℕ) → (b.seats j).placed t ≡ (a.seats j).placed t

other_act : (w : flow.Opening) (k : Books) (seats : ℕ → Seat) (i : ℕ) (act : Act) (j t : ℕ) → j ≢ i
    → (seats_after w k seats i act j).placed t ≡ (seats j).placed t
other_act w k seats i BackingBarrier j t ne = refl
other_act w k seats i act j t ne = by_test j i
    (λ b. (if b then seat_after w k (seats i) act else seats j).placed t ≡ (seats j).placed t)
    (λ is. absurd (ne is)) (λ no. refl)

other_keeps : (i j : ℕ) → j ≢ i → Keeps (λ act. Unit {0}) i (SamePlaced j)
other_keeps i j ne = record {
  same = λ a t. refl;
  both = λ a b c x y t. y t ∙ x t;
  one = λ w st act any t. other_act w st.books st.seats i act j t ne;
}

pub other_placed : (w : core.Opening) (st : core.State) (e : Event) (j : ℕ) → j ≢ e.seat
    → SamePlaced j st.machine.whole.flow (core.after w st e).machine.whole.flow
other_placed w st e j ne = in_acts (λ act. Unit {0}) e.seat (SamePlaced j) (other_keeps e.seat j ne)
    w.machine st.machine (core.acts w st e) (any_acts e.seat (core.acts w st e))
