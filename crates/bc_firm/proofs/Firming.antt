-- Which candidates an event leaves firm: by the table of events.
use Rattle.std.proofs.Common.{◌≡◌, ℕ, ◌<◌, ◌≤◌, Bool, true, false, List, refl, sym, ap, ◌∙◌, arith}
use Rattle.std.specs.Prelude.{if◌then◌else◌}
use Rattle.bc_data.specs.After.{candidates_after}
use Rattle.bc_data.specs.Data as flow
use Rattle.bc_data.specs.Data.{Act, BackingBarrier, MakeClaim, NoteCandidate, Release, Settle, UnpinDead}
use Rattle.bc_data.specs.Seats.{Candidate}
use Rattle.bc_deed.specs.bc_machine.Frame.{AllOf, Claims, Keeps, by_test, in_acts, rows, touches}
use Rattle.bc_deed.specs.bc_machine.World.{IsNumbered, candidates_noted, touches_flight}
use Rattle.bc_events.specs.Acts.{acts_of, claimed, is_exclusive}
use Rattle.bc_events.specs.Run as core
use Rattle.bc_events.specs.Run.{acts_or_none}
use Rattle.bc_events.specs.declared.event.Deed.{Deed}
use Rattle.bc_events.specs.declared.event.Deed.TheVariants as deed
use Rattle.bc_events.specs.declared.event.Event.{Event}
use Rattle.bc_events.specs.declared.event.UnpinKind.TheVariants as unpin

-- what was firm below a number is firm still
abbrev pub StaysFirm : ℕ → flow.State → flow.State → Type 0
StaysFirm n a b = (c : ℕ) → c < n → (a.candidates c).firm ≡ true → (b.candidates c).firm ≡ true

-- it notes no candidate below a number
abbrev NotesAbove : ℕ → Act → Type 0
NotesAbove n (NoteCandidate number first count place) = n ≤ number
NotesAbove n act = Unit {0}

stays_firm : (n : ℕ) (xs : ℕ → Candidate) (act : Act) (c : ℕ) → NotesAbove n act → c < n
    → (xs c).firm ≡ true → (candidates_after xs act c).firm ≡ true
stays_firm n xs (MakeClaim first count exclusive) c up low is = is
stays_firm n xs BackingBarrier c up low is = refl
stays_firm n xs (NoteCandidate number first count place) c up low is = by_test c number
    (λ b. (if b then (record {
      first = first;
      count = count;
      place = place;
      stands = true;
      alive = true;
      firm = false;
    }) else xs c).firm ≡ true)
    (λ same. absurd (omega (arith, up, low, same))) (λ other. is)
stays_firm n xs (Settle number leaf keys) c up low is = by_test c number
    (λ b. (if b then (record (xs number) { stands = false }) else xs c).firm ≡ true)
    (λ same. ap (λ m. (xs m).firm) (sym same) ∙ is) (λ other. is)
stays_firm n xs (UnpinDead number) c up low is = by_test c number
    (λ b. (if b then (record (xs number) { stands = false }) else xs c).firm ≡ true)
    (λ same. ap (λ m. (xs m).firm) (sym same) ∙ is) (λ other. is)
stays_firm n xs act c up low is = is

above_keeps : (n i : ℕ) → Keeps (NotesAbove n) i (StaysFirm n)
above_keeps n i = record {
  same = λ a c low is. is;
  both = λ a b d x y c low is. y c low (x c low is);
  one = λ w st act up c low is. stays_firm n st.candidates act c up low is;
}

-- what leaves the claims alone notes none
off_above : (n : ℕ) (act : Act) → touches act Claims ≡ false → NotesAbove n act
off_above n (NoteCandidate number first count place) off = absurd (cc)
off_above n act off = tt

off_keeps : (n i : ℕ) → Keeps (λ act. touches act Claims ≡ false) i (StaysFirm n)
off_keeps n i = record {
  same = λ a c low is. is;
  both = λ a b d x y c low is. y c low (x c low is);
  one = λ w st act off c low is.
      stays_firm n st.candidates act c (off_above n act off) low is;
}

-- ---- the rows of the table

all_claimed : (n i : ℕ) (plain : Bool) (leaf first count : ℕ) (exclusive : Bool)
    → AllOf (NotesAbove n) i (claimed plain leaf first count exclusive)
all_claimed n i false leaf first count exclusive = ((λ w st. (tt, tt)), tt)
all_claimed n i true leaf first count exclusive =
    ((λ w st. (tt, tt)), ((λ w st. (tt, tt)), tt))

module _ (n : ℕ) (w : core.Opening) (st : core.State) (i : ℕ) where
  abbrev event : Deed → Event
  event d = record { seat = i; deed = d }

  abbrev Leaves : Deed → Type 0
  Leaves d = StaysFirm n st.machine.whole.flow
      (core.after w st (event d)).machine.whole.flow

  by_above : (d : Deed)
      → AllOf (NotesAbove n) i (acts_or_none (acts_of w.machine st.machine i d)) → Leaves d
  by_above d all = in_acts (NotesAbove n) i (StaysFirm n) (above_keeps n i) w.machine st.machine
      (core.acts w st (event d)) all

  by_off : (d : Deed) → touches_flight d ≡ false → Leaves d
  by_off d off = in_acts (λ act. touches act Claims ≡ false) i (StaysFirm n) (off_keeps n i)
      w.machine st.machine (core.acts w st (event d)) (rows Claims i w.machine st.machine d off)

  deed_leaves : (es : List Event) (d : Deed) → n ≤ candidates_noted es → IsNumbered es d
      → Leaves d
  deed_leaves es (deed.Claim first count how) low number =
      by_above (deed.Claim first count how) (all_claimed n i w.machine.flow.plain
      (st.machine.whole.flow.books.index.leaf first) first count (is_exclusive how))
  deed_leaves es deed.Release low number = by_above deed.Release ((λ x y. (tt, tt)), tt)
  deed_leaves es (deed.Candidate candidate first count at) low number =
      by_above (deed.Candidate candidate first count at)
      ((λ x y. (omega (arith, low, number), tt)), tt)
  deed_leaves es (deed.Settle leaf candidate keys) low number =
      by_above (deed.Settle leaf candidate keys) ((λ x y. (tt, tt)), tt)
  deed_leaves es (deed.Unpin (unpin.Dead candidate)) low number =
      by_above (deed.Unpin (unpin.Dead candidate)) ((λ x y. (tt, tt)), tt)
  deed_leaves es d low number = by_off d refl

pub event_leaves : (n : ℕ) (w : core.Opening) (st : core.State) (es : List Event) (e : Event)
    → n ≤ candidates_noted es → IsNumbered es e.deed
    → StaysFirm n st.machine.whole.flow (core.after w st e).machine.whole.flow
event_leaves n w st es e low number = deed_leaves n w st e.seat es e.deed low number

-- behind a barrier of the backing device each is firm
pub all_firm : (w : core.Opening) (st : core.State) (i c : ℕ)
    → ((core.after w st (record { seat = i; deed = deed.BackingBarrier })).machine.whole.flow.candidates
    c).firm ≡ true
all_firm w st i c = refl
