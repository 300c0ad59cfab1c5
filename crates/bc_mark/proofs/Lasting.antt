-- What a seat knows of a round goes on while it has the buckets in hand.
use Rattle.std.proofs.Common.{◌≡◌, ℕ, ◌≤◌, false, List, [], ◌∷◌, sym, subst, arith}
use Rattle.bc_books.specs.After as books
use Rattle.bc_books.specs.Books.{Books, Setup, Step}
use Rattle.bc_books.specs.Books as book
use Rattle.bc_data.specs.Data as flow
use Rattle.bc_data.specs.Enabled.{steps_of}
use Rattle.bc_disk.specs.Disk.{DiskFacts}
use Rattle.bc_events.specs.Run as core
use Rattle.bc_events.specs.declared.event.Event.{Event}
use Rattle.bc_parts.specs.Seat.{Holds}
use Rattle.bc_place.proofs.of_bc_hand.Knowing.{View, m}
use Rattle.bc_place.proofs.of_bc_machine.Noting.{any_acts}
use Rattle.bc_place.specs.bc_hand.Seats.{IsCoreSeat, world}
use Rattle.bc_place.specs.bc_machine.Frame.{Keeps, in_acts}
use Rattle.bc_place.specs.bc_machine.Standing.{origin_before}
use Rattle.bc_place.specs.bc_machine.World.{FromEach, Origin, World, after, replay}
use Rattle.bc_seats.proofs.Knowing.{still}
use Rattle.bc_seats.specs.Seats.{Since}
use Rattle.bc_shares.proofs.Law.{law_buckets}
use Rattle.bc_shares.specs.Shares.{BucketsShare, books_of, buckets_in}
use Rattle.bc_shares.specs.Touched.{touches_buckets}

-- ---- what is durable

-- no count goes back, and what is durable is sealed, and what is sealed came in
pub record InTurn (k : Books) : Type 0 where
  pub durable : k.journal.durable ≤ k.journal.sealed
  pub sealed : k.journal.sealed ≤ k.index.count

pub record Onward (a b : Books) : Type 0 where
  pub durable : a.journal.durable ≤ b.journal.durable
  pub turn : InTurn b

onward_step : (w : Setup) (k : Books) (x : Step) → InTurn k → Onward k (books.after w k x)
onward_step w k (book.Put leaf keys) turn = record {
  durable = omega arith;
  turn = record { durable = turn.durable; sealed = let was = turn.sealed in omega (arith, was) };
}
onward_step w k book.Seal turn = record {
  durable = omega arith;
  turn = record {
    durable = let a = turn.durable in let b = turn.sealed in omega (arith, a, b);
    sealed = omega arith;
  };
}
onward_step w k (book.SealChain i versions chain) turn = record {
  durable = omega arith;
  turn = record {
    durable = let a = turn.durable in let b = turn.sealed in omega (arith, a, b);
    sealed = omega arith;
  };
}
onward_step w k book.Sealed turn = record {
  durable = turn.durable;
  turn = record { durable = omega arith; sealed = turn.sealed };
}
onward_step w k x turn = record {
  durable = omega arith;
  turn = record { durable = turn.durable; sealed = turn.sealed };
}

onward_fold : (w : Setup) (k : Books) (xs : List Step) → InTurn k → Onward k (books.fold w k xs)
onward_fold w k [] turn = record { durable = omega arith; turn = turn }
onward_fold w k (x ∷ xs) turn =
    let one = onward_step w k x turn in
    let more = onward_fold w (books.after w k x) xs one.turn in
    let a = one.durable in
    let b = more.durable in record { durable = omega (arith, a, b); turn = more.turn }

abbrev GoesOnward : flow.State → flow.State → Type 0
GoesOnward a b = InTurn a.books → Onward a.books b.books

goes_onward : (i : ℕ) → Keeps (λ act. Unit {0}) i GoesOnward
goes_onward i = record {
  same = λ a turn. record { durable = omega arith; turn = turn };
  both = λ a b c x y turn.
      let one = x turn in
      let more = y one.turn in
      let p = one.durable in
      let q = more.durable in record { durable = omega (arith, p, q); turn = more.turn };
  one = λ w st act any. onward_fold w.books st.books (steps_of st.candidates i act);
}

onward_event : (w : core.Opening) (st : core.State) (e : Event) → InTurn (books_of st.machine)
    → Onward (books_of st.machine) (books_of (core.after w st e).machine)
onward_event w st e = in_acts (λ act. Unit {0}) e.seat GoesOnward (goes_onward e.seat) w.machine
    st.machine (core.acts w st e) (any_acts e.seat (core.acts w st e))

turn_replay : (o : Origin) (es : List Event) → InTurn (books_of (replay o es).machine)
turn_replay o [] = record { durable = omega arith; sealed = omega arith }
turn_replay o (e ∷ es) = (onward_event o.opening (replay o es) e (turn_replay o es)).turn

pub durable_onward : (o : Origin) (es : List Event) (e : Event)
    → (books_of (replay o es).machine).journal.durable
    ≤ (books_of (core.after o.opening (replay o es) e).machine).journal.durable
durable_onward o es e = (onward_event o.opening (replay o es) e (turn_replay o es)).durable

-- ---- the buckets

-- what holds of the buckets' share and of what is durable, whatever more becomes durable
pub record Firm (P : Origin → BucketsShare → ℕ → Type 0) : Type 0 where
  pub more : (o : Origin) (x : BucketsShare) (a b : ℕ) → a ≤ b → P o x a → P o x b

-- of the state
abbrev pub OfBuckets : (Origin → BucketsShare → ℕ → Type 0) → Origin → core.State → Type 0
OfBuckets P o st = P o (buckets_in (books_of st.machine)) (books_of st.machine).journal.durable

stays : (P : Origin → BucketsShare → ℕ → Type 0) → Firm P → (x : World) (e : Event)
    → touches_buckets e.deed ≡ false → FromEach x (OfBuckets P) → FromEach (after x e) (OfBuckets P)
stays P firm x e off h o is course =
    let before = origin_before x e o is in
    let st = replay o x.log in
    let same = (law_buckets o.opening st e course.0.enabled off).share in
    firm.more o _ _ _ (durable_onward o x.log e)
    (subst (λ (s : BucketsShare). P o s (books_of st.machine).journal.durable) (sym same)
    (h o before course.2))

module _ {C B : Type 0} (cache_facts : C → DiskFacts) (backing_facts : B → DiskFacts) where
  -- others leave the buckets alone that a seat has in hand
  pub since_held : (P : Origin → BucketsShare → ℕ → Type 0) → Firm P
      → (v : View cache_facts backing_facts) → IsCoreSeat cache_facts backing_facts v
      → Holds v.parts 2 → (x : World) → Since (m cache_facts backing_facts) v x
      → FromEach (world cache_facts backing_facts v) (OfBuckets P) → FromEach x (OfBuckets P)
  since_held P firm v seat holds x since h = still (m cache_facts backing_facts) v x
      (λ y. FromEach y (OfBuckets P))
      (λ y e may foreign on. stays P firm y e (foreign.1 2 holds) on) since h
