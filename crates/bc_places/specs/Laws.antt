-- The containers go on to stand for the state.
use Rattle.std.specs.Prelude.{◌≡◌, ℕ, ◌+◌, ◌*◌, ◌<◌, ◌≤◌, false, List, [], Some}
use Rattle.bc_alloc.specs.declared.purpose.Purpose.{Purpose}
use Rattle.bc_alloc.specs.declared.purpose.Purpose.TheVariants as list
use Rattle.bc_alloc.specs.Reserves.{Reserves, list_of}
use Rattle.bc_books.specs.Shelves.{Plain, Open}
use Rattle.bc_books.specs.Books.{Setup, Books, Take, opened}
use Rattle.bc_books.specs.Enabled.{CanStep}
use Rattle.bc_books.specs.After as books
use Rattle.bc_books.specs.Invariant as books_order
use Rattle.bc_bucket.specs.Buckets.{Buckets}
use Rattle.bc_events.specs.Acts.{purpose_of}
use Rattle.bc_events.specs.Run.{Opening, State, IsSeat, IsRunning, start, IsEnabled, IsRun, after, run}
use Rattle.bc_events.specs.declared.event.Event.{Event}
use Rattle.bc_fill.specs.declared.fill.Open as fill
use Rattle.bc_fill.specs.declared.fill.Placed.{Placed}
use Rattle.bc_fill.specs.Fill.{Places}
use Rattle.bc_known.specs.Laws.{IsSound}
use Rattle.bc_leaves.specs.Parts as parts
use Rattle.bc_shares.specs.Shares.{books_of}
use Rattle.bc_shares.specs.Touched.{touches_buckets}
use Rattle.bc_places.specs.Stands.{AreJust, StandFor, IsCutInto}
use Rattle.bc_places.specs.Steps.{place_steps, place_events, MayPlace}

-- ---- at an opening

-- No bucket is open, and the lists are those that were found.
abbrev pub LawBegins : Type 0
LawBegins = (w : Setup) (before size : ℕ) (r : Reserves)
    → ((p : Purpose) → AreJust before (list_of p r).buckets (λ q. w.listed q ≡ Some (purpose_of p)))
    → r.raised ≡ [] → StandFor before size [] r (opened w)

-- ---- a place

-- The steps may be taken, one behind the other, and what they leave is what the containers have.
pub record AreSteps (w : Setup) (k : Books) (before seat : ℕ) (p : Placed) (gs : List fill.Open)
    (q : Reserves) (size : ℕ) : Type 0 where
  pub course : books.IsRun w k (place_steps w.bucket seat before size p)
  pub stand : StandFor before size gs q
      (books.fold w k (place_steps w.bucket seat before size p))

-- the sectors of each of so many buckets lie where the books have its places
abbrev pub AreSpread : (before size count : ℕ) → Setup → Type 0
AreSpread before size count w = (q t : ℕ) → before + q < count → (before + q) * size ≤ t
    → t < (before + q) * size + size → w.bucket t ≡ q

abbrev pub LawSteps : Type 0
LawSteps = (w : Setup) (k : Books) (before seat count : ℕ) (fs gs : List fill.Open)
    (r q : Reserves) (b d : Buckets) (p : Placed) → books_order.IsInOrder w k
    → AreSpread before b.size r.count w → MayPlace count fs r b → StandFor before b.size fs r k
    → Places p count fs gs r q b d → AreSteps w k before seat p gs q b.size

pub record AreEvents (w : Opening) (st : State) (seat : ℕ) (p : Placed) (gs : List fill.Open)
    (q : Reserves) (size : ℕ) : Type 0 where
  pub course : IsRun w st (place_events seat w.machine.before size p)
  pub stand : StandFor w.machine.before size gs q
      (books_of (run w st (place_events seat w.machine.before size p)).machine)

-- in each state of a run from a sound opening that nothing halted
abbrev pub LawPlaces : Type 0
LawPlaces = (w : Opening) (x : parts.State) (next_seq seat count : ℕ) (es : List Event)
    (fs gs : List fill.Open) (r q : Reserves) (b d : Buckets) (p : Placed)
    → let st = run w (start w x next_seq) es in
    IsSound w.machine x → IsRun w (start w x next_seq) es → IsSeat seat → IsRunning st
    → IsCutInto b.size r.count w.machine → MayPlace count fs r b
    → StandFor w.machine.before b.size fs r (books_of st.machine)
    → Places p count fs gs r q b d → AreEvents w st seat p gs q b.size

-- Where no bucket is open and the plain list is empty, there is none to the core either.
pub record HasNone (w : Setup) (k : Books) : Type 0 where
  pub none_open : (q : ℕ) → k.shelf q ≡ Open → ⊥
  pub none_ready : (seat q : ℕ) → CanStep w k (Take seat Plain q) → ⊥

abbrev pub LawRefused : Type 0
LawRefused = (w : Setup) (k : Books) (before size : ℕ) (r : Reserves)
    → StandFor before size [] r k → (list_of list.Plain r).buckets ≡ [] → HasNone w k

-- ---- other events

-- Who has the buckets in his hand goes on to know what they stand for.
abbrev pub LawKept : Type 0
LawKept = (w : Opening) (st : State) (e : Event) (size : ℕ) (fs : List fill.Open) (r : Reserves)
    → IsEnabled w st e → touches_buckets e.deed ≡ false
    → StandFor w.machine.before size fs r (books_of st.machine)
    → StandFor w.machine.before size fs r (books_of (after w st e).machine)
