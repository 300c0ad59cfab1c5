-- What it is to the core that a place is given.
use Rattle.std.specs.Prelude.{ℕ, ◌+◌, ◌-◌, ◌%◌, ◌<◌, ◌≤◌, ◌==◌, Bool, true, false, List, [], ◌∷◌, ◌++◌, Option, Some, None}
use Rattle.bc_alloc.specs.Buckets.{AreFor}
use Rattle.bc_alloc.specs.Reserves.{Reserves, IsInOrder}
use Rattle.bc_alloc.specs.declared.purpose.Purpose.TheVariants as list
use Rattle.bc_books.specs.Shelves.{Plain}
use Rattle.bc_books.specs.Books.{Step, Take, Pin, Shut}
use Rattle.bc_bucket.specs.Buckets.{Buckets}
use Rattle.bc_events.specs.declared.event.Deed.TheVariants as deed
use Rattle.bc_events.specs.declared.event.Event.{Event}
use Rattle.bc_fill.specs.declared.fill.Open as fill
use Rattle.bc_fill.specs.declared.fill.Placed.{Placed}
use Rattle.bc_fill.specs.Fill.{AreOpen}

-- the place ends where a bucket ends
abbrev pub fills : ℕ → Placed → Bool
fills size p = (p.ptr.offset + p.count) % size == 0

-- ---- as steps of the books

abbrev pub take_steps : (seat before : ℕ) → Option ℕ → List Step
take_steps seat before None = []
take_steps seat before (Some k) = Take seat Plain (k - before) ∷ []

abbrev pub shut_steps : Bool → ℕ → List Step
shut_steps false q = []
shut_steps true q = Shut q ∷ []

-- a bucket is taken, if one was opened; the place is pinned; a full bucket is shut
abbrev pub place_steps : (bucket : ℕ → ℕ) → (seat before size : ℕ) → Placed → List Step
place_steps bucket seat before size p = take_steps seat before p.opened
    ++ Pin seat p.ptr.offset p.count ∷ shut_steps (fills size p) (bucket p.ptr.offset)

-- ---- as events

abbrev pub take_events : (seat before : ℕ) → Option ℕ → List Event
take_events seat before None = []
take_events seat before (Some k) =
    record { seat = seat; deed = deed.Take list.Plain (k - before) } ∷ []

abbrev pub place_events : (seat before size : ℕ) → Placed → List Event
place_events seat before size p = take_events seat before p.opened
    ++ record { seat = seat; deed = deed.Pin p.ptr.offset p.count (fills size p) } ∷ []

-- ---- what the call asks

pub record MayPlace (count : ℕ) (fs : List fill.Open) (r : Reserves) (b : Buckets) : Type 0 where
  pub order : IsInOrder r
  pub fit : AreFor r b
  pub opens : AreOpen fs r b
  pub sized : 0 < b.size
  pub asked : 1 ≤ count
