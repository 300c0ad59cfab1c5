-- When the open buckets and the lists of a running cache stand for what the core has of them.
use Rattle.std.specs.Prelude.{◌≡◌, ℕ, ◌+◌, ◌*◌, ◌<◌, ◌≤◌, List}
use Rattle.bc_alloc.specs.declared.purpose.Purpose.{Purpose}
use Rattle.bc_alloc.specs.Reserve.{times}
use Rattle.bc_alloc.specs.Reserves.{Reserves, list_of}
use Rattle.bc_books.specs.Shelves.{Fresh, Listed, Open, Raised}
use Rattle.bc_books.specs.Books.{Books}
use Rattle.bc_events.specs.Acts.{purpose_of}
use Rattle.bc_fill.specs.declared.fill.Open as fill
use Rattle.bc_fill.specs.Fill.{bucket_numbers}
use Rattle.bc_fill.specs.Fresh.{IsFreeIn}
use Rattle.bc_whole.specs.State.{Opening}

-- The core counts buckets from the journal's first one on, and the containers count those before it
-- too: these are the buckets of which P holds.
pub record AreJust (before : ℕ) (ks : List ℕ) (P : ℕ → Type 0) : Type 0 where
  pub behind : (k : ℕ) → 0 < times k ks → before ≤ k
  pub each : (q : ℕ) → 0 < times (before + q) ks → P q
  pub all : (q : ℕ) → P q → 0 < times (before + q) ks

-- The open buckets are those that are open to the core, and of their places just those were never
-- pinned that are still to be placed.
pub record AreOpenIn (before size : ℕ) (fs : List fill.Open) (k : Books) : Type 0 where
  pub buckets : AreJust before (bucket_numbers fs) (λ q. k.shelf q ≡ Open)
  pub free : (t : ℕ) → IsFreeIn size fs t → k.owner t ≡ Fresh
  pub given : (j t : ℕ) → 0 < times j (bucket_numbers fs) → j * size ≤ t → t < j * size + size
      → k.owner t ≡ Fresh → IsFreeIn size fs t

-- Each of the four lists has the buckets that stand on it to the core, and so have the raised ones.
pub record AreListedIn (before : ℕ) (r : Reserves) (k : Books) : Type 0 where
  pub lists : (p : Purpose)
      → AreJust before (list_of p r).buckets (λ q. k.shelf q ≡ Listed (purpose_of p))
  pub raised : AreJust before r.raised (λ q. k.shelf q ≡ Raised)

pub record StandFor (before size : ℕ) (fs : List fill.Open) (r : Reserves) (k : Books) :
    Type 0 where
  pub opens : AreOpenIn before size fs k
  pub lists : AreListedIn before r k

-- The device's sectors are so many buckets of `size` sectors, one behind the other.
pub record IsCutInto (size count : ℕ) (w : Opening) : Type 0 where
  pub first : (q : ℕ) → w.layout.first q ≡ (w.before + q) * size
  pub sectors : w.layout.bucket_sectors ≡ size
  pub buckets : count ≡ w.before + w.layout.buckets
