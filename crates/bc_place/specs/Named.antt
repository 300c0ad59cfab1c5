-- Keys that name places for a write of a line.
use Rattle.std.specs.Prelude.{◌≡◌, ℕ, ◌+◌, ◌%◌, ◌^◌, ◌≤◌, true, List, [], ◌∷◌, Option, Some}
use Rattle.bc_model.specs.Sector.{Value}
use Rattle.bc_books.specs.Books.{Books}
use Rattle.bc_books.specs.Index.{run_place}
use Rattle.bc_books.specs.Shelves.{Own}
use Rattle.bc_events.specs.Run.{State}
use Rattle.bc_fill.specs.Fresh.{IsApart, IsOf}
use Rattle.bc_fill.specs.declared.fill.Placed.{Placed}
use Rattle.bc_key.specs.Key.{pointer_of}
use Rattle.bc_key.specs.declared.key.Key.{Key}
use Rattle.bc_deed.specs.bc_machine.World.{Origin}
use Rattle.bc_whole.specs.State.{Opening}
use Rattle.bc_place.specs.Place.{IsOwn, LiesIn}
use Rattle.bc_place.specs.Written.{IsWrittenAt}

-- how many sectors these places have
abbrev pub sectors_of : List Placed → ℕ
sectors_of [] = 0
sectors_of (p ∷ ps) = p.count + sectors_of ps

-- The key names all of the place, for as many sectors from `first` on, as data that the backing
-- device lacks.
pub record IsKeyFor (first : ℕ) (p : Placed) (key : Key) : Type 0 where
  pub inode : key.inode ≡ 0
  pub end : key.end ≡ first + p.count
  pub size : key.size ≡ p.count
  pub dirty : key.dirty ≡ true
  pub csum : key.csum ≡ 0
  pub pointer : pointer_of key ≡ Some p.ptr

-- so do these, one behind the other
abbrev pub AreKeysFor : ℕ → List Placed → List Key → Type 0
AreKeysFor first [] [] = Unit {0}
AreKeysFor first [] (key ∷ keys) = ⊥
AreKeysFor first (p ∷ ps) [] = ⊥
AreKeysFor first (p ∷ ps) (key ∷ keys) =
    IsKeyFor first p key × AreKeysFor (first + p.count) ps keys

-- The place is the seat's own, and has what is wanted of as many sectors from `first` on.
pub record IsFilled (i first : ℕ) (want : ℕ → Option Value) (p : Placed) (o : Origin)
    (st : State) : Type 0 where
  pub own : IsOwn i p o st
  pub holds : (s t : ℕ) (v : Value) → run_place first p.ptr.offset p.count s ≡ Some t
      → want s ≡ Some v → IsWrittenAt i t v st

-- so do these, one behind the other
abbrev pub AreFilled : ℕ → ℕ → (ℕ → Option Value) → List Placed → Origin → State → Type 0
AreFilled i first want [] o st = Unit {0}
AreFilled i first want (p ∷ ps) o st =
    IsFilled i first want p o st × AreFilled i (first + p.count) want ps o st

-- ---- what their keys make of the buckets

-- The place is one of the seat's, in a bucket of the device that has its pointer's generation.
pub record IsOwnIn (w : Opening) (i : ℕ) (k : Books) (p : Placed) : Type 0 where
  pub some : 1 ≤ p.count
  pub own : (t : ℕ) → IsOf p t → k.owner t ≡ Own i
  pub lies : LiesIn w.layout (w.flow.books.bucket p.ptr.offset) p
  pub generation : p.ptr.generation
      ≡ k.generations.version (w.flow.books.bucket p.ptr.offset) % 256

abbrev pub IsApartFrom : Placed → List Placed → Type 0
IsApartFrom p [] = Unit {0}
IsApartFrom p (q ∷ qs) = IsApart p q × IsApartFrom p qs

-- So is each of these, and no two have a sector in common.
abbrev pub AreOwnIn : Opening → ℕ → Books → List Placed → Type 0
AreOwnIn w i k [] = Unit {0}
AreOwnIn w i k (p ∷ ps) = IsOwnIn w i k p × (IsApartFrom p ps × AreOwnIn w i k ps)

-- each is one of the cache device, which is number 0, within what a pointer can say
abbrev pub AreOnDevice : List Placed → Type 0
AreOnDevice [] = Unit {0}
AreOnDevice (p ∷ ps) =
    ((p.ptr.dev ≡ 0) × (p.ptr.offset + p.count ≤ 2 ^ 43)) × AreOnDevice ps
