-- What goes on to hold of a place that a seat pinned.
use Rattle.std.specs.Prelude.{◌≡◌, ◌≢◌, ℕ, true, List, reverse, Option, Some}
use Rattle.bc_model.specs.Sector.{Value}
use Rattle.bc_books.specs.After as books
use Rattle.bc_books.specs.Books.{Books, Put}
use Rattle.bc_events.specs.Keys.{book_keys}
use Rattle.bc_events.specs.declared.event.Event.{Event}
use Rattle.bc_fill.specs.declared.fill.Placed.{Placed}
use Rattle.bc_journal.specs.Journal.{Journal}
use Rattle.bc_key.specs.declared.key.Key.{Key}
use Rattle.bc_deed.specs.bc_machine.Containers.{AreBucketsOf}
use Rattle.bc_deed.specs.bc_machine.World.{FromEach, World, after}
use Rattle.bc_deed.specs.bc_machine.declared.part.BucketsPart.{BucketsPart}
use Rattle.bc_whole.specs.State.{Opening}
use Rattle.bc_whole.specs.Together.{SayTheSame}
use Rattle.bc_place.specs.Named.{AreKeysFor, AreOnDevice, AreOwnIn}
use Rattle.bc_place.specs.Next.{HasNamed}
use Rattle.bc_place.specs.Place.{HasBefore, IsOwn}
use Rattle.bc_place.specs.Written.{HasWritten, leaves_places}

-- Whatever another seat does, the place is still the seat's own, and its bucket has the generation
-- that it had.
abbrev pub LawOwn : Type 0
LawOwn = (x : World) (e : Event) (i : ℕ) (p : Placed) → e.seat ≢ i
    → FromEach x (IsOwn i p) → FromEach (after x e) (IsOwn i p)

-- The buckets before the core's are those before the journal, as the run's journal has them.
abbrev pub LawBefore : Type 0
LawBefore = (x : World) (j : Journal) → x.begun.journal ≡ Some j
    → FromEach x (HasBefore j.ring.geometry.first_bucket)

-- And so is what it wrote there.
abbrev pub LawWritten : Type 0
LawWritten = (x : World) (e : Event) (i : ℕ) (known : ℕ → Option Value) → e.seat ≢ i
    → FromEach x (HasWritten i known) → FromEach (after x e) (HasWritten i known)

-- A deed of the seat itself that leaves its places alone takes back nothing of what it knows of them.
abbrev pub LawOwnKept : Type 0
LawOwnKept = (x : World) (e : Event) (p : Placed) → leaves_places e.deed ≡ true
    → FromEach x (IsOwn e.seat p) → FromEach (after x e) (IsOwn e.seat p)

abbrev pub LawWrittenKept : Type 0
LawWrittenKept = (x : World) (e : Event) (known : ℕ → Option Value) → leaves_places e.deed ≡ true
    → FromEach x (HasWritten e.seat known) → FromEach (after x e) (HasWritten e.seat known)

-- The buckets in hand stand for the state behind keys that name these places of the seat, once that
-- was noted of each of them.
abbrev pub LawNamed : Type 0
LawNamed = (w : Opening) (k : Books) (p q : BucketsPart) (i first leaf : ℕ) (ps : List Placed)
    (keys : List Key) → AreKeysFor first ps keys → AreOwnIn w i k ps → AreBucketsOf w k p
    → HasNamed p ps q → AreBucketsOf w (books.after w.flow.books k (Put leaf
    (book_keys w.flow.books.bucket k.generations.version (reverse keys)))) q

-- In the leaf these keys say of each sector what they say in the books.
abbrev pub LawSaid : Type 0
LawSaid = (w : Opening) (k : Books) (i first : ℕ) (ps : List Placed) (keys : List Key)
    → AreKeysFor first ps keys → AreOwnIn w i k ps → AreOnDevice ps
    → SayTheSame (reverse keys)
    (book_keys w.flow.books.bucket k.generations.version (reverse keys))
