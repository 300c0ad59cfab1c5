-- When a step may be taken: by what the state has in the parts that an event of it holds, never by
-- what a crash may leave.
use Rattle.std.specs.Prelude.{◌≡◌, ◌⊎◌, ◌≢◌, ℕ, ◌+◌, ◌<◌, ◌≤◌, Bool, true, false, List, Option, Some, None}
use Rattle.bc_books.specs.Index.{Clean, Pointer, Key, Index, latest, within, hit, names, AreWhole}
use Rattle.bc_books.specs.Versions.{Generations}
use Rattle.bc_books.specs.Shelves.{Moving, Tree, Shelf, Loose, Raised, Open, Held, Owner, Fresh, IsPinned, WasPinned, IsForData, IsFor, IsHeldBy, Priorities}
use Rattle.bc_books.specs.Marks.{is_free}
use Rattle.bc_books.specs.Chains.{Many}
use Rattle.bc_books.specs.Round.{Round}
use Rattle.bc_books.specs.Books.{Setup, Books, Step, Put, Regroup, Take, Shut, LetGo, Pin, Unpin, Keep, BeginNode, MakeNode, DropNode, Raise, MakeReady, ReadyChain, Seal, SealChain, Sealed, Begin, Walk, End, Drop}

-- A key points to places that are pinned, with the version that their bucket has now; or it is what
-- the sector had, made clean; or it has no pointer.
abbrev pub IsLawful : (ℕ → ℕ) → (ℕ → ℕ) → (ℕ → Owner) → Option Pointer → Option Pointer → Type 0
IsLawful bucket version owner old None = Unit {0}
IsLawful bucket version owner old (Some r) =
    (IsPinned (owner r.place) × (r.version ≡ version (bucket r.place)))
    ⊎ ((q : Pointer) × (old ≡ Some q)
    × (r ≡ record { kind = Clean; place = q.place; version = q.version }))

pub record CanPut (w : Setup) (index : Index) (version : ℕ → ℕ) (owner : ℕ → Owner) (leaf : ℕ)
    (keys : List Key) : Type 0 where
  pub whole : AreWhole w.bucket keys
  pub inside : (s : ℕ) (o : Option Pointer) → hit keys s ≡ Some o → (s < w.size)
      × (index.leaf s ≡ leaf)
  pub lawful : (s : ℕ) (o : Option Pointer) → hit keys s ≡ Some o
      → IsLawful w.bucket version owner (latest index s) o
  -- places that were never pinned are named by nobody
  pub named : (t : ℕ) → names keys t ≡ true → WasPinned (owner t)

-- no leaf's count goes back, and those that count as walked are known by the time that the round
-- waits for
pub record CanRegroup (index : Index) (leaf changed : ℕ → ℕ) (counts : ℕ → Bool)
    (last : ℕ) : Type 0 where
  pub later : (s : ℕ) → index.changed (index.leaf s) ≤ changed (leaf s)
  pub known : (l : ℕ) → changed l ≤ index.count
  pub waits : (s : ℕ) → counts s ≡ true → changed (leaf s) ≤ last
  pub last_known : last ≤ index.count

-- places of a bucket for data that were never pinned
pub record CanPin (bucket : ℕ → ℕ) (shelf : ℕ → Shelf) (owner : ℕ → Owner)
    (i place count : ℕ) : Type 0 where
  pub for_data : (t : ℕ) → within place count t ≡ true → IsForData i (shelf (bucket t))
  pub fresh : (t : ℕ) → within place count t ≡ true → owner t ≡ Fresh

-- of each place in the run P holds
abbrev pub EachIn : (place count : ℕ) → (Owner → Type 0) → (ℕ → Owner) → Type 0
EachIn place count P owner = (t : ℕ) → within place count t ≡ true → P (owner t)

-- no pin of a seat or a candidate stands in the bucket
abbrev pub IsUnpinned : (ℕ → ℕ) → (ℕ → Owner) → ℕ → Type 0
IsUnpinned bucket owner b = (t : ℕ) → bucket t ≡ b → IsPinned (owner t) → ⊥

-- no place of the bucket was pinned since it was raised
abbrev pub IsFresh : (ℕ → ℕ) → (ℕ → Owner) → ℕ → Type 0
IsFresh bucket owner b = (t : ℕ) → bucket t ≡ b → owner t ≡ Fresh

-- its oldest key is so near that it stays within the window behind one more raise
abbrev pub IsNear : Generations → ℕ → Type 0
IsNear g b = g.version b < g.last_gc b + 96

-- an open bucket counts as held
abbrev pub IsNobodys : Shelf → Type 0
IsNobodys x = (x ≢ Open) × ((i : ℕ) → IsHeldBy i x → ⊥)

-- unpinned, nobody's, and no mark forbids it
pub record IsReclaimable (w : Setup) (k : Books) (b : ℕ) : Type 0 where
  pub unpinned : IsUnpinned w.bucket k.owner b
  pub not_held : IsNobodys (k.shelf b)
  pub free : is_free (k.mark b) ≡ true
  pub near : IsNear k.generations b

-- reclaimable, and on no list
abbrev pub CanRaise : Setup → Books → ℕ → Type 0
CanRaise w k b = IsReclaimable w k b × (k.shelf b ≡ Loose)

-- buckets that the seat took for a chain and that no entry names yet, as many as a chain has
pub record CanSealChain (w : Setup) (k : Books) (i : ℕ) (versions : ℕ → ℕ)
    (chain : ℕ → Bool) : Type 0 where
  pub none_waits : k.journal.waiting ≡ false
  -- no generation goes back, and none is newer than in memory
  pub order : (b : ℕ) → (k.generations.sealed b ≤ versions b)
      × (versions b ≤ k.generations.version b)
  pub held : (b : ℕ) → chain b ≡ true → (k.shelf b ≡ Held i Priorities) × (k.chains.of b ≡ None)
  pub sets : Many w.sets (λ b. chain b ≡ true)

-- every leaf was walked, and the journal is durable up to what the walk saw
pub record CanEnd (w : Setup) (durable : ℕ) (round : Round) : Type 0 where
  pub going : round.going ≡ true
  pub walked : (s : ℕ) → s < w.size → round.walked s ≡ true
  pub firm : round.upto ≤ durable

abbrev pub CanStep : Setup → Books → Step → Type 0
CanStep w k (Put leaf keys) = CanPut w k.index k.generations.version k.owner leaf keys
CanStep w k (Regroup leaf changed counts last) = CanRegroup k.index leaf changed counts last
CanStep w k (Take i p b) = IsFor p (k.shelf b)
CanStep w k (Shut b) = k.shelf b ≡ Open
CanStep w k (LetGo i b room) = IsHeldBy i (k.shelf b) × (k.chains.of b ≡ None)
CanStep w k (Pin i place count) = CanPin w.bucket k.shelf k.owner i place count
CanStep w k (Unpin place count) = EachIn place count WasPinned k.owner
CanStep w k (Keep c place count) = EachIn place count IsPinned k.owner
CanStep w k (BeginNode i b) = ((k.shelf b ≡ Held i Moving) ⊎ (k.shelf b ≡ Held i Tree))
    × IsFresh w.bucket k.owner b
CanStep w k (MakeNode i b) = k.shelf b ≡ Held i Tree
CanStep w k (DropNode b) = k.node b ≡ true
CanStep w k (Raise b) = CanRaise w k b
CanStep w k (MakeReady b room) = (k.shelf b ≡ Raised)
    × (k.generations.durable b ≡ k.generations.version b)
CanStep w k (ReadyChain room) = k.chains.ready < k.chains.durable
CanStep w k Seal = k.journal.waiting ≡ false
CanStep w k (SealChain i versions chain) = CanSealChain w k i versions chain
CanStep w k Sealed = k.journal.waiting ≡ true
CanStep w k Begin = k.round.going ≡ false
CanStep w k (Walk leaf) = k.round.going ≡ true
CanStep w k End = CanEnd w k.journal.durable k.round
CanStep w k Drop = k.round.going ≡ true
