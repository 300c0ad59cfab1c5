-- What it means that the books are in order, which they are at every state of every run. Each part
-- speaks of the components that it names alone,
-- so that a step which leaves them as they are keeps it.
use Rattle.std.specs.Prelude.{◌≡◌, ◌≢◌, ◌⊎◌, ℕ, suc, ◌+◌, ◌<◌, ◌≤◌, Bool, true, false, Option, Some, None}
use Rattle.bc_books.specs.Index.{Dirty, Pointer, Index, latest}
use Rattle.bc_books.specs.Versions.{Generations}
use Rattle.bc_books.specs.Shelves.{Priorities, Shelf, Loose, Raised, Held, Owner, Spent, IsPinned, IsUnwritten}
use Rattle.bc_books.specs.Marks.{Mark, Dirtied, Metadata}
use Rattle.bc_books.specs.Chains.{Chains}
use Rattle.bc_books.specs.Enabled.{IsFresh}
use Rattle.bc_books.specs.Books.{Setup, Journal, Books}

-- what is durable is sealed, what is sealed came in, and no leaf or walk counts what didn't
pub record IsCounted (count : ℕ) (changed : ℕ → ℕ) (journal : Journal) (upto : ℕ) : Type 0 where
  pub durable : journal.durable ≤ journal.sealed
  pub sealed : journal.sealed ≤ count
  pub leaves : (l : ℕ) → changed l ≤ count
  pub walk : upto ≤ count

-- generations are durable, sealed, and in memory in this order, one raise apart at most, and none
-- where the bucket isn't raised
pub record IsDated (g : Generations) (shelf : ℕ → Shelf) : Type 0 where
  pub sealed : (b : ℕ) → g.durable b ≤ g.sealed b
  pub version : (b : ℕ) → g.sealed b ≤ g.version b
  pub ahead : (b : ℕ) → g.version b ≤ suc (g.durable b)
  pub settled : (b : ℕ) → shelf b ≢ Raised → g.durable b ≡ g.version b
  pub oldest : (b : ℕ) → g.last_gc b ≤ g.version b
  pub window : (b : ℕ) → g.version b ≤ g.last_gc b + 96

-- pins stand in no raised bucket, and none was ever made in a bucket for no data
pub record IsPlaced (bucket : ℕ → ℕ) (shelf : ℕ → Shelf) (owner : ℕ → Owner) : Type 0 where
  pub calm : (t : ℕ) → IsPinned (owner t) → shelf (bucket t) ≢ Raised
  pub unwritten : (b : ℕ) → IsUnwritten (shelf b) → IsFresh bucket owner b

-- a bucket of chain c
pub record IsLink (bucket : ℕ → ℕ) (chains : Chains) (shelf : Shelf) (owner : ℕ → Owner)
    (b c : ℕ) : Type 0 where
  pub low : chains.ready ≤ c
  pub high : c ≤ chains.sealed
  pub loose : c ≡ chains.ready → shelf ≡ Loose
  -- its seat holds it until it is ready
  pub held : chains.ready < c → (i : ℕ) × (shelf ≡ Held i Priorities)
  pub fresh : IsFresh bucket owner b

-- a chain that a crash may find is kept until a later one is ready
pub record IsChained (bucket : ℕ → ℕ) (chains : Chains) (shelf : ℕ → Shelf)
    (owner : ℕ → Owner) : Type 0 where
  pub durable : chains.ready ≤ chains.durable
  pub sealed : chains.durable ≤ chains.sealed
  pub links : (b c : ℕ) → chains.of b ≡ Some c → IsLink bucket chains (shelf b) owner b c

-- the bucket is of superblock, journal or uuid table, of a node, or of the chain made ready last
abbrev pub IsMetadata : (fixed : ℕ → Bool) → (node : ℕ → Bool) → Chains → ℕ → Type 0
IsMetadata fixed node chains b = (fixed b ≡ true)
    ⊎ ((node b ≡ true) ⊎ (chains.of b ≡ Some chains.ready))

-- these are just what is marked so, and the first two stay on no list
pub record IsMarked (w : Setup) (mark : ℕ → Mark) (node : ℕ → Bool) (chains : Chains)
    (shelf : ℕ → Shelf) (owner : ℕ → Owner) : Type 0 where
  pub marked : (b : ℕ) → IsMetadata w.fixed node chains b → mark b ≡ Metadata
  pub only : (b : ℕ) → mark b ≡ Metadata → IsMetadata w.fixed node chains b
  pub one_use : (b : ℕ) → w.fixed b ≡ true → node b ≡ false
  pub loose : (b : ℕ) → (w.fixed b ≡ true) ⊎ (node b ≡ true) → shelf b ≡ Loose
  pub no_chain : (b : ℕ) → (w.fixed b ≡ true) ⊎ (node b ≡ true) → chains.of b ≡ None
  pub fresh : (b : ℕ) → (w.fixed b ≡ true) ⊎ (node b ≡ true) → IsFresh w.bucket owner b

-- what holds of a last key
pub record IsKnown (w : Setup) (g : Generations) (mark : ℕ → Mark) (owner : ℕ → Owner) (s : ℕ)
    (r : Pointer) : Type 0 where
  pub inside : s < w.size
  pub oldest : g.last_gc (w.bucket r.place) ≤ r.version
  -- its place was written while this version was durable
  pub durable : r.version ≤ g.durable (w.bucket r.place)
  pub marked : r.kind ≡ Dirty → mark (w.bucket r.place) ≡ Dirtied
  pub live : r.kind ≡ Dirty → g.version (w.bucket r.place) ≡ r.version
  -- while it is live nobody may write its place
  pub spent : g.version (w.bucket r.place) ≡ r.version → owner r.place ≡ Spent

abbrev pub IfKnown : Setup → Generations → (ℕ → Mark) → (ℕ → Owner) → ℕ → Option Pointer → Type 0
IfKnown w g mark owner s o = (r : Pointer) → o ≡ Some r → IsKnown w g mark owner s r

-- in the index in memory and in each since the durable one
pub record AreKnown (w : Setup) (at : ℕ → ℕ → Option Pointer) (durable : ℕ) (g : Generations)
    (mark : ℕ → Mark) (owner : ℕ → Owner) : Type 0 where
  pub keys : (n s : ℕ) → durable ≤ n → IfKnown w g mark owner s (at n s)

-- no sector of a leaf changes after the leaf's last insertion
pub record IsStill (index : Index) : Type 0 where
  pub still : (n s : ℕ) → index.changed (index.leaf s) ≤ n → index.at n s ≡ latest index s

-- since its leaf was walked, a sector has what the walk found, or a key into a touched bucket
abbrev pub IsSameOrTouched : (ℕ → ℕ) → Option Pointer → Option Pointer → (ℕ → Bool) → Type 0
IsSameOrTouched bucket o seen touched = (o ≡ seen)
    ⊎ ((r : Pointer) → o ≡ Some r → touched (bucket r.place) ≡ true)

pub record IsTracked (bucket : ℕ → ℕ) (at : ℕ → ℕ → Option Pointer) (touched walked : ℕ → Bool)
    (seen : ℕ → Option Pointer) (upto : ℕ) : Type 0 where
  pub tracked : (s : ℕ) → walked s ≡ true → (n : ℕ) → upto ≤ n
      → IsSameOrTouched bucket (at n s) (seen s) touched

-- while a round goes on, what it found is within the window
pub record IsWithin (bucket : ℕ → ℕ) (last_gc version : ℕ → ℕ) (going : Bool)
    (seen : ℕ → Option Pointer) : Type 0 where
  pub low : (s : ℕ) (r : Pointer) → seen s ≡ Some r → going ≡ true
      → last_gc (bucket r.place) ≤ r.version
  pub high : (s : ℕ) (r : Pointer) → seen s ≡ Some r → going ≡ true
      → r.version ≤ version (bucket r.place)

pub record IsInOrder (w : Setup) (k : Books) : Type 0 where
  pub counted : IsCounted k.index.count k.index.changed k.journal k.round.upto
  pub dated : IsDated k.generations k.shelf
  pub placed : IsPlaced w.bucket k.shelf k.owner
  pub chained : IsChained w.bucket k.chains k.shelf k.owner
  pub marked : IsMarked w k.mark k.node k.chains k.shelf k.owner
  pub known : AreKnown w k.index.at k.journal.durable k.generations k.mark k.owner
  pub still : IsStill k.index
  pub tracked : IsTracked w.bucket k.index.at k.round.touched k.round.walked k.round.seen
      k.round.upto
  pub within : IsWithin w.bucket k.generations.last_gc k.generations.version k.round.going
      k.round.seen
