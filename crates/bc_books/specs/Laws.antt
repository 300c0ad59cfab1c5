-- What holds of every run from a sound opening.
use Rattle.std.specs.Prelude.{◌≡◌, ◌≢◌, ◌⊎◌, ℕ, suc, ◌+◌, ◌%◌, ◌<◌, ◌≤◌, Bool, true, false, List, Some, None, ◌==◌}
use Rattle.bc_books.specs.Index.{Dirty, Pointer}
use Rattle.bc_books.specs.Versions.{Generations, behind, is_stale}
use Rattle.bc_books.specs.Shelves.{Purpose, Tree, Listed, Raised, Open, Held, Spent, IsPinned}
use Rattle.bc_books.specs.Books.{Setup, Books, Step, Raise, opened, IsSound}
use Rattle.bc_books.specs.Enabled.{IsUnpinned, CanRaise, CanStep}
use Rattle.bc_books.specs.After.{after, IsRun, fold}
use Rattle.bc_books.specs.Invariant.{IsInOrder}

-- the books are in order at the opening, and each step keeps them so
abbrev pub LawOpened : Type 0
LawOpened = (w : Setup) → IsSound w → IsInOrder w (opened w)

abbrev pub LawKept : Type 0
LawKept = (w : Setup) (k : Books) (x : Step) → IsInOrder w k → CanStep w k x
    → IsInOrder w (after w k x)

-- at the end of every run, and so at every state of one
abbrev pub Always : (Setup → Books → Type 0) → Type 0
Always P = (w : Setup) (xs : List Step) → IsSound w → IsRun w (opened w) xs
    → P w (fold w (opened w) xs)

-- an index with so many insertions, and the generations and the chain that its entry names
pub record Snapshot : Type 0 where
  pub count : ℕ
  pub version : ℕ → ℕ
  pub chain : ℕ

abbrev pub durable_snapshot : Books → Snapshot
durable_snapshot k =
    record { count = k.journal.durable; version = k.generations.durable; chain = k.chains.durable }

abbrev pub sealed_snapshot : Books → Snapshot
sealed_snapshot k =
    record { count = k.journal.sealed; version = k.generations.sealed; chain = k.chains.sealed }

abbrev pub memory_snapshot : Books → Snapshot
memory_snapshot k =
    record { count = k.index.count; version = k.generations.version; chain = k.chains.sealed }

-- a crash leaves the durable entry as the newest one, or the sealed one
abbrev pub MayLeave : Books → Snapshot → Type 0
MayLeave k shot = (shot ≡ durable_snapshot k) ⊎ (shot ≡ sealed_snapshot k)

-- what a crash may leave, or what is in memory
abbrev pub IsSeen : Books → Snapshot → Type 0
IsSeen k shot = MayLeave k shot ⊎ (shot ≡ memory_snapshot k)

-- the sector's last key there is as new as its bucket
abbrev pub IsLive : Setup → Books → Snapshot → ℕ → Pointer → Type 0
IsLive w k shot s r = (k.index.at shot.count s ≡ Some r)
    × (shot.version (w.bucket r.place) ≡ r.version)

-- nobody needs what is in the bucket
pub record IsUnneeded (w : Setup) (k : Books) (b : ℕ) : Type 0 where
  -- no dirty key of the index in memory, or of one since the durable entry's, points into it
  pub no_dirty : (n s : ℕ) (r : Pointer) → k.journal.durable ≤ n → k.index.at n s ≡ Some r
      → r.kind ≡ Dirty → w.bucket r.place ≢ b
  pub not_fixed : w.fixed b ≡ false
  pub no_node : k.node b ≡ false
  pub no_chain : k.chains.of b ≡ None

-- what may be raised has no dirty data in memory or in whatever a crash may leave, and is no bucket
-- of superblock, journal or uuid table, of a node, or of a priority chain
abbrev pub LawRaise : Type 0
LawRaise = Always (λ w k. (b : ℕ) → CanRaise w k b → IsUnneeded w k b)

-- a key against the version of its bucket
pub record IsInWindow (version : ℕ) (r : Pointer) : Type 0 where
  pub low : r.version ≤ version
  pub high : version ≤ r.version + 96
  pub dirty : r.kind ≡ Dirty → version ≡ r.version
  -- so the device's test on bytes is the test on versions
  pub stale : is_stale (version % 256) (r.version % 256) ≡ false → version ≡ r.version
  pub live : version ≡ r.version → is_stale (version % 256) (r.version % 256) ≡ false

-- the bytes of a bucket tell how far its oldest key is behind, and memory is at most one raise past
-- the durable entry
pub record IsReadByBytes (g : Generations) (b : ℕ) : Type 0 where
  pub oldest : behind (g.version b % 256) (g.last_gc b % 256) + g.last_gc b ≡ g.version b
  pub ahead : behind (g.version b % 256) (g.durable b % 256) ≤ 1

-- each pointer is 0 to 96 generations behind its bucket, and a dirty one is live
pub record HasWindow (w : Setup) (k : Books) : Type 0 where
  pub keys : (shot : Snapshot) (s : ℕ) (r : Pointer) → IsSeen k shot
      → k.index.at shot.count s ≡ Some r → IsInWindow (shot.version (w.bucket r.place)) r
  pub buckets : (b : ℕ) → IsReadByBytes k.generations b

abbrev pub LawWindow : Type 0
LawWindow = Always HasWindow

-- the bucket of this place has its memory generation there, and no live key names the place
pub record IsWritable (w : Setup) (k : Books) (shot : Snapshot) (t : ℕ) : Type 0 where
  pub same : shot.version (w.bucket t) ≡ k.generations.version (w.bucket t)
  pub unnamed : (s : ℕ) (r : Pointer) → IsLive w k shot s r → r.place ≢ t

-- so it is, in whatever a crash may leave and in memory, with a place that a pin stands on
abbrev pub LawPlace : Type 0
LawPlace = Always (λ w k. (t : ℕ) (shot : Snapshot) → IsPinned (k.owner t) → IsSeen k shot
    → IsWritable w k shot t)

-- where a pin stands on the place of an earlier key again, that key is stale in whatever a crash
-- may leave from then on
abbrev pub KeepsPlaces : Setup → Books → Books → Type 0
KeepsPlaces w k end = (n s : ℕ) (r : Pointer) → k.journal.durable ≤ n
    → k.index.at n s ≡ Some r → IsPinned (end.owner r.place)
    → r.version < end.generations.durable (w.bucket r.place)

-- the pointer's version was durable when its place was written, and while it is live nobody may
-- write there
abbrev pub IsAged : Setup → Books → Pointer → Type 0
IsAged w k r = (r.version ≤ k.generations.durable (w.bucket r.place))
    × (k.generations.version (w.bucket r.place) ≡ r.version → k.owner r.place ≡ Spent)

-- what a later state has of this one
pub record IsLater (w : Setup) (k end : Books) : Type 0 where
  pub index : (n s : ℕ) → n ≤ k.index.count → end.index.at n s ≡ k.index.at n s
  pub count : k.index.count ≤ end.index.count
  pub durable : k.journal.durable ≤ end.journal.durable
  pub version : (b : ℕ) → k.generations.durable b ≤ end.generations.durable b
  pub aged : (r : Pointer) → IsAged w k r → IsAged w end r
  -- so what a key points to stays what it was while it is live anywhere
  pub places : KeepsPlaces w k end

abbrev pub LawStays : Type 0
LawStays = (w : Setup) (k : Books) (xs : List Step) → IsInOrder w k → IsRun w k xs
    → IsLater w k (fold w k xs)

-- a tree that a crash leaves may have a node in the bucket: it is a node's, or a seat holds it for
-- one
abbrev pub IsForNode : Books → ℕ → Type 0
IsForNode k b = (k.node b ≡ true) ⊎ ((i : ℕ) × (k.shelf b ≡ Held i Tree))

-- a crash may leave metadata in the bucket: superblock, journal or uuid table, a node, or a set of a
-- chain
abbrev pub MayHaveMetadata : Setup → Books → ℕ → Type 0
MayHaveMetadata w k b = (w.fixed b ≡ true)
    ⊎ (IsForNode k b ⊎ ((c : ℕ) × (k.chains.of b ≡ Some c)))

-- the bucket isn't raised, on a list, open or pinned, and no live key points into it
pub record IsApart (w : Setup) (k : Books) (b : ℕ) : Type 0 where
  pub no_raise : CanRaise w k b → ⊥
  pub no_list : (p : Purpose) → k.shelf b ≢ Listed p
  pub not_raised : k.shelf b ≢ Raised
  pub not_open : k.shelf b ≢ Open
  pub unpinned : IsUnpinned w.bucket k.owner b
  pub no_key : (shot : Snapshot) (s : ℕ) (r : Pointer) → IsSeen k shot → IsLive w k shot s r
      → w.bucket r.place ≢ b

-- metadata and data are apart, in memory and in whatever a crash may leave
abbrev pub LawApart : Type 0
LawApart = Always (λ w k. (b : ℕ) → MayHaveMetadata w k b → IsApart w k b)

-- some sector's last key is dirty, live, and points into the bucket
abbrev pub IsLiveDirty : Setup → Books → ℕ → Type 0
IsLiveDirty w k b = (s : ℕ)
    × ((r : Pointer) × (IsLive w k (memory_snapshot k) s r × (r.kind ≡ Dirty)
    × (w.bucket r.place ≡ b)))

abbrev pub is_raise : ℕ → Step → Bool
is_raise b (Raise c) = b == c
is_raise b x = false

abbrev pub plus_if : Bool → ℕ → ℕ
plus_if true n = suc n
plus_if false n = n

-- a generation in memory rises by one at a raise of its bucket, and never otherwise: so the uses of
-- a bucket are its raises
abbrev pub LawUses : Type 0
LawUses = (w : Setup) (k : Books) (x : Step) (b : ℕ)
    → (after w k x).generations.version b ≡ plus_if (is_raise b x) (k.generations.version b)
