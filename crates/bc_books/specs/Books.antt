-- The books: what is known of keys, buckets and an open round, as one state; and the steps that
-- change them.
use Rattle.std.specs.Prelude.{◌≡◌, ℕ, ◌+◌, ◌<◌, ◌≤◌, Bool, true, false, Option, Some, None, List, if◌then◌else◌, ◌||◌}
use Rattle.bc_books.specs.Index.{Key, Pointer, Index, Dirty}
use Rattle.bc_books.specs.Versions.{Generations}
use Rattle.bc_books.specs.Shelves.{Purpose, Priorities, Shelf, Owner, Fresh, Spent, by_room}
use Rattle.bc_books.specs.Marks.{Mark, Dirtied, Metadata}
use Rattle.bc_books.specs.Chains.{Chains, Many}
use Rattle.bc_books.specs.Round.{Round, started, ended}

-- what the opening found
pub record Setup : Type 0 where
  -- the bucket of a place, the sectors of the backing device, and the priority sets of a chain
  pub bucket : ℕ → ℕ
  pub size : ℕ
  pub sets : ℕ
  -- the buckets of superblock, journal and uuid table, which stay so
  pub fixed : ℕ → Bool
  pub index : ℕ → Option Pointer
  pub leaf : ℕ → ℕ
  pub version : ℕ → ℕ
  pub last_gc : ℕ → ℕ
  pub mark : ℕ → Mark
  -- the reserve list that a bucket is on
  pub listed : ℕ → Option Purpose
  -- the buckets of nodes, and those of the priority chain
  pub node : ℕ → Bool
  pub chain : ℕ → Bool

-- how many insertions the sealed entry and the durable one hold with all before them
pub record Journal : Type 0 where
  pub sealed : ℕ
  pub durable : ℕ
  -- an entry is sealed and not yet durable
  pub waiting : Bool

pub record Books : Type 0 where
  pub index : Index
  pub journal : Journal
  pub generations : Generations
  pub mark : ℕ → Mark
  pub shelf : ℕ → Shelf
  pub owner : ℕ → Owner
  pub chains : Chains
  pub node : ℕ → Bool
  pub round : Round

pub data Step : Type 0 where
  -- keys come into a leaf
  Put : (leaf : ℕ) → (keys : List Key) → Step
  -- new leaves take the sectors of old ones: each leaf with its count of insertions, which sectors
  -- count as walked, and the highest count of their leaves
  Regroup : (leaf changed : ℕ → ℕ) → (counts : ℕ → Bool) → (last : ℕ) → Step
  -- a seat takes a bucket from a reserve list; one for data is open from then on
  Take : (seat : ℕ) → (purpose : Purpose) → (bucket : ℕ) → Step
  -- an open bucket is full
  Shut : (bucket : ℕ) → Step
  -- a seat lets go what it holds; what it took for priority sets goes back where there is room
  LetGo : (seat bucket : ℕ) → (room : Bool) → Step
  -- places become a seat's, nobody's, a candidate's
  Pin : (seat place count : ℕ) → Step
  Unpin : (place count : ℕ) → Step
  Keep : (candidate place count : ℕ) → Step
  -- a held bucket gets a new node's first set; is a node's; is no node's any more
  BeginNode : (seat bucket : ℕ) → Step
  MakeNode : (seat bucket : ℕ) → Step
  DropNode : (bucket : ℕ) → Step
  Raise : (bucket : ℕ) → Step
  -- a raised bucket goes to a list that has room, or to none
  MakeReady : (bucket : ℕ) → (room : Option Purpose) → Step
  -- the next chain is marked, the one before it given up; each of its buckets goes back where there
  -- is room
  ReadyChain : (room : ℕ → Bool) → Step
  -- an entry is fixed, with the chain of the one before it, or with a new chain and its
  -- generations; it is durable
  Seal : Step
  SealChain : (seat : ℕ) → (versions : ℕ → ℕ) → (chain : ℕ → Bool) → Step
  Sealed : Step
  -- a trace round
  Begin : Step
  Walk : (leaf : ℕ) → Step
  End : Step
  Drop : Step

abbrev pub is_listed : Option Purpose → Bool
is_listed None = false
is_listed (Some p) = true

-- without data at the opening
abbrev pub unused : Setup → ℕ → Bool
unused w b = is_listed (w.listed b) || (w.chain b || (w.fixed b || w.node b))

abbrev pub opened : Setup → Books
opened w = record {
  index = record { at = λ n s. w.index s; count = 0; leaf = w.leaf; changed = λ l. 0 };
  journal = record { sealed = 0; durable = 0; waiting = false };
  generations = record {
    version = w.version;
    sealed = w.version;
    durable = w.version;
    last_gc = w.last_gc;
  };
  mark = w.mark;
  shelf = λ b. by_room (w.listed b);
  owner = λ t. if unused w (w.bucket t) then Fresh else Spent;
  chains = record {
    of = λ b. if w.chain b then Some 0 else None;
    ready = 0;
    durable = 0;
    sealed = 0;
  };
  node = w.node;
  round = ended started;
}

-- the opening is as a sound pair gives it
pub record IsSound (w : Setup) : Type 0 where
  -- no bucket is more than 96 generations past its oldest key
  pub window : (b : ℕ) → (w.last_gc b ≤ w.version b) × (w.version b ≤ w.last_gc b + 96)
  pub inside : (s : ℕ) (r : Pointer) → w.index s ≡ Some r → (s < w.size)
      × (w.last_gc (w.bucket r.place) ≤ r.version) × (r.version ≤ w.version (w.bucket r.place))
  -- what is dirty is live, and marked so
  pub dirty : (s : ℕ) (r : Pointer) → w.index s ≡ Some r → r.kind ≡ Dirty
      → (w.mark (w.bucket r.place) ≡ Dirtied) × (w.version (w.bucket r.place) ≡ r.version)
  -- a list, superblock, journal, uuid table, nodes and chain have no live key
  pub spare : (s : ℕ) (r : Pointer) → w.index s ≡ Some r → w.version (w.bucket r.place) ≡ r.version
      → unused w (w.bucket r.place) ≡ false
  -- each bucket has one use
  pub fixed : (b : ℕ) → w.fixed b ≡ true → (w.listed b ≡ None) × (w.chain b ≡ false)
      × (w.node b ≡ false) × (w.mark b ≡ Metadata)
  pub node : (b : ℕ) → w.node b ≡ true → (w.listed b ≡ None) × (w.chain b ≡ false)
      × (w.mark b ≡ Metadata)
  pub chain : (b : ℕ) → w.chain b ≡ true → (w.listed b ≡ None) × (w.mark b ≡ Metadata)
  pub plain : (b : ℕ) → w.fixed b ≡ false → w.node b ≡ false → w.chain b ≡ false
      → (w.mark b ≡ Metadata → ⊥)
  -- the chain has its sets, and there are as many buckets for the next one
  pub sets : Many w.sets (λ b. w.chain b ≡ true)
  pub next : Many w.sets (λ b. w.listed b ≡ Some Priorities)
