-- The state of the whole machine, and what may happen to it. Each component is that of a machine
-- below: what seats do with data over the books of buckets, what the metadata of the cache device
-- may read as, and the parts that a program holds of it.
use Rattle.std.specs.Prelude.{ℕ, Bool, List}
use Rattle.bc_model.specs.Sector.{Value}
use Rattle.bc_key.specs.declared.key.Key.{Key}
use Rattle.bc_books.specs.Shelves.{Purpose}
use Rattle.bc_books.specs.Books.{Step}
use Rattle.bc_data.specs.Data as flow
use Rattle.bc_meta.specs.Tree.{NodeSet}
use Rattle.bc_meta.specs.Layout.{PrioSet, Layout}
use Rattle.bc_meta.specs.Laws as meta
use Rattle.bc_meta.specs.Acts as meta_acts
use Rattle.bc_leaves.specs.Parts as parts

-- what the opening found
pub record Opening : Type 0 where
  pub flow : flow.Opening
  pub layout : Layout
  -- the buckets of the device that lie before the layout's, of which a chain tells too
  pub before : ℕ
  pub store : meta.Opening

pub record State : Type 0 where
  pub flow : flow.State
  pub store : meta_acts.State
  pub parts : parts.State

-- what is written to the cache device: data to places of a bucket, the sealed entry, a further set
-- of a leaf or of an inner node, the first set of a new leaf or a new inner node with zeros over the
-- rest of it, a priority set by its part of a chain, or what lies outside all buckets
pub data Write : Type 0 where
  OfData : (bucket place : ℕ) → Write
  OfEntry : Write
  OfSet : (slot : ℕ) → (set : NodeSet) → Write
  OfParent : (slot : ℕ) → (set : NodeSet) → Write
  OfLeaf : (slot : ℕ) → (leaf : parts.Leaf) → (set : NodeSet) → Write
  OfInner : (slot : ℕ) → (inner : parts.InnerNode) → (set : NodeSet) → Write
  OfPriorities : (bucket part : ℕ) → (set : PrioSet) → Write
  Outside : (place : ℕ) → Write

-- the root that an entry names: that of the entry before, or an inner node that a change brings
pub data Root : Type 0 where
  SameRoot : Root
  NewRoot : (slot : ℕ) → Root

-- the priority chain that it names: that of the entry before, or one in these buckets, which says
-- these generations, counted on for ever
pub data Chain : Type 0 where
  SameChain : Chain
  NewChain : (buckets gens : List ℕ) → Chain

pub data Act : Type 0 where
  -- what the metadata has no part in
  Alone : (act : flow.Act) → Act
  -- keys come into the leaf in a slot
  Keyed : (act : flow.Act) → (slot : ℕ) → (keys : List Key) → Act
  -- the cache device is written, or the write fails
  WriteCache : (write : Write) → (values : List Value) → Act
  FailCache : (write : Write) → (values : List Value) → Act
  CacheBarrier : Act
  -- an entry is sealed with all keys that wait; it is durable
  Seal : (last_seq : ℕ) → (rest : List ℕ) → (root : Root) → (chain : Chain) → Act
  MakeDurable : Act
  -- the next journal bucket is begun
  BeginBucket : (bucket : ℕ) → Act
  -- a bucket is taken for something else than data in order, and let go
  Take : (purpose : Purpose) → (bucket : ℕ) → Act
  LetGo : (bucket : ℕ) → (room : Bool) → Act
  -- the chain before the durable one is given up; these buckets are kept for the next one
  ReadyChain : (room : ℕ → Bool) → (spare : List ℕ) → Act
  -- other buckets are kept for it from now on
  KeepSpare : (spare : List ℕ) → Act
  -- a change of the tree begins, and is over
  BeginChange : (low high : ℕ) → (gone come old new : List ℕ) → (unused : ℕ → Bool) → Act
  Install : (unused : ℕ → Bool) → (steps : List Step) → Act
  ForgetDrafts : Act

pub record Event : Type 0 where
  pub seat : ℕ
  pub act : Act
