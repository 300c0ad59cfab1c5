-- What happens to the records of a cache device. Sets and entries carry the values that are written
-- as them.
use Rattle.std.specs.Prelude.{ℕ, Bool, List, Option}
use Rattle.bc_model.specs.Sector.{Value}
use Rattle.bc_key.specs.declared.key.Key.{Key}
use Rattle.bc_meta.specs.Entries.{Entry}
use Rattle.bc_meta.specs.Tree.{NodeSet, Owner}

pub data Event : Type 0 where
  -- the index has a new key
  AddKey : (key : Key) → Event
  -- the next journal bucket is begun
  BeginBucket : (bucket : ℕ) → Event
  -- an entry is sealed with all keys since the one before, is written, well or not, and is durable;
  -- what is unused from the first on
  SealEntry : (entry : Entry) → (unused : ℕ → Bool) → Event
  WriteEntry : (values : List Value) → Event
  FailEntry : (values : List Value) → Event
  MakeDurable : Event
  Barrier : Event
  -- a further set of a node, a leaf or a parent, written well or not; what is unused from then on
  AddSet : (bucket : ℕ) → (set : NodeSet) → (values : List Value) → (unused : ℕ → Bool) → Event
  FailSet : (bucket : ℕ) → (set : NodeSet) → (values : List Value) → Event
  -- a bucket that is unused is taken for something new; a node's first set is written in it, with
  -- zeros over the rest of the node
  Reuse : (bucket : ℕ) → Event
  NewNode : (bucket : ℕ) → (owner : Owner) → (set : NodeSet) → (values : List Value) → Event
  -- old nodes are given up
  GiveUp : (unused : ℕ → Bool) → Event
  -- values are written in a bucket that is unused, well or not: as this set, or as something else
  Fill : (bucket at : ℕ) → (values : List Value) → Event
  FailFill : (bucket at : ℕ) → (values : List Value) → (set : Option NodeSet) → Event
  -- values are written outside all buckets, well or not
  Elsewhere : (at : ℕ) → (values : List Value) → Event
  FailElsewhere : (at : ℕ) → (values : List Value) → Event
