-- What such an event makes of the parts that it changes beside the journal.
use Rattle.std.specs.Prelude.{◌≡◌, ℕ, List, [], ◌∷◌, reverse, None, Some, slice_get}
use Rattle.bc_books.specs.Books.{Put}
use Rattle.bc_books.specs.After as books
use Rattle.bc_books.specs.Books.{Books}
use Rattle.bc_books.specs.Index as index
use Rattle.bc_cache.specs.Slots.{NodeCache, with_slot}
use Rattle.bc_cache.specs.declared.slots.Cached.{Cached}
use Rattle.bc_key.specs.declared.key.Key.{Key}
use Rattle.bc_leaves.specs.Parts.{AllUpTo, Free, next_number}
use Rattle.bc_leaves.specs.Parts as parts
use Rattle.bc_begun.specs.bc_machine.Containers.{AreBucketsOf, AreLeavesOf}
use Rattle.bc_begun.specs.bc_machine.declared.part.BucketsPart.{BucketsPart}
use Rattle.bc_node.specs.Leaf as node
use Rattle.bc_whole.specs.State.{Opening}
use Rattle.bc_keyed.specs.Came.{HaveCome, WereAdded}

-- A leaf in a slot of its part, into which keys came that no change of the tree moves.
pub record CameInto (a : parts.State) (cache : NodeCache) (slot : ℕ) (cached : Cached)
    (keys : List Key) (new : node.Leaf) : Type 0 where
  pub there : slice_get cache.slots slot ≡ Some (Some cached)
  pub only : (i : ℕ) (c : Cached) → slice_get cache.slots i ≡ Some (Some c)
      → c.number ≡ cached.number → i ≡ slot
  pub free : (a.leaves cached.number).role ≡ Free
  pub up : AllUpTo (next_number a.records) (a.leaves cached.number).pending
  pub added : WereAdded keys (next_number a.records) cached.leaf new

-- Of so many parts the one that has the leaf stands for the state behind the event.
abbrev pub LawLeaves : Type 0
LawLeaves = (w : Opening) (a b : parts.State) (count part : ℕ) (cache : NodeCache) (slot : ℕ)
    (cached : Cached) (keys : List Key) (new : node.Leaf)
    → HaveCome cached.number (reverse keys) a b → AreLeavesOf w a count part cache
    → CameInto a cache slot cached keys new
    → AreLeavesOf w b count part
    (with_slot cache slot (Some (record cached { leaf = new })))

-- keys that point nowhere
abbrev pub PointNowhere : List index.Key → Type 0
PointNowhere [] = Unit {0}
PointNowhere (k ∷ ks) = (k.kind ≡ None) × PointNowhere ks

-- They leave each bucket as it was.
abbrev pub LawNowhere : Type 0
LawNowhere = (w : Opening) (k : Books) (p : BucketsPart) (leaf : ℕ) (keys : List index.Key)
    → PointNowhere keys → AreBucketsOf w k p
    → AreBucketsOf w (books.after w.flow.books k (Put leaf keys)) p
