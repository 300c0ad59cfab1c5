-- Nodes above leaves that come in the place of others, and what becomes of the root.
use Rattle.std.specs.Prelude.{◌≡◌, ℕ, ◌+◌, ◌%◌, ◌^◌, ◌<◌, ◌≤◌, false, List, Some, take, drop, slice_get}
use Rattle.bc_inner.specs.Inner.{Inner}
use Rattle.bc_key.specs.declared.key.Key.{Key}
use Rattle.bc_key.specs.declared.ptr.Ptr.{Ptr}
use Rattle.bc_model.specs.Pieces.{piece_sectors}
use Rattle.bc_tree.specs.Spine.{last_end}
use Rattle.bc_tree.specs.declared.beside.Beside.{Beside}
use Rattle.bc_tree.specs.declared.beside.Beside.TheVariants.{Comes, Goes, Moves, Stays, Under}

-- among so many nodes, with room for so many more, there is a place for what comes beside one, and
-- one behind it, where that gives way
abbrev pub CanStand : ℕ → ℕ → ℕ → Beside → Type 0
CanStand count room place Stays = Unit {0}
CanStand count room place (Comes node) = (place < count) × (1 ≤ room)
CanStand count room place (Moves node) = place + 1 < count
CanStand count room place Goes = place + 1 < count
CanStand count room place (Under low high) = (count ≡ 0) × (2 ≤ room)

-- how many new nodes stand beside
abbrev pub beside_count : Beside → ℕ
beside_count Stays = 0
beside_count (Comes node) = 1
beside_count (Moves node) = 1
beside_count Goes = 0
beside_count (Under low high) = 2

-- a node of these sectors and children, at a place where nothing is written yet
pub record IsFresh (level from end : ℕ) (children : List Key) (to : Ptr) (seq : ℕ) (next : Inner)
    : Type 0 where
  pub level_is : next.level ≡ level
  pub begins : next.from ≡ from
  pub ends : next.end ≡ end
  pub ptr : next.ptr ≡ to
  pub number : next.seq ≡ seq
  pub none : next.taken ≡ 0
  pub children_are : next.children ≡ children
  pub fresh : next.loaded ≡ false

-- two nodes that lie one behind the other between two sectors, and end at multiples of 256
pub record AreNeighbours (from end : ℕ) (low high : Inner) : Type 0 where
  pub begins : from < low.end
  pub middle : low.end % piece_sectors ≡ 0
  pub rises : low.end < high.end
  pub ends : high.end ≡ end
  pub multiple : end % piece_sectors ≡ 0

-- two nodes above leaves that have all these children between them: so many of them go to the first
pub record AreTwo (from end cut : ℕ) (all : List Key) (to : List Ptr) (seq : ℕ) (low high : Inner)
    : Type 0 where
  pub low_ptr : Ptr
  pub high_ptr : Ptr
  pub places : (slice_get to 0 ≡ Some low_ptr) × (slice_get to 1 ≡ Some high_ptr)
  pub low_is : IsFresh 1 from (last_end from (take cut all)) (take cut all) low_ptr seq low
  pub high_is : IsFresh 1 (last_end from (take cut all)) end (drop cut all) high_ptr
      ((seq + 1) % 2 ^ 64) high
