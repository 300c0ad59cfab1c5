-- Keys that take away what their sectors have in the cache.
use Rattle.std.specs.Prelude.{◌≡◌, ◌≢◌, ℕ, ◌+◌, ◌<◌, ◌≤◌, true, List, [], All}
use Rattle.bc_key.specs.Key.{Covers}
use Rattle.bc_key.specs.declared.key.Key.{Key}
use Rattle.bc_place.specs.bc_machine.Frame.{Range}
use Rattle.bc_node.specs.Leaf.{Leaf}
use Rattle.bc_sight.specs.Sight.{IsOnBacking}

-- A key without a pointer, of claimed sectors, not more than a bucket has. By its leaf the backing
-- device has what each of them shows.
pub record IsGone (r : Range) (leaf : Leaf) (size : ℕ) (key : Key) : Type 0 where
  pub none : key.count ≡ 0
  pub some : 0 < key.size
  pub few : key.size ≤ size
  pub from : r.first + key.size ≤ key.end
  pub to : key.end ≤ r.first + r.count
  pub backed : (s : ℕ) → Covers key s → IsOnBacking leaf s

-- The sectors are claimed for the seat alone. There is a key: the journal has each insertion by its
-- keys.
pub record MayDrop (r : Range) (leaf : Leaf) (size : ℕ) (keys : List Key) : Type 0 where
  pub some : keys ≢ []
  pub alone : r.exclusive ≡ true
  pub gone : All (IsGone r leaf size) keys
