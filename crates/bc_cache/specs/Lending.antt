-- A slot's leaf, lent to be changed.
use Rattle.std.specs.Prelude.{ℕ, List, [], ◌∷◌, zero, suc, Option, Some, None}
use Rattle.std.specs.Borrow.{Lends, MutBor, Fml}
use Rattle.bc_node.specs.Leaf.{Leaf}
use Rattle.bc_node.specs.contracts.leaf.Leaf.{the_row as leaf_row}
use Rattle.bc_cache.specs.contracts.cache.NodeCache.{the_row}
use Rattle.bc_cache.specs.contracts.slots.Cached.{the_row as cached_row}
use Rattle.std.specs.contracts.option.Option.{the_row as OptionOf}
use Rattle.bc_cache.specs.declared.slots.Cached.{Cached}
use Rattle.bc_cache.specs.Slots.{NodeCache}

-- the slot with this leaf in the place of its own
abbrev pub with_leaf : Option Cached → Leaf → Option Cached
with_leaf None leaf = None
with_leaf (Some cached) leaf = Some (record cached { leaf = leaf })

-- and the slots
abbrev pub leaf_set : List (Option Cached) → ℕ → Leaf → List (Option Cached)
leaf_set [] slot leaf = []
leaf_set (kept ∷ slots) zero leaf = with_leaf kept leaf ∷ slots
leaf_set (kept ∷ slots) (suc slot) leaf = kept ∷ leaf_set slots slot leaf

-- the cache ends with the last value behind the reference as the slot's leaf
abbrev pub LendsLeaf : MutBor NodeCache → ℕ → MutBor Leaf → Fml
LendsLeaf cache slot leaf = Lends the_row leaf_row cache leaf (λ w. record cache.now { slots = leaf_set cache.now.slots slot w })

abbrev pub LendsIn : MutBor (Option Cached) → MutBor Leaf → Fml
LendsIn slot leaf = Lends (OptionOf cached_row) leaf_row slot leaf (λ w. with_leaf slot.now w)
