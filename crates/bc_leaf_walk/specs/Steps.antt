-- The step that walks a leaf: what has to hold for it, and what it did.
use Rattle.std.specs.Prelude.{◌≡◌, ℕ, ◌≤◌, true, Some, length, slice_get}
use Rattle.bc_cache.specs.declared.slots.Cached.{Cached}
use Rattle.bc_mark.specs.bc_hand.declared.hand.Hand.{Hand}
use Rattle.bc_mark.specs.bc_hand.declared.hand.LeafHand.{LeafHand}
use Rattle.bc_mark.specs.bc_machine.declared.part.BucketsPart.{BucketsPart}
use Rattle.bc_node.specs.Leaf.{Leaf}
use Rattle.bc_leaf_walk.specs.Pieces.{HasCounted}

-- this slot of the part in hand has the leaf of this number
pub record HasLeafIn {C B : Type 0} (h : Hand C B) (slot number : ℕ) : Type 0 where
  pub leaves : LeafHand
  pub is : h.leaves ≡ Some leaves
  pub cached : Cached
  pub there : slice_get leaves.cache.slots slot ≡ Some (Some cached)
  pub number_is : cached.number ≡ number

-- a leaf and the buckets are in hand
pub record HasLeafAndBuckets {C B : Type 0} (h : Hand C B) (number : ℕ) : Type 0 where
  pub slot : ℕ
  pub leaf : HasLeafIn h slot number
  pub part : BucketsPart
  pub is : h.buckets ≡ Some part

-- A round is open that has come to just where the leaf begins: one that begins before may have
-- sectors that were walked in another leaf. The leaf's range isn't turned round, and the walk has as
-- many buckets as there are.
pub record ComesNext (p : BucketsPart) (leaf : Leaf) : Type 0 where
  pub going : p.round.going ≡ true
  pub next : p.round.next ≡ leaf.from
  pub more : leaf.from ≤ leaf.end
  pub each : length p.round.walk ≡ length p.buckets.records

abbrev pub CanWalk : {C B : Type 0} → Hand C B → ℕ → Type 0
CanWalk h number =
    (both : HasLeafAndBuckets h number) × ComesNext both.part both.leaf.cached.leaf

-- the leaf was counted in the part in hand, and nothing else in hand is another
abbrev pub HasWalkedIn : {C B : Type 0} → ℕ → ℕ → Hand C B → Hand C B → Type 0
HasWalkedIn before number h g = (both : HasLeafAndBuckets h number) × (q : BucketsPart)
    × (g ≡ record h { buckets = Some q })
    × HasCounted before both.leaf.cached.leaf both.part q
