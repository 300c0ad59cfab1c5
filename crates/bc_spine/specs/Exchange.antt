-- Leaves that go, and those that come in their place.
use Rattle.std.specs.Prelude.{◌≡◌, ℕ, suc, ◌+◌, ◌%◌, ◌<◌, ◌≤◌, List, ◌∷◌, length, take, drop, slice_get, [], Some, IfSome, option_to_list}
use Rattle.bc_key.specs.declared.ptr.Ptr.{Ptr}
use Rattle.bc_model.specs.Pieces.{piece_sectors}
use Rattle.bc_spine.specs.declared.exchange.Exchange.{Exchange}
use Rattle.bc_spine.specs.declared.leaf.LeafRange.{LeafRange}
use Rattle.bc_spine.specs.Leaves.{CanReplace}
use Rattle.bc_spine.specs.Numbers.{IsLeastAlike, IsLeastFree}

-- the leaves that go, of these, and those that come
abbrev pub going : List LeafRange → Exchange → List LeafRange
going leaves e = take e.gone (drop e.place leaves)

abbrev pub coming : Exchange → List LeafRange
coming e = e.first ∷ option_to_list e.second

-- the exchange was made for these leaves
pub record IsFor (leaves : List LeafRange) (e : Exchange) : Type 0 where
  pub within : e.place + e.gone ≤ length leaves
  pub fits : CanReplace leaves (going leaves e) (coming e)

-- the leaf is of the sectors from one up to another, and stands there
pub record Takes (from end : ℕ) (ptr : Ptr) (leaf : LeafRange) : Type 0 where
  pub begins : leaf.from ≡ from
  pub ends : leaf.end ≡ end
  pub stands : leaf.ptr ≡ ptr

-- the numbers of those that come are the least ones that no leaf has, those that go included
pub record HaveLeastNumbers (leaves : List LeafRange) (e : Exchange) : Type 0 where
  pub first : IsLeastFree leaves 0 e.first.number
  pub second : IfSome e.second (λ leaf. IsLeastFree leaves (suc e.first.number) leaf.number)

-- the sector lies within the leaf at a place, where it may be cut
pub record CanCut (leaves : List LeafRange) (place cut : ℕ) : Type 0 where
  pub leaf : LeafRange
  pub there : slice_get leaves place ≡ Some leaf
  pub above : leaf.from < cut
  pub below : cut < leaf.end
  pub multiple : cut % piece_sectors ≡ 0

-- one leaf is cut in two at a sector
pub record IsSplit (leaves : List LeafRange) (place cut : ℕ) (low high : Ptr) (e
    : Exchange) : Type 0 where
  pub at : e.place ≡ place
  pub gone : e.gone ≡ 1
  pub leaf : LeafRange
  pub there : slice_get leaves place ≡ Some leaf
  pub first : Takes leaf.from cut low e.first
  pub second : (other : LeafRange) × (e.second ≡ Some other) × Takes cut leaf.end high other
  pub numbers : HaveLeastNumbers leaves e

-- One leaf moves. Its number leaves the rest that the one before left, by so many parts.
pub record IsMoved (leaves : List LeafRange) (place parts : ℕ) (ptr : Ptr) (e : Exchange) :
    Type 0 where
  pub at : e.place ≡ place
  pub gone : e.gone ≡ 1
  pub leaf : LeafRange
  pub there : slice_get leaves place ≡ Some leaf
  pub moved : Takes leaf.from leaf.end ptr e.first
  pub alone : option_to_list e.second ≡ []
  pub number : IsLeastAlike leaves parts (leaf.number % parts) e.first.number

-- one leaf and the next become one
pub record IsMerged (leaves : List LeafRange) (place : ℕ) (ptr : Ptr) (e : Exchange) : Type 0 where
  pub at : e.place ≡ place
  pub gone : e.gone ≡ 2
  pub left : LeafRange
  pub right : LeafRange
  pub there : (slice_get leaves place ≡ Some left) × (slice_get leaves (suc place) ≡ Some right)
  pub merged : Takes left.from right.end ptr e.first
  pub alone : option_to_list e.second ≡ []
  pub numbers : HaveLeastNumbers leaves e
