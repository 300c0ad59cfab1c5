-- Lists of buckets and of nodes.
use Rattle.std.proofs.Common.{◌≡◌, suc, List, [], ◌∷◌, length, Option, refl, ap}
use Rattle.bc_held.specs.declared.held.HeldBucket.{HeldBucket}
use Rattle.bc_inner.specs.Inner.{Inner}
use Rattle.bc_leaf_plan.specs.Way.{moves_up, places}
use Rattle.bc_tree.specs.Same.{SameNodes}
use Rattle.bc_tree.specs.declared.change.NodeChange.{NodeChange}

-- a tree of other room moves up where it did
pub moves_same : (xs ys : List Inner) (b : NodeChange) (t : Option NodeChange) → SameNodes xs ys
    → moves_up ys b t ≡ moves_up xs b t
moves_same [] [] b t same = refl
moves_same [] (y ∷ ys) b t same = absurd same
moves_same (x ∷ xs) [] b t same = absurd same
moves_same (x ∷ xs) (y ∷ ys) b t same = refl

pub places_many : (bs : List HeldBucket) → length (places bs) ≡ length bs
places_many [] = refl
places_many (b ∷ bs) = ap suc (places_many bs)
