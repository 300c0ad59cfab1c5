-- A tree of which nothing has changed but its room.
use Rattle.std.specs.Prelude.{◌≡◌, List, [], ◌∷◌}
use Rattle.bc_inner.specs.Inner.{Inner, IsSameNode}
use Rattle.bc_tree.specs.Spine.{Spine}

-- nothing of the node has changed but its room
pub record SameNode (old new : Inner) : Type 0 where
  pub node : IsSameNode old new
  pub children_are : new.children ≡ old.children

-- the same node at the same place, with the same children
pub record SameShape (old new : Inner) : Type 0 where
  pub level : new.level ≡ old.level
  pub from : new.from ≡ old.from
  pub end : new.end ≡ old.end
  pub ptr : new.ptr ≡ old.ptr
  pub children_are : new.children ≡ old.children

-- so are all of these
abbrev pub SameShapes : List Inner → List Inner → Type 0
SameShapes [] [] = Unit {0}
SameShapes [] (b ∷ bs) = ⊥
SameShapes (a ∷ more) [] = ⊥
SameShapes (a ∷ more) (b ∷ bs) = SameShape a b × SameShapes more bs

-- nothing of any of the nodes has changed but its room
abbrev pub SameNodes : List Inner → List Inner → Type 0
SameNodes [] [] = Unit {0}
SameNodes [] (b ∷ bs) = ⊥
SameNodes (a ∷ more) [] = ⊥
SameNodes (a ∷ more) (b ∷ bs) = SameNode a b × SameNodes more bs

-- nothing of the tree has
pub record IsSameTree (old new : Spine) : Type 0 where
  pub geometry_is : new.geometry ≡ old.geometry
  pub leaves_are : new.leaves ≡ old.leaves
  pub root_is : SameNode old.root new.root
  pub below_are : SameNodes old.below new.below

-- nothing of the tree has but for how many more leaves there is room
abbrev pub IsSameButSpare : Spine → Spine → Type 0
IsSameButSpare old new = new ≡ record old { spare = new.spare }
