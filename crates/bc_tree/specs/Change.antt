-- What becomes of an inner node some of whose children give way to others.
use Rattle.std.specs.Prelude.{◌≡◌, ℕ, ◌+◌, ◌-◌, ◌*◌, true, false, List, Some, length, slice_get}
use Rattle.bc_disk.specs.declared.geometry.Geometry.{Geometry}
use Rattle.bc_image.specs.Children.{with_children}
use Rattle.bc_inner.specs.Inner.{CoverRange, Inner}
use Rattle.bc_key.specs.declared.key.Key.{Key}
use Rattle.bc_key.specs.declared.ptr.Ptr.{Ptr}
use Rattle.bc_set.specs.SetBytes.{AreSetKeys}
use Rattle.bc_set.specs.declared.set.SetKind.TheVariants.{Children}
use Rattle.bc_tree.specs.Children.{CanGiveWay, children_after}
use Rattle.bc_tree.specs.Needs.{fits_node, has_room, words}
use Rattle.bc_tree.specs.Spine.{IsProper}
use Rattle.bc_tree.specs.declared.change.NodeChange.{NodeChange}
use Rattle.bc_tree.specs.declared.change.NodeChange.TheVariants.{Move, Set}

-- how many words the set takes that puts some children in the place of so many others
abbrev pub set_words : ℕ → List Key → ℕ
set_words gone come = 2 * (gone - 1) + words come

-- some children of the node can give way to others: these have the same sectors, and all of them
-- fit in one set
pub record CanChange (g : Geometry) (node : Inner) (at gone : ℕ) (come : List Key) : Type 0 where
  pub proper : IsProper g node
  pub way : CanGiveWay node.children at gone come
  pub cover : CoverRange node.from node.end (children_after node.children at gone come)
  pub fits : fits_node g (words (children_after node.children at gone come)) ≡ true

-- the keys of a further set that has room in the node
pub record IsSetFor (g : Geometry) (node : Inner) (at gone : ℕ) (come keys : List Key)
    : Type 0 where
  pub room : has_room g node (words keys) ≡ true
  pub size : words keys ≡ set_words gone come
  pub few : length keys ≡ gone - 1 + length come
  pub put : with_children keys node.children ≡ children_after node.children at gone come
  pub kind : AreSetKeys Children keys

-- the same node with other children, at a place where nothing is written yet
pub record IsMoved (node : Inner) (children : List Key) (to : Ptr) (seq : ℕ) (next : Inner)
    : Type 0 where
  pub level : next.level ≡ node.level
  pub from : next.from ≡ node.from
  pub end : next.end ≡ node.end
  pub ptr : next.ptr ≡ to
  pub number : next.seq ≡ seq
  pub none : next.taken ≡ 0
  pub children_are : next.children ≡ children
  pub fresh : next.loaded ≡ false

-- The node takes a further set exactly where it has room for it, and moves to the first of these
-- places else.
abbrev pub IsChangeOf : Geometry → Inner → ℕ → ℕ → List Key → List Ptr → ℕ → NodeChange → Type 0
IsChangeOf g node at gone come to seq (Set keys) = IsSetFor g node at gone come keys
IsChangeOf g node at gone come to seq (Move next) =
    (has_room g node (set_words gone come) ≡ false)
    × ((ptr : Ptr) × (slice_get to 0 ≡ Some ptr)
    × IsMoved node (children_after node.children at gone come) ptr seq next)
