-- The tree after a change is one.
use Rattle.std.proofs.Common.{◌≡◌, ℕ, zero, suc, ◌+◌, List, [], ◌∷◌, length, set, take, Option, Some, refl, sym, subst, ap, ◌∙◌}
use Rattle.std.specs.Prelude.{All, slice_get}
use Rattle.std.proofs.lemmas.List.Elements.{All-cons, All-head, All-nil, All-tail}
use Rattle.bc_disk.specs.declared.geometry.Geometry.{Geometry}
use Rattle.bc_inner.specs.Inner.{Inner}
use Rattle.bc_key.specs.Key.{ptr_at}
use Rattle.bc_key.specs.declared.key.Key.{Key}
use Rattle.bc_spine.specs.Exchange.{coming}
use Rattle.bc_spine.specs.declared.exchange.Exchange.{Exchange}
use Rattle.bc_spine.specs.declared.leaf.LeafRange.{LeafRange}
use Rattle.bc_tree.specs.Change.{CanChange}
use Rattle.bc_tree.specs.Children.{children_after}
use Rattle.bc_tree.specs.Next.{leaves_next, node_next, nodes_next, root_next}
use Rattle.bc_tree.specs.Spine.{Covers, IsProper, IsRootOf, IsSpine, NameLeaves, NameNodes, bottom, children_in}
use Rattle.bc_tree.specs.declared.change.NodeChange.{NodeChange}
use Rattle.bc_tree.proofs.Nexts.{IsSuccessor, children_next, names_spliced, next_covers, next_proper}

-- ---- nodes of which one changes

all_next : (P : Inner → Type 0) (nodes : List Inner) (place : ℕ) (node : Inner) (change : NodeChange) → All P nodes → slice_get nodes place ≡ Some node → P (node_next node change) → All P (nodes_next nodes place change)
all_next P [] place node change all there one = absurd (cc)
all_next P (m ∷ nodes) zero node change all there one =
    let same : node ≡ m = cc in
    All-cons P (node_next m change) nodes (subst (λ (n : Inner). P (node_next n change)) same one) (All-tail P m nodes all)
all_next P (m ∷ nodes) (suc place) node change all there one = All-cons P m (nodes_next nodes place change) (All-head P m nodes all) (all_next P nodes place node change (All-tail P m nodes all) there one)

-- the place of the node stays
pub names_kept : (from : ℕ) (keys : List Key) (nodes : List Inner) (place : ℕ) (node : Inner) (change : NodeChange) (cs : List Key) → NameNodes from keys nodes → slice_get nodes place ≡ Some node
    → IsSuccessor node (node_next node change) cs → (node_next node change).ptr ≡ node.ptr → NameNodes from keys (nodes_next nodes place change)
names_kept from [] [] place node change cs names there is ptr = absurd (cc)
names_kept from [] (m ∷ nodes) place node change cs names there is ptr = absurd names
names_kept from (k ∷ keys) [] place node change cs names there is ptr = absurd names
names_kept from (k ∷ keys) (m ∷ nodes) zero node change cs names there is ptr =
    let same : node ≡ m = cc in
    let s = subst (λ (n : Inner). IsSuccessor n (node_next n change) cs) same is in
    let p = subst (λ (n : Inner). (node_next n change).ptr ≡ n.ptr) same ptr in
    (s.level ∙ names.0, s.from ∙ names.1, s.end ∙ names.2, p ∙ names.3, names.4)
names_kept from (k ∷ keys) (m ∷ nodes) (suc place) node change cs names there is ptr = (names.0, names.1, names.2, names.3, names_kept k.end keys nodes place node change cs names.4 there is ptr)

-- the node moves, and another key names it
pub names_moved : (from : ℕ) (keys : List Key) (nodes : List Inner) (place : ℕ) (node : Inner) (change : NodeChange) (cs : List Key) (key : Key) → NameNodes from keys nodes → slice_get nodes place ≡ Some node
    → IsSuccessor node (node_next node change) cs → key.end ≡ node.end → (node_next node change).ptr ≡ ptr_at key 0 → NameNodes from (set keys place key) (nodes_next nodes place change)
names_moved from [] [] place node change cs key names there is end ptr = absurd (cc)
names_moved from [] (m ∷ nodes) place node change cs key names there is end ptr = absurd names
names_moved from (k ∷ keys) [] place node change cs key names there is end ptr = absurd names
names_moved from (k ∷ keys) (m ∷ nodes) zero node change cs key names there is end ptr =
    let same : node ≡ m = cc in
    let s = subst (λ (n : Inner). IsSuccessor n (node_next n change) cs) same is in
    let e = subst (λ (n : Inner). key.end ≡ n.end) same end in
    let p = subst (λ (n : Inner). (node_next n change).ptr ≡ ptr_at key 0) same ptr in
    let ends : key.end ≡ k.end = e ∙ names.2 in
    (s.level ∙ names.0, s.from ∙ names.1, s.end ∙ sym e, p, subst (λ n. NameNodes n keys nodes) (sym ends) names.4)
names_moved from (k ∷ keys) (m ∷ nodes) (suc place) node change cs key names there is end ptr =
    (names.0, names.1, names.2, names.3, names_moved k.end keys nodes place node change cs key names.4 there is end ptr)

-- the key of a node ends where it does
pub named_at : (from : ℕ) (keys : List Key) (nodes : List Inner) (place : ℕ) (node : Inner) → NameNodes from keys nodes → slice_get nodes place ≡ Some node → (key : Key) × (slice_get keys place ≡ Some key) × (node.end ≡ key.end) × (node.level ≡ 1)
named_at from [] [] place node names there = absurd (cc)
named_at from [] (m ∷ nodes) place node names there = absurd names
named_at from (k ∷ keys) [] place node names there = absurd names
named_at from (k ∷ keys) (m ∷ nodes) zero node names there = let same : m ≡ node = cc in (k, refl, subst (λ (n : Inner). n.end ≡ k.end) same names.2, subst (λ (n : Inner). n.level ≡ 1) same names.0)
named_at from (k ∷ keys) (m ∷ nodes) (suc place) node names there = named_at k.end keys nodes place node names.4 there

-- ---- the whole tree

-- the nodes below the root, where there are some, are named by it after the change
abbrev pub IsRootAfter : Geometry → Inner → Inner → List Inner → List Inner → Type 0
IsRootAfter g old new [] after = Unit {0}
IsRootAfter g old new (node ∷ nodes) after =
    (new.from ≡ old.from) × (new.level ≡ 2) × NameNodes new.from new.children after × IsProper g new × Covers new

-- what is known of a change of the node above leaves
pub record IsBottomChange (g : Geometry) (root : Inner) (below : List Inner) (place at gone : ℕ) (come : List Key) (node : Inner) (change : NodeChange) : Type 0 where
  pub there : slice_get (bottom root below) place ≡ Some node
  pub can : CanChange g node at gone come
  pub is : IsSuccessor node (node_next node change) (children_after node.children at gone come)

leaves_named : (g : Geometry) (root : Inner) (below : List Inner) (nodes : List Inner) (leaves : List LeafRange) (e : Exchange) (place at gone : ℕ) (come : List Key) (node : Inner) (change : NodeChange)
    → NameLeaves (children_in nodes) leaves → slice_get nodes place ≡ Some node → CanChange g node at gone come → IsSuccessor node (node_next node change) (children_after node.children at gone come)
    → e.place ≡ length (children_in (take place nodes)) + at → e.gone ≡ gone → NameLeaves come (coming e) → NameLeaves (children_in (nodes_next nodes place change)) (leaves_next leaves e)
leaves_named g root below nodes leaves e place at gone come node change names there can is at_place same_gone more =
    subst (λ ks. NameLeaves ks (leaves_next leaves e))
    (ap (λ n. children_after (children_in nodes) n e.gone come) at_place ∙ ap (λ n. children_after (children_in nodes) (length (children_in (take place nodes)) + at) n come) same_gone
    ∙ sym (children_next nodes place at gone come node change there can.way.within is.children_are))
    (names_spliced e.place e.gone (children_in nodes) come leaves (coming e) names more)

pub tree_next : (g : Geometry) (root : Inner) (below : List Inner) (leaves : List LeafRange) (e : Exchange) (place at gone : ℕ) (come : List Key) (node : Inner) (change : NodeChange) (top : Option NodeChange)
    → IsSpine g root below leaves → IsBottomChange g root below place at gone come node change
    → e.place ≡ length (children_in (take place (bottom root below))) + at → e.gone ≡ gone → NameLeaves come (coming e)
    → IsRootAfter g root (root_next root below change top) below (nodes_next below place change)
    → IsSpine g (root_next root below change top) (nodes_next below place change) (leaves_next leaves e)
tree_next g root [] leaves e zero at gone come node change top spine bottom_is at_place same_gone more after =
    let same : root ≡ node = let there = bottom_is.there in cc in
    let is = subst (λ (n : Inner). IsSuccessor n (node_next n change) (children_after n.children at gone come)) (sym same) bottom_is.is in
    let can = subst (λ (n : Inner). CanChange g n at gone come) (sym same) bottom_is.can in
    let proper = next_proper g root (node_next root change) at gone come can is in
    record {
      inner = record {
        begins = is.from ∙ spine.inner.begins;
        root_of = is.level ∙ spine.inner.root_of;
        root_is_proper = proper;
        proper = All-nil (IsProper g);
      };
      names = leaves_named g root [] (root ∷ []) leaves e 0 at gone come root change spine.names refl can is at_place same_gone more;
      cover = (next_covers g root (node_next root change) at gone come can is, All-nil Covers);
    }
tree_next g root [] leaves e (suc place) at gone come node change top spine bottom_is at_place same_gone more after = absurd (let there = bottom_is.there in cc)
tree_next g root (m ∷ nodes) leaves e place at gone come node change top spine bottom_is at_place same_gone more after =
    record {
      inner = record {
        begins = after.0 ∙ spine.inner.begins;
        root_of = root_of place after.1 after.2;
        root_is_proper = after.3;
        proper = all_next (IsProper g) (m ∷ nodes) place node change spine.inner.proper bottom_is.there (next_proper g node (node_next node change) at gone come bottom_is.can bottom_is.is);
      };
      names = subst (λ ns. NameLeaves (children_in ns) (leaves_next leaves e)) (sym (bottom_same place))
          (leaves_named g root (m ∷ nodes) (m ∷ nodes) leaves e place at gone come node change spine.names bottom_is.there bottom_is.can bottom_is.is at_place same_gone more);
      cover = (after.4, all_next Covers (m ∷ nodes) place node change spine.cover.1 bottom_is.there (next_covers g node (node_next node change) at gone come bottom_is.can bottom_is.is));
    }
  where
    root_of : (p : ℕ) → (root_next root (m ∷ nodes) change top).level ≡ 2 → NameNodes (root_next root (m ∷ nodes) change top).from (root_next root (m ∷ nodes) change top).children (nodes_next (m ∷ nodes) p change)
        → IsRootOf (root_next root (m ∷ nodes) change top) (nodes_next (m ∷ nodes) p change)
    root_of zero level names = (level, names)
    root_of (suc p) level names = (level, names)

    bottom_same : (p : ℕ) → bottom (root_next root (m ∷ nodes) change top) (nodes_next (m ∷ nodes) p change) ≡ nodes_next (m ∷ nodes) p change
    bottom_same zero = refl
    bottom_same (suc p) = refl
