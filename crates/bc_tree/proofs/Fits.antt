-- A plan fits in the tree for which it was made.
use Rattle.std.proofs.Common.{◌≡◌, ℕ, ◌+◌, ◌*◌, ◌%◌, ◌^◌, ◌≤◌, List, [], ◌∷◌, length, drop, Option, Some, None, sym, subst, ◌∙◌, arith}
use Rattle.std.specs.Prelude.{IfSome, slice_get}
use Rattle.bc_disk.specs.declared.geometry.Geometry.{Geometry}
use Rattle.bc_inner.specs.Inner.{Inner}
use Rattle.bc_key.specs.declared.key.Key.{Key}
use Rattle.bc_key.specs.declared.ptr.Ptr.{Ptr}
use Rattle.bc_keys.proofs.KeyLists.{length-words_of}
use Rattle.bc_node.specs.Leaf.{Leaf}
use Rattle.bc_spine.specs.Exchange.{IsFor}
use Rattle.bc_spine.specs.declared.exchange.Exchange.{Exchange}
use Rattle.bc_spine.specs.declared.leaf.LeafRange.{LeafRange}
use Rattle.bc_tree.specs.Change.{CanChange, set_words}
use Rattle.bc_tree.specs.Needs.{words}
use Rattle.bc_tree.specs.Next.{leaves_next, node_next, nodes_next, root_next}
use Rattle.bc_tree.specs.Plan.{CanExchange, CanTake, Fits, HasRoomAt, IsAbove, IsTopChange}
use Rattle.bc_tree.specs.Same.{IsSameTree, SameNode}
use Rattle.bc_tree.specs.Spine.{IsSpine, Spine, bottom}
use Rattle.bc_tree.specs.declared.beside.Beside.TheVariants.{Stays}
use Rattle.bc_tree.specs.declared.change.NodeChange.{NodeChange}
use Rattle.bc_tree.specs.declared.change.NodeChange.TheVariants.{Move, Set}
use Rattle.bc_tree.specs.declared.place.LeafPlace.{LeafPlace}
use Rattle.bc_tree.proofs.Coming.{can_take, nodes_next_same, root_after, root_can, root_next_same, same_there}
use Rattle.bc_tree.proofs.Nexts.{succeeds}
use Rattle.bc_tree.proofs.Proper.{words_cons}
use Rattle.bc_tree.proofs.Same.{bottom_same, get_same, long_same, spine_same}
use Rattle.bc_tree.proofs.Trees.{tree_next}

-- each key takes two words at least
pub few_keys : (keys : List Key) → 2 * length keys ≤ words keys
few_keys [] = omega arith
few_keys (key ∷ keys) = omega (arith, words_cons key keys, length-words_of key, few_keys keys)

top_takes : (g : Geometry) (r s : Inner) (below : List Inner) (leaves : List LeafRange) (place : ℕ) (node : Inner) (change : NodeChange) (to : List Ptr) (seq : ℕ) (top : Option NodeChange)
    → IsSpine g r below leaves → slice_get (bottom r below) place ≡ Some node → (node_next node change).end ≡ node.end → SameNode r s → 4 ≤ s.spare
    → IsTopChange g r below place change to seq top → IfSome top (CanTake s)
top_takes g r s [] leaves place node change to seq top spine there end same room is = subst (λ (t : Option NodeChange). IfSome t (CanTake s)) (sym is) tt
top_takes g r s (m ∷ nodes) leaves place node (Set keys) to seq top spine there end same room is = subst (λ (t : Option NodeChange). IfSome t (CanTake s)) (sym is) tt
top_takes g r s (m ∷ nodes) leaves place node (Move next) to seq top spine there end same room (change, key, top_is, names, changed) =
    let can = root_can g r (m ∷ nodes) leaves place node next key spine there end names.end names.one in
    subst (λ (t : Option NodeChange). IfSome t (CanTake s)) (sym top_is)
    (can_take g r s place 1 (key ∷ []) (drop 1 to) ((seq + 1) % 2 ^ 64) change can changed same (omega (arith, room)))

no_top : (g : Geometry) (root : Inner) (below : List Inner) (place : ℕ) (change : NodeChange) (to : List Ptr) (seq : ℕ) (top : Option NodeChange) → IsTopChange g root below place change to seq top → length below ≡ 0 → top ≡ None
no_top g root [] place change to seq top is none = is
no_top g root (m ∷ nodes) place change to seq top is none = absurd (omega (arith, none))

pub fits_after : (s t : Spine) (e : Exchange) (first : Leaf) (second : Option Leaf) (place : LeafPlace) (gone : ℕ) (come : List Key) (to : List Ptr) (seq : ℕ) (node : Inner) (change : NodeChange) (top : Option NodeChange)
    → IsSpine s.geometry s.root s.below s.leaves → CanExchange s e place gone come → set_words gone come ≤ 8
    → slice_get (bottom s.root s.below) place.node ≡ Some node → IsAbove s node place.node place.child gone come to seq change top
    → IsSameTree s t → t.spare ≡ s.spare → HasRoomAt t place.node
    → Fits t (record { leaves = e; first = first; second = second; place = place.node; bottom = change; beside = Stays; top = top })
fits_after s t e first second place gone come to seq node change top spine can few there above same spare room =
    let g = s.geometry in
    let can_node = subst (λ (n : Inner). CanChange g n place.child gone come) (same_there s place.node can.node node can.there there) can.can in
    let got = get_same place.node (bottom s.root s.below) (bottom t.root t.below) node (bottom_same s.root t.root s.below t.below same.root_is same.below_are) there in
    let next = succeeds g node place.child gone come to seq change above.change_is in
    let after = root_after g s.root s.below s.leaves place.node place.child gone come to seq node change top spine there above.change_is above.top_is in
    let tree = tree_next g s.root s.below s.leaves e place.node place.child gone come node change top spine (record { there = there; can = can_node; is = next }) can.before can.gone_are can.names after.0 in
    let roots = root_next_same s.root t.root s.below t.below change top same.root_is same.below_are in
    let tree_there = spine_same g (root_next s.root s.below change top) (root_next t.root t.below change top) (nodes_next s.below place.node change) (nodes_next t.below place.node change) (leaves_next s.leaves e)
    roots (nodes_next_same s.below t.below place.node change same.below_are) tree in
    record {
      leaves_fit = subst (λ (ls : List LeafRange). IsFor ls e) (sym same.leaves_are) can.fits;
      spare = omega (arith, can.spare, spare);
      node = got.0;
      there = got.1;
      takes = can_take g node got.0 place.child gone come to seq change can_node above.change_is got.2 (let four = room.1 got.0 got.1 in omega (arith, four, few_keys come, few));
      root_takes = top_takes g s.root t.root s.below s.leaves place.node node change to seq top spine there next.end same.root_is room.0 above.top_is;
      alone = λ none. no_top s.geometry s.root s.below place.node change to seq top above.top_is (omega (arith, none, long_same s.below t.below same.below_are));
      stands = tt;
      tree = subst (λ (x : Geometry). IsSpine x (root_next t.root t.below change top) (nodes_next t.below place.node change) (leaves_next t.leaves e)) (sym same.geometry_is)
          (subst (λ (ls : List LeafRange). IsSpine g (root_next t.root t.below change top) (nodes_next t.below place.node change) (leaves_next ls e)) (sym same.leaves_are) tree_there);
      end = roots.node.end ∙ after.1 ∙ sym same.root_is.node.end;
    }
