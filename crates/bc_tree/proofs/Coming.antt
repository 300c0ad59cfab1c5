-- A leaf that comes, and what becomes of the nodes above it.
use Rattle.std.proofs.Common.{◌≡◌, ◌≢◌, ◌⊎◌, ◌==◌, inl, inr, ℕ, zero, suc, ◌+◌, ◌-◌, ◌%◌, ◌^◌, ◌<◌, ◌≤◌, Bool, true, false, List, [], ◌∷◌, length, get_or, set, drop, Option, Some, None, refl, sym, subst, ap, ◌∙◌, arith, if◌then◌else◌}
use Rattle.std.specs.Prelude.{IfOk, OnOk, Result, Ok, Err, nat_lt, slice_get}
use Rattle.std.proofs.lemmas.Option.{slice_get_read, slice_get_within}
use Rattle.std.proofs.lemmas.Bool.Decides.{eqb_tells}
use Rattle.bc_disk.specs.declared.geometry.Geometry.{Geometry}
use Rattle.bc_extent.specs.Extents.{IsInOrder, Shows}
use Rattle.bc_extent.specs.LastKey.{last_key}
use Rattle.bc_image.specs.Children.{with_children}
use Rattle.bc_inner.specs.Inner.{CoverRange, Inner, IsSameNode}
use Rattle.bc_key.specs.Key.{pointer_of, ptr_at}
use Rattle.bc_key.specs.declared.key.Key.{Key}
use Rattle.bc_key.specs.declared.ptr.Ptr.{Ptr}
use Rattle.bc_node.specs.Leaf.{AreAdded, AreLastOfAll, Leaf}
use Rattle.bc_spine.specs.declared.leaf.LeafRange.{LeafRange}
use Rattle.bc_keys.proofs.KeyLists.{length-words_of}
use Rattle.bc_tree.specs.Change.{CanChange, IsChangeOf, set_words}
use Rattle.bc_tree.specs.Children.{children_after}
use Rattle.bc_tree.specs.Needs.{has_room}
use Rattle.bc_tree.specs.Next.{node_next, nodes_next, root_next}
use Rattle.bc_tree.specs.Parts.{bounded}
use Rattle.bc_tree.specs.Plan.{CanTake, HavePlaces, IsComing, IsLeafWith, IsTopChange, Names, moves}
use Rattle.bc_tree.specs.Same.{IsSameTree, SameNode, SameNodes}
use Rattle.bc_tree.specs.Spine.{IsSpine, NameNodes, Spine, bottom}
use Rattle.bc_tree.specs.declared.change.NodeChange.{NodeChange}
use Rattle.bc_tree.specs.declared.change.NodeChange.TheVariants.{Move, Set}
use Rattle.bc_tree.proofs.Nexts.{next_covers, next_proper, succeeds}
use Rattle.bc_tree.proofs.Proper.{words_cons}
use Rattle.bc_tree.proofs.Same.{same_node, same_nodes}
use Rattle.bc_tree.proofs.Renames.{after_is_set, can_rename}
use Rattle.bc_tree.proofs.Trees.{IsRootAfter, named_at, names_kept, names_moved}

-- ---- a leaf

none_added : AreLastOfAll [] []
none_added = record {
  order = ((λ k d inside. absurd (omega arith)), (λ i j d before inside. absurd (omega arith)));
  shown = λ sector. refl;
}

pub added_of : (all old new : List Key) → old ≡ [] → AreAdded all old new → AreLastOfAll all new
added_of all old new empty added = added [] (subst (λ (ks : List Key). AreLastOfAll [] ks) (sym empty) none_added)

pub pointer_at : (key : Key) (ptr : Ptr) → pointer_of key ≡ Some ptr → ptr_at key 0 ≡ ptr
pointer_at key ptr is = go (nat_lt 0 key.count) is
  where
    go : (b : Bool) → (if b then Some (ptr_at key 0) else None) ≡ Some ptr → ptr_at key 0 ≡ ptr
    go true e = cc
    go false e = absurd (cc)

pub comes : (keys : List Key) (from end : ℕ) (to : Ptr) (seq : ℕ) (parts given : List Key) {E : Type 0} (answer : Result Leaf E) → given ≡ parts → Shows (bounded from end (last_key keys)) parts → IsInOrder parts
    → IfOk answer (IsLeafWith from end to seq given) → IfOk answer (IsComing keys from end to seq)
comes keys from end to seq parts given (Ok leaf) same shows order is = record { parts = parts; shows = shows; order = order; is = subst (λ (ks : List Key). IsLeafWith from end to seq ks leaf) same is }
comes keys from end to seq parts given (Err e) same shows order is = tt

-- ---- the nodes above

-- the root's key for a node below it gives way to one that names the node's new place
pub can_name : (g : Geometry) (root : Inner) (below leaves_below : List Inner) (leaves : List LeafRange) (place : ℕ) (node : Inner) (key : Key) → IsSpine g root below leaves → NameNodes root.from root.children below
    → slice_get below place ≡ Some node → key.end ≡ node.end → key.count ≡ 1 → CanChange g root place 1 (key ∷ [])
can_name g root below leaves_below leaves place node key spine names there end one =
    let named = named_at root.from root.children below place node names there in
    can_rename g root place named.0 key spine.inner.root_is_proper spine.cover.0 named.1 (end ∙ named.2) one

pub root_after : (g : Geometry) (root : Inner) (below : List Inner) (leaves : List LeafRange) (place at gone : ℕ) (come : List Key) (to : List Ptr) (seq : ℕ) (node : Inner) (change : NodeChange) (top : Option NodeChange)
    → IsSpine g root below leaves → slice_get (bottom root below) place ≡ Some node → IsChangeOf g node at gone come to seq change → IsTopChange g root below place change to seq top
    → IsRootAfter g root (root_next root below change top) below (nodes_next below place change) × ((root_next root below change top).end ≡ root.end)
root_after g root [] leaves zero at gone come to seq node change top spine there is above =
    let same : root ≡ node = cc in
    (tt, subst (λ (n : Inner). (node_next n change).end ≡ n.end) (sym same) (succeeds g node at gone come to seq change is).end)
root_after g root [] leaves (suc place) at gone come to seq node change top spine there is above = absurd (cc)
root_after g root (m ∷ nodes) leaves place at gone come to seq node (Set keys) top spine there is above =
    let names = spine.inner.root_of.1 in
    let kept = names_kept root.from root.children (m ∷ nodes) place node (Set keys) (children_after node.children at gone come) names there (succeeds g node at gone come to seq (Set keys) is) refl in
    subst (λ (t : Option NodeChange). IsRootAfter g root (root_next root (m ∷ nodes) (Set keys) t) (m ∷ nodes) (nodes_next (m ∷ nodes) place (Set keys)) × ((root_next root (m ∷ nodes) (Set keys) t).end ≡ root.end)) (sym above)
    ((refl, spine.inner.root_of.0, kept, spine.inner.root_is_proper, spine.cover.0), refl)
root_after g root (m ∷ nodes) leaves place at gone come to seq node (Move next) top spine there is (change, key, top_is, key_names, changed) =
    let names = spine.inner.root_of.1 in
    let moved = succeeds g node at gone come to seq (Move next) is in
    let end = key_names.end ∙ moved.end in
    let can = can_name g root (m ∷ nodes) [] leaves place node key spine names there end key_names.one in
    let root_moves = succeeds g root place 1 (key ∷ []) (drop 1 to) ((seq + 1) % 2 ^ 64) change changed in
    let is_set = after_is_set root.children place key (slice_get_within root.children place (named_at root.from root.children (m ∷ nodes) place node names there).0 (named_at root.from root.children (m ∷ nodes) place node names there).1) in
    let new_names = names_moved root.from root.children (m ∷ nodes) place node (Move next) (children_after node.children at gone come) key names there moved end (sym key_names.ptr) in
    subst (λ (t : Option NodeChange). IsRootAfter g root (root_next root (m ∷ nodes) (Move next) t) (m ∷ nodes) (nodes_next (m ∷ nodes) place (Move next)) × ((root_next root (m ∷ nodes) (Move next) t).end ≡ root.end)) (sym top_is) (
      (
        root_moves.from,
        root_moves.level ∙ spine.inner.root_of.0,
        subst (λ n. NameNodes n (node_next root change).children (nodes_next (m ∷ nodes) place (Move next))) (sym root_moves.from)
            (subst (λ ks. NameNodes root.from ks (nodes_next (m ∷ nodes) place (Move next))) (sym (root_moves.children_are ∙ is_set)) new_names),
        next_proper g root (node_next root change) place 1 (key ∷ []) can root_moves,
        next_covers g root (node_next root change) place 1 (key ∷ []) can root_moves,
      ),
      root_moves.end,
    )

-- ---- the nodes that stay but for their room

pub next_same : (a b : Inner) (change : NodeChange) → SameNode a b → SameNode (node_next a change) (node_next b change)
next_same a b (Set keys) same = record { node = record { level = same.node.level; from = same.node.from; end = same.node.end; ptr = same.node.ptr; seq = same.node.seq; taken = same.node.taken; loaded = same.node.loaded }; children_are = ap (λ ks. with_children keys ks) same.children_are }
next_same a b (Move next) same = record { node = record { level = refl; from = refl; end = refl; ptr = refl; seq = refl; taken = refl; loaded = refl }; children_are = refl }

pub nodes_next_same : (xs ys : List Inner) (place : ℕ) (change : NodeChange) → SameNodes xs ys → SameNodes (nodes_next xs place change) (nodes_next ys place change)
nodes_next_same [] [] place change same = tt
nodes_next_same [] (y ∷ ys) place change same = absurd same
nodes_next_same (x ∷ xs) [] place change same = absurd same
nodes_next_same (x ∷ xs) (y ∷ ys) zero change same = (next_same x y change same.0, same.1)
nodes_next_same (x ∷ xs) (y ∷ ys) (suc place) change same = (same.0, nodes_next_same xs ys place change same.1)

pub root_next_same : (r s : Inner) (xs ys : List Inner) (bottom_change : NodeChange) (top : Option NodeChange) → SameNode r s → SameNodes xs ys → SameNode (root_next r xs bottom_change top) (root_next s ys bottom_change top)
root_next_same r s [] [] change top root same = next_same r s change root
root_next_same r s [] (y ∷ ys) change top root same = absurd same
root_next_same r s (x ∷ xs) [] change top root same = absurd same
root_next_same r s (x ∷ xs) (y ∷ ys) change None root same = root
root_next_same r s (x ∷ xs) (y ∷ ys) change (Some top) root same = next_same r s top root

-- a change that was planned before the node got its room can be taken now
pub can_take : (g : Geometry) (a b : Inner) (at gone : ℕ) (come : List Key) (to : List Ptr) (seq : ℕ) (change : NodeChange) → CanChange g a at gone come → IsChangeOf g a at gone come to seq change → SameNode a b
    → gone - 1 + length come ≤ b.spare → CanTake b change
can_take g a b at gone come to seq (Set keys) can is same room = (
  omega (arith, is.few),
  subst (λ ks. CoverRange b.from b.end (with_children keys ks)) (sym same.children_are)
      (subst (λ ks. CoverRange b.from b.end ks) (sym is.put)
      (subst (λ n. CoverRange n b.end (children_after a.children at gone come)) (sym same.node.from) (subst (λ n. CoverRange a.from n (children_after a.children at gone come)) (sym same.node.end) can.cover))),
)
can_take g a b at gone come to seq (Move next) can is same room = tt

-- ---- the key that names a node

pub three_words : (key : Key) → key.count ≡ 1 → set_words 1 (key ∷ []) ≡ 3
three_words key one = omega (arith, words_cons key [], length-words_of key, one)

pub names_of : (key : Key) (node : Inner) (ptr : Ptr) → key.end ≡ node.end → pointer_of key ≡ Some ptr → ptr ≡ node.ptr → key.count ≡ 1 → Names key node
names_of key node ptr end points at one = record { end = end; ptr = pointer_at key ptr points ∙ at; one = one }

pub change_named : {E : Type 0} (g : Geometry) (root : Inner) (place : ℕ) (key : Key) (next : Inner) (to : List Ptr) (seq : ℕ) (answer : Result NodeChange E) → Names key next → IfOk answer (IsChangeOf g root place 1 (key ∷ []) to seq)
    → IfOk answer (λ change. (k : Key) × Names k next × IsChangeOf g root place 1 (k ∷ []) to seq change)
change_named g root place key next to seq (Ok change) names is = (key, names, is)
change_named g root place key next to seq (Err e) names is = tt

pub high_names : (g : Geometry) (root : Inner) (below : List Inner) (leaves : List LeafRange) (place : ℕ) (node : Inner) → IsSpine g root below leaves → slice_get below place ≡ Some node → NameNodes root.from root.children below
high_names g root [] leaves place node spine there = absurd (cc)
high_names g root (m ∷ nodes) leaves place node spine there = spine.inner.root_of.1

pub root_can : (g : Geometry) (root : Inner) (below : List Inner) (leaves : List LeafRange) (place : ℕ) (node next : Inner) (key : Key) → IsSpine g root below leaves → slice_get below place ≡ Some node → next.end ≡ node.end → key.end ≡ next.end → key.count ≡ 1
    → CanChange g root place 1 (key ∷ [])
root_can g root below leaves place node next key spine there same end one = can_name g root below [] leaves place node key spine (high_names g root below leaves place node spine there) there (end ∙ same) one

-- ---- room

pub got_room : (old new : Spine) (root : Inner) → new ≡ record old { root = root } → SameNode old.root root → IsSameTree old new
got_room old new root is same = subst (λ (v : Spine). IsSameTree old v) (sym is) (record { geometry_is = refl; leaves_are = refl; root_is = same; below_are = same_nodes old.below })

pub node_of : (old new : Inner) → IsSameNode old new → new.children ≡ old.children → SameNode old new
node_of old new same children = record { node = same; children_are = children }

pub item_there : (nodes : List Inner) (i : ℕ) (x : Inner) → i < length nodes → x ≡ get_or nodes i x → slice_get nodes i ≡ Some x
item_there nodes i x within is = slice_get_read nodes (length nodes) i x refl within is

pub set_get : (nodes : List Inner) (i : ℕ) (x node : Inner) → i < length nodes → slice_get (set nodes i x) i ≡ Some node → x ≡ node
set_get [] i x node within there = absurd (omega arith)
set_get (m ∷ nodes) zero x node within there = cc
set_get (m ∷ nodes) (suc i) x node within there = set_get nodes i x node (omega arith) there

pub room_is : {A E : Type 0} (answer : Result A E) (P Q : Type 0) → OnOk answer P → (P → Q) → OnOk answer Q
room_is (Ok a) P Q p so = so p
room_is (Err e) P Q p so = tt

-- ---- how many places are needed

pub top_moves : (g : Geometry) (root : Inner) (below : List Inner) (place : ℕ) (next : Inner) (change : NodeChange) (to : List Ptr) (seq : ℕ) (top : NodeChange) → 0 < length below → change ≡ Move next
    → ((key : Key) × Names key next × IsChangeOf g root place 1 (key ∷ []) (drop 1 to) ((seq + 1) % 2 ^ 64) top) → IsTopChange g root below place change to seq (Some top)
top_moves g root [] place next change to seq top some is (key, names, changed) = absurd (omega (arith, some))
top_moves g root (m ∷ nodes) place next change to seq top some is (key, names, changed) =
    subst (λ (ch : NodeChange). IsTopChange g root (m ∷ nodes) place ch to seq (Some top)) (sym is) (top, key, refl, names, changed)

pub same_there : (s : Spine) (place : ℕ) (a b : Inner) → slice_get (bottom s.root s.below) place ≡ Some a → slice_get (bottom s.root s.below) place ≡ Some b → a ≡ b
same_there s place a b p q = cc

pub some_place : (s : Spine) (node : Inner) (n k : ℕ) → has_room s.geometry node n ≡ false → moves s node n ≤ k → 0 < k
some_place s node n k none = go (has_room s.geometry node n) (s.root.level == 1) (has_room s.geometry s.root 3) none
  where
    go : (a b d : Bool) → a ≡ false → (if a then 0 else if b then 1 else if d then 1 else 2) ≤ k → 0 < k
    go true b d e few = absurd (cc)
    go false true d e few = omega (arith, few)
    go false false true e few = omega (arith, few)
    go false false false e few = omega (arith, few)

high_level : (g : Geometry) (root : Inner) (below : List Inner) (leaves : List LeafRange) → IsSpine g root below leaves → 0 < length below → root.level ≡ 2
high_level g root [] leaves spine some = absurd (omega (arith, some))
high_level g root (m ∷ nodes) leaves spine some = spine.inner.root_of.0

pub more_places : (s : Spine) (node : Inner) (at gone : ℕ) (come : List Key) (to : List Ptr) (seq : ℕ) (change : NodeChange) → IsChangeOf s.geometry node at gone come to seq change
    → moves s node (set_words gone come) ≤ length to → IsSpine s.geometry s.root s.below s.leaves → HavePlaces s change to
more_places s node at gone come to seq (Set keys) is few spine next same some = absurd (cc)
more_places s node at gone come to seq (Move moved) is few spine next same some =
    go (has_room s.geometry node (set_words gone come)) (s.root.level == 1) (has_room s.geometry s.root 3) is.0 (eqb_tells s.root.level 1) refl few
  where
    two : s.root.level ≡ 2
    two = high_level s.geometry s.root s.below s.leaves spine some

    go : (a b d : Bool) → a ≡ false → ((b ≡ true) × (s.root.level ≡ 1)) ⊎ ((b ≡ false) × (s.root.level ≢ 1)) → has_room s.geometry s.root 3 ≡ d → (if a then 0 else if b then 1 else if d then 1 else 2) ≤ length to
        → (1 ≤ length to) × (has_room s.geometry s.root 3 ≡ false → 2 ≤ length to)
    go true b d e low f few = absurd (cc)
    go false true d e (inl low) f few = absurd (omega (arith, two, low.1))
    go false true d e (inr high) f few = absurd (let h = high.0 in cc)
    go false false true e low f few = (omega (arith, few), λ none. absurd (cc))
    go false false false e low f few = (omega (arith, few), λ none. omega (arith, few))

-- ---- a node that changes in its place

pub same_changed : (nodes : List Inner) (i : ℕ) (x new : Inner) (change : NodeChange) → x ≡ get_or nodes i x → SameNode (node_next x change) new → SameNodes (nodes_next nodes i change) (set nodes i new)
same_changed [] i x new change is same = tt
same_changed (m ∷ nodes) zero x new change is same = (subst (λ (n : Inner). SameNode (node_next n change) new) is same, same_nodes nodes)
same_changed (m ∷ nodes) (suc i) x new change is same = (same_node m, same_changed nodes i x new change is same)
