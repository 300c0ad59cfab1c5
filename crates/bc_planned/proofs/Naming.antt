-- What the nodes of a tree name, and those that a plan brings.
use Rattle.std.proofs.Common.{◌≡◌, inl, inr, ℕ, ◌+◌, List, [], ◌∷◌, ◌++◌, Option, Some, drop, take, refl, sym, ap, ◌∙◌, subst}
use Rattle.std.specs.Prelude.{◌%◌, ◌^◌, All, Contains}
use Rattle.std.proofs.lemmas.List.Elements.{All-append, All-cons, All-contains, All-contains_itself, All-drop, All-head, All-nil, All-tail, All-take, All-weaker}
use Rattle.bc_disk.specs.declared.geometry.Geometry.{Geometry}
use Rattle.bc_inner.specs.Inner.{Inner}
use Rattle.bc_key.specs.Key.{ptr_at}
use Rattle.bc_key.specs.declared.key.Key.{Key}
use Rattle.bc_key.specs.declared.ptr.Ptr.{Ptr}
use Rattle.bc_plan.specs.Write.{behind_of, lowest_of}
use Rattle.bc_planned.proofs.Shapes.{moved_one, none_some, one, set_moved}
use Rattle.bc_planned.specs.Laws.{Agree, LawChildren, LawNewMoved, LawNewSplit, StandEach}
use Rattle.bc_planned.specs.Placed.{Names, NamesAll}
use Rattle.bc_spine.specs.declared.leaf.LeafRange.{LeafRange}
use Rattle.bc_tree.proofs.Moves.{all_at}
use Rattle.bc_tree.specs.Change.{IsChangeOf}
use Rattle.bc_tree.specs.Group.{AreTwo}
use Rattle.bc_tree.specs.Halves.{IsAboveHalves}
use Rattle.bc_tree.specs.Plan.{IsKeyOf, IsTopChange}
use Rattle.bc_tree.specs.Spine.{IsSpine, NameLeaves, NameNodes, Spine, bottom, children_in}
use Rattle.bc_tree.specs.declared.beside.Beside.{Beside}
use Rattle.bc_tree.specs.declared.beside.Beside.TheVariants.{Stays}
use Rattle.bc_tree.specs.declared.change.NodeChange.{NodeChange}
use Rattle.bc_tree.specs.declared.change.NodeChange.TheVariants.{Move, Set}

both_all : {X : Type 0} (P : X → Type 0) (xs ys : List X) → All P (xs ++ ys) → All P xs × All P ys
both_all P [] ys all = (All-nil P, all)
both_all P (x ∷ xs) ys all =
    let rest = both_all P xs ys (All-tail P x (xs ++ ys) all) in
    (All-cons P x xs (All-head P x (xs ++ ys) all) rest.0, rest.1)

each_all : {X : Type 0} (P : X → Type 0) (xs : List X) → ((x : X) → Contains xs x → P x) → All P xs
each_all P xs each = All-weaker (Contains xs) P each xs (All-contains_itself xs)

module _ (Q : Ptr → Type 0) where
  -- ---- the tree

  by_leaves : (keys : List Key) (ls : List LeafRange) → NameLeaves keys ls
      → All (λ (l : LeafRange). Q l.ptr) ls → All (Names Q) keys
  by_leaves [] [] names all = All-nil (Names Q)
  by_leaves [] (l ∷ ls) names all = absurd names
  by_leaves (k ∷ ks) [] names all = absurd names
  by_leaves (k ∷ ks) (l ∷ ls) (end, ptr, more) all = All-cons (Names Q) k ks
      (subst Q ptr (All-head (λ (l : LeafRange). Q l.ptr) l ls all))
      (by_leaves ks ls more (All-tail (λ (l : LeafRange). Q l.ptr) l ls all))

  by_nodes : (from : ℕ) (keys : List Key) (ns : List Inner) → NameNodes from keys ns
      → All (λ (n : Inner). Q n.ptr) ns → All (Names Q) keys
  by_nodes from [] [] names all = All-nil (Names Q)
  by_nodes from [] (n ∷ ns) names all = absurd names
  by_nodes from (k ∷ ks) [] names all = absurd names
  by_nodes from (k ∷ ks) (n ∷ ns) (level, starts, end, ptr, more) all = All-cons (Names Q) k ks
      (subst Q ptr (All-head (λ (n : Inner). Q n.ptr) n ns all))
      (by_nodes k.end ks ns more (All-tail (λ (n : Inner). Q n.ptr) n ns all))

  in_each : (ns : List Inner) → All (Names Q) (children_in ns) → All (NamesAll Q) ns
  in_each [] all = All-nil (NamesAll Q)
  in_each (n ∷ ns) all =
      let parts = both_all (Names Q) n.children (children_in ns) all in
      All-cons (NamesAll Q) n ns parts.0 (in_each ns parts.1)

  module _ (g : Geometry) (root : Inner) (leaves : List LeafRange)
      (stand : All (λ (l : LeafRange). Q l.ptr) leaves) where
    in_bottom : (below : List Inner) → IsSpine g root below leaves
        → All (NamesAll Q) (bottom root below)
    in_bottom below is = in_each (bottom root below)
        (by_leaves (children_in (bottom root below)) leaves is.names stand)

    in_tree : (below : List Inner) → IsSpine g root below leaves
        → All (λ (n : Inner). Q n.ptr) below → All (NamesAll Q) (root ∷ below)
    in_tree [] is nodes = in_bottom [] is
    in_tree (m ∷ ms) is nodes = All-cons (NamesAll Q) root (m ∷ ms)
        (by_nodes root.from root.children (m ∷ ms) is.inner.root_of.1 nodes)
        (in_bottom (m ∷ ms) is)

  tree_names : (s : Spine) → IsSpine s.geometry s.root s.below s.leaves → StandEach Q s
      → All (NamesAll Q) (s.root ∷ s.below)
  tree_names s is stand = in_tree s.geometry s.root s.leaves
      (each_all (λ (l : LeafRange). Q l.ptr) s.leaves stand.leaves) s.below is
      (each_all (λ (n : Inner). Q n.ptr) s.below stand.below)

  bottom_names : (s : Spine) → IsSpine s.geometry s.root s.below s.leaves → StandEach Q s
      → All (NamesAll Q) (bottom s.root s.below)
  bottom_names s is stand = in_bottom s.geometry s.root s.leaves
      (each_all (λ (l : LeafRange). Q l.ptr) s.leaves stand.leaves) s.below is

  -- ---- nodes that change

  -- of some children that give way to others
  after_names : (old come : List Key) (at gone : ℕ) → All (Names Q) old → All (Names Q) come
      → All (Names Q) (take at old ++ come ++ drop (at + gone) old)
  after_names old come at gone all more = All-append (Names Q) (take at old ++ come)
      (drop (at + gone) old)
      (All-append (Names Q) (take at old) come (All-take (Names Q) at old all) more)
      (All-drop (Names Q) (at + gone) old all)

  change_names : (g : Geometry) (node : Inner) (at gone : ℕ) (come : List Key) (ts : List Ptr)
      (seq : ℕ) (b : NodeChange) → IsChangeOf g node at gone come ts seq b → NamesAll Q node
      → All (Names Q) come → (n : Inner) → b ≡ Move n → NamesAll Q n
  change_names g node at gone come ts seq (Set ks) is all more n e = absurd (set_moved e)
  change_names g node at gone come ts seq (Move next) (full, (ptr, there, is)) all more n e =
      subst (NamesAll Q) (moved_one e)
      (subst (λ ks. All (Names Q) ks) (sym is.children_are)
      (after_names node.children come at gone all more))

  one_name : (k : Key) → Q (ptr_at k 0) → All (Names Q) (k ∷ [])
  one_name k is = All-cons (Names Q) k [] is (All-nil (Names Q))

  two_names : (j k : Key) → Q (ptr_at j 0) → Q (ptr_at k 0) → All (Names Q) (j ∷ k ∷ [])
  two_names j k is also = All-cons (Names Q) j (k ∷ []) is (one_name k also)

  key_names : (end : ℕ) (place : Ptr) (key : Key) → IsKeyOf end place key → Q place
      → Q (ptr_at key 0)
  key_names end place key is so = subst Q (sym is.ptr) so

  -- the root, where the node below it moves to one of these places
  top_names : (g : Geometry) (root : Inner) (below : List Inner) (place : ℕ) (b : NodeChange)
      (ts : List Ptr) (seq : ℕ) (t : Option NodeChange)
      → IsTopChange g root below place b ts seq t → NamesAll Q root
      → ((next : Inner) → b ≡ Move next → Q next.ptr) → (n : Inner) → t ≡ Some (Move n)
      → NamesAll Q n
  top_names g root [] place b ts seq t is all moves n e = absurd (none_some (sym is ∙ e))
  top_names g root (m ∷ ms) place (Set ks) ts seq t is all moves n e =
      absurd (none_some (sym is ∙ e))
  top_names g root (m ∷ ms) place (Move next) ts seq t (c, key, t_is, names, changed) all moves n e =
      change_names g root place 1 (key ∷ []) (drop 1 ts) ((seq + 1) % 2 ^ 64) c changed all
      (one_name key (key_names next.end next.ptr key names (moves next refl))) n
      (one (sym t_is ∙ e))

  -- where a node moves
  change_place : (g : Geometry) (node : Inner) (at gone : ℕ) (come : List Key) (ts : List Ptr)
      (seq : ℕ) (b : NodeChange) → IsChangeOf g node at gone come ts seq b → All Q ts
      → (next : Inner) → b ≡ Move next → Q next.ptr
  change_place g node at gone come ts seq (Set ks) is all next e = absurd (set_moved e)
  change_place g node at gone come ts seq (Move up) (full, (ptr, there, is)) all next e =
      subst (λ (x : Inner). Q x.ptr) (moved_one e)
      (subst Q (sym is.ptr) (all_at Q ts 0 ptr all there))

  -- ---- two in the place of one

  module _ (g : Geometry) (root : Inner) (place from end cut : ℕ) (all : List Key) (ts : List Ptr)
      (seq next_seq : ℕ) (low high : Inner) (two : AreTwo from end cut all ts seq low high)
      (places : All Q ts) (children : All (Names Q) all) (root_names : NamesAll Q root) (b : NodeChange)
      (t : Option NodeChange) (x : Beside) where
    low_names : NamesAll Q low
    low_names = subst (λ ks. All (Names Q) ks) (sym two.low_is.children_are)
        (All-take (Names Q) cut all children)

    high_names : NamesAll Q high
    high_names = subst (λ ks. All (Names Q) ks) (sym two.high_is.children_are)
        (All-drop (Names Q) cut all children)

    low_place : Q low.ptr
    low_place = subst Q (sym two.low_is.ptr) (all_at Q ts 0 two.low_ptr places two.places.0)

    high_place : Q high.ptr
    high_place = subst Q (sym two.high_is.ptr) (all_at Q ts 1 two.high_ptr places two.places.1)

    parent_named : (below : List Inner)
        → IsAboveHalves g root below place low high (drop 2 ts) next_seq b t x
        → (n : Inner) → b ≡ Move n → NamesAll Q n
    parent_named [] (r, under) n e = subst (NamesAll Q) (moved_one (sym r.bottom_is ∙ e))
        (subst (λ ks. All (Names Q) ks) (sym r.root_is.children_are)
        (two_names r.low_key r.high_key (key_names low.end low.ptr r.low_key r.names.0 low_place)
        (key_names high.end high.ptr r.high_key r.names.1 high_place)))
    parent_named (m ∷ ms) (r, comes) n e =
        subst (NamesAll Q) (moved_one (sym r.bottom_is ∙ e)) low_names

    root_named : (below : List Inner)
        → IsAboveHalves g root below place low high (drop 2 ts) next_seq b t x
        → (n : Inner) → t ≡ Some (Move n) → NamesAll Q n
    root_named [] (r, under) n e = absurd (none_some (sym r.none ∙ e))
    root_named (m ∷ ms) (r, comes) n e =
        change_names g root place 1 (r.low_key ∷ r.high_key ∷ []) (drop 2 ts) next_seq r.change
        r.change_is root_names
        (two_names r.low_key r.high_key (key_names low.end low.ptr r.low_key r.names.0 low_place)
        (key_names high.end high.ptr r.high_key r.names.1 high_place)) n (one (sym r.top_is ∙ e))

    behind_named : (below : List Inner)
        → IsAboveHalves g root below place low high (drop 2 ts) next_seq b t x
        → (n : Inner) → behind_of x ≡ Some n → NamesAll Q n
    behind_named [] (r, under) n e =
        subst (NamesAll Q) (one (sym (ap behind_of under) ∙ e)) high_names
    behind_named (m ∷ ms) (r, comes) n e =
        subst (NamesAll Q) (one (sym (ap behind_of comes) ∙ e)) high_names

    lowest_named : (below : List Inner)
        → IsAboveHalves g root below place low high (drop 2 ts) next_seq b t x
        → (n : Inner) → lowest_of x ≡ Some n → NamesAll Q n
    lowest_named [] (r, under) n e =
        subst (NamesAll Q) (one (sym (ap lowest_of under) ∙ e)) low_names
    lowest_named (m ∷ ms) (r, comes) n e = absurd (none_some (sym (ap lowest_of comes) ∙ e))

pub law_children : LawChildren
law_children f h s is stand n there =
    let Q = Agree f h in
    All-contains (NamesAll Q) (s.root ∷ s.below) n (tree_names Q s is stand) there

no_behind : (x : Beside) (n : Inner) → x ≡ Stays → behind_of x ≡ Some n → ⊥
no_behind x n stays e = none_some (sym (ap behind_of stays) ∙ e)

no_lowest : (x : Beside) (n : Inner) → x ≡ Stays → lowest_of x ≡ Some n → ⊥
no_lowest x n stays e = none_some (sym (ap lowest_of stays) ∙ e)

pub law_new_moved : LawNewMoved
law_new_moved f h s parts leaf to seq p is stand places r =
    let Q = Agree f h in
    let all = each_all Q to places in
    let more = All-drop Q 1 to all in
    let m = r.moves in
    let root = All-head (NamesAll Q) s.root s.below (tree_names Q s is stand) in
    let node = all_at (NamesAll Q) (bottom s.root s.below) r.place.node m.above.node
    (bottom_names Q s is stand) m.above.there in
    let key = key_names Q p.first.end p.first.ptr m.key m.names
    (subst Q (sym r.leaf_comes.is.stands) (all_at Q to 0 r.ptr all r.first_place)) in record {
      parent = change_names Q s.geometry m.above.node r.place.child 1 (m.key ∷ []) (drop 1 to) _
          p.bottom m.above.above.change_is node (one_name Q m.key key);
      root = top_names Q s.geometry s.root s.below r.place.node p.bottom (drop 1 to) _ p.top
          m.above.above.top_is root (change_place Q s.geometry m.above.node r.place.child 1
          (m.key ∷ []) (drop 1 to) _ p.bottom m.above.above.change_is more);
      behind = λ n e. absurd (no_behind p.beside n m.above.beside_is e);
      lowest = λ n e. absurd (no_lowest p.beside n m.above.beside_is e);
    }

pub law_new_split : LawNewSplit
law_new_split f h s leaf to seq p is stand places r =
    let Q = Agree f h in
    let all = each_all Q to places in
    let more = All-drop Q 2 to all in
    let two = r.halves in
    let root = All-head (NamesAll Q) s.root s.below (tree_names Q s is stand) in
    let low = subst Q (sym two.low_comes.is.stands) (all_at Q to 0 two.low_ptr all two.places.0) in
    let high = subst Q (sym two.high_comes.is.stands) (all_at Q to 1 two.high_ptr all two.places.1) in
    elim r.moves [
      | inl (fits, m) ↦ (
          let node = all_at (NamesAll Q) (bottom s.root s.below) r.place.node m.above.node
          (bottom_names Q s is stand) m.above.there in
          let keys = two_names Q m.low_key m.high_key
          (key_names Q p.first.end p.first.ptr m.low_key m.low_names low)
          (key_names Q r.high.end r.high.ptr m.high_key m.high_names high) in record {
            parent = change_names Q s.geometry m.above.node r.place.child 1
                (m.low_key ∷ m.high_key ∷ []) (drop 2 to) _ p.bottom m.above.above.change_is node
                keys;
            root = top_names Q s.geometry s.root s.below r.place.node p.bottom (drop 2 to) _ p.top
                m.above.above.top_is root (change_place Q s.geometry m.above.node r.place.child 1
                (m.low_key ∷ m.high_key ∷ []) (drop 2 to) _ p.bottom m.above.above.change_is more);
            behind = λ n e. absurd (no_behind p.beside n m.above.beside_is e);
            lowest = λ n e. absurd (no_lowest p.beside n m.above.beside_is e);
          })
      | inr (full, m) ↦ (
          let v = m.above.above in
          let node = all_at (NamesAll Q) (bottom s.root s.below) r.place.node m.above.node
          (bottom_names Q s is stand) m.above.there in
          let keys = two_names Q m.low_key m.high_key
          (key_names Q p.first.end p.first.ptr m.low_key m.low_names low)
          (key_names Q r.high.end r.high.ptr m.high_key m.high_names high) in
          let children = after_names Q m.above.node.children (m.low_key ∷ m.high_key ∷ [])
          r.place.child 1 node keys in record {
            parent = parent_named Q s.geometry s.root r.place.node _ _ _ _ (drop 2 to) _ _ v.low v.high
                v.two more children root p.bottom p.top p.beside s.below v.above;
            root = root_named Q s.geometry s.root r.place.node _ _ _ _ (drop 2 to) _ _ v.low v.high
                v.two more children root p.bottom p.top p.beside s.below v.above;
            behind = behind_named Q s.geometry s.root r.place.node _ _ _ _ (drop 2 to) _ _ v.low v.high
                v.two more children root p.bottom p.top p.beside s.below v.above;
            lowest = lowest_named Q s.geometry s.root r.place.node _ _ _ _ (drop 2 to) _ _ v.low v.high
                v.two more children root p.bottom p.top p.beside s.below v.above;
          })
    ]
