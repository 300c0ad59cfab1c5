-- What the first set of a new node says.
use Rattle.std.proofs.Common.{◌≡◌, ℕ, ◌<◌, true, false, List, [], ◌∷◌, ◌++◌, map, refl, sym, ap, ◌∙◌, subst, arith, append-nil, append_assoc, if◌then◌else◌, nat_lt}
use Rattle.std.specs.Prelude.{All, AllPairs, reverse}
use Rattle.std.proofs.lemmas.Bool.{le-ltb}
use Rattle.std.proofs.lemmas.List.Elements.{All-head, All-tail}
use Rattle.bc_begun.proofs.Said.{keys_say, ordered_said, pending_say, said_is}
use Rattle.bc_disk.specs.declared.geometry.Geometry.{Geometry}
use Rattle.bc_facts.specs.Seen.{seen_child, seen_set}
use Rattle.bc_image.specs.Children.{child_before, with_child, with_children}
use Rattle.bc_inner.specs.Inner.{Inner, children_set}
use Rattle.bc_key.specs.declared.key.Key.{Key}
use Rattle.bc_leaves.specs.Keys.{last_said, ref_said}
use Rattle.bc_meta.proofs.Lists.{by_test}
use Rattle.bc_meta.specs.Tree as tree
use Rattle.bc_new_nodes.specs.Asked.{HasAllPending}
use Rattle.bc_node.specs.Leaf.{Leaf, pending_set}
use Rattle.bc_remains.proofs.Children.{children_are}
use Rattle.bc_spine.proofs.Lists.{AllPairs-across}
use Rattle.bc_tree.proofs.Puts.{live}
use Rattle.bc_tree.specs.Children.{HasPointer}

-- ---- a leaf

-- It says what the leaf's keys say.
pub leaf_says : (g : Geometry) (leaf : Leaf) → HasAllPending leaf → (s : ℕ)
    → ref_said (last_said leaf.keys s)
    ≡ ref_said (last_said (tree.set_keys (seen_set g true (pending_set leaf) ∷ [])) s)
leaf_says g leaf h s =
    keys_say h.list leaf.keys s h.last.order h.last.shown
    ∙ ap ref_said (sym (said_is leaf.pending s ∙ sym (ordered_said leaf.pending s h.added.order)
    ∙ pending_say h.list leaf.pending s h.added.order h.added.shown))
    ∙ ap (λ (ks : List Key). ref_said (last_said ks s)) (sym (append-nil (reverse leaf.pending)))

-- ---- an inner node

-- a key comes behind the children that end before it
behind_all : (key : Key) (front : List Key) → All (λ (c : Key). c.end < key.end) front
    → with_child key (front ++ []) ≡ front ++ with_child key []
behind_all key [] all = refl
behind_all key (c ∷ front) all =
    let low = All-head (λ (d : Key). d.end < key.end) c front all in
    let no_less = le-ltb key.end c.end (omega (arith, low)) in
    let later = behind_all key front (All-tail (λ (d : Key). d.end < key.end) c front all) in
    by_test key.end c.end (λ t. (if nat_lt key.end c.end then child_before key (c ∷ (front ++ []))
    else if t then child_before key (front ++ []) else c ∷ with_child key (front ++ []))
    ≡ c ∷ (front ++ with_child key []))
    (λ same. absurd (omega (arith, same, low)))
    (λ ne. rw no_less (ap (λ (ks : List Key). c ∷ ks) later))

abbrev pub EndBefore : Key → Key → Type 0
EndBefore a b = a.end < b.end

ends_before : (front : List Key) (k : Key) (ks : List Key) → AllPairs EndBefore (front ++ k ∷ ks)
    → All (λ (c : Key). c.end < k.end) front
ends_before front k ks order i d within =
    AllPairs-across EndBefore front (k ∷ ks) order i d within 0 k (omega arith)

-- so children in order, none of which is bare, are those that a set of them alone gives
kept : (front ks : List Key) → AllPairs EndBefore (front ++ ks) → All HasPointer ks
    → with_children ks front ≡ front ++ ks
kept front [] order live = sym (append-nil front)
kept front (k ∷ ks) order some =
    let low = ends_before front k ks order in
    let one : with_child k front ≡ front ++ k ∷ [] =
    ap (with_child k) (sym (append-nil front)) ∙ behind_all k front low
    ∙ ap (λ (xs : List Key). front ++ xs) (live k [] (All-head HasPointer k ks some)) in
    ap (with_children ks) one
    ∙ kept (front ++ k ∷ []) ks
    (subst (λ (xs : List Key). AllPairs EndBefore xs) (sym (append_assoc front (k ∷ []) ks)) order)
    (All-tail HasPointer k ks some)
    ∙ append_assoc front (k ∷ []) ks

-- the core sees just the node's children in its first set
pub children_say : (g : Geometry) (n : Inner) → AllPairs EndBefore n.children
    → All HasPointer n.children
    → tree.children_of (seen_set g false (children_set n) ∷ []) ≡ map (seen_child g) n.children
children_say g n order some =
    children_are g (children_set n ∷ [])
    ∙ ap (map (seen_child g)) (ap (λ (ks : List Key). with_children ks []) (append-nil n.children)
    ∙ kept [] n.children order some)
