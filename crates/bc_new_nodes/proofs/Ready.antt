-- Once the new nodes stand, they are what a change of the tree may name.
use Rattle.std.proofs.Common.{◌≡◌, ◌⊎◌, inl, inr, ℕ, zero, suc, ◌+◌, ◌-◌, ◌<◌, Bool, true, false, List, [], ◌∷◌, ◌++◌, map, length, Option, Some, None, refl, sym, ap, ◌∙◌, subst, arith}
use Rattle.std.specs.Prelude.{AllPairs, All, Contains, is_some, option_to_list, slice_get, slice_index_or}
use Rattle.std.proofs.lemmas.List.Elements.{Contains-append_cases, Contains-append_left, Contains-append_right}
use Rattle.bc_books.specs.Shelves.{Held, Tree}
use Rattle.bc_cache.proofs.Stands.{none_added}
use Rattle.bc_change.specs.Goes.{beside_come, moved, new_nodes, second_comes, top_moved}
use Rattle.bc_change.specs.Ready.{HasBoth, IsNewInner, IsNewLeaf, IsReadyFor, IsReadyInner, IsReadyLeaf, IsUnchanged}
use Rattle.bc_disk.specs.Disk.{DiskFacts}
use Rattle.bc_disk.specs.declared.geometry.Geometry.{Geometry}
use Rattle.bc_events.specs.Acts.{purpose_of}
use Rattle.bc_events.specs.Run as core
use Rattle.bc_events.specs.declared.event.NewNode.{NewNode as Named}
use Rattle.bc_facts.specs.Layout.{IsLayoutOf}
use Rattle.bc_facts.specs.Seen.{seen_child, seen_set}
use Rattle.bc_inner.specs.Inner.{Inner, children_set}
use Rattle.bc_key.specs.Words.{ptr_word}
use Rattle.bc_key.specs.declared.ptr.Ptr.{Ptr}
use Rattle.bc_leaves.specs.Enabled.{IsStable}
use Rattle.bc_leaves.specs.Keys.{last_said, ref_said}
use Rattle.bc_leaves.specs.Parts.{Draft, Free, NoNode, Role, inner_node_of, node_of}
use Rattle.bc_leaves.specs.Parts as parts
use Rattle.bc_meta.specs.Facts.{In}
use Rattle.bc_meta.specs.Layout.{set_len}
use Rattle.bc_meta.specs.Records.{Node}
use Rattle.bc_meta.specs.Tree.{NodeSet, children_of, set_keys}
use Rattle.bc_new_node.specs.Kind.{IsInnerOf, IsLeafOf, inner_node, leaf_node}
use Rattle.bc_new_node.specs.bc_drafts.Draft.{IsDraftInner, IsDraftLeaf, IsStableInner, IsStableLeaf, StandsFirst}
use Rattle.bc_new_node.specs.bc_hand.Seats.{View, world}
use Rattle.bc_new_node.specs.bc_held.Held.{IsHeldFor, number_in}
use Rattle.bc_new_node.specs.bc_held.declared.held.HeldBucket.{HeldBucket}
use Rattle.bc_new_node.proofs.of_bc_held.Keeping.{number_of}
use Rattle.bc_new_node.specs.bc_machine.Containers.{Rests, child_of, inner_slot, sets_len}
use Rattle.bc_new_node.specs.bc_machine.World.{FromEach, Origin}
use Rattle.bc_new_nodes.proofs.Same.{leaf_kind}
use Rattle.bc_new_nodes.proofs.Pure.{EndBefore, children_say, leaf_says}
use Rattle.bc_new_nodes.specs.Course.{AreThere, Brings, HasInnerIn, HasLeafIn, HasOnly, IsThere}
use Rattle.bc_planned.specs.Nodes.{are_under, comes_behind, is_leaf, is_moved, nodes_of, number_in as range_number, range_of, slot_of, top_is_moved, when}
use Rattle.bc_node.specs.Leaf.{AreLast, AreLastOfAll, Leaf, pending_set}
use Rattle.bc_node.specs.Writing.{set_of}
use Rattle.bc_plan.specs.Write.{behind_of, lowest_of}
use Rattle.bc_plan.specs.declared.write.NewNode.{NewNode}
use Rattle.bc_plan.specs.declared.write.NewNode.TheVariants.{Behind, First, Lowest, Parent, Root, Second}
use Rattle.bc_set.specs.Records.{set_sectors}
use Rattle.bc_shares.specs.Shares.{books_of, inner_share, leaf_share, lost_set, node_share, written_sets}
use Rattle.bc_spine.specs.declared.leaf.LeafRange.{LeafRange}
use Rattle.bc_tree.specs.Children.{HasPointer}
use Rattle.bc_tree.specs.declared.beside.Beside.{Beside}
use Rattle.bc_tree.specs.declared.beside.Beside.TheVariants.{Comes, Goes, Moves, Stays, Under}
use Rattle.bc_tree.specs.declared.change.NodeChange.{NodeChange}
use Rattle.bc_tree.specs.declared.change.NodeChange.TheVariants.{Move, Set}
use Rattle.bc_tree.specs.declared.plan.Plan.{Plan}
use Rattle.bc_whole.specs.State.{Opening}

-- ---- places in a list

abbrev pub Has : {X : Type 0} → List X → X → Type 0
Has xs x = (i : ℕ) × (slice_get xs i ≡ Some x)

has_left : {X : Type 0} (xs ys : List X) (i : ℕ) (x : X) → slice_get xs i ≡ Some x
    → slice_get (xs ++ ys) i ≡ Some x
has_left [] ys i x is = absurd (cc)
has_left (z ∷ xs) ys zero x is = is
has_left (z ∷ xs) ys (suc i) x is = has_left xs ys i x is

left : {X : Type 0} (xs ys : List X) (x : X) → Has xs x → Has (xs ++ ys) x
left xs ys x there = (there.0, has_left xs ys there.0 x there.1)

has_right : {X : Type 0} (xs ys : List X) (x : X) → Has ys x → Has (xs ++ ys) x
has_right [] ys x there = there
has_right (z ∷ xs) ys x there = let more = has_right xs ys x there in (suc more.0, more.1)

has_when : (b : Bool) (m : NewNode) → b ≡ true → Has (when b m) m
has_when b m is = subst (λ t. Has (when t m) m) (sym is) (0, refl)

-- the first so many of them
abbrev n1 : Plan → List NewNode
n1 p = First ∷ []

abbrev n2 : Plan → List NewNode
n2 p = n1 p ++ when (is_some p.second) Second

abbrev n3 : Plan → List NewNode
n3 p = n2 p ++ when (are_under p.beside) Lowest

abbrev n4 : Plan → List NewNode
n4 p = n3 p ++ when (are_under p.beside) Behind

abbrev n5 : Plan → List NewNode
n5 p = n4 p ++ when (is_moved p.bottom) Parent

abbrev n6 : Plan → List NewNode
n6 p = n5 p ++ when (comes_behind p.beside) Behind

-- each new node of a plan is among them
first_has : (p : Plan) → Has (nodes_of p) First
first_has p = left (n6 p) (when (top_is_moved p.top) Root) First
    (left (n5 p) (when (comes_behind p.beside) Behind) First
    (left (n4 p) (when (is_moved p.bottom) Parent) First
    (left (n3 p) (when (are_under p.beside) Behind) First
    (left (n2 p) (when (are_under p.beside) Lowest) First
    (left (n1 p) (when (is_some p.second) Second) First
    (0, refl))))))

second_has : (p : Plan) (leaf : Leaf) → p.second ≡ Some leaf → Has (nodes_of p) Second
second_has p leaf is = left (n6 p) (when (top_is_moved p.top) Root) Second
    (left (n5 p) (when (comes_behind p.beside) Behind) Second
    (left (n4 p) (when (is_moved p.bottom) Parent) Second
    (left (n3 p) (when (are_under p.beside) Behind) Second
    (left (n2 p) (when (are_under p.beside) Lowest) Second
    (has_right (n1 p) (when (is_some p.second) Second) Second (has_when (is_some p.second) Second (ap is_some is)))))))

lowest_has : (p : Plan) → are_under p.beside ≡ true → Has (nodes_of p) Lowest
lowest_has p is = left (n6 p) (when (top_is_moved p.top) Root) Lowest
    (left (n5 p) (when (comes_behind p.beside) Behind) Lowest
    (left (n4 p) (when (is_moved p.bottom) Parent) Lowest
    (left (n3 p) (when (are_under p.beside) Behind) Lowest
    (has_right (n2 p) (when (are_under p.beside) Lowest) Lowest (has_when (are_under p.beside) Lowest is)))))

under_has : (p : Plan) → are_under p.beside ≡ true → Has (nodes_of p) Behind
under_has p is = left (n6 p) (when (top_is_moved p.top) Root) Behind
    (left (n5 p) (when (comes_behind p.beside) Behind) Behind
    (left (n4 p) (when (is_moved p.bottom) Parent) Behind
    (has_right (n3 p) (when (are_under p.beside) Behind) Behind (has_when (are_under p.beside) Behind is))))

parent_has : (p : Plan) → is_moved p.bottom ≡ true → Has (nodes_of p) Parent
parent_has p is = left (n6 p) (when (top_is_moved p.top) Root) Parent
    (left (n5 p) (when (comes_behind p.beside) Behind) Parent
    (has_right (n4 p) (when (is_moved p.bottom) Parent) Parent (has_when (is_moved p.bottom) Parent is)))

behind_has : (p : Plan) → comes_behind p.beside ≡ true → Has (nodes_of p) Behind
behind_has p is = left (n6 p) (when (top_is_moved p.top) Root) Behind
    (has_right (n5 p) (when (comes_behind p.beside) Behind) Behind (has_when (comes_behind p.beside) Behind is))

root_has : (p : Plan) → top_is_moved p.top ≡ true → Has (nodes_of p) Root
root_has p is = has_right (n6 p) (when (top_is_moved p.top) Root) Root (has_when (top_is_moved p.top) Root is)

-- ---- which inner nodes come

in_here : {X : Type 0} (x : X) (xs : List X) → Contains (x ∷ xs) x
in_here x xs = (zero, omega arith, refl)

in_more : {X : Type 0} (x : X) (xs : List X) (y : X) → Contains xs y → Contains (x ∷ xs) y
in_more x xs y there = (suc there.0, (let less = there.1 in omega (arith, less)), there.2)

in_cases : {X : Type 0} (x : X) (xs : List X) (y : X) → Contains (x ∷ xs) y
    → (y ≡ x) ⊎ Contains xs y
in_cases x xs y there = go there.0 there.1 there.2
  where
    go : (i : ℕ) → i < length (x ∷ xs) → slice_index_or (x ∷ xs) i y ≡ y → (y ≡ x) ⊎ Contains xs y
    go zero less is = inl (sym is)
    go (suc i) less is = inr (i, omega (arith, less), is)

in_none : {X : Type 0} (y : X) → Contains [] y → ⊥
in_none y there = let less = there.1 in omega (arith, less)

-- it is one of the plan's new nodes
abbrev IsOneOf : Plan → Inner → Type 0
IsOneOf p n = (m : NewNode) × IsInnerOf p m n × (is_leaf m ≡ false) × Has (nodes_of p) m

module _ (p : Plan) (n : Inner) where
  parent_one : (c : NodeChange) → p.bottom ≡ c → Contains (moved c) n → IsOneOf p n
  parent_one (Set keys) is there = absurd (in_none n there)
  parent_one (Move next) is there = elim (in_cases next [] n there) [
    | inl here ↦ (Parent, is ∙ ap Move (sym here), refl, parent_has p (ap is_moved is))
    | inr none ↦ absurd (in_none n none)
  ]

  root_one : (t : Option NodeChange) → p.top ≡ t → Contains (top_moved t) n → IsOneOf p n
  root_one None is there = absurd (in_none n there)
  root_one (Some (Set keys)) is there = absurd (in_none n there)
  root_one (Some (Move next)) is there = elim (in_cases next [] n there) [
    | inl here ↦ (
      Root,
      is ∙ ap (λ x. Some (Move x)) (sym here),
      refl,
      root_has p (ap top_is_moved is),
    )
    | inr none ↦ absurd (in_none n none)
  ]

  beside_one : (b : Beside) → p.beside ≡ b → Contains (beside_come b) n → IsOneOf p n
  beside_one Stays is there = absurd (in_none n there)
  beside_one (Comes node) is there = elim (in_cases node [] n there) [
    | inl here ↦ (Behind, ap behind_of is ∙ ap Some (sym here), refl, behind_has p (ap comes_behind is))
    | inr none ↦ absurd (in_none n none)
  ]
  beside_one (Moves node) is there = elim (in_cases node [] n there) [
    | inl here ↦ (Behind, ap behind_of is ∙ ap Some (sym here), refl, behind_has p (ap comes_behind is))
    | inr none ↦ absurd (in_none n none)
  ]
  beside_one Goes is there = absurd (in_none n there)
  beside_one (Under low high) is there = elim (in_cases low (high ∷ []) n there) [
    | inl here ↦ (Lowest, ap lowest_of is ∙ ap Some (sym here), refl, lowest_has p (ap are_under is))
    | inr more ↦ elim (in_cases high [] n more) [
      | inl here ↦ (Behind, ap behind_of is ∙ ap Some (sym here), refl, under_has p (ap are_under is))
      | inr none ↦ absurd (in_none n none)
    ]
  ]

  pub new_one : Contains (new_nodes p) n → IsOneOf p n
  new_one there = elim (Contains-append_cases (moved p.bottom)
      (top_moved p.top ++ beside_come p.beside) n there) [
        | inl bottom ↦ parent_one p.bottom refl bottom
        | inr more ↦ elim (Contains-append_cases (top_moved p.top) (beside_come p.beside) n more) [
          | inl top ↦ root_one p.top refl top
          | inr beside ↦ beside_one p.beside refl beside
        ]
      ]

  -- and the other way round
  behind_come : (b : Beside) → behind_of b ≡ Some n → Contains (beside_come b) n
  behind_come Stays is = absurd (cc)
  behind_come (Comes node) is = let e : node ≡ n = cc in subst (λ x. Contains (node ∷ []) x) e (in_here node [])
  behind_come (Moves node) is = let e : node ≡ n = cc in subst (λ x. Contains (node ∷ []) x) e (in_here node [])
  behind_come Goes is = absurd (cc)
  behind_come (Under low high) is = let e : high ≡ n = cc in
      subst (λ x. Contains (low ∷ high ∷ []) x) e (in_more low (high ∷ []) high (in_here high []))

  lowest_come : (b : Beside) → lowest_of b ≡ Some n → Contains (beside_come b) n
  lowest_come Stays is = absurd (cc)
  lowest_come (Comes node) is = absurd (cc)
  lowest_come (Moves node) is = absurd (cc)
  lowest_come Goes is = absurd (cc)
  lowest_come (Under low high) is = let e : low ≡ n = cc in
      subst (λ x. Contains (low ∷ high ∷ []) x) e (in_here low (high ∷ []))

  in_beside : Contains (beside_come p.beside) n → Contains (new_nodes p) n
  in_beside there = Contains-append_right (moved p.bottom) (top_moved p.top ++ beside_come p.beside) n
      (Contains-append_right (top_moved p.top) (beside_come p.beside) n there)

  pub one_new : (m : NewNode) → IsInnerOf p m n → Contains (new_nodes p) n
  one_new First is = absurd is
  one_new Second is = absurd is
  one_new Parent is = Contains-append_left (moved p.bottom) (top_moved p.top ++ beside_come p.beside) n
      (subst (λ c. Contains (moved c) n) (sym is) (in_here n []))
  one_new Root is = Contains-append_right (moved p.bottom) (top_moved p.top ++ beside_come p.beside) n
      (Contains-append_left (top_moved p.top) (beside_come p.beside) n
      (subst (λ c. Contains (top_moved c) n) (sym is) (in_here n [])))
  one_new Behind is = in_beside (behind_come p.beside is)
  one_new Lowest is = in_beside (lowest_come p.beside is)

-- ---- a node that stands

add_none : (n : ℕ) → n + 0 ≡ n
add_none n = omega arith

stable_share : (set : NodeSet) (n : Node) → StandsFirst set n → ((node_share n).sets ≡ set ∷ [])
    × ((node_share n).lost ≡ None)
stable_share set n h = (
  ap (λ b. written_sets b n.last n.sets) h.stable.1 ∙ h.sets,
  ap (λ b. lost_set b n.failed n.last) h.stable.1 ∙ ap (λ b. lost_set false b n.last) h.stable.3,
)

only_one : (e set : NodeSet) → In e (set ∷ []) → e ≡ set
only_one e set (inl is) = is
only_one e set (inr none) = absurd none

rests_still : (r : Role) → Rests r → IsUnchanged r
rests_still r (inl none) = subst IsUnchanged (sym none) tt
rests_still r (inr free) = subst IsUnchanged (sym free) tt

draft_still : (r : Role) → r ≡ Draft → IsUnchanged r
draft_still r is = subst IsUnchanged (sym is) tt

rests_draft : (r : Role) → Rests r → r ≡ Draft → ⊥
rests_draft r (inl none) is = let e : NoNode ≡ Draft = sym none ∙ is in absurd (cc)
rests_draft r (inr free) is = let e : Free ≡ Draft = sym free ∙ is in absurd (cc)

module _ {C B : Type 0} (cache_facts : C → DiskFacts) (backing_facts : B → DiskFacts)
    (v : View cache_facts backing_facts) (before : ℕ) (g : Geometry) (q : Plan)
    (bs : List HeldBucket) (o : Origin) (st : core.State) (i : ℕ)
    (there : AreThere cache_facts backing_facts before g q (nodes_of q) bs v)
    (stable_leaf : (x : Named) (set : NodeSet)
    → FromEach (world cache_facts backing_facts v) (IsDraftLeaf x set) → IsStableLeaf x set o st)
    (stable_inner : (x : Named) (set : NodeSet)
    → FromEach (world cache_facts backing_facts v) (IsDraftInner x set) → IsStableInner x set o st)
    (divided : IsLayoutOf g o.opening.machine.layout) (first : o.opening.machine.before ≡ before)
    (held : (b : HeldBucket) → Contains bs b → IsHeldFor i b o st)
    (only : HasOnly q.leaves (nodes_of q) bs o st) (both : HasBoth q)
    (proper : (n : Inner) → Contains (new_nodes q) n
    → AllPairs EndBefore n.children × All HasPointer n.children × (0 < n.level))
    (points : (m : NewNode) (n : Inner) → IsInnerOf q m n
    → map (seen_child g) n.children ≡ map (child_of o.opening.machine) n.children) where
  abbrev w : Opening
  w = o.opening.machine

  abbrev ps : parts.State
  ps = st.machine.whole.parts

  -- the bucket of each of them
  abbrev Lies : NewNode → List HeldBucket → Type 0
  Lies m cs = (b : HeldBucket) × Contains cs b × IsThere cache_facts backing_facts before g q m b v

  lies_at : (ms : List NewNode) (cs : List HeldBucket) (k : ℕ) (m : NewNode)
      → AreThere cache_facts backing_facts before g q ms cs v → slice_get ms k ≡ Some m → Lies m cs
  lies_at [] cs k m are is = absurd (cc)
  lies_at (x ∷ ms) [] k m are is = absurd are
  lies_at (x ∷ ms) (c ∷ cs) zero m are is = let e : x ≡ m = cc in
      (c, in_here c cs, subst (λ y. IsThere cache_facts backing_facts before g q y c v) e are.0)
  lies_at (x ∷ ms) (c ∷ cs) (suc k) m are is =
      let more = lies_at ms cs k m are.1 is in (more.0, in_more c cs more.0 more.1, more.2)

  lies : (m : NewNode) → Has (nodes_of q) m → Lies m bs
  lies m has = lies_at (nodes_of q) bs has.0 m there has.1

  number_is : (b : HeldBucket) → Contains bs b → b.bucket - before ≡ number_in b o
  number_is b c = number_of before b o first (held b c).lies

  -- ---- a leaf

  module _ (m : NewNode) (leaf : Leaf) (range : LeafRange) (its : IsLeafOf q m leaf)
      (its_range : range_of q m ≡ Some range) (b : HeldBucket) (in_bs : Contains bs b)
      (is : IsThere cache_facts backing_facts before g q m b v) where
    abbrev h : HasLeafIn cache_facts backing_facts before g q m b leaf v
    h = is.leaf leaf its

    abbrev x : Named
    x = leaf_node (slot_of q m) (b.bucket - before) g h.old

    abbrev set : NodeSet
    set = seen_set g true (pending_set h.old)

    abbrev s : IsStableLeaf x set o st
    s = stable_leaf x set h.draft

    abbrev k : ℕ
    k = slot_of q m

    same_range : h.comes.range ≡ range
    same_range = let e : Some h.comes.range ≡ Some range = sym h.comes.its_range ∙ its_range in cc

    ptr_is : leaf.ptr ≡ b.to
    ptr_is = h.appended.ptr ∙ h.at

    sets : (leaf_share ps k).node.sets ≡ set ∷ []
    sets = (stable_share set (node_of ps k) s.node).0

    taken : leaf.taken ≡ set_sectors g (pending_set h.old)
    taken = let all = h.appended.taken in let none = h.none in omega (arith, all, none)

    new_at : IsNewLeaf w Draft (leaf_share ps k) leaf
    new_at = record {
      role_is = ap (λ (l : parts.Leaf). l.role) s.is;
      first = ap (λ (l : parts.Leaf). l.first) s.is ∙ sym h.appended.from;
      end = ap (λ (l : parts.Leaf). l.end) s.is ∙ sym h.appended.end;
      bucket = ap (λ (l : parts.Leaf). l.bucket) s.is ∙ number_is b in_bs
          ∙ ap (λ (r : Ptr). w.flow.books.bucket r.offset) (sym ptr_is);
      word = ap (λ (l : parts.Leaf). l.word) s.is ∙ ap ptr_word (sym h.appended.ptr);
      fresh = ap (λ (l : parts.Leaf). l.loaded) s.is;
      nothing = ap (λ (l : parts.Leaf). l.pending) s.is;
      own = record {
        number = λ e in_sets. ap (λ (y : NodeSet). y.seq)
            (only_one e set (subst (In e) sets in_sets)) ∙ sym h.appended.seq;
        taken_is = taken ∙ sym (divided.sets.long (record { word = 0; leaf = true })
            (pending_set h.old)) ∙ sym (add_none (set_len w.layout set))
            ∙ ap (sets_len w.layout) (sym sets);
      };
      whole = (stable_share set (node_of ps k) s.node).1;
      keys = λ t low high. ap (λ ks. ref_said (last_said ks t)) h.appended.keys
          ∙ leaf_says g h.old h.comes.pending t
          ∙ ap (λ ss. ref_said (last_said (set_keys ss) t)) (sym sets);
      none = h.appended.pending;
      lists = record {
        list = h.comes.pending.list;
        last = subst (AreLast h.comes.pending.list) (sym h.appended.keys) h.comes.pending.last;
        added = [];
        last_added = subst (AreLastOfAll []) (sym h.appended.pending.keys) none_added;
      };
    }

    slot_is : k ≡ range.number
    slot_is = ap range_number its_range

    ready_leaf : IsReadyLeaf w ps range leaf
    ready_leaf = record {
      range_is = record {
        from = ap (λ (l : LeafRange). l.from) (sym same_range) ∙ h.comes.range_is.from
            ∙ sym h.appended.from;
        end = ap (λ (l : LeafRange). l.end) (sym same_range) ∙ h.comes.range_is.end
            ∙ sym h.appended.end;
        ptr = ap (λ (l : LeafRange). l.ptr) (sym same_range) ∙ h.comes.range_is.ptr
            ∙ sym h.appended.ptr;
      };
      new = subst (λ j. IsNewLeaf w Draft (leaf_share ps j) leaf) slot_is new_at;
      stable = subst (λ j. IsStable (node_of ps j)) slot_is s.node.stable;
    }

    leaf_held : (books_of st.machine).shelf (w.flow.books.bucket range.ptr.offset) ≡ Held i Tree
    leaf_held = ap (λ (r : Ptr). (books_of st.machine).shelf (w.flow.books.bucket r.offset))
        (ap (λ (l : LeafRange). l.ptr) (sym same_range) ∙ h.comes.range_is.ptr ∙ h.at)
        ∙ (held b in_bs).held ∙ ap (λ p. Held i (purpose_of p)) is.purpose

  -- ---- an inner node

  module _ (m : NewNode) (n : Inner) (its : IsInnerOf q m n) (b : HeldBucket)
      (in_bs : Contains bs b) (is : IsThere cache_facts backing_facts before g q m b v) where
    abbrev hi : HasInnerIn cache_facts backing_facts before g b n v
    hi = is.inner n its

    abbrev y : Named
    y = inner_node (b.bucket - before) g hi.old

    abbrev iset : NodeSet
    iset = seen_set g false (children_set hi.old)

    abbrev t : IsStableInner y iset o st
    t = stable_inner y iset hi.draft

    abbrev j : ℕ
    j = b.bucket - before

    inner_ptr : n.ptr ≡ b.to
    inner_ptr = hi.taken.ptr ∙ hi.at

    inner_slot_is : inner_slot w n ≡ number_in b o
    inner_slot_is = ap (λ (r : Ptr). w.flow.books.bucket r.offset) inner_ptr

    inner_sets : (inner_share ps j).node.sets ≡ iset ∷ []
    inner_sets = (stable_share iset (inner_node_of ps j) t.node).0

    abbrev its_proper : AllPairs EndBefore n.children × All HasPointer n.children × (0 < n.level)
    its_proper = proper n (one_new q n m its)

    its_children : children_of (iset ∷ []) ≡ map (child_of w) n.children
    its_children = subst (λ ks. children_of (seen_set g false (set_of hi.old.seq ks) ∷ [])
        ≡ map (child_of w) n.children) hi.taken.children
        (children_say g (record n { seq = hi.old.seq }) its_proper.0 its_proper.1
        ∙ points m n its)

    inner_at : IsNewInner w Draft (inner_share ps j) n
    inner_at = record {
      role_is = ap (λ (l : parts.InnerNode). l.role) t.is;
      first = ap (λ (l : parts.InnerNode). l.first) t.is ∙ sym hi.taken.from;
      end = ap (λ (l : parts.InnerNode). l.end) t.is ∙ sym hi.taken.end;
      bucket = ap (λ (l : parts.InnerNode). l.bucket) t.is ∙ number_is b in_bs ∙ sym inner_slot_is;
      word = ap (λ (l : parts.InnerNode). l.word) t.is ∙ ap ptr_word (sym hi.taken.ptr);
      level = ap suc (ap (λ (l : parts.InnerNode). l.height) t.is)
          ∙ (let some = its_proper.2 in let same = hi.taken.level in
          (let e : suc (hi.old.level - 1) ≡ n.level = omega (arith, some, same) in e));
      fresh = ap (λ (l : parts.InnerNode). l.loaded) t.is;
      own = record {
        number = λ e in_sets. ap (λ (z : NodeSet). z.seq)
            (only_one e iset (subst (In e) inner_sets in_sets)) ∙ sym hi.taken.seq;
        taken_is = hi.taken.taken_is ∙ sym (divided.sets.long (record { word = 0; leaf = false })
            (children_set hi.old)) ∙ sym (add_none (set_len w.layout iset))
            ∙ ap (sets_len w.layout) (sym inner_sets);
      };
      children = ap children_of inner_sets ∙ its_children;
    }

    ready_inner : IsReadyInner w ps n
    ready_inner =
        let at : j ≡ inner_slot w n = number_is b in_bs ∙ sym inner_slot_is in record {
          new = subst (λ z. IsNewInner w Draft (inner_share ps z) n) at inner_at;
          stable = subst (λ z. IsStable (inner_node_of ps z)) at t.node.stable;
        }

    inner_held : (books_of st.machine).shelf (inner_slot w n) ≡ Held i Tree
    inner_held = ap (books_of st.machine).shelf inner_slot_is
        ∙ (held b in_bs).held ∙ ap (λ p. Held i (purpose_of p)) is.purpose

  -- ---- all of them

  leaf_first : (l : Lies First bs) → IsReadyLeaf w ps q.leaves.first q.first
  leaf_first l = ready_leaf First q.first q.leaves.first refl refl l.0 l.1 l.2

  come : (r : Option LeafRange) (s : Option Leaf) → q.leaves.second ≡ r → q.second ≡ s
      → (range : LeafRange) (leaf : Leaf) → Contains (second_comes r s) (range, leaf)
      → IsReadyLeaf w ps range leaf
  come None s ri si range leaf c = absurd (in_none _ c)
  come (Some a) None ri si range leaf c = absurd (in_none _ c)
  come (Some a) (Some z) ri si range leaf c = elim (in_cases (a, z) [] (range, leaf) c) [
    | inl e ↦ let l = lies Second (second_has q z si) in
        subst (λ (u : LeafRange × Leaf). IsReadyLeaf w ps u.0 u.1) (sym e)
        (ready_leaf Second z a si ri l.0 l.1 l.2)
    | inr none ↦ absurd (in_none _ none)
  ]

  second_held : (r : Option LeafRange) (s : Option Leaf) → q.leaves.second ≡ r → q.second ≡ s
      → length (option_to_list r) ≡ length (option_to_list s)
      → (range : LeafRange) → Contains (option_to_list r) range
      → (books_of st.machine).shelf (w.flow.books.bucket range.ptr.offset) ≡ Held i Tree
  second_held None s ri si long range c = absurd (in_none _ c)
  second_held (Some a) None ri si long range c = absurd (omega (arith, long))
  second_held (Some a) (Some z) ri si long range c = elim (in_cases a [] range c) [
    | inl e ↦ let l = lies Second (second_has q z si) in
        subst (λ (u : LeafRange). (books_of st.machine).shelf (w.flow.books.bucket u.ptr.offset)
        ≡ Held i Tree) (sym e) (leaf_held Second z a si ri l.0 l.1 l.2)
    | inr none ↦ absurd (in_none _ none)
  ]

  still : (P : Type 0) (r : Role) → Rests r ⊎ ((r ≡ Draft) × P) → IsUnchanged r
  still P r (inl rests) = rests_still r rests
  still P r (inr new) = draft_still r new.0

  its_draft : (P : Type 0) (r : Role) → Rests r ⊎ ((r ≡ Draft) × P) → r ≡ Draft → P
  its_draft P r (inl rests) is = absurd (rests_draft r rests is)
  its_draft P r (inr new) is = new.1

  -- which inner node has a bucket of theirs
  node_in : (m : NewNode) (b : HeldBucket) → Contains bs b
      → IsThere cache_facts backing_facts before g q m b v → is_leaf m ≡ false
      → (x : ℕ) → number_in b o ≡ x → (n : Inner) × Contains (new_nodes q) n × (inner_slot w n ≡ x)
  node_in m b in_bs is inner x at = go is.brings
    where
      go : Brings q m → (n : Inner) × Contains (new_nodes q) n × (inner_slot w n ≡ x)
      go (inl leaf) = absurd (let one = leaf_kind q m leaf.0 leaf.1 in
          let e : true ≡ false = sym one ∙ inner in cc)
      go (inr n) = (n.0, one_new q n.0 m n.1, inner_slot_is m n.0 n.1 b in_bs is ∙ at)

  both_at : (ms : List NewNode) (cs : List HeldBucket) (k : ℕ) (m : NewNode) (b : HeldBucket)
      → AreThere cache_facts backing_facts before g q ms cs v → slice_get ms k ≡ Some m
      → slice_get cs k ≡ Some b
      → Contains cs b × IsThere cache_facts backing_facts before g q m b v
  both_at [] cs k m b are is its = absurd (cc)
  both_at (x ∷ ms) [] k m b are is its = absurd are
  both_at (x ∷ ms) (c ∷ cs) zero m b are is its =
      let e : x ≡ m = cc in let f : c ≡ b = cc in (
        subst (λ y. Contains (c ∷ cs) y) f (in_here c cs),
        subst (λ y. IsThere cache_facts backing_facts before g q y b v) e
            (subst (λ y. IsThere cache_facts backing_facts before g q x y v) f are.0),
      )
  both_at (x ∷ ms) (c ∷ cs) (suc k) m b are is its =
      let more = both_at ms cs k m b are.1 is its in (in_more c cs b more.0, more.1)

  pub is_ready : IsReadyFor i q o st
  is_ready = record {
    ready = record {
      calm = record {
        change = only.change;
        leaves = λ k. still _ (ps.leaves k).role (only.leaves k);
        inner_nodes = λ x. still _ (ps.inner_nodes x).role (only.inner_nodes x);
      };
      come = λ range leaf c. elim (in_cases (q.leaves.first, q.first)
          (second_comes q.leaves.second q.second) (range, leaf) c) [
            | inl e ↦ subst (λ (u : LeafRange × Leaf). IsReadyLeaf w ps u.0 u.1) (sym e)
                (leaf_first (lies First (first_has q)))
            | inr more ↦ come q.leaves.second q.second refl refl range leaf more
          ];
      new = λ n c. let one = new_one q n c in let l = lies one.0 one.3 in
          ready_inner one.0 n one.1 l.0 l.1 l.2;
      all_leaves = λ k draft. its_draft _ (ps.leaves k).role (only.leaves k) draft;
      all_inner = λ x draft. let is = its_draft _ (ps.inner_nodes x).role (only.inner_nodes x) draft in
          let two = both_at (nodes_of q) bs is.at is.node is.bucket there is.its_node is.its_bucket in
          node_in is.node is.bucket two.0 two.1 is.inner x is.slot;
    };
    holds = record {
      leaves = λ range c. elim (in_cases q.leaves.first (option_to_list q.leaves.second) range c) [
        | inl e ↦ let l = lies First (first_has q) in
            subst (λ (u : LeafRange). (books_of st.machine).shelf (w.flow.books.bucket u.ptr.offset)
            ≡ Held i Tree) (sym e) (leaf_held First q.first q.leaves.first refl refl l.0 l.1 l.2)
        | inr more ↦ second_held q.leaves.second q.second refl refl both range more
      ];
      inner_nodes = λ n c. let one = new_one q n c in let l = lies one.0 one.3 in
          inner_held one.0 n one.1 l.0 l.1 l.2;
    };
  }
