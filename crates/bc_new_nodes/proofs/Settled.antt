-- Behind the barrier the new nodes of a plan are ready.
use Rattle.std.proofs.Common.{◌≡◌, ◌≢◌, ◌⊎◌, inl, inr, ℕ, ◌<◌, Bool, List, [], ◌∷◌, map, None, Some, refl, sym, ap, ◌∙◌, subst, arith}
use Rattle.std.proofs.lemmas.List.Elements.{All-head, All-tail}
use Rattle.std.specs.Prelude.{All, AllPairs, Contains, Option, length, option_to_list}
use Rattle.bc_change.proofs.Nexts.{new_in}
use Rattle.bc_change.specs.Goes.{new_nodes}
use Rattle.bc_change.specs.Ready.{HasBoth, IsReadyFor}
use Rattle.bc_disk.specs.Disk.{DiskFacts}
use Rattle.bc_disk.specs.declared.geometry.Geometry.{Geometry}
use Rattle.bc_new_node.proofs.of_bc_drafts.Staying.{law_drafts}
use Rattle.bc_events.specs.declared.event.Deed.TheVariants as deed
use Rattle.bc_events.specs.declared.event.NewNode.{NewNode as Named}
use Rattle.bc_facts.proofs.Stood.{contains_in}
use Rattle.bc_facts.specs.Layout.{IsLayoutOf}
use Rattle.bc_facts.specs.Seen.{is_gone, seen_child, word_of}
use Rattle.bc_inner.specs.Inner.{Inner}
use Rattle.bc_key.specs.declared.key.Key.{Key}
use Rattle.bc_meta.specs.Facts.{In}
use Rattle.bc_meta.specs.Tree.{Child, NodeSet}
use Rattle.bc_new_node.proofs.Behind.{draft_inner_since, draft_leaf_since}
use Rattle.bc_new_node.proofs.of_bc_held.Keeping.{held_deed}
use Rattle.bc_new_node.proofs.of_bc_place.Keeping.{made_by, opening_deed, opening_lasts}
use Rattle.bc_new_node.specs.Kind.{IsDividedBy, IsInnerOf}
use Rattle.bc_new_node.specs.bc_drafts.Draft.{IsDraftInner, IsDraftLeaf, IsStableInner, IsStableLeaf}
use Rattle.bc_new_node.specs.bc_hand.Seats.{Did, IsCoreSeat, View, world}
use Rattle.bc_new_node.specs.bc_held.Held.{IsHeldFor}
use Rattle.bc_new_node.specs.bc_held.declared.held.HeldBucket.{HeldBucket}
use Rattle.bc_new_node.specs.bc_machine.Containers.{child_of}
use Rattle.bc_new_node.specs.bc_machine.World.{FromEach, Origin, World, replay}
use Rattle.bc_new_node.specs.bc_place.Place.{HasBefore}
use Rattle.bc_new_nodes.proofs.Only.{only_did}
use Rattle.bc_new_nodes.proofs.Pure.{EndBefore}
use Rattle.bc_new_nodes.proofs.Ready.{is_ready}
use Rattle.bc_new_nodes.proofs.Same.{inner_back, inner_before, same_at}
use Rattle.bc_new_nodes.specs.Asked.{ChildrenPoint, PointsInto}
use Rattle.bc_new_nodes.specs.Course.{AreThere, HasOnly}
use Rattle.bc_planned.specs.Nodes.{nodes_of}
use Rattle.bc_new_nodes.specs.Wrote.{HaveWritten, StaysAsked}
use Rattle.bc_node.specs.Leaf.{Leaf}
use Rattle.bc_parts.specs.Seat.{Holds}
use Rattle.bc_plan.specs.Write.{HasNodeWritten}
use Rattle.bc_plan.specs.declared.write.NewNode.{NewNode}
use Rattle.bc_plan.specs.declared.write.NewNode.TheVariants.{Behind, First, Lowest, Parent, Root, Second}
use Rattle.bc_spine.specs.declared.exchange.Exchange.{Exchange}
use Rattle.bc_spine.specs.declared.leaf.LeafRange.{LeafRange}
use Rattle.bc_tree.specs.LastKeys.{LeafKeys, keys_next, with_keys, with_second}
use Rattle.bc_tree.specs.Children.{HasPointer}
use Rattle.bc_tree.specs.Next.{below_next, root_next}
use Rattle.bc_tree.specs.Plan.{Fits}
use Rattle.bc_tree.specs.Spine.{Covers, IsProper, IsRootOf, NameNodes, Spine}
use Rattle.bc_tree.specs.declared.plan.Plan.{Plan}

-- ---- the children of the inner nodes are those of the plan

same_or : (n m : NewNode) → (n ≡ m) ⊎ (n ≢ m)
same_or First First = inl refl
same_or First Second = inr (λ e. absurd (cc))
same_or First Parent = inr (λ e. absurd (cc))
same_or First Root = inr (λ e. absurd (cc))
same_or First Behind = inr (λ e. absurd (cc))
same_or First Lowest = inr (λ e. absurd (cc))
same_or Second First = inr (λ e. absurd (cc))
same_or Second Second = inl refl
same_or Second Parent = inr (λ e. absurd (cc))
same_or Second Root = inr (λ e. absurd (cc))
same_or Second Behind = inr (λ e. absurd (cc))
same_or Second Lowest = inr (λ e. absurd (cc))
same_or Parent First = inr (λ e. absurd (cc))
same_or Parent Second = inr (λ e. absurd (cc))
same_or Parent Parent = inl refl
same_or Parent Root = inr (λ e. absurd (cc))
same_or Parent Behind = inr (λ e. absurd (cc))
same_or Parent Lowest = inr (λ e. absurd (cc))
same_or Root First = inr (λ e. absurd (cc))
same_or Root Second = inr (λ e. absurd (cc))
same_or Root Parent = inr (λ e. absurd (cc))
same_or Root Root = inl refl
same_or Root Behind = inr (λ e. absurd (cc))
same_or Root Lowest = inr (λ e. absurd (cc))
same_or Behind First = inr (λ e. absurd (cc))
same_or Behind Second = inr (λ e. absurd (cc))
same_or Behind Parent = inr (λ e. absurd (cc))
same_or Behind Root = inr (λ e. absurd (cc))
same_or Behind Behind = inl refl
same_or Behind Lowest = inr (λ e. absurd (cc))
same_or Lowest First = inr (λ e. absurd (cc))
same_or Lowest Second = inr (λ e. absurd (cc))
same_or Lowest Parent = inr (λ e. absurd (cc))
same_or Lowest Root = inr (λ e. absurd (cc))
same_or Lowest Behind = inr (λ e. absurd (cc))
same_or Lowest Lowest = inl refl

abbrev HadBefore : Plan → NewNode → Inner → Type 0
HadBefore p m n = (old : Inner) × IsInnerOf p m old × (n.children ≡ old.children)

one_before : (g : Geometry) (n m : NewNode) (p q : Plan) (node : Inner) → HasNodeWritten g n p q
    → IsInnerOf q m node → (n ≡ m) ⊎ (n ≢ m) → HadBefore p m node
one_before g n m p q node h is (inl same) =
    let was = inner_before g n p q node h (subst (λ k. IsInnerOf q k node) (sym same) is) in
    (was.0, subst (λ k. IsInnerOf p k was.0) same was.1, was.2.children)
one_before g n m p q node h is (inr ne) =
    (node, inner_back m p q node (same_at g n m p q ne h) is, refl)

module _ {C B : Type 0} (cache_facts : C → DiskFacts) (backing_facts : B → DiskFacts) where
  pub had_before : (before : ℕ) (g : Geometry) (ns : List NewNode) (bs : List HeldBucket) (p q : Plan)
      (v w : View cache_facts backing_facts) (m : NewNode) (node : Inner)
      → HaveWritten cache_facts backing_facts before g ns bs p q v w → IsInnerOf q m node
      → HadBefore p m node
  had_before before g [] [] p q v w m node h is = (node, subst (λ x. IsInnerOf x m node) h.1 is, refl)
  had_before before g [] (b ∷ bs) p q v w m node h is = absurd h
  had_before before g (n ∷ ns) [] p q v w m node h is = absurd h
  had_before before g (n ∷ ns) (b ∷ bs) p q v w m node h is =
      let later = had_before before g ns bs h.0 q h.1 w m node h.4 is in
      let here = one_before g n m p h.0 later.0 h.3 later.1 (same_or n m) in
      (here.0, here.1, later.2 ∙ here.2)

-- ---- two leaves come still, where two did

abbrev many_leaves : Plan → ℕ
many_leaves p = length (option_to_list p.second)

same_many : (g : Geometry) (n : NewNode) (p q : Plan) → HasNodeWritten g n p q
    → many_leaves q ≡ many_leaves p
same_many g First p q h = ap many_leaves h.0
same_many g Second p q h = ap many_leaves h.3
    ∙ sym (ap (λ (o : Option Leaf). length (option_to_list o)) h.2)
same_many g Parent p q h = ap many_leaves h.0
same_many g Root p q h = ap many_leaves h.3
same_many g Behind p q h = ap many_leaves h.3
same_many g Lowest p q h = ap many_leaves h.3

second_keys : (keys : LeafKeys) (o : Option LeafRange) (a b : Leaf) → b.keys ≡ a.keys
    → with_second keys o (Some b) ≡ with_second keys o (Some a)
second_keys keys None a b same = refl
second_keys keys (Some range) a b same = ap (with_keys keys range.number) same

same_keys : (g : Geometry) (n : NewNode) (p q : Plan) (keys : LeafKeys) → HasNodeWritten g n p q
    → keys_next keys q ≡ keys_next keys p
same_keys g First p q keys h = ap (keys_next keys) h.0
    ∙ ap (λ ks. with_keys (with_second keys p.leaves.second p.second) p.leaves.first.number ks)
    h.1.keys
same_keys g Second p q keys h = ap (keys_next keys) h.3
    ∙ ap (λ ks. with_keys ks p.leaves.first.number p.first.keys)
    (second_keys keys p.leaves.second h.0 h.1 h.4.keys
    ∙ sym (ap (with_second keys p.leaves.second) h.2))
same_keys g Parent p q keys h = ap (keys_next keys) h.0
same_keys g Root p q keys h = ap (keys_next keys) h.3
same_keys g Behind p q keys h = ap (keys_next keys) h.3
same_keys g Lowest p q keys h = ap (keys_next keys) h.3

module _ {C B : Type 0} (cache_facts : C → DiskFacts) (backing_facts : B → DiskFacts) where
  all_many : (before : ℕ) (g : Geometry) (ns : List NewNode) (bs : List HeldBucket) (p q : Plan)
      (v w : View cache_facts backing_facts)
      → HaveWritten cache_facts backing_facts before g ns bs p q v w → many_leaves q ≡ many_leaves p
  all_many before g [] [] p q v w h = ap many_leaves h.1
  all_many before g [] (b ∷ bs) p q v w h = absurd h
  all_many before g (n ∷ ns) [] p q v w h = absurd h
  all_many before g (n ∷ ns) (b ∷ bs) p q v w h =
      all_many before g ns bs h.0 q h.1 w h.4 ∙ same_many g n p h.0 h.3

  all_keys : (before : ℕ) (g : Geometry) (ns : List NewNode) (bs : List HeldBucket) (p q : Plan)
      (v w : View cache_facts backing_facts) (keys : LeafKeys)
      → HaveWritten cache_facts backing_facts before g ns bs p q v w
      → keys_next keys q ≡ keys_next keys p
  all_keys before g [] [] p q v w keys h = ap (keys_next keys) h.1
  all_keys before g [] (b ∷ bs) p q v w keys h = absurd h
  all_keys before g (n ∷ ns) [] p q v w keys h = absurd h
  all_keys before g (n ∷ ns) (b ∷ bs) p q v w keys h =
      all_keys before g ns bs h.0 q h.1 w keys h.4 ∙ same_keys g n p h.0 keys h.3

  pub both_behind : (before : ℕ) (g : Geometry) (ns : List NewNode) (bs : List HeldBucket)
      (p q : Plan) (v w : View cache_facts backing_facts)
      → HaveWritten cache_facts backing_facts before g ns bs p q v w → q.leaves ≡ p.leaves
      → HasBoth p → HasBoth q
  both_behind before g ns bs p q v w wrote leaves both =
      ap (λ (e : Exchange). length (option_to_list e.second)) leaves ∙ both
      ∙ sym (all_many before g ns bs p q v w wrote)

  pub stays_asked : (before : ℕ) (g : Geometry) (ns : List NewNode) (bs : List HeldBucket)
      (p q : Plan) (v w : View cache_facts backing_facts)
      → HaveWritten cache_facts backing_facts before g ns bs p q v w → q.leaves ≡ p.leaves
      → StaysAsked p q
  stays_asked before g ns bs p q v w wrote leaves = record {
    leaves = leaves;
    both = both_behind before g ns bs p q v w wrote leaves;
    keys = λ keys. all_keys before g ns bs p q v w keys wrote;
  }

-- ---- they are proper

all_in : {X : Type 0} (P : X → Type 0) (xs : List X) (x : X) → All P xs → In x xs → P x
all_in P [] x all none = absurd none
all_in P (y ∷ ys) x all (inl is) = subst P (sym is) (All-head P y ys all)
all_in P (y ∷ ys) x all (inr more) = all_in P ys x (All-tail P y ys all) more

name_level : (from : ℕ) (keys : List Key) (nodes : List Inner) (n : Inner) → NameNodes from keys nodes
    → In n nodes → 0 < n.level
name_level from [] [] n names none = absurd none
name_level from [] (m ∷ ms) n names there = absurd names
name_level from (k ∷ ks) [] n names none = absurd none
name_level from (k ∷ ks) (m ∷ ms) n names (inl is) =
    let one = names.0 in let same = ap (λ (x : Inner). x.level) is in omega (arith, one, same)
name_level from (k ∷ ks) (m ∷ ms) n names (inr more) = name_level k.end ks ms n names.4 more

level_some : (root : Inner) (below : List Inner) (n : Inner) → IsRootOf root below
    → In n (root ∷ below) → 0 < n.level
level_some root [] n is (inl here) =
    let same = ap (λ (x : Inner). x.level) here in omega (arith, is, same)
level_some root [] n is (inr none) = absurd none
level_some root (m ∷ ms) n is (inl here) =
    let two = is.0 in let same = ap (λ (x : Inner). x.level) here in omega (arith, two, same)
level_some root (m ∷ ms) n is (inr more) = name_level root.from root.children (m ∷ ms) n is.1 more

abbrev Proper : Inner → Type 0
Proper n = AllPairs EndBefore n.children × All HasPointer n.children × (0 < n.level)

pub proper_new : (spine : Spine) (q : Plan) → Fits spine q → (n : Inner) → Contains (new_nodes q) n
    → Proper n
proper_new spine q f n c = go (new_in spine.root spine.below q.place spine.room q.bottom q.top q.beside
    f.node f.there f.alone f.stands n (contains_in (new_nodes q) n c))
  where
    root : Inner
    root = root_next spine.root spine.below q.bottom q.top

    below : List Inner
    below = below_next spine.below q.place q.bottom q.beside

    go : In n (root ∷ below) → Proper n
    go (inl is) = (
      subst (λ (x : Inner). AllPairs EndBefore x.children) (sym is) f.tree.cover.0.order,
      subst (λ (x : Inner). All HasPointer x.children) (sym is) f.tree.inner.root_is_proper.live,
      level_some root below n f.tree.inner.root_of (inl is),
    )
    go (inr more) = (
      (all_in Covers below n f.tree.cover.1 more).order,
      (all_in (IsProper spine.geometry) below n f.tree.inner.proper more).live,
      level_some root below n f.tree.inner.root_of (inr more),
    )

-- ---- where their children lie

abbrev child_by : ℕ → ℕ → ℕ → Bool → Child
child_by end bucket word gone = record { end = end; bucket = bucket; word = word; gone = gone }

map_points : (g : Geometry) (o : Origin) (ks : List Key) → All (PointsInto g o) ks
    → map (seen_child g) ks ≡ map (child_of o.opening.machine) ks
map_points g o [] all = refl
map_points g o (k ∷ ks) all =
    ap (λ b. child_by k.end b (word_of k) (is_gone k) ∷ map (seen_child g) ks)
    (sym (All-head (PointsInto g o) k ks all))
    ∙ ap (λ cs. child_of o.opening.machine k ∷ cs)
    (map_points g o ks (All-tail (PointsInto g o) k ks all))

-- ---- behind the barrier

module _ {C B : Type 0} (cache_facts : C → DiskFacts) (backing_facts : B → DiskFacts)
    (v w : View cache_facts backing_facts) (seat : IsCoreSeat cache_facts backing_facts v)
    (holds : Holds v.parts 0)
    (did : Did cache_facts backing_facts (Some deed.CacheBarrier) v w) (before : ℕ) (g : Geometry)
    (p q : Plan) (bs : List HeldBucket)
    (there : AreThere cache_facts backing_facts before g q (nodes_of q) bs v)
    (only : FromEach (world cache_facts backing_facts v) (HasOnly q.leaves (nodes_of q) bs))
    (divided : FromEach (world cache_facts backing_facts v) (IsDividedBy g))
    (first : FromEach (world cache_facts backing_facts v) (HasBefore before))
    (held : (b : HeldBucket) → Contains bs b
    → FromEach (world cache_facts backing_facts v) (IsHeldFor v.first b)) (both : HasBoth q)
    (spine : Spine) (fits : Fits spine q)
    (points : FromEach (world cache_facts backing_facts v) (ChildrenPoint g p))
    (back : (m : NewNode) (n : Inner) → IsInnerOf q m n → HadBefore p m n) where
  leaf_settled : (x : Named) (set : NodeSet)
      → FromEach (world cache_facts backing_facts v) (IsDraftLeaf x set)
      → FromEach (world cache_facts backing_facts w) (IsStableLeaf x set)
  leaf_settled x set h = subst (λ (y : World). FromEach y (IsStableLeaf x set)) (sym did.is.state)
      (law_drafts.leaf did.is.before v.first x set
      (draft_leaf_since cache_facts backing_facts v holds did.is.before did.is.since x set h))

  inner_settled : (x : Named) (set : NodeSet)
      → FromEach (world cache_facts backing_facts v) (IsDraftInner x set)
      → FromEach (world cache_facts backing_facts w) (IsStableInner x set)
  inner_settled x set h = subst (λ (y : World). FromEach y (IsStableInner x set)) (sym did.is.state)
      (law_drafts.inner did.is.before v.first x set
      (draft_inner_since cache_facts backing_facts v holds did.is.before did.is.since x set h))

  points_at : (o : Origin) → ((node : NewNode) (n : Inner) → IsInnerOf p node n
      → All (PointsInto g o) n.children) → (m : NewNode) (n : Inner) → IsInnerOf q m n
      → map (seen_child g) n.children ≡ map (child_of o.opening.machine) n.children
  points_at o all m n is =
      let was = back m n is in
      subst (λ ks. map (seen_child g) ks ≡ map (child_of o.opening.machine) ks) (sym was.2)
      (map_points g o was.0.children (all m was.0 was.1))

  pub ready_behind : FromEach (world cache_facts backing_facts w) (IsReadyFor w.first q)
  ready_behind o is course = is_ready cache_facts backing_facts v before g q bs o
      (replay o (world cache_facts backing_facts w).log) w.first there
      (λ x set h. leaf_settled x set h o is course)
      (λ x set h. inner_settled x set h o is course)
      (made_by cache_facts backing_facts (λ i. IsDividedBy g) (λ i. IsDividedBy g)
      (opening_lasts (λ o. IsLayoutOf g o.opening.machine.layout)) v w deed.CacheBarrier seat did
      (λ o st on h. h) divided o is course)
      ((opening_deed cache_facts backing_facts v w deed.CacheBarrier seat did).before before first o is
      course)
      (λ b c. held_deed cache_facts backing_facts v w deed.CacheBarrier seat (λ q. refl) did b
      (held b c) o is course)
      (only_did q.leaves (nodes_of q) bs cache_facts backing_facts v holds only w deed.CacheBarrier refl
      did o is course)
      both (λ n c. proper_new spine q fits n c)
      (λ m n its. points_at o (made_by cache_facts backing_facts (λ i. ChildrenPoint g p)
      (λ i. ChildrenPoint g p) (opening_lasts (λ o. (node : NewNode) (n : Inner)
      → IsInnerOf p node n → All (PointsInto g o) n.children)) v w deed.CacheBarrier seat did
      (λ o st on h. h) points o is course) m n its)
