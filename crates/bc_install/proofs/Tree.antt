-- The tree in memory stands for the core's behind an install of a change.
use Rattle.std.proofs.Common.{◌≡◌, ◌≢◌, ◌⊎◌, inl, inr, ℕ, List, ◌∷◌, refl, sym, subst, ap, ◌∙◌}
use Rattle.std.specs.Prelude.{Some, map, slice_get}
use Rattle.bc_change.specs.Goes.{BringsRoot, IsChangeBy, new_leaves, new_nodes, old_nodes}
use Rattle.bc_change.specs.Ready.{HasBoth, IsNewLeaf, IsRangeFor, IsTree}
use Rattle.bc_change.specs.Under.{IsUnderWay}
use Rattle.bc_change.proofs.Lists.{get_in, in_get, in_map, map_in}
use Rattle.bc_change.proofs.Nexts.{TakesAt, kept_next, new_in, next_is}
use Rattle.bc_change.proofs.Places.{new_leaf}
use Rattle.bc_change.proofs.Sites.{leaf_comes, leaf_next, leaf_stays, slots_apart}
use Rattle.bc_events.specs.declared.event.Change.{Change}
use Rattle.bc_facts.proofs.Stood.{contains_in, in_contains}
use Rattle.bc_image.specs.Children.{with_children}
use Rattle.bc_inner.specs.Inner.{Inner}
use Rattle.bc_key.specs.Words.{ptr_word}
use Rattle.bc_key.specs.declared.key.Key.{Key}
use Rattle.bc_key.specs.declared.ptr.Ptr.{Ptr}
use Rattle.bc_leaves.specs.After.{inner_with_role, installed, with_role}
use Rattle.bc_leaves.specs.Parts.{Role, NoNode, Draft, Free, Leaving, Coming, ByRoot, BySet, NoChange}
use Rattle.bc_leaves.specs.Parts as parts
use Rattle.bc_leaves.proofs.Chains.{in_has}
use Rattle.bc_change.specs.bc_machine.Containers.{HasSets, IsAtRest, IsInTree, IsSpineOf, IsTreeInner, IsTreeLeaf, NamesRoot, Rests, child_of, inner_slot}
use Rattle.bc_meta.specs.Facts.{In}
use Rattle.bc_meta.specs.Records.{Node, Records}
use Rattle.bc_meta.specs.Tree.{children_of}
use Rattle.bc_node.specs.Leaf.{Leaf}
use Rattle.bc_parent_set.specs.Takes.{IsTaker}
use Rattle.bc_parent_set.proofs.Taker.{one_of_next, only_taker, taker_next}
use Rattle.bc_shares.specs.Shares.{InnerShare, inner_share, leaf_share, node_share, shape_of}
use Rattle.bc_spine.specs.Exchange.{coming, going}
use Rattle.bc_spine.specs.Numbers.{HasNumber}
use Rattle.bc_spine.specs.declared.leaf.LeafRange.{LeafRange}
use Rattle.bc_tree.specs.Next.{below_next, leaves_next, node_next, root_next}
use Rattle.bc_tree.specs.Plan.{Fits}
use Rattle.bc_tree.specs.Same.{SameNode, SameNodes}
use Rattle.bc_tree.specs.Spine.{Spine}
use Rattle.bc_tree.specs.declared.change.NodeChange.{NodeChange}
use Rattle.bc_tree.specs.declared.change.NodeChange.TheVariants.{Set}
use Rattle.bc_tree.specs.declared.plan.Plan.{Plan}
use Rattle.bc_whole.specs.State.{Opening}
use Rattle.bc_install.specs.Ended.{ByNewRoot, ByNodeSet, How, Makes}
use Rattle.bc_install.specs.Installed.{IsTreeWith}
use Rattle.bc_install.proofs.Moved.{AllMove, all_move, in_same, next_same, none_takes, same_in}

-- ---- roles

pub tree_role : (r : Role) → IsInTree r → (r ≡ Free) ⊎ (r ≡ Leaving)
tree_role NoNode tree = absurd tree
tree_role Draft tree = absurd tree
tree_role Free tree = inl refl
tree_role Leaving tree = inr refl
tree_role Coming tree = absurd tree

pub was_role : (r : Role) → IsInTree (installed r) → (r ≡ Free) ⊎ (r ≡ Coming)
was_role NoNode tree = absurd tree
was_role Draft tree = absurd tree
was_role Free tree = inl refl
was_role Leaving tree = absurd tree
was_role Coming tree = inr refl

pub free_after : (r : Role) → r ≡ Free → IsInTree (installed r)
free_after r is = subst (λ (x : Role). IsInTree (installed x)) (sym is) tt

pub came_after : (r : Role) → r ≡ Coming → IsInTree (installed r)
came_after r is = subst (λ (x : Role). IsInTree (installed x)) (sym is) tt

pub rests_after : (r : Role) → r ≢ Draft → Rests (installed r)
rests_after NoNode other = inl refl
rests_after Draft other = absurd (other refl)
rests_after Free other = inr refl
rests_after Leaving other = inl refl
rests_after Coming other = inr refl

pub none_leaves : (r : Role) → installed r ≡ Leaving → ⊥
none_leaves NoNode is = cc
none_leaves Draft is = cc
none_leaves Free is = cc
none_leaves Leaving is = cc
none_leaves Coming is = cc

pub two_roles : (r : Role) → r ≡ Free → r ≡ Leaving → ⊥
two_roles r free leaves = let same : Free ≡ Leaving = sym free ∙ leaves in cc

-- ---- the state behind it

abbrev pub ended : parts.State → Records → parts.State
ended st r = record {
  records = r;
  leaves = λ k. with_role (installed (st.leaves k).role) (st.leaves k);
  inner_nodes = λ x. inner_with_role (installed (st.inner_nodes x).role) (st.inner_nodes x);
  end = st.end;
  change = NoChange;
  sent = st.sent;
}

-- the node in this slot took a set that made the change, and has the children that it put
pub record IsTakerNow (w : Opening) (st : parts.State) (taker : Inner) (put : List Key) (slot : ℕ) :
    Type 0 where
  pub slot_is : inner_slot w taker ≡ slot
  pub change : st.change ≡ BySet slot
  pub stays : (st.inner_nodes slot).role ≡ Free
  pub children_are : children_of (inner_share st slot).node.sets
      ≡ map (child_of w) (with_children put taker.children)

abbrev pub Making : Opening → parts.State → How → Type 0
Making w st (ByNewRoot root number slot) = st.change ≡ ByRoot number
Making w st (ByNodeSet at taker put slot) = IsTakerNow w st taker put slot

by_root_no_set : (number : ℕ) (change : parts.Change) → change ≡ ByRoot number → (x : ℕ)
    → change ≢ BySet x
by_root_no_set number change by_root x same =
    let other : ByRoot number ≡ BySet x = sym by_root ∙ same in cc

one_set : (a b : ℕ) → BySet a ≡ BySet b → a ≡ b
one_set a b e = cc

some_one : (xs : List Inner) (i j : ℕ) (a b : Inner) → slice_get xs i ≡ Some a
    → slice_get xs j ≡ Some b → i ≡ j → a ≡ b
some_one xs i j a b at there same =
    let both : Some a ≡ Some b = sym at ∙ ap (λ k. slice_get xs k) same ∙ there in cc

module _ (w : Opening) (st : parts.State) (sp : Spine) (plan : Plan) (c : Change)
    (both : HasBoth plan) (is : IsChangeBy w sp plan c) (under : IsUnderWay w st plan c)
    (r : Records) (nodes : r.nodes ≡ st.records.nodes) where
  abbrev goes : List LeafRange
  goes = going sp.leaves plan.leaves

  pub leaf_is : (k : ℕ) → leaf_share (ended st r) k ≡ record {
    leaf = with_role (installed (st.leaves k).role) (st.leaves k);
    node = (leaf_share st k).node;
  }
  leaf_is k = ap (λ (f : ℕ → Node). record {
    leaf = with_role (installed (st.leaves k).role) (st.leaves k);
    node = node_share (f (st.leaves k).bucket);
  }) nodes

  pub inner_is : (x : ℕ) → inner_share (ended st r) x ≡ record {
    inner = inner_with_role (installed (st.inner_nodes x).role) (st.inner_nodes x);
    node = (inner_share st x).node;
  }
  inner_is x = ap (λ (f : ℕ → Node). record {
    inner = inner_with_role (installed (st.inner_nodes x).role) (st.inner_nodes x);
    node = node_share (f (st.inner_nodes x).bucket);
  }) nodes

  -- ---- leaves

  pub goes_at : (k : ℕ) → In k c.gone.items → (g : LeafRange) × In g goes × (g.number ≡ k)
  goes_at k m = in_map (λ (x : LeafRange). x.number) goes k
      (subst (λ (ks : List ℕ). In k ks) is.gone m)

  pub comes_at : (k : ℕ) → In k c.come.items
      → (l : LeafRange) × In l (coming plan.leaves) × (l.number ≡ k)
  comes_at k m = in_map (λ (x : LeafRange). x.number) (coming plan.leaves) k
      (subst (λ (ks : List ℕ). In k ks) is.come m)

  pub leaf_free : (k : ℕ) → IsInTree (st.leaves k).role
      → ((g : LeafRange) → In g goes → g.number ≢ k) → (st.leaves k).role ≡ Free
  leaf_free k tree other = elim (tree_role (st.leaves k).role tree) [
    | inl free ↦ free
    | inr leaves ↦ (let one = goes_at k (in_has c.gone.items k (under.whole.names.gone k leaves)) in
        absurd (other one.0 one.1 one.2))
  ]

  pub goes_leaves : (g : LeafRange) → In g goes → (st.leaves g.number).role ≡ Leaving
  goes_leaves g m = under.whole.leave g.number
      (subst (λ (ks : List ℕ). In g.number ks) (sym is.gone)
      (map_in (λ (x : LeafRange). x.number) goes g m))

  pub new_at : (l : LeafRange) → In l (coming plan.leaves)
      → (leaf : Leaf) × IsRangeFor l leaf × IsNewLeaf w Coming (leaf_share st l.number) leaf
  new_at l m = let one = new_leaf plan.leaves.first plan.first plan.leaves.second plan.second both
      l m in
      let known = under.come l one.0 (in_contains (new_leaves plan) (l, one.0) one.1) in
      (one.0, known.0, known.1)

  module _ (tree : IsTree sp) (stands : IsSpineOf w st sp) (fits : Fits sp plan) (how : How)
      (makes : Makes sp plan how) (making : Making w st how) where
    came_leaf : (l : LeafRange) → In l (coming plan.leaves)
        → IsTreeLeaf w l.from l.end l.ptr (shape_of ((ended st r).leaves l.number))
    came_leaf l m = let one = new_at l m in
        let range = one.1 in
        let new = one.2 in record {
          role = came_after (st.leaves l.number).role new.role_is;
          first = new.first ∙ sym range.from;
          end_is = new.end ∙ sym range.end;
          bucket = new.bucket ∙ ap (λ (p : Ptr). w.flow.books.bucket p.offset) (sym range.ptr);
          word = new.word ∙ ap ptr_word (sym range.ptr);
        }

    old_leaf : (l : LeafRange) → In l sp.leaves
        → ((g : LeafRange) → In g goes → l.number ≢ g.number)
        → IsTreeLeaf w l.from l.end l.ptr (shape_of ((ended st r).leaves l.number))
    old_leaf l m other = let h = stands.leaves l (in_contains sp.leaves l m) in record {
      role = free_after (st.leaves l.number).role
          (leaf_free l.number h.role (λ g at same. other g at (sym same)));
      first = h.first;
      end_is = h.end_is;
      bucket = h.bucket;
      word = h.word;
    }

    leaf_after : (l : LeafRange) → In l (leaves_next sp.leaves plan.leaves)
        → IsTreeLeaf w l.from l.end l.ptr (shape_of ((ended st r).leaves l.number))
    leaf_after l m = elim (leaf_next sp plan tree fits l m) [
      | inl new ↦ came_leaf l new
      | inr old ↦ old_leaf l old.0 old.1
    ]

    leaves_after : (k : ℕ) → IsInTree ((ended st r).leaves k).role
        → HasNumber (leaves_next sp.leaves plan.leaves) k
    leaves_after k in_tree = elim (was_role (st.leaves k).role in_tree) [
      | inl free ↦ (
          let one = stands.all_leaves k (subst IsInTree (sym free) tt) in
          let m = contains_in sp.leaves one.0 one.1 in
          elim (leaf_stays sp plan one.0 m) [
            | inl gone ↦ absurd (two_roles (st.leaves k).role free
                (subst (λ n. (st.leaves n).role ≡ Leaving) one.2 (goes_leaves one.0 gone)))
            | inr stays ↦ (one.0, in_contains (leaves_next sp.leaves plan.leaves) one.0 stays, one.2)
          ])
      | inr comes ↦ (
          let one = comes_at k (in_has c.come.items k (under.whole.names.come k comes)) in (
            one.0,
            in_contains (leaves_next sp.leaves plan.leaves) one.0 (leaf_comes sp plan one.0 one.1),
            one.2,
          ))
    ]

    -- ---- inner nodes

    abbrev here : List Inner
    here = sp.root ∷ sp.below

    abbrev next : List Inner
    next = root_next sp.root sp.below plan.bottom plan.top
        ∷ below_next sp.below plan.place plan.bottom plan.beside

    -- one that doesn't come was there as it is
    as_it_was : (root : Inner) → BringsRoot sp plan root → (n : Inner) → In n next
        → In n (new_nodes plan) ⊎ In n here
    as_it_was root brings n m =
        let move : AllMove plan.bottom plan.top =
        all_move sp.below plan.bottom plan.top root brings fits.alone in
        elim (next_same sp.root sp.below plan.place move.node plan.top plan.beside move.up n
        (subst (λ (b : NodeChange). In n (root_next sp.root sp.below b plan.top
        ∷ below_next sp.below plan.place b plan.beside)) move.is m)) [
          | inl new ↦ inl (subst (λ (b : NodeChange).
              In n (new_nodes (record plan { bottom = b }))) (sym move.is) new)
          | inr old ↦ inr old
        ]

    gone_slot : (o : Inner) → In o (old_nodes sp plan)
        → (st.inner_nodes (inner_slot w o)).role ≡ Leaving
    gone_slot o m = under.old (inner_slot w o) (subst (λ (ks : List ℕ). In (inner_slot w o) ks)
        (sym is.old) (map_in (inner_slot w) (old_nodes sp plan) o m))

    node_at : (n : Inner) → In n here
        → IsTreeInner w st.change (inner_slot w n) n (inner_share st (inner_slot w n))
    node_at n m = stands.nodes n (in_contains here n m)

    -- one that remains is of the tree, and doesn't leave
    stays_free : (n : Inner) → In n next → In n here
        → In n (new_nodes plan) ⊎ ((st.inner_nodes (inner_slot w n)).role ≡ Free)
    stays_free n m old = elim (next_is sp.root sp.below plan.place sp.room plan.bottom plan.top
        plan.beside fits.alone fits.stands n m) [
          | inl new ↦ inl new
          | inr remains ↦ inr (elim (tree_role (st.inner_nodes (inner_slot w n)).role
              (node_at n old).role) [
                | inl free ↦ free
                | inr leaves ↦ (
                    let one = in_map (inner_slot w) (old_nodes sp plan) (inner_slot w n)
                    (subst (λ (ks : List ℕ). In (inner_slot w n) ks) is.old
                    (under.only_old (inner_slot w n) leaves)) in
                    let there = remains.apart one.0 one.1 in
                    absurd (slots_apart w st sp tree stands there.0 remains.at one.0 remains.before
                    there.1 remains.there there.2 (one.2
                    ∙ ap (λ (p : Ptr). w.flow.books.bucket p.offset) remains.site.ptr)))
              ])
        ]

    came_inner : (n : Inner) → In n (new_nodes plan)
        → IsTreeInner w NoChange (inner_slot w n) n (inner_share (ended st r) (inner_slot w n))
    came_inner n m = let new = under.new n (in_contains (new_nodes plan) n m) in
        let x = inner_slot w n in
        subst (λ (s : InnerShare). IsTreeInner w NoChange x n s) (sym (inner_is x)) (record {
          role = came_after (st.inner_nodes x).role new.role_is;
          first = new.first;
          end = new.end;
          bucket = new.bucket;
          word = new.word;
          level = new.level;
          loaded = λ on. let off = new.fresh in cc;
          own = λ off. new.own;
          children = λ ne. new.children;
        })

    kept_inner : (n : Inner) → In n here → st.change ≢ BySet (inner_slot w n)
        → (st.inner_nodes (inner_slot w n)).role ≡ Free
        → IsTreeInner w NoChange (inner_slot w n) n (inner_share (ended st r) (inner_slot w n))
    kept_inner n m off free = let h = node_at n m in
        let x = inner_slot w n in
        subst (λ (s : InnerShare). IsTreeInner w NoChange x n s) (sym (inner_is x)) (record {
          role = free_after (st.inner_nodes x).role free;
          first = h.first;
          end = h.end;
          bucket = h.bucket;
          word = h.word;
          level = h.level;
          loaded = h.loaded;
          own = h.own;
          children = λ ne. h.children off;
        })

    -- the node that took a set has its children now
    taker_inner : (at : ℕ) (taker : Inner) (put : List Key) (slot : ℕ) → IsTaker sp plan at taker put
        → IsTakerNow w st taker put slot → (n : Inner) → n ≡ node_next taker (Set put)
        → IsTreeInner w NoChange (inner_slot w n) n (inner_share (ended st r) (inner_slot w n))
    taker_inner at taker put slot take now n n_is =
        let x = inner_slot w taker in
        let h = node_at taker (get_in here at taker take.there) in
        subst (λ (y : Inner).
        IsTreeInner w NoChange (inner_slot w y) y (inner_share (ended st r) (inner_slot w y)))
        (sym n_is)
        (subst (λ (s : InnerShare). IsTreeInner w NoChange x (node_next taker (Set put)) s)
        (sym (inner_is x)) (record {
          role = free_after (st.inner_nodes x).role
              (ap (λ k. (st.inner_nodes k).role) now.slot_is ∙ now.stays);
          first = h.first;
          end = h.end;
          bucket = h.bucket;
          word = h.word;
          level = h.level;
          loaded = h.loaded;
          own = h.own;
          children = λ ne. ap (λ k. children_of (inner_share st k).node.sets) now.slot_is
              ∙ now.children_are;
        }))

    -- a node at another place isn't it
    not_taker : (at : ℕ) (taker : Inner) (put : List Key) (slot : ℕ) → IsTaker sp plan at taker put
        → IsTakerNow w st taker put slot → (j : ℕ) (n : Inner) → slice_get here j ≡ Some n → j ≢ at
        → st.change ≢ BySet (inner_slot w n)
    not_taker at taker put slot take now j n there ne same =
        slots_apart w st sp tree stands j at n taker there take.there ne
        (one_set (inner_slot w n) slot (sym same ∙ now.change) ∙ sym now.slot_is)

    after_by : (h : How) → Makes sp plan h → Making w st h → (n : Inner) → In n next
        → IsTreeInner w NoChange (inner_slot w n) n (inner_share (ended st r) (inner_slot w n))
    after_by (ByNewRoot root number slot) brings by_root n m = elim (as_it_was root brings n m) [
      | inl new ↦ came_inner n new
      | inr old ↦ elim (stays_free n m old) [
        | inl new ↦ came_inner n new
        | inr free ↦ kept_inner n old
            (by_root_no_set number st.change by_root (inner_slot w n)) free
      ]
    ]
    after_by (ByNodeSet at taker put slot) take now n m =
        elim (one_of_next sp.root sp.below plan.place plan.bottom plan.top plan.beside at taker put
        take.takes take.there n m) [
          | inl new ↦ came_inner n new
          | inr more ↦ elim more [
            | inl its ↦ taker_inner at taker put slot take now n its
            | inr old ↦ (let there = get_in here old.0 n old.1 in elim (stays_free n m there) [
              | inl new ↦ came_inner n new
              | inr free ↦ kept_inner n there
                  (not_taker at taker put slot take now old.0 n old.1 old.2) free
            ])
          ]
        ]

    inner_after : (n : Inner) → In n next
        → IsTreeInner w NoChange (inner_slot w n) n (inner_share (ended st r) (inner_slot w n))
    inner_after = after_by how makes making

    -- a node that is the same but for its room
    same_inner : (n m : Inner) → SameNode n m
        → IsTreeInner w NoChange (inner_slot w n) n (inner_share (ended st r) (inner_slot w n))
        → IsTreeInner w NoChange (inner_slot w m) m (inner_share (ended st r) (inner_slot w m))
    same_inner n m same h =
        let slot : inner_slot w n ≡ inner_slot w m =
        ap (λ (p : Ptr). w.flow.books.bucket p.offset) (sym same.node.ptr) in
        subst (λ k. IsTreeInner w NoChange k m (inner_share (ended st r) k)) slot (record {
          role = h.role;
          first = h.first ∙ sym same.node.from;
          end = h.end ∙ sym same.node.end;
          bucket = h.bucket ∙ slot;
          word = h.word ∙ ap ptr_word (sym same.node.ptr);
          level = h.level ∙ sym same.node.level;
          loaded = λ on. same.node.loaded ∙ h.loaded on;
          own = λ off. subst (λ t. HasSets w.layout (inner_share (ended st r) (inner_slot w n)).node
              m.seq t) (sym same.node.taken)
              (subst (λ q. HasSets w.layout (inner_share (ended st r) (inner_slot w n)).node q n.taken)
              (sym same.node.seq) (h.own (sym same.node.loaded ∙ off)));
          children = λ ne. h.children (λ at. cc)
              ∙ ap (map (child_of w)) (sym same.children_are);
        })

    -- one that takes a set stands there with its new children
    takes_by : (h : How) → Makes sp plan h → (j : ℕ) (n : Inner) → slice_get here j ≡ Some n
        → TakesAt sp.below plan.place plan.bottom plan.top j
        → (y : Inner) × In y next × (inner_slot w y ≡ inner_slot w n)
    takes_by (ByNewRoot root number slot) brings j n there takes =
        absurd (none_takes sp.below plan.place plan.bottom plan.top j
        (all_move sp.below plan.bottom plan.top root brings fits.alone) takes)
    takes_by (ByNodeSet at taker put slot) take j n there takes = (
      node_next taker (Set put),
      taker_next sp.root sp.below plan.place sp.room plan.bottom plan.top plan.beside at taker put
          take.takes take.there fits.stands,
      ap (inner_slot w) (some_one here at j taker n take.there there
          (sym (only_taker sp.root sp.below plan.place plan.bottom plan.top at put take.takes j n
          there takes))),
    )

    -- each slot of the tree has one of these
    inners_after : (x : ℕ) → IsInTree ((ended st r).inner_nodes x).role
        → (n : Inner) × In n next × (inner_slot w n ≡ x)
    inners_after x in_tree = elim (was_role (st.inner_nodes x).role in_tree) [
      | inl free ↦ (
          let one = stands.all_nodes x (subst IsInTree (sym free) tt) in
          let m = contains_in here one.0 one.1 in
          let at = in_get here one.0 m in
          elim (kept_next sp.root sp.below plan.place sp.room plan.bottom plan.top plan.beside
          fits.node fits.there fits.stands at.0 one.0 at.1 (λ gone. two_roles (st.inner_nodes x).role
          free (subst (λ k. (st.inner_nodes k).role ≡ Leaving) one.2 (gone_slot one.0 gone)))) [
            | inl stays ↦ (one.0, stays, one.2)
            | inr takes ↦ (let now = takes_by how makes at.0 one.0 at.1 takes in
                (now.0, now.1, now.2 ∙ one.2))
          ])
      | inr comes ↦ (
          let one = in_map (inner_slot w) (new_nodes plan) x
          (subst (λ (ks : List ℕ). In x ks) is.new (under.only_new x comes)) in (
            one.0,
            new_in sp.root sp.below plan.place sp.room plan.bottom plan.top plan.beside fits.node
                fits.there fits.alone fits.stands one.0 one.1,
            one.2,
          ))
    ]

    -- ---- the tree

    module _ (new : Spine) (made : IsTreeWith sp plan new) where
      same_nodes : SameNodes next (new.root ∷ new.below)
      same_nodes = (made.root, made.below)

      pub tree_after : IsSpineOf w (ended st r) new
      tree_after = record {
        leaves = λ l m. leaf_after l (subst (λ (ls : List LeafRange). In l ls) made.leaves
            (contains_in new.leaves l m));
        all_leaves = λ k in_tree. subst (λ (ls : List LeafRange). HasNumber ls k) (sym made.leaves)
            (leaves_after k in_tree);
        nodes = λ m at. let one = same_in next (new.root ∷ new.below) m same_nodes
            (contains_in (new.root ∷ new.below) m at) in
            same_inner one.0 m one.2 (inner_after one.0 one.1);
        all_nodes = λ x in_tree. let one = inners_after x in_tree in
            let same = in_same next (new.root ∷ new.below) one.0 same_nodes one.1 in (
              same.0,
              in_contains (new.root ∷ new.below) same.0 same.1,
              ap (λ (p : Ptr). w.flow.books.bucket p.offset) same.2.node.ptr ∙ one.2,
            );
        end = stands.end ∙ sym fits.end ∙ sym made.root.node.end;
      }

      -- it is at rest
      pub rest_after : NamesRoot r
          (inner_slot w (root_next sp.root sp.below plan.bottom plan.top)) → IsAtRest w (ended st r) new
      rest_after named = record {
        change = refl;
        leaves = λ k. rests_after (st.leaves k).role (under.no_leaf k);
        inner_nodes = λ x. rests_after (st.inner_nodes x).role (under.no_inner x);
        root = subst (NamesRoot r)
            (ap (λ (p : Ptr). w.flow.books.bucket p.offset) (sym made.root.node.ptr)) named;
      }
