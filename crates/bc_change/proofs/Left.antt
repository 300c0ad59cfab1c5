-- Once a change has begun, no inner node that stays has a child that leaves, but one that takes a
-- set for it.
use Rattle.std.proofs.Common.{◌≡◌, ◌≢◌, ◌⊎◌, inl, inr, ℕ, ◌<◌, ◌≤◌, Bool, true, false, List, [], ◌∷◌, ◌++◌, Option, Some, None, refl, sym, subst, ap, ◌∙◌, if◌then◌else◌}
use Rattle.std.specs.Prelude.{map, slice_get}
use Rattle.bc_events.specs.declared.event.Change.{Change}
use Rattle.bc_facts.proofs.Stood.{contains_in}
use Rattle.bc_inner.specs.Inner.{Inner}
use Rattle.bc_leaves.specs.After.{changed, has}
use Rattle.bc_leaves.specs.After as parts_step
use Rattle.bc_leaves.specs.Enabled.{CanSealNext, CanSealRoot, NoneLeft, children_in}
use Rattle.bc_leaves.specs.Events.{BeginChange}
use Rattle.bc_leaves.specs.Keys.{last_said, ref_said}
use Rattle.bc_leaves.specs.Parts.{Role, NoNode, Draft, Free, Leaving, Coming, AllFrom, BySet, IsLive, NoChange, Stays, inner_node_of, keys_in_leaf}
use Rattle.bc_leaves.specs.Parts as parts
use Rattle.bc_leaves.specs.Rows.{Fills}
use Rattle.bc_leaves.proofs.Chains.{has_in, in_has}
use Rattle.bc_nodes_known.specs.bc_machine.Containers.{IsInTree, IsLeafFor, inner_slot}
use Rattle.bc_meta.specs.Facts.{In}
use Rattle.bc_meta.specs.Tree.{Child, children_of}
use Rattle.bc_node.specs.Leaf.{Leaf}
use Rattle.bc_nodes_known.specs.Nodes.{AreStill}
use Rattle.bc_shares.specs.Shares.{leaf_share}
use Rattle.bc_tree.specs.LastKeys.{LeafKeys}
use Rattle.bc_tree.specs.Next.{below_next, leaves_next, root_next}
use Rattle.bc_tree.specs.Spine.{Spine}
use Rattle.bc_tree.specs.declared.change.NodeChange.{NodeChange}
use Rattle.bc_tree.specs.declared.change.NodeChange.TheVariants.{Move, Set}
use Rattle.bc_tree.specs.declared.plan.Plan.{Plan}
use Rattle.bc_whole.specs.State.{Opening}
use Rattle.bc_change.specs.Goes.{BringsBy, BringsRoot, IsChangeBy, beside_come, moved, new_nodes, old_nodes, top_moved}
use Rattle.bc_change.specs.Laws.{unused_for}
use Rattle.bc_change.specs.Ready.{IsReadyChange, IsUnchanged}
use Rattle.bc_change.proofs.Begins.{begins, filled, stable_sets}
use Rattle.bc_change.proofs.Filled.{tree_filled}
use Rattle.bc_change.proofs.Lists.{in_get, map_in}
use Rattle.bc_change.proofs.Nexts.{TakesAt, kept_next}
use Rattle.bc_change.proofs.Places.{inner_ready, leaf_place, leaves_row, new_stays, next_place, tree_inner}

-- ---- roles

-- what stays doesn't go
not_gone : (gone come : List ℕ) (k : ℕ) (role : Role) → Stays (changed gone come k role)
    → has gone k ≡ false
not_gone gone come k role stays = go (has gone k) refl stays
  where
    go : (b : Bool) → has gone k ≡ b
        → Stays (if b then Leaving else (if has come k then Coming else role)) → has gone k ≡ false
    go true on h = absurd h
    go false off h = off

-- and comes, or was of the tree
comes_or_was : (gone come : List ℕ) (k : ℕ) (role : Role) → Stays (changed gone come k role)
    → IsUnchanged role → (has come k ≡ true) ⊎ IsInTree role
comes_or_was gone come k role stays calm = go (has gone k) (has come k) refl stays
  where
    was : (r : Role) → Stays r → IsUnchanged r → IsInTree r
    was NoNode h c = absurd h
    was Draft h c = absurd h
    was Free h c = tt
    was Leaving h c = absurd h
    was Coming h c = absurd c

    go : (a b : Bool) → has come k ≡ b
        → Stays (if a then Leaving else (if b then Coming else role))
        → (has come k ≡ true) ⊎ IsInTree role
    go true b is h = absurd h
    go false true is h = inl is
    go false false is h = inr (was role h calm)

-- a slot that had no node, and is none of a change's, has none
pub none_before : (gone come : List ℕ) (k : ℕ) (role : Role) → (In k gone → role ≢ NoNode)
    → (In k come → role ≢ NoNode) → changed gone come k role ≢ NoNode → role ≢ NoNode
none_before gone come k role one two some =
    go (has gone k) (has come k) refl refl some
  where
    go : (a b : Bool) → has gone k ≡ a → has come k ≡ b
        → (if a then Leaving else (if b then Coming else role)) ≢ NoNode → role ≢ NoNode
    go true b on is h = one (in_has gone k on)
    go false true off on h = two (in_has come k on)
    go false false off out h = h

-- ---- the change begins

-- what it leaves of the tree
abbrev pub begun : parts.State → Change → parts.State
begun st c = parts_step.after st (BeginChange c.low c.high c.gone.items c.come.items c.old.items
    c.new.items (unused_for st c))

pub not_none : (r s : Role) → r ≡ s → s ≢ NoNode → r ≢ NoNode
not_none r s is some none = some (sym is ∙ none)

module _ (w : Opening) (st : parts.State) (sp : Spine) (plan : Plan) (keys : LeafKeys) (c : Change)
    (ready : IsReadyChange w st sp plan keys) (is : IsChangeBy w sp plan c)
    (said : (k s : ℕ) (leaf : Leaf) → IsLeafFor w (leaf_share st k) leaf → leaf.from ≤ s
    → s < leaf.end → ref_said (last_said leaf.keys s)
    ≡ ref_said (last_said (keys_in_leaf st k) s)) (still : AreStill st) where
  abbrev nodes : List Inner
  nodes = sp.root ∷ sp.below

  -- a node of the tree that takes a set for the change
  pub record TakesSetHere (x : ℕ) : Type 0 where
    pub node : Inner
    pub at : ℕ
    pub there : slice_get nodes at ≡ Some node
    pub slot : inner_slot w node ≡ x
    pub takes : TakesAt sp.below plan.place plan.bottom plan.top at

  abbrev Filled : ℕ → Type 0
  Filled x = Fills (begun st c).leaves (begun st c).inner_nodes Stays ((begun st c).inner_nodes x)
      (children_in (begun st c) x)

  -- it stands in the tree that is made, with the same children
  old_filled : (n : Inner) → In n nodes
      → In n (root_next sp.root sp.below plan.bottom plan.top
      ∷ below_next sp.below plan.place plan.bottom plan.beside) → Filled (inner_slot w n)
  old_filled n before now =
      let x = inner_slot w n in
      let one = tree_inner w st sp plan keys c ready is n before in
      let live : IsLive (st.inner_nodes x).role = free_live (st.inner_nodes x).role one.role in
      let off = still.inner_nodes x live (λ same. not_by x (sym ready.ready.calm.change ∙ same)) in
      let has_children = one.children (λ same. not_by x (sym ready.ready.calm.change ∙ same)) in
      subst (λ (ks : List Child). Fills (begun st c).leaves (begun st c).inner_nodes Stays
      ((begun st c).inner_nodes x) ks)
      (sym (ap children_of (sym (stable_sets (inner_node_of st x) off)) ∙ has_children))
      (tree_filled w (begun st c).leaves (begun st c).inner_nodes sp.geometry
      (root_next sp.root sp.below plan.bottom plan.top)
      (below_next sp.below plan.place plan.bottom plan.beside) (leaves_next sp.leaves plan.leaves)
      sp.root.end ready.fits.tree (leaves_row w st sp plan keys c ready is).row
      (leaf_place w st sp plan keys c ready is)
      (λ b at. next_place w st sp plan keys c ready is b (inr at)) n now
      ((begun st c).inner_nodes x)
      (record { first = one.first; end = one.end; level = one.level }))
    where
      free_live : (r : Role) → IsInTree r → IsLive r
      free_live NoNode h = absurd h
      free_live Draft h = absurd h
      free_live Free h = tt
      free_live Leaving h = tt
      free_live Coming h = absurd h

      not_by : (x : ℕ) → NoChange ≡ BySet x → ⊥
      not_by x same = cc

  -- each inner node that stays
  pub kept_filled : (x : ℕ) → Stays ((begun st c).inner_nodes x).role → Filled x ⊎ TakesSetHere x
  kept_filled x stays = elim (comes_or_was c.old.items c.new.items x (st.inner_nodes x).role stays
      (ready.ready.calm.inner_nodes x)) [
        | inl comes ↦ inl (filled w st sp plan keys c ready is said x (in_has c.new.items x comes))
        | inr was ↦ (
            let one = ready.stands.all_nodes x was in
            let n = one.0 in
            let there = contains_in nodes n one.1 in
            let at = in_get nodes n there in
            let out = not_gone c.old.items c.new.items x (st.inner_nodes x).role stays in
            elim (kept_next sp.root sp.below plan.place sp.room plan.bottom plan.top plan.beside
            ready.fits.node ready.fits.there ready.fits.stands at.0 n at.1
            (λ goes. never (has c.old.items x) (has_in c.old.items x
            (subst (λ (ks : List ℕ). In x ks) (sym is.old)
            (subst (λ k. In k (map (inner_slot w) (old_nodes sp plan))) one.2
            (map_in (inner_slot w) (old_nodes sp plan) n goes)))) out)) [
              | inl now ↦ inl (subst (λ k. Filled k) one.2 (old_filled n there now))
              | inr takes ↦ inr (record {
                node = n;
                at = at.0;
                there = at.1;
                slot = one.2;
                takes = takes;
              })
            ])
      ]
    where
      never : (b : Bool) → b ≡ true → b ≡ false → ⊥
      never b on off = cc

  -- ---- an entry with a new root makes it

  module _ (root : Inner) (brings : BringsRoot sp plan root) where
    no_set : (below : List Inner) (bottom_change : NodeChange) (top : Option NodeChange) (at : ℕ)
        → BringsBy below bottom_change top root
        → TakesAt below plan.place bottom_change top at → ⊥
    no_set [] (Set keys) top at b t = b
    no_set [] (Move next) top at b t = t
    no_set (x ∷ xs) (Set keys) top at b t = b
    no_set (x ∷ xs) (Move next) None at b t = b
    no_set (x ∷ xs) (Move next) (Some (Set keys)) at b t = b
    no_set (x ∷ xs) (Move next) (Some (Move up)) at b (inl low) = low.0
    no_set (x ∷ xs) (Move next) (Some (Move up)) at b (inr high) = high.0

    none_left : NoneLeft (begun st c) (λ x. Unit {0})
    none_left x stays any = elim (kept_filled x stays) [
      | inl full ↦ full
      | inr takes ↦ absurd (no_set sp.below plan.bottom plan.top takes.at brings takes.takes)
    ]

    -- it is the root of the tree that is made
    root_is : (below : List Inner) (bottom_change : NodeChange) (top : Option NodeChange)
        → BringsBy below bottom_change top root → (root ≡ root_next sp.root below bottom_change top)
    root_is [] (Set keys) top b = absurd b
    root_is [] (Move next) top b = b
    root_is (x ∷ xs) (Set keys) top b = absurd b
    root_is (x ∷ xs) (Move next) None b = absurd b
    root_is (x ∷ xs) (Move next) (Some (Set keys)) b = absurd b
    root_is (x ∷ xs) (Move next) (Some (Move up)) b = b

    pub root_new : In root (new_nodes plan)
    root_new = go sp.below plan.bottom plan.top brings
      where
        go : (below : List Inner) (bottom_change : NodeChange) (top : Option NodeChange)
            → BringsBy below bottom_change top root
            → In root (moved bottom_change ++ (top_moved top ++ beside_come plan.beside))
        go [] (Set keys) top b = absurd b
        go [] (Move next) top b = inl b
        go (x ∷ xs) (Set keys) top b = absurd b
        go (x ∷ xs) (Move next) None b = absurd b
        go (x ∷ xs) (Move next) (Some (Set keys)) b = absurd b
        go (x ∷ xs) (Move next) (Some (Move up)) b = inr (inl b)

    some_leaf : (k : ℕ) → ((begun st c).leaves k).role ≢ NoNode → (st.leaves k).role ≢ NoNode
    some_leaf k some = let can = begins w st sp plan keys c ready is said in
        none_before c.gone.items c.come.items k (st.leaves k).role
        (λ m. not_none (st.leaves k).role Free (can.gone_leaf k m).0 (λ no. cc))
        (λ m. not_none (st.leaves k).role Draft (can.come_leaf k m).0 (λ no. cc)) some

    pub can_seal_root : (last_seq : ℕ) → CanSealNext st last_seq
        → CanSealRoot (begun st c) last_seq (inner_slot w root)
    can_seal_root last_seq next =
        let new = (inner_ready w st sp plan keys c ready is root root_new).new in
        let at = root_is sp.below plan.bottom plan.top brings in (
          (next.0, next.1, next.2, λ k some. next.3 k (some_leaf k some)),
          refl,
          new_stays w st sp plan keys c ready is root root_new,
          new.first ∙ ap (λ (x : Inner). x.from) at ∙ ready.fits.tree.inner.begins,
          new.end ∙ ap (λ (x : Inner). x.end) at ∙ ready.fits.end ∙ sym ready.stands.end,
          none_left,
        )
