-- A change that has begun may be made by a set of the node that takes one.
use Rattle.std.proofs.Common.{◌≡◌, ◌≢◌, inl, inr, ℕ, suc, ◌<◌, ◌≤◌, Bool, true, false, List, ◌∷◌, Some, refl, sym, subst, ap, ◌∙◌, arith, if◌then◌else◌}
use Rattle.std.specs.Prelude.{map, slice_get}
use Rattle.bc_change.specs.Goes.{IsChangeBy, old_nodes}
use Rattle.bc_change.specs.Laws.{unused_for}
use Rattle.bc_change.specs.Ready.{IsReadyChange}
use Rattle.bc_change.specs.bc_machine.Containers.{IsLeafFor, IsTreeInner, child_of, inner_slot}
use Rattle.bc_change.proofs.Begins.{begins, stable_sets}
use Rattle.bc_change.proofs.Filled.{tree_filled}
use Rattle.bc_change.proofs.Left.{begun, kept_filled}
use Rattle.bc_change.proofs.Lists.{get_in, has_not, in_map}
use Rattle.bc_change.proofs.Places.{free_of, leaf_place, leaves_row, next_place, old_there, stays_there, tree_inner, two_slots}
use Rattle.bc_change.proofs.Turned.{leaves_now}
use Rattle.bc_events.specs.declared.event.Change.{Change}
use Rattle.bc_image.specs.Children.{with_children}
use Rattle.bc_inner.specs.Inner.{Inner}
use Rattle.bc_key.specs.declared.key.Key.{Key}
use Rattle.bc_leaves.specs.After.{has}
use Rattle.bc_leaves.specs.Enabled.{CanBegin, CanSetParent, NoneLeft, children_in}
use Rattle.bc_leaves.specs.Keys.{last_said, ref_said}
use Rattle.bc_leaves.specs.Parts.{BySet, Coming, Draft, Free, IsLive, Leaving, NoChange, Role, Stays, inner_node_of, keys_in_leaf}
use Rattle.bc_leaves.specs.Parts as parts
use Rattle.bc_leaves.specs.Rows.{Fills}
use Rattle.bc_meta.specs.Facts.{In}
use Rattle.bc_meta.specs.Tree.{Child, NodeSet, children_of, put_children}
use Rattle.bc_node.specs.Leaf.{Leaf}
use Rattle.bc_append.specs.bc_nodes_known.Nodes.{AreStill, NamesFrom}
use Rattle.bc_shares.specs.Shares.{inner_share, leaf_share}
use Rattle.bc_tree.specs.LastKeys.{LeafKeys}
use Rattle.bc_tree.specs.Next.{below_next, leaves_next, node_next, root_next}
use Rattle.bc_tree.specs.Spine.{Spine}
use Rattle.bc_tree.specs.declared.change.NodeChange.TheVariants.{Set}
use Rattle.bc_tree.specs.declared.plan.Plan.{Plan}
use Rattle.bc_whole.specs.State.{Opening}
use Rattle.bc_parent_set.specs.Takes.{IsTaker}
use Rattle.bc_parent_set.proofs.Children.{puts_are}
use Rattle.bc_parent_set.proofs.Taker.{gone_at, only_taker, taker_next}

not_by : (x : ℕ) → NoChange ≡ BySet x → ⊥
not_by x same = cc

not_draft : (r : Role) → r ≡ Free → r ≡ Draft → ⊥
not_draft r free draft = let same : Free ≡ Draft = sym free ∙ draft in cc

same_node : (xs : List Inner) (i j : ℕ) (a b : Inner) → slice_get xs i ≡ Some a
    → slice_get xs j ≡ Some b → i ≡ j → a ≡ b
same_node xs i j a b at there same =
    let both : Some a ≡ Some b = sym at ∙ ap (λ k. slice_get xs k) same ∙ there in cc

not_read : (b : Bool) (n : Inner) → (b ≡ true → n.loaded ≡ true) → n.loaded ≡ false → b ≡ false
not_read false n f off = refl
not_read true n f off = let both : true ≡ false = sym (f refl) ∙ off in absurd (cc)

module _ (w : Opening) (st : parts.State) (sp : Spine) (plan : Plan) (keys : LeafKeys) (c : Change)
    (ready : IsReadyChange w st sp plan keys) (is : IsChangeBy w sp plan c)
    (said : (k s : ℕ) (leaf : Leaf) → IsLeafFor w (leaf_share st k) leaf → leaf.from ≤ s
    → s < leaf.end → ref_said (last_said leaf.keys s)
    ≡ ref_said (last_said (keys_in_leaf st k) s)) (still : AreStill st)
    (at : ℕ) (taker : Inner) (put : List Key) (take : IsTaker sp plan at taker put) where
  abbrev nodes : List Inner
  nodes = sp.root ∷ sp.below

  abbrev x : ℕ
  x = inner_slot w taker

  can : CanBegin st c.low c.high c.gone.items c.come.items c.old.items c.new.items (unused_for st c)
  can = begins w st sp plan keys c ready is said

  pub here : IsTreeInner w st.change x taker (inner_share st x)
  here = tree_inner w st sp plan keys c ready is taker (get_in nodes at taker take.there)

  pub free : (st.inner_nodes x).role ≡ Free
  free = free_of (st.inner_nodes x).role (ready.ready.calm.inner_nodes x) here.role

  -- each node that goes has another slot, and so has the root one
  apart : (o : Inner) → In o (old_nodes sp plan) → inner_slot w o ≢ x
  apart o m same =
      let g = gone_at sp.root sp.below plan.place plan.bottom plan.top plan.beside at put take.takes o m in
      two_slots w st sp plan keys c ready is (suc g.0) at o taker g.1 take.there g.2 same

  root_apart : (o : Inner) → In o (old_nodes sp plan) → inner_slot w o ≢ inner_slot w sp.root
  root_apart o m same =
      let g = gone_at sp.root sp.below plan.place plan.bottom plan.top plan.beside at put take.takes o m in
      two_slots w st sp plan keys c ready is (suc g.0) 0 o sp.root g.1 refl
      (λ e. omega (arith, e)) same

  out : has c.old.items x ≡ false
  out = stays_there w st sp plan keys c ready is taker apart

  none_new : has c.new.items x ≡ false
  none_new = has_not c.new.items x (λ m.
      not_draft (st.inner_nodes x).role free (can.new_inner x m).0)

  pub role_is : ((begun st c).inner_nodes x).role ≡ Free
  role_is =
      ap (λ b. if b then Leaving else (if has c.new.items x then Coming else (st.inner_nodes x).role)) out
      ∙ ap (λ b. if b then Coming else (st.inner_nodes x).role) none_new ∙ free

  role_stays : Stays ((begun st c).inner_nodes x).role
  role_stays = subst Stays (sym role_is) tt

  off : (inner_node_of st x).sent ≡ false
  off = still.inner_nodes x (subst IsLive (sym free) tt)
      (λ same. not_by x (sym ready.ready.calm.change ∙ same))

  pub was : children_in (begun st c) x ≡ map (child_of w) taker.children
  was = ap children_of (sym (stable_sets (inner_node_of st x) off))
      ∙ here.children (λ same. not_by x (sym ready.ready.calm.change ∙ same))

  -- each other inner node that stays has its children
  none_left : NoneLeft (begun st c) (λ y. y ≢ x)
  none_left y stays_ ne = elim (kept_filled w st sp plan keys c ready is said still y stays_) [
    | inl full ↦ full
    | inr takes ↦ absurd (ne (sym takes.slot ∙ ap (inner_slot w)
        (same_node nodes takes.at at takes.node taker takes.there take.there
        (only_taker sp.root sp.below plan.place plan.bottom plan.top at put take.takes takes.at
        takes.node takes.there takes.takes))))
  ]

  module _ (set : NodeSet) (puts : set.children ≡ map (child_of w) put) where
    pub behind : put_children set.children (children_in (begun st c) x)
        ≡ map (child_of w) (with_children put taker.children)
    behind = ap (λ (ks : List Child). put_children ks (children_in (begun st c) x)) puts
        ∙ ap (put_children (map (child_of w) put)) was ∙ puts_are w put taker.children

    filled : Fills (begun st c).leaves (begun st c).inner_nodes Stays ((begun st c).inner_nodes x)
        (put_children set.children (children_in (begun st c) x))
    filled = subst (λ (ks : List Child). Fills (begun st c).leaves (begun st c).inner_nodes Stays
        ((begun st c).inner_nodes x) ks) (sym behind)
        (tree_filled w (begun st c).leaves (begun st c).inner_nodes sp.geometry
        (root_next sp.root sp.below plan.bottom plan.top)
        (below_next sp.below plan.place plan.bottom plan.beside) (leaves_next sp.leaves plan.leaves)
        sp.root.end ready.fits.tree (leaves_row w st sp plan keys c ready is).row
        (leaf_place w st sp plan keys c ready is)
        (λ b m. next_place w st sp plan keys c ready is b (inr m)) (node_next taker (Set put))
        (taker_next sp.root sp.below plan.place sp.room plan.bottom plan.top plan.beside at taker put
        take.takes take.there ready.fits.stands)
        ((begun st c).inner_nodes x)
        (record { first = here.first; end = here.end; level = here.level }))

    module _ (fresh : taker.loaded ≡ false)
        (named : NamesFrom 0 (inner_slot w sp.root) st.records) where
      gone_slot : (y : ℕ) → ((begun st c).inner_nodes y).role ≡ Leaving
          → (o : Inner) × In o (old_nodes sp plan) × (inner_slot w o ≡ y)
      gone_slot y leaves = in_map (inner_slot w) (old_nodes sp plan) y
          (subst (λ (ks : List ℕ). In y ks) is.old
          (leaves_now c.old.items c.new.items y (st.inner_nodes y).role
          (λ m. can.old_inner y m) (λ m. (can.new_inner y m).0) (ready.ready.calm.inner_nodes y)
          leaves))

      -- the bucket of one that leaves isn't the root's
      not_root : (y : ℕ) → ((begun st c).inner_nodes y).role ≡ Leaving
          → (st.inner_nodes y).bucket ≢ inner_slot w sp.root
      not_root y leaves same =
          let one = gone_slot y leaves in
          let stands = tree_inner w st sp plan keys c ready is one.0
          (old_there w st sp plan keys c ready is one.0 one.1) in
          root_apart one.0 one.1
          (sym stands.bucket ∙ ap (λ k. (st.inner_nodes k).bucket) one.2 ∙ same)

      pub can_set_parent : CanSetParent (begun st c) x set
      can_set_parent = (
        refl,
        role_stays,
        not_read (st.inner_nodes x).loaded taker here.loaded fresh,
        filled,
        none_left,
        λ y leaves. (
          λ same. not_root y leaves (same ∙ named.newest (omega arith)),
          λ some same. not_root y leaves (same ∙ named.sealed some),
        ),
      )
