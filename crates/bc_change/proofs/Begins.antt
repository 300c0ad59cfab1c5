-- A change that is ready may begin.
use Rattle.std.proofs.Common.{◌≡◌, ◌⊎◌, inl, inr, ℕ, ◌<◌, ◌≤◌, Bool, true, false, List, [], ◌∷◌, refl, sym, subst, ap, ◌∙◌, arith, if◌then◌else◌}
use Rattle.bc_books.specs.Shelves.{Held, Tree}
use Rattle.bc_events.specs.Changes.{buckets_come, inner_buckets, leaf_buckets, without}
use Rattle.bc_events.specs.declared.event.Change.{Change}
use Rattle.bc_facts.proofs.Stood.{in_behind, in_contains, in_either, in_front}
use Rattle.bc_inner.specs.Inner.{Inner}
use Rattle.bc_key.specs.declared.key.Key.{Key}
use Rattle.bc_key.specs.declared.ptr.Ptr.{Ptr}
use Rattle.bc_known.specs.Acts.{State}
use Rattle.bc_leaves.specs.After.{has, inner_nodes_changed, leaves_changed}
use Rattle.bc_leaves.specs.Enabled.{CanBegin, IsStable, children_in}
use Rattle.bc_leaves.specs.Keys.{last_said, ref_said}
use Rattle.bc_leaves.specs.Parts.{AllUpTo, Draft, Free, InRange, Stays, inner_node_of, keys_in_leaf, node_of}
use Rattle.bc_leaves.specs.Parts as parts
use Rattle.bc_leaves.specs.Rows.{Fills, Row}
use Rattle.bc_leaves.proofs.Chains.{has_in, in_has}
use Rattle.bc_nodes_known.specs.bc_machine.Containers.{IsLeafFor, inner_slot}
use Rattle.bc_meta.specs.Facts.{In}
use Rattle.bc_meta.specs.Records.{Node}
use Rattle.bc_meta.specs.Tree.{Child, NodeSet, children_of, set_keys}
use Rattle.bc_node.specs.Leaf.{Leaf}
use Rattle.bc_shares.specs.Shares.{books_of, leaf_share, node_share, written_sets}
use Rattle.bc_spine.specs.Exchange.{coming, going}
use Rattle.bc_spine.specs.Leaves.{IsRow}
use Rattle.bc_spine.specs.declared.leaf.LeafRange.{LeafRange}
use Rattle.bc_tree.specs.LastKeys.{GiveSame, LeafKeys, keys_next}
use Rattle.bc_tree.specs.Next.{below_next, leaves_next, root_next}
use Rattle.bc_tree.specs.Spine.{Spine}
use Rattle.bc_tree.specs.declared.plan.Plan.{Plan}
use Rattle.bc_whole.specs.State.{Opening}
use Rattle.bc_whole.specs.Together.{AreHeldFor}
use Rattle.bc_nodes_known.proofs.Law.{law_said}
use Rattle.bc_nodes_known.specs.bc_machine.World.{replay}
use Rattle.bc_change.specs.Goes.{IsChangeBy, new_nodes, old_nodes}
use Rattle.bc_change.specs.Laws.{LawBegin, unused_for}
use Rattle.bc_change.specs.Ready.{HoldsNew, IsReadyChange}
use Rattle.bc_change.proofs.Filled.{tree_filled}
use Rattle.bc_change.proofs.Lists.{in_map, row_ends, row_known, row_last, row_rises}
use Rattle.bc_change.proofs.Nexts.{new_in}
use Rattle.bc_change.proofs.Places.{free_of, goes_in, inner_ready, leaf_free, leaf_place, leaf_ready, leaves_row, new_keys, next_place, old_there, tree_inner, tree_leaf}
use Rattle.bc_change.proofs.Said.{same_ref}

-- a node of which no set is under way has its sets alone
pub stable_sets : (n : Node) → n.sent ≡ false → (node_share n).sets ≡ n.sets
stable_sets n off = ap (λ b. written_sets b n.last n.sets) off

leaf_bucket_in : (st : parts.State) (is : List ℕ) (k : ℕ) → In k is
    → In (st.leaves k).bucket (leaf_buckets st is)
leaf_bucket_in st [] k m = absurd m
leaf_bucket_in st (i ∷ is) k (inl here) = inl (ap (λ n. (st.leaves n).bucket) here)
leaf_bucket_in st (i ∷ is) k (inr later) = inr (leaf_bucket_in st is k later)

inner_bucket_in : (st : parts.State) (is : List ℕ) (k : ℕ) → In k is
    → In (st.inner_nodes k).bucket (inner_buckets st is)
inner_bucket_in st [] k m = absurd m
inner_bucket_in st (i ∷ is) k (inl here) = inl (ap (λ n. (st.inner_nodes n).bucket) here)
inner_bucket_in st (i ∷ is) k (inr later) = inr (inner_bucket_in st is k later)

in_leaf_buckets : (st : parts.State) (is : List ℕ) (q : ℕ) → In q (leaf_buckets st is)
    → (k : ℕ) × In k is × ((st.leaves k).bucket ≡ q)
in_leaf_buckets st [] q m = absurd m
in_leaf_buckets st (i ∷ is) q (inl here) = (i, inl refl, sym here)
in_leaf_buckets st (i ∷ is) q (inr later) = let one = in_leaf_buckets st is q later in
    (one.0, inr one.1, one.2)

in_inner_buckets : (st : parts.State) (is : List ℕ) (q : ℕ) → In q (inner_buckets st is)
    → (k : ℕ) × In k is × ((st.inner_nodes k).bucket ≡ q)
in_inner_buckets st [] q m = absurd m
in_inner_buckets st (i ∷ is) q (inl here) = (i, inl refl, sym here)
in_inner_buckets st (i ∷ is) q (inr later) = let one = in_inner_buckets st is q later in
    (one.0, inr one.1, one.2)

taken_away : (unused : ℕ → Bool) (buckets : List ℕ) (q : ℕ) → In q buckets
    → without unused buckets q ≡ false
taken_away unused buckets q m =
    ap (λ b. if b then false else unused q) (has_in buckets q m)

fewer : (unused : ℕ → Bool) (buckets : List ℕ) (q : ℕ) → without unused buckets q ≡ true
    → unused q ≡ true
fewer unused buckets q = go (has buckets q)
  where
    go : (b : Bool) → (if b then false else unused q) ≡ true → unused q ≡ true
    go true on = absurd (cc)
    go false on = on

module _ (w : Opening) (st : parts.State) (sp : Spine) (plan : Plan) (keys : LeafKeys) (c : Change)
    (ready : IsReadyChange w st sp plan keys) (is : IsChangeBy w sp plan c)
    (said : (k s : ℕ) (leaf : Leaf) → IsLeafFor w (leaf_share st k) leaf → leaf.from ≤ s
    → s < leaf.end → ref_said (last_said leaf.keys s)
    ≡ ref_said (last_said (keys_in_leaf st k) s)) where
  abbrev come : List LeafRange
  come = coming plan.leaves

  abbrev goes : List LeafRange
  goes = going sp.leaves plan.leaves

  -- a leaf by its number
  gone_at : (k : ℕ) → In k c.gone.items → (g : LeafRange) × In g goes × (g.number ≡ k)
  gone_at k m = in_map (λ (x : LeafRange). x.number) goes k
      (subst (λ (ks : List ℕ). In k ks) is.gone m)

  come_at : (k : ℕ) → In k c.come.items → (l : LeafRange) × In l come × (l.number ≡ k)
  come_at k m = in_map (λ (x : LeafRange). x.number) come k
      (subst (λ (ks : List ℕ). In k ks) is.come m)

  pub new_at : (x : ℕ) → In x c.new.items → (n : Inner) × In n (new_nodes plan) × (inner_slot w n ≡ x)
  new_at x m = in_map (inner_slot w) (new_nodes plan) x
      (subst (λ (ks : List ℕ). In x ks) is.new m)

  old_at : (x : ℕ) → In x c.old.items → (n : Inner) × In n (old_nodes sp plan) × (inner_slot w n ≡ x)
  old_at x m = in_map (inner_slot w) (old_nodes sp plan) x
      (subst (λ (ks : List ℕ). In x ks) is.old m)

  -- ---- ranges

  old_row : Row st.leaves c.low c.gone.items c.high
  old_row = subst (λ (ks : List ℕ). Row st.leaves c.low ks c.high) (sym is.gone)
      (row_known st.leaves c.low goes c.high is.row (λ l m.
      let one = tree_leaf w st sp plan keys c ready is l (goes_in w st sp plan keys c ready is l m) in
      (one.first, one.end_is)))

  come_row : IsRow c.low come c.high
  come_row = ready.fits.leaves_fit.fits.same_range c.low c.high is.row

  new_row : Row st.leaves c.low c.come.items c.high
  new_row = subst (λ (ks : List ℕ). Row st.leaves c.low ks c.high) (sym is.come)
      (row_known st.leaves c.low come c.high come_row (λ l m.
      let one = (leaf_ready w st sp plan keys c ready is l m).2 in
      (one.new.first ∙ sym one.range_is.from, one.new.end ∙ sym one.range_is.end)))

  -- something goes, as something comes
  within : c.high ≤ st.end
  within = go goes refl is.row
    where
      go : (ls : List LeafRange) → goes ≡ ls → IsRow c.low ls c.high → c.high ≤ st.end
      go [] none row = let same = row in let up = come_row in
          let rest = row_rises plan.leaves.first.end _ c.high up.2 in
          let some = up.1 in absurd (omega (arith, same, rest, some))
      go (l ∷ ls) some row =
          let last = row_last c.low l ls c.high row in
          let there = goes_in w st sp plan keys c ready is last.0
          (subst (λ (xs : List LeafRange). In last.0 xs) (sym some) last.1) in
          let low = row_ends 0 sp.leaves sp.root.end last.0 ready.tree.leaves.row there in
          let end = ready.stands.end in let at = last.2 in omega (arith, low, end, at)

  -- ---- what the new leaves say

  abbrev SaysSame : ℕ → ℕ → ℕ → Type 0
  SaysSame s i j = InRange (st.leaves i) s → InRange (st.leaves j) s
      → ref_said (last_said (set_keys (node_of st j).sets) s)
      ≡ ref_said (last_said (keys_in_leaf st i) s)

  ranges_same : (s : ℕ) (g l : LeafRange) → In g goes → In l come → SaysSame s g.number l.number
  ranges_same s g l goes_there comes_there at_old at_new =
      let old = ready.gone g (in_contains goes g goes_there) in
      let new = leaf_ready w st sp plan keys c ready is l comes_there in
      let leaf = new.0 in
      let one = new.2 in
      let tree = old.stands.at in
      let low = at_old.0 in let high = at_old.1 in
      let low_new = at_new.0 in let high_new = at_new.1 in
      let old_first = tree.first in let old_end = tree.end_is in
      let new_first = one.new.first in let new_end = one.new.end in
      let range = one.range_is in
      let from = range.from in let to = range.end in
      let known = tree_leaf w st sp plan keys c ready is g
      (goes_in w st sp plan keys c ready is g goes_there) in
      let known_first = known.first in let known_end = known.end_is in
      let gives : GiveSame (keys g.number) (keys_next keys plan l.number) s =
      ready.same s g l
      (record {
        held = in_contains goes g goes_there;
        spans = (omega (arith, low, known_first), omega (arith, high, known_end));
      })
      (record {
        held = in_contains come l comes_there;
        spans = (omega (arith, low_new, new_first, from), omega (arith, high_new, new_end, to));
      }) in
      ap (λ (sets : List NodeSet). ref_said (last_said (set_keys sets) s))
      (sym (stable_sets (node_of st l.number) one.stable.1))
      ∙ sym (one.new.keys s (omega (arith, low_new, new_first)) (omega (arith, high_new, new_end)))
      ∙ same_ref old.leaf.keys leaf.keys s old.stands.lists.last.order one.new.lists.last.order
      (subst (λ (ks : List Key). GiveSame ks leaf.keys s) old.keys_are
      (subst (λ (ks : List Key). GiveSame (keys g.number) ks s)
      (new_keys w st sp plan keys c ready is l leaf new.1) gives))
      ∙ said g.number s old.leaf old.stands (omega (arith, low, old_first))
      (omega (arith, high, old_end))

  same : (i j s : ℕ) → In i c.gone.items → In j c.come.items → SaysSame s i j
  same i j s m n = let old = gone_at i m in let new = come_at j n in
      subst (λ k. SaysSame s k j) old.2 (subst (λ k. SaysSame s old.0.number k) new.2
      (ranges_same s old.0 new.0 old.1 new.1))

  -- ---- inner nodes

  pub filled : (x : ℕ) → In x c.new.items → Fills (leaves_changed st c.gone.items c.come.items)
      (inner_nodes_changed st c.old.items c.new.items) Stays (st.inner_nodes x) (children_in st x)
  filled x m = let one = new_at x m in
      let n = one.0 in
      let got = inner_ready w st sp plan keys c ready is n one.1 in
      let node = inner_node_of st (inner_slot w n) in
      subst (λ k. Fills (leaves_changed st c.gone.items c.come.items)
      (inner_nodes_changed st c.old.items c.new.items) Stays (st.inner_nodes k) (children_in st k)) one.2
      (subst (λ (ks : List Child). Fills (leaves_changed st c.gone.items c.come.items)
      (inner_nodes_changed st c.old.items c.new.items) Stays (st.inner_nodes (inner_slot w n)) ks)
      (sym (ap children_of (sym (stable_sets node got.stable.1)) ∙ got.new.children))
      (tree_filled w (leaves_changed st c.gone.items c.come.items) (inner_nodes_changed st c.old.items c.new.items)
      sp.geometry (root_next sp.root sp.below plan.bottom plan.top)
      (below_next sp.below plan.place plan.bottom plan.beside) (leaves_next sp.leaves plan.leaves)
      sp.root.end ready.fits.tree (leaves_row w st sp plan keys c ready is).row
      (leaf_place w st sp plan keys c ready is)
      (λ b at. next_place w st sp plan keys c ready is b (inr at)) n
      (new_in sp.root sp.below plan.place sp.room plan.bottom plan.top plan.beside ready.fits.node
      ready.fits.there ready.fits.alone ready.fits.stands n one.1)
      (st.inner_nodes (inner_slot w n)) (record {
        first = got.new.first;
        end = got.new.end;
        level = got.new.level;
      })))

  abbrev come_buckets : List ℕ
  come_buckets = buckets_come st c

  pub begins : CanBegin st c.low c.high c.gone.items c.come.items c.old.items c.new.items
      (unused_for st c)
  begins = record {
    no_change = ready.ready.calm.change;
    old_row = old_row;
    new_row = new_row;
    within = within;
    gone_leaf = λ i m. let one = gone_at i m in
        subst (λ k. ((st.leaves k).role ≡ Free)
        × AllUpTo st.records.newest.number (st.leaves k).pending) one.2 (
          leaf_free w st sp plan keys c ready is one.0 (goes_in w st sp plan keys c ready is one.0 one.1),
          (ready.gone one.0 (in_contains goes one.0 one.1)).durable,
        );
    come_leaf = λ j m. let one = come_at j m in
        let got = (leaf_ready w st sp plan keys c ready is one.0 one.1).2 in
        subst (λ k. ((st.leaves k).role ≡ Draft) × IsStable (node_of st k)) one.2
        (got.new.role_is, got.stable);
    same = same;
    old_inner = λ x m. let one = old_at x m in
        subst (λ k. (st.inner_nodes k).role ≡ Free) one.2
        (free_of (st.inner_nodes (inner_slot w one.0)).role
        (ready.ready.calm.inner_nodes (inner_slot w one.0)) (tree_inner w st sp plan keys c ready is one.0
        (old_there w st sp plan keys c ready is one.0 one.1)).role);
    new_inner = λ x m. let one = new_at x m in
        let got = inner_ready w st sp plan keys c ready is one.0 one.1 in
        subst (λ k. ((st.inner_nodes k).role ≡ Draft) × IsStable (inner_node_of st k)) one.2
        (got.new.role_is, got.stable);
    filled = filled;
    fewer = λ q on. fewer st.records.unused come_buckets q on;
    leaf_taken = λ j m. taken_away st.records.unused come_buckets (st.leaves j).bucket
        (in_front (st.leaves j).bucket (leaf_buckets st c.come.items) (inner_buckets st c.new.items)
        (leaf_bucket_in st c.come.items j m));
    inner_taken = λ x m. taken_away st.records.unused come_buckets (st.inner_nodes x).bucket
        (in_behind (st.inner_nodes x).bucket (leaf_buckets st c.come.items)
        (inner_buckets st c.new.items) (inner_bucket_in st c.new.items x m));
  }

module _ (w : Opening) (st : State) (i : ℕ) (sp : Spine) (plan : Plan) (keys : LeafKeys) (c : Change)
    (ready : IsReadyChange w st.whole.parts sp plan keys) (holds : HoldsNew w (books_of st) i plan)
    (is : IsChangeBy w sp plan c) where
  abbrev p : parts.State
  p = st.whole.parts

  shelf_of : (q : ℕ) → In q (buckets_come p c) → (books_of st).shelf q ≡ Held i Tree
  shelf_of q m = elim (in_either q (leaf_buckets p c.come.items) (inner_buckets p c.new.items) m) [
    | inl low ↦ (let at = in_leaf_buckets p c.come.items q low in
        let one = in_map (λ (x : LeafRange). x.number) (coming plan.leaves) at.0
        (subst (λ (ks : List ℕ). In at.0 ks) is.come at.1) in
        let got = (leaf_ready w p sp plan keys c ready is one.0 one.1).2 in
        ap (books_of st).shelf (sym (ap (λ k. (p.leaves k).bucket) one.2 ∙ at.2)
        ∙ got.new.bucket ∙ ap (λ (x : Ptr). w.flow.books.bucket x.offset) (sym got.range_is.ptr))
        ∙ holds.leaves one.0 (in_contains (coming plan.leaves) one.0 one.1))
    | inr high ↦ (let at = in_inner_buckets p c.new.items q high in
        let one = in_map (inner_slot w) (new_nodes plan) at.0
        (subst (λ (ks : List ℕ). In at.0 ks) is.new at.1) in
        let got = inner_ready w p sp plan keys c ready is one.0 one.1 in
        ap (books_of st).shelf (sym (ap (λ k. (p.inner_nodes k).bucket) one.2 ∙ at.2)
        ∙ got.new.bucket) ∙ holds.inner_nodes one.0 (in_contains (new_nodes plan) one.0 one.1))
  ]

  pub held : AreHeldFor st.whole i (unused_for p c)
  held q off = go (has (buckets_come p c) q) refl off
    where
      go : (b : Bool) → has (buckets_come p c) q ≡ b
          → (if b then false else p.records.unused q) ≡ false
          → (p.records.unused q ≡ false) ⊎ ((books_of st).shelf q ≡ Held i Tree)
      go true on low = inr (shelf_of q (in_has (buckets_come p c) q on))
      go false out low = inl low

pub law_begin : LawBegin
law_begin x o origin on i sp plan keys c ready holds is = record {
  can = begins o.opening.machine (replay o x.log).machine.whole.parts sp plan keys c ready is (law_said x o origin on);
  held = held o.opening.machine (replay o x.log).machine i sp plan keys c ready holds is;
}
