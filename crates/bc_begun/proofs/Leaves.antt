-- Leaves in memory, as the machine has them.
use Rattle.std.proofs.Common.{◌≡◌, ℕ, zero, suc, ◌%◌, ◌<◌, ◌&&◌, ◌==◌, Bool, true, false, List, [], ◌∷◌, ◌++◌, length, Option, Some, None, refl, sym, ap, ◌∙◌, subst, arith, if◌then◌else◌}
use Rattle.std.specs.Prelude.{map, reverse, slice_get, slice_index_or}
use Rattle.std.proofs.lemmas.List.{reverse-append}
use Rattle.bc_cache.specs.Slots.{Misses, NodeCache}
use Rattle.bc_chosen.specs.Parts.{Parts, choices_of}
use Rattle.bc_chosen.specs.Slots.{node_at, slot_at}
use Rattle.bc_chosen.specs.Waiting.{all_waiting, waiting, waiting_at}
use Rattle.bc_chosen.proofs.Parts.{law_chosen}
use Rattle.bc_disk.specs.Disk.{DiskFacts, IfTold}
use Rattle.bc_disk.specs.declared.geometry.Geometry.{Geometry}
use Rattle.bc_facts.specs.Layout.{IsLayoutOf}
use Rattle.bc_facts.specs.Seen.{seen_sets}
use Rattle.bc_facts.proofs.Place.{by_lt}
use Rattle.bc_image.specs.Pair.{Pair}
use Rattle.bc_image.specs.Reading.{Reading, View}
use Rattle.bc_image.specs.Tree.{AreSetsAt, Node, set_keys}
use Rattle.bc_image.proofs.Unique.{one_sets, some_same}
use Rattle.bc_key.specs.Key.{pointer_of, ptr_at}
use Rattle.bc_key.specs.declared.key.Key.{Key}
use Rattle.bc_key.specs.declared.ptr.Ptr.{Ptr}
use Rattle.bc_leaves.specs.Keys.{last_said, ref_said}
use Rattle.bc_leaves.specs.Parts as parts
use Rattle.bc_leaves.specs.Parts.{Leaving, Pending}
use Rattle.bc_machine.specs.Containers.{AreEntriesOf, AreLeavesOf, IsInTree, IsLeafFor, IsTreeLeaf}
use Rattle.bc_meta.specs.Facts.{In}
use Rattle.bc_meta.specs.Layout.{Layout}
use Rattle.bc_meta.specs.Records as records
use Rattle.bc_meta.specs.Tree as tree
use Rattle.bc_meta.specs.Tree.{NodeSet}
use Rattle.bc_model.specs.Sector.{Image}
use Rattle.bc_model.proofs.Cases.{by_test}
use Rattle.bc_node.specs.Leaf.{AreLastOfAll, Leaf}
use Rattle.bc_node.specs.declared.pending.Entries.{Entries}
use Rattle.bc_opening.specs.Choices.{IsLeaf, MayBeChosen}
use Rattle.bc_opening.specs.Nodes.{opened_node}
use Rattle.bc_opening.specs.Read.{is_leaf, leaf_of}
use Rattle.bc_opening.proofs.Opened as openings
use Rattle.bc_pending.specs.Entries.{keys_in}
use Rattle.bc_pending.specs.declared.numbered.Numbered.{Numbered}
use Rattle.bc_slots.specs.bc_regrow.Parts.{AreRangesOf, IsRangeOf, leaf_nodes}
use Rattle.bc_reload.specs.Added as added
use Rattle.bc_reload.specs.Added.{noted_all}
use Rattle.bc_reload.specs.Reload.{IsReloaded}
use Rattle.bc_remains.proofs.Keys.{leaf_keys}
use Rattle.bc_set.specs.declared.set.Set.{Set}
use Rattle.bc_shares.specs.Shares.{LeafShare, leaf_share, node_share, shape_of}
use Rattle.bc_slots.specs.Parts.{IsLeafPart}
use Rattle.bc_slots.specs.Places.{has_keys, is_in}
use Rattle.bc_slots.proofs.Leaves.{each_has_one, no_other}
use Rattle.bc_spine.specs.declared.leaf.LeafRange.{LeafRange}
use Rattle.bc_whole.specs.State.{Opening}
use Rattle.bc_begun.specs.Laws.{LawLeaves}
use Rattle.bc_begun.specs.Opened.{IsOpenedWith}
use Rattle.bc_begun.proofs.Opened.{known, node_is}
use Rattle.bc_begun.proofs.Order.{Rising, entries_of, keys_rise, pieces_rise}
use Rattle.bc_begun.proofs.Said.{keys_say, pending_say}
use Rattle.bc_begun.proofs.Spine.{tree_leaf}

-- ---- lists by places

-- the leaf whose range has this place
range_found : (ns : List Node) (leaves : List LeafRange) (k : ℕ) (l : LeafRange)
    → AreRangesOf ns leaves → slice_get leaves k ≡ Some l
    → (n : Node) × (node_at ns k ≡ Some n) × IsRangeOf n l
range_found [] [] zero l ranges e = absurd (cc)
range_found [] [] (suc k) l ranges e = absurd (cc)
range_found [] (m ∷ leaves) k l ranges e = absurd ranges
range_found (n ∷ ns) [] k l ranges e = absurd ranges
range_found (n ∷ ns) (m ∷ leaves) zero l ranges e =
    (n, refl, subst (λ (x : LeafRange). IsRangeOf n x) (some_same m l e) ranges.0)
range_found (n ∷ ns) (m ∷ leaves) (suc k) l ranges e = range_found ns leaves k l ranges.1 e

-- a list that has something is one of the lists
list_low : (lists : List (List Numbered)) (k : ℕ) (y : Numbered) (ys : List Numbered)
    → slice_index_or lists k [] ≡ y ∷ ys → k < length lists
list_low [] zero y ys e = absurd (cc)
list_low [] (suc k) y ys e = absurd (cc)
list_low (xs ∷ lists) zero y ys e = omega arith
list_low (xs ∷ lists) (suc k) y ys e = let low = list_low lists k y ys e in omega (arith, low)

range_low : (leaves : List LeafRange) (k : ℕ) (l : LeafRange) → slice_get leaves k ≡ Some l
    → (k < length leaves) × (slice_index_or leaves k l ≡ l)
range_low [] zero l e = absurd (cc)
range_low [] (suc k) l e = absurd (cc)
range_low (m ∷ leaves) zero l e = (omega arith, some_same m l e)
range_low (m ∷ leaves) (suc k) l e = let rest = range_low leaves k l e in
    let low = rest.0 in (omega (arith, low), rest.1)

and_both : (a b : Bool) → (a && b) ≡ true → b ≡ true
and_both true b e = e
and_both false b e = absurd (cc)

in_its_part : (pending : List (List Numbered)) (count part number : ℕ)
    → is_in pending count part number ≡ true → number % count ≡ part
in_its_part pending count part number e = by_test (number % count) part
    (λ t. t ≡ true → number % count ≡ part) (λ same _. same) (λ _ is. absurd (cc))
    (and_both (has_keys (slice_index_or pending number [])) (number % count == part) e)

-- ---- keys turned round

keys_more : (xs : List Pending) (x : Pending)
    → parts.keys_of (xs ++ x ∷ []) ≡ parts.keys_of xs ++ x.key ∷ []
keys_more [] x = refl
keys_more (y ∷ xs) x = ap (λ (l : List Key). y.key ∷ l) (keys_more xs x)

keys_turned : (more : List Numbered)
    → reverse (added.keys_of more) ≡ parts.keys_of (all_waiting more)
keys_turned [] = refl
keys_turned (x ∷ xs) = reverse-append (x.key ∷ []) (added.keys_of xs)
    ∙ ap (λ (l : List Key). l ++ x.key ∷ []) (keys_turned xs)
    ∙ sym (keys_more (all_waiting xs) (waiting x))
    ∙ ap parts.keys_of (sym (reverse-append (waiting x ∷ []) (map waiting xs)))

-- ---- pointers

ptr_is : (key : Key) (ptr : Ptr) → pointer_of key ≡ Some ptr → ptr_at key 0 ≡ ptr
ptr_is key ptr = by_lt 0 key.count
    (λ b. (if b then Some (ptr_at key 0) else None) ≡ Some ptr → ptr_at key 0 ≡ ptr)
    (λ _ e. some_same (ptr_at key 0) ptr e) (λ _ e. absurd (cc))

-- ---- a machine that is opened

abbrev shared : parts.Leaf → records.Node → LeafShare
shared leaf node = record { leaf = leaf; node = node_share node }

module _ (p : Pair) (v : View) (layout : Layout) (x : Parts) (w : Opening) (st : parts.State)
    (h : IsOpenedWith p v layout x w st) where
  abbrev g : Geometry
  g = v.geometry

  abbrev r : Reading
  r = v.reading

  chosen : MayBeChosen g r (choices_of g r x)
  chosen = law_chosen p v x h.view h.sound h.read

  -- the node in a leaf's slot
  leaf_node : (k : ℕ) (n : Node) → node_at (leaf_nodes r.nodes) k ≡ Some n
      → In n r.nodes × IsLeaf n.level
  leaf_node k n here = chosen.leaves.is_node k n here

  leaf_is : (k : ℕ) (n : Node) → node_at (leaf_nodes r.nodes) k ≡ Some n
      → st.leaves k ≡ leaf_of g (Some n) (waiting_at x.pending k)
  leaf_is k n here = h.opening.parts.leaves k ∙ ap (λ o. leaf_of g o (waiting_at x.pending k)) here

  share_is : (k : ℕ) (n : Node) → node_at (leaf_nodes r.nodes) k ≡ Some n
      → leaf_share st k ≡ shared (leaf_of g (Some n) (waiting_at x.pending k)) (opened_node g n)
  share_is k n here =
      ap (λ (l : parts.Leaf). shared l (st.records.nodes l.bucket)) (leaf_is k n here)
      ∙ ap (shared (leaf_of g (Some n) (waiting_at x.pending k))) (node_is p v layout x w st h n (leaf_node k n here).0)

  -- the sets of a leaf, as the device has them by a key with the same pointer
  sets_at : (k : ℕ) (n : Node) (key : Key) (range : LeafRange)
      → node_at (leaf_nodes r.nodes) k ≡ Some n → IsRangeOf n range
      → pointer_of key ≡ Some range.ptr → AreSetsAt g p.cache 0 key n.sets
  sets_at k n key range here of points =
      let there = leaf_node k n here in
      let k = known p v layout x w st h in
      let o = k.opened in
      let sit = openings.sits p v layout (choices_of g r x) k.opening k.state o n there.0 in
      let at : AreSetsAt g p.cache 0 n.key n.sets =
      subst (λ l. AreSetsAt g p.cache l n.key n.sets) there.1
      (subst (λ (i : Image). AreSetsAt g i n.level n.key n.sets) o.opening.store.image sit.at) in
      record {
        ptr = at.ptr;
        points = points ∙ ap Some of.stands ∙ sym sit.points ∙ at.points;
        stand = at.stand;
        some = at.some;
      }

  -- the keys of a leaf: those of its sets, and of the entries
  keys_are : (sets : List Set) (more : List Numbered) (n : Node) → sets ≡ n.sets → IsLeaf n.level
      → reverse (set_keys sets ++ added.keys_of more)
      ≡ parts.keys_of (all_waiting more) ++ tree.set_keys (seen_sets g (is_leaf n.level) n.sets)
  keys_are sets more n same level = reverse-append (set_keys sets) (added.keys_of more)
      ∙ ap (λ (l : List Key). l ++ reverse (set_keys sets)) (keys_turned more)
      ∙ ap (λ (l : List Key). parts.keys_of (all_waiting more) ++ l) (leaf_keys g sets
      ∙ ap (λ ss. tree.set_keys (seen_sets g true ss)) same
      ∙ ap (λ b. tree.set_keys (seen_sets g b n.sets)) (sym (ap is_leaf level)))

  -- the keys of each sector are in the leaf that has it
  pub in_slots : (k s : ℕ) → IsInTree (st.leaves k).role → parts.InRange (st.leaves k) s
      → w.flow.books.leaf s ≡ k
  in_slots k s live inside = h.opening.books.leaf s ∙ go (node_at (leaf_nodes r.nodes) k) refl
    where
      go : (o : Option Node) → node_at (leaf_nodes r.nodes) k ≡ o → slot_at x.tree.leaves s ≡ k
      go None e = absurd (subst (λ (l : parts.Leaf). IsInTree l.role)
          (h.opening.parts.leaves k ∙ ap (λ o. leaf_of g o (waiting_at x.pending k)) e) live)
      go (Some n) e =
          let own = subst (λ (l : parts.Leaf). parts.InRange l s) (leaf_is k n e) inside in
          chosen.slots k n s e own.0 own.1

  -- the keys that a leaf gets back rise by the numbers of their entries
  rises : (k : ℕ) (range : LeafRange) → slice_get x.tree.leaves k ≡ Some range
      → Rising (slice_index_or x.pending k [])
  rises k range there =
      let low = range_low x.tree.leaves k range there in
      let entries = h.view.reading.entries in
      (pieces_rise (slice_index_or x.tree.leaves k range) (keys_in r.entries)
      (slice_index_or x.pending k []) (h.read.pending.pieces k range low.0)
      (keys_rise entries.all entries.newest.item.last_seq r.entries (suc entries.newest.item.seq)
      entries.numbered).0).0

  module _ (d : DiskFacts) (holds : d.holds ≡ Some p.cache) where
    leaf_for : (k : ℕ) (leaf : Leaf) (range : LeafRange) → slice_get x.tree.leaves k ≡ Some range
        → IsReloaded g range (slice_index_or x.pending k []) d leaf
        → IsLeafFor w (leaf_share st k) leaf
    leaf_for k leaf range there is =
        let f = range_found (leaf_nodes r.nodes) x.tree.leaves k range h.read.tree.leaves there in
        let n = f.0 in
        let more = slice_index_or x.pending k [] in
        let sets = is.held.0 in
        let of = is.held.2 in
        let told : AreSetsAt g p.cache 0 is.key sets =
        subst (λ (o : Option Image). IfTold o (λ image. AreSetsAt g image 0 is.key sets)) holds
        is.held.1 in
        let same : sets ≡ n.sets = one_sets g p.cache 0 is.key sets n.sets told
        (sets_at k n is.key range f.1 f.2 is.names.points) in
        let level = (leaf_node k n f.1).1 in
        let last = is.added.keys (set_keys sets) of.last in
        let none = of.pending in
        let pending : AreLastOfAll (added.keys_of more) leaf.pending = is.added.pending []
        (subst (λ (l : List Key). AreLastOfAll [] l) (sym none.keys) nothing) in
        subst (λ (s : LeafShare). IsLeafFor w s leaf) (sym (share_is k n f.1)) (record {
          at = subst (λ (l : parts.Leaf). IsTreeLeaf w leaf.from leaf.end leaf.ptr (shape_of l))
              (leaf_is k n f.1)
              (subst (λ a. IsTreeLeaf w a leaf.end leaf.ptr (shape_of (st.leaves k)))
              (sym (is.added.node.from ∙ of.begins))
              (subst (λ b. IsTreeLeaf w range.from b leaf.ptr (shape_of (st.leaves k)))
              (sym (is.added.node.end ∙ of.ends ∙ is.names.ends))
              (subst (λ (q : Ptr). IsTreeLeaf w range.from range.end q (shape_of (st.leaves k)))
              (sym (is.added.node.ptr ∙ of.ptr ∙ ptr_is is.key range.ptr is.names.points))
              (tree_leaf p v layout x w st h range k n f.1 f.2))));
          loaded = λ on. is.added.node.loaded ∙ of.loaded;
          own = λ off. absurd (let read = is.added.node.loaded ∙ of.loaded in cc);
          whole = λ off. absurd (let read = is.added.node.loaded ∙ of.loaded in cc);
          keys = λ s low high. keys_say (set_keys sets ++ added.keys_of more) leaf.keys s last.order
              last.shown
              ∙ ap (λ (l : List Key). ref_said (last_said l s)) (keys_are sets more n same level);
          pending = λ s. pending_say (added.keys_of more) leaf.pending s pending.order pending.shown
              ∙ ap (λ (l : List Key). last_said l s) (keys_turned more);
          entries = subst (λ (o : Option Entries). AreEntriesOf o (all_waiting more))
              (sym (is.added.entries ∙ ap (noted_all more) none.entries))
              (entries_of more (rises k range there));
          lists = record {
            list = set_keys sets ++ added.keys_of more;
            last = last;
            added = added.keys_of more;
            last_added = pending;
          };
        })
      where
        nothing : AreLastOfAll [] []
        nothing = record {
          order = (
            (λ j a lt. absurd (omega (arith, lt))),
            (λ i j a lt inside. absurd (omega (arith, inside))),
          );
          shown = λ s. refl;
        }

    -- a leaf that no slot has gets nothing back
    nothing_waits : (count part : ℕ) (cache : NodeCache) (k : ℕ)
        → IsLeafPart g x.tree.leaves x.pending count d part cache → k % count ≡ part
        → Misses cache.slots k → (ks : List Numbered) → slice_index_or x.pending k [] ≡ ks
        → all_waiting ks ≡ []
    nothing_waits count part cache k is same misses [] e = refl
    nothing_waits count part cache k is same misses (y ∷ ys) e =
        let one = each_has_one d g x.tree.leaves x.pending count part k cache is
        (list_low x.pending k y ys e) (ap has_keys e) same in
        absurd (misses one.slot (record {
          cached = one.cached;
          there = one.there;
          number_is = one.opened.number_is;
        }))

    no_keys : (k : ℕ) → waiting_at x.pending k ≡ [] → (st.leaves k).pending ≡ []
    no_keys k none = ap (λ (l : parts.Leaf). l.pending) (h.opening.parts.leaves k)
        ∙ go (node_at (leaf_nodes r.nodes) k)
      where
        go : (o : Option Node) → (leaf_of g o (waiting_at x.pending k)).pending ≡ []
        go None = refl
        go (Some n) = none

    -- no leaf is replaced yet
    not_leaving : (k : ℕ) → (st.leaves k).role ≡ Leaving → ⊥
    not_leaving k is = go (node_at (leaf_nodes r.nodes) k)
        (sym (ap (λ (l : parts.Leaf). l.role) (h.opening.parts.leaves k)) ∙ is)
      where
        go : (o : Option Node) → (leaf_of g o (waiting_at x.pending k)).role ≡ Leaving → ⊥
        go None is = absurd (cc)
        go (Some n) is = absurd (cc)

    leaves_of : (count part : ℕ) (cache : NodeCache)
        → IsLeafPart g x.tree.leaves x.pending count d part cache
        → AreLeavesOf w st count part cache
    leaves_of count part cache is = record {
      layout = subst (λ (a : Geometry). IsLayoutOf a w.layout) (sym is.geometry)
          (subst (IsLayoutOf v.geometry) (sym h.opening.layout_is) h.divided);
      rest = λ i c there. in_its_part x.pending count part c.number
          (no_other d g x.tree.leaves x.pending count part i c cache is there).0;
      leaves = λ i c there.
          (let o = (no_other d g x.tree.leaves x.pending count part i c cache is there).1 in
          leaf_for c.number c.leaf o.range o.there o.leaf);
      others = λ k same live misses. no_keys k
          (nothing_waits count part cache k is same misses (slice_index_or x.pending k []) refl);
      leaving = λ k same leaves. absurd (not_leaving k leaves);
    }

pub law_leaves : (d : DiskFacts) → LawLeaves d
law_leaves d p v layout x w st count caches i empty h holds are low =
    leaves_of p v layout x w st h d holds count i (slice_index_or caches i empty)
    (are.part i empty low)
