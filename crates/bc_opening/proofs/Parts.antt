-- The leaves and inner nodes of a sound pair fit each other, its entries and its metadata.
use Rattle.std.proofs.Common.{subst, ◌≡◌, ◌≢◌, ◌⊎◌, inl, inr, ℕ, zero, suc, ◌^◌, ◌<◌, ◌≤◌, Bool, false, List, [], ◌∷◌, ◌++◌, Option, Some, None, refl, sym, ap, ◌∙◌, arith, if◌then◌else◌}
use Rattle.std.specs.Prelude.{map}
use Rattle.std.proofs.lemmas.List.Elements.{All-contains}
use Rattle.bc_model.specs.Sector.{Image}
use Rattle.bc_disk.specs.declared.geometry.Geometry.{Geometry}
use Rattle.bc_key.specs.declared.key.Key.{Key}
use Rattle.bc_key.specs.Key.{ptr_at}
use Rattle.bc_extent.proofs.LastKeys.{last_key_found}
use Rattle.bc_meta.specs.Entries.{Entry, all_keys}
use Rattle.bc_meta.specs.Facts.{In}
use Rattle.bc_meta.specs.Keys.{last_ref, ref_by}
use Rattle.bc_meta.specs.Records.{Records, opened_records}
use Rattle.bc_meta.specs.Tree as tree
use Rattle.bc_meta.specs.Tree.{Child, IsNamed, Owner, Walk, Whole, tree_list}
use Rattle.bc_meta.specs.Layout.{Layout, node_sets}
use Rattle.bc_leaves.specs.Fits.{DraftFits, Fits, HasRoot, InnerFits, LeafKeys, LeafNode, Partners, journal_of}
use Rattle.bc_leaves.specs.Keys.{last_said, ref_said}
use Rattle.bc_leaves.specs.Parts.{Draft, Free, InRange, InnerNode, IsLive, Leaf, NoChange, NoNode, Pending, Role, Stays, inner_owner, keys_of, leaf_owner, up_to}
use Rattle.bc_leaves.specs.Parts as parts
use Rattle.bc_leaves.specs.Rows.{Below, ChildRow, Fills}
use Rattle.bc_leaves.proofs.Pend.{append_both, beyond_head, in_upto, ordered_in, ordered_more, upto_head}
use Rattle.bc_leaves.proofs.Said.{said_ref}
use Rattle.bc_leaves_runs.specs.Reopen.{Replays}
use Rattle.bc_image.specs.Children.{children_of}
use Rattle.bc_image.specs.Pointers.{PointsInto}
use Rattle.bc_image.specs.Reading.{IsReading, Reading, key_of}
use Rattle.bc_image.specs.Reading as reading
use Rattle.bc_image.specs.Sound.{HasOneUse, HasPointers, HasRanges, IsDataKey, IsNodeKey, KeepsRange}
use Rattle.bc_image.specs.Tree.{AreWalks, IsWalk, Node, node_of, set_keys}
use Rattle.bc_facts.specs.Layout.{IsLayoutOf}
use Rattle.bc_facts.specs.Reads.{back}
use Rattle.bc_facts.specs.Seen.{bucket_of, seen_child, seen_entries, seen_entry, word_of}
use Rattle.bc_facts.proofs.Place.{by_lt}
use Rattle.bc_facts.proofs.Stood.{all_in, in_behind, in_either, in_front}
use Rattle.bc_remains.specs.Means.{ref_of}
use Rattle.bc_remains.proofs.Children.{children_are}
use Rattle.bc_opening.specs.Read.{height_of, inner_of, is_leaf, leaf_of, no_inner, no_leaf}
use Rattle.bc_opening.specs.Choices.{Choices, MayBeChosen}
use Rattle.bc_opening.specs.Opening.{ArePartsOf}
use Rattle.bc_opening.proofs.Nodes as nodes
use Rattle.bc_opening.proofs.Nodes.{Sits, Stands, kids, one_of, rows}
use Rattle.bc_opening.proofs.Uses.{points_into}

-- a node of a walk has a walk of its own
module _ (g : Geometry) (image : Image) where
  pub record SubWalk (nodes : List Node) (n : Node) : Type 0 where
    pub rest : List Node
    pub walk : IsWalk g image n.level n.from n.key (n ∷ rest)
    pub inside : (m : Node) → In m (n ∷ rest) → In m nodes

  wider : (xs ys : List Node) (n : Node) → ((m : Node) → In m xs → In m ys) → SubWalk xs n → SubWalk ys n
  wider xs ys n f s = record { rest = s.rest; walk = s.walk; inside = λ m i. f m (s.inside m i) }

  sub_rows : (level : ℕ) → ((from : ℕ) (key : Key) (ns : List Node) → IsWalk g image level from key ns → (n : Node) → In n ns → SubWalk ns n)
      → (from : ℕ) (keys : List Key) (ns : List Node) → AreWalks (IsWalk g image level) from keys ns → (n : Node) → In n ns → SubWalk ns n
  sub_rows level ih from [] ns walks n i = absurd (subst (λ (l : List Node). In n l) walks i)
  sub_rows level ih from (k ∷ ks) ns walks n i =
      elim (in_either n walks.0 walks.1 (subst (λ (l : List Node). In n l) walks.4 i)) [
        | inl j ↦ wider walks.0 ns n (λ m t. subst (λ (l : List Node). In m l) (sym walks.4) (in_front m walks.0 walks.1 t)) (ih from k walks.0 walks.2 n j)
        | inr j ↦ wider walks.1 ns n (λ m t. subst (λ (l : List Node). In m l) (sym walks.4) (in_behind m walks.0 walks.1 t)) (sub_rows level ih k.end ks walks.1 walks.3 n j)
      ]

  pub sub_walk : (level from : ℕ) (key : Key) (ns : List Node) → IsWalk g image level from key ns → (n : Node) → In n ns → SubWalk ns n
  sub_walk zero from key ns walk n i =
      elim (subst (λ (l : List Node). In n l) walk.2 i) [
        | inl e ↦ subst (SubWalk ns) (sym e) (record { rest = []; walk = (walk.0, walk.1, refl); inside = λ m t. subst (λ (l : List Node). In m l) (sym walk.2) t })
        | inr j ↦ absurd j
      ]
  sub_walk (suc level) from key ns walk n i =
      elim (subst (λ (l : List Node). In n l) walk.4 i) [
        | inl e ↦ subst (SubWalk ns) (sym e) (record { rest = walk.1; walk = (walk.0, walk.1, walk.2, walk.3, refl); inside = λ m t. subst (λ (l : List Node). In m l) (sym walk.4) t })
        | inr j ↦ wider walk.1 ns n (λ m t. subst (λ (l : List Node). In m l) (sym walk.4) (inr t)) (sub_rows level (sub_walk level) from (children_of (set_keys walk.0)) walk.1 walk.3 n j)
      ]

  -- the first node that it meets
  pub walk_first : (level from : ℕ) (key : Key) (ns : List Node) → IsWalk g image level from key ns → (n : Node) × In n ns × (n.level ≡ level) × (n.from ≡ from) × (n.key ≡ key)
  walk_first zero from key ns walk = (node_of zero from key walk.0, subst (λ (l : List Node). In (node_of zero from key walk.0) l) (sym walk.2) (inl refl), refl, refl, refl)
  walk_first (suc level) from key ns walk = (node_of (suc level) from key walk.0, subst (λ (l : List Node). In (node_of (suc level) from key walk.0) l) (sym walk.4) (inl refl), refl, refl, refl)

module _ (g : Geometry) (w : Layout) (layout : IsLayoutOf g w) (image : Image) (size : ℕ) (small : size ≤ 2 ^ 40) (r : Reading) (is : IsReading g image r)
    (ranges : HasRanges r) (pointers : HasPointers g size r) (uses : HasOneUse g r) (c : Choices) (chosen : MayBeChosen g r c)
    (owners : ℕ → Owner) (older : List Entry) (ring : ℕ → List Entry) (bucket : ℕ) (unused : ℕ → Bool)
    (named : IsNamed owners (node_sets w owners image) r.newest.item.level (bucket_of g r.newest.item.root) (word_of r.newest.item.root))
    (whole : Walk Whole (node_sets w owners image) r.newest.item.level (bucket_of g r.newest.item.root))
    (entries : seen_entries g r.entries ≡ seen_entry g r.newest.item ∷ older)
    (keys : (s : ℕ) → ref_of (key_of r s) s ≡ last_ref (all_keys (seen_entry g r.newest.item ∷ older) ++ tree_list (node_sets w owners image) r.newest.item.level (bucket_of g r.newest.item.root)) s)
    (used : (n : Node) → In n r.nodes → unused (bucket_of g n.key) ≡ false)
    (height : ℕ) (level_is : r.newest.item.level ≡ suc height) where
  abbrev newest : Entry
  newest = seen_entry g r.newest.item

  abbrev pub records : Records
  records = opened_records owners (node_sets w owners image) (seen_entry g r.newest.item) older ring bucket unused

  abbrev pub held : parts.State
  held = record {
    records = records;
    leaves = λ i. leaf_of g (c.leaf i) (c.pending i);
    inner_nodes = λ i. inner_of g (c.inner i);
    end = 2 ^ 40;
    change = NoChange;
    sent = λ q. [];
  }

  -- ---- slots

  by_leaf : (P : Leaf → Type 0) (i : ℕ) → ((n : Node) → c.leaf i ≡ Some n → P (leaf_of g (Some n) (c.pending i))) → P no_leaf → P (held.leaves i)
  by_leaf P i here none = go (c.leaf i) refl
    where
      go : (o : Option Node) → c.leaf i ≡ o → P (leaf_of g o (c.pending i))
      go None e = none
      go (Some n) e = here n e

  by_inner : (P : InnerNode → Type 0) (i : ℕ) → ((n : Node) → c.inner i ≡ Some n → P (inner_of g (Some n))) → P no_inner → P (held.inner_nodes i)
  by_inner P i here none = go (c.inner i) refl
    where
      go : (o : Option Node) → c.inner i ≡ o → P (inner_of g o)
      go None e = none
      go (Some n) e = here n e

  -- ---- nodes

  root_end : r.newest.item.root.end ≡ 2 ^ 40
  root_end = pointers.root

  keeps : (n : Node) → In n r.nodes → KeepsRange n
  keeps n i = all_in KeepsRange r.nodes n ranges i

  sits : (n : Node) → In n r.nodes → Sits g w layout owners image n
  sits = nodes.sits g w layout owners image r.newest.item.level 0 r.newest.item.root r.nodes is.nodes named whole

  stands : (n : Node) → In n r.nodes → Stands g w layout owners image r.nodes n
  stands n i = record { sits = sits n i; keeps = keeps n i; in_top = i }

  one_node : (m n : Node) → In m r.nodes → In n r.nodes → bucket_of g m.key ≡ bucket_of g n.key → m ≡ n
  one_node m n i j e =
      let a = all_in (λ (x : Node). IsNodeKey g x.key) r.nodes m pointers.nodes i in
      let b = all_in (λ (x : Node). IsNodeKey g x.key) r.nodes n pointers.nodes j in
      let here : PointsInto g m.key (back g (bucket_of g m.key)) = (points_into g m.key a.some a.ptrs (bucket_of g m.key)).0 refl in
      let there : PointsInto g n.key (back g (bucket_of g m.key)) = (points_into g n.key b.some b.ptrs (bucket_of g m.key)).0 (sym e) in
      one_of (λ (x y : Node). (b : ℕ) → PointsInto g x.key b → PointsInto g y.key b → ⊥) r.nodes uses.nodes m n i j
      (λ f. f (back g (bucket_of g m.key)) here there) (λ f. f (back g (bucket_of g m.key)) there here)

  leaf_node : (i : ℕ) (n : Node) → c.leaf i ≡ Some n → In n r.nodes × (n.level ≡ 0)
  leaf_node i n e = chosen.leaves.is_node i n e

  inner_node : (i : ℕ) (n : Node) → c.inner i ≡ Some n → In n r.nodes × (0 < n.level)
  inner_node i n e = chosen.inner_nodes.is_node i n e

  -- ---- leaves

  replays : (i : ℕ) (n : Node) → c.leaf i ≡ Some n → Replays n.from n.key.end newest older (c.pending i)
  replays i n e = chosen.pending i n older e entries

  node_fits : (i : ℕ) (n : Node) (e : c.leaf i ≡ Some n) → LeafNode (records.nodes (bucket_of g n.key)) [] (leaf_of g (Some n) (c.pending i))
  node_fits i n e =
      let k = leaf_node i n e in
      record {
        last = λ s. refl;
        sets_inside = λ s out. nodes.leaf_out g w layout owners image n (sits n k.0) (keeps n k.0) k.1 s out;
        sent_inside = λ s out. refl;
        pending_inside = λ s out. (replays i n e).inside s out;
      }

  -- in its range the tree has the leaf's keys
  tree_at : (n : Node) → In n r.nodes → n.level ≡ 0 → (s : ℕ) → n.from ≤ s → s < n.key.end
      → last_said (tree_list (node_sets w owners image) r.newest.item.level (bucket_of g r.newest.item.root)) s ≡ last_said (tree.set_keys (node_sets w owners image (bucket_of g n.key))) s
  tree_at n i zero_ s low high =
      let in_ = nodes.within g w layout owners image r.newest.item.level 0 r.newest.item.root r.nodes is.nodes keeps n i in
      let most = in_.1 in
      let l = nodes.tree_local g w layout owners image r.nodes r.newest.item.level 0 r.newest.item.root r.nodes is.nodes stands s in
      let k = l.0 (omega arith, omega (arith, high, most)) in
      let found = k.1 in
      let same = nodes.apart g w layout owners image r.newest.item.level 0 r.newest.item.root r.nodes is.nodes keeps found.0 n s found.1 i found.2 zero_ found.4 (low, high) in
      k.2 ∙ ap (λ q. last_said (tree.set_keys (node_sets w owners image q)) s) (sym found.3 ∙ ap (λ (m : Node). bucket_of g m.key) same)

  keys_fit : (i : ℕ) (n : Node) (e : c.leaf i ≡ Some n) → LeafKeys (journal_of records) (node_sets w owners image (bucket_of g n.key)) [] (leaf_of g (Some n) (c.pending i))
  keys_fit i n e =
      let k = leaf_node i n e in
      let p = replays i n e in
      let most : (x : Pending) → In x (c.pending i) → x.number ≤ newest.number = λ x t. ordered_in newest.number (c.pending i) x p.ordered t in
      record {
        waiting = λ s in_. ap (λ (l : List Pending). last_said (keys_of l) s) (sym (beyond_head newest.number (c.pending i) most));
        sealed = λ ne. absurd (ne refl);
        index = λ s in_. ap ref_said (append_both (all_keys (newest ∷ older)) (tree_list (node_sets w owners image) r.newest.item.level (bucket_of g r.newest.item.root))
            (keys_of (up_to newest.number (c.pending i))) (tree.set_keys (node_sets w owners image (bucket_of g n.key))) s
            (sym (p.same s in_.0 in_.1) ∙ ap (λ (l : List Pending). last_said (keys_of l) s) (sym (upto_head newest.number (c.pending i) most)))
            (tree_at n k.0 k.1 s in_.0 in_.1));
        ordered = ordered_more newest.number (suc newest.number) (c.pending i) (omega arith) p.ordered;
        kept = λ y t. elim t [
          | inl a ↦ (let o = p.of_entry y (in_upto newest.number (c.pending i) y a) in let number = o.2 in (o.0, o.1, omega (arith, number), o.3))
          | inr b ↦ absurd b
        ];
        low = λ ne. absurd (ne refl);
        sent_low = λ ready. absurd ready;
      }

  leaf_end : (i : ℕ) (n : Node) → c.leaf i ≡ Some n → n.key.end ≤ 2 ^ 40
  leaf_end i n e =
      let k = leaf_node i n e in
      let most = (nodes.within g w layout owners image r.newest.item.level 0 r.newest.item.root r.nodes is.nodes keeps n k.0).1 in
      let end = root_end in
      omega (arith, most, end)

  leaves_apart : (i k s : ℕ) (m n : Node) → c.leaf i ≡ Some m → c.leaf k ≡ Some n → (m.from ≤ s) × (s < m.key.end) → (n.from ≤ s) × (s < n.key.end) → i ≡ k
  leaves_apart i k s m n a b hm hn =
      let x = leaf_node i m a in
      let y = leaf_node k n b in
      let same = nodes.apart g w layout owners image r.newest.item.level 0 r.newest.item.root r.nodes is.nodes keeps m n s x.0 y.0 x.1 y.1 hm hn in
      chosen.leaves.once i k n (a ∙ ap Some same) b

  -- ---- inner nodes

  child_below : (P : Role → Type 0) → P Free → (h : ℕ) (a : ℕ) (k : Key) (here : List Node) → IsWalk g image h a k here → ((n : Node) → In n here → In n r.nodes)
      → Below held.leaves held.inner_nodes P h (bucket_of g k) (word_of k) a k.end
  child_below P free zero a k here walk inside =
      let first = walk_first g image zero a k here walk in
      let slot = chosen.leaves.all first.0 (inside first.0 first.1) first.2 in (
        slot.0,
        subst (λ (o : Option Node). P (leaf_of g o (c.pending slot.0)).role) (sym slot.1) free,
        ap (λ (o : Option Node). (leaf_of g o (c.pending slot.0)).bucket) slot.1 ∙ ap (λ (x : Key). bucket_of g x) first.4,
        ap (λ (o : Option Node). (leaf_of g o (c.pending slot.0)).first) slot.1 ∙ first.3,
        ap (λ (o : Option Node). (leaf_of g o (c.pending slot.0)).end) slot.1 ∙ ap (λ (x : Key). x.end) first.4,
        ap (λ (o : Option Node). (leaf_of g o (c.pending slot.0)).word) slot.1 ∙ ap (λ (x : Key). word_of x) first.4,
      )
  child_below P free (suc h) a k here walk inside =
      let first = walk_first g image (suc h) a k here walk in
      let up = first.2 in
      let slot = chosen.inner_nodes.all first.0 (inside first.0 first.1) (omega (arith, up)) in (
        slot.0,
        subst (λ (o : Option Node). P (inner_of g o).role) (sym slot.1) free,
        ap (λ (o : Option Node). (inner_of g o).height) slot.1 ∙ ap height_of first.2,
        ap (λ (o : Option Node). (inner_of g o).bucket) slot.1 ∙ ap (λ (x : Key). bucket_of g x) first.4,
        ap (λ (o : Option Node). (inner_of g o).first) slot.1 ∙ first.3,
        ap (λ (o : Option Node). (inner_of g o).end) slot.1 ∙ ap (λ (x : Key). x.end) first.4,
        ap (λ (o : Option Node). (inner_of g o).word) slot.1 ∙ ap (λ (x : Key). word_of x) first.4,
      )

  -- the children of an inner node are its range
  fills_at : (P : Role → Type 0) → P Free → (level from : ℕ) (key : Key) (ns : List Node) → 0 < level → IsWalk g image level from key ns → ((n : Node) → In n ns → In n r.nodes)
      → ChildRow (Below held.leaves held.inner_nodes P (height_of level)) from (tree.children_of (node_sets w owners image (bucket_of g key))) key.end
  fills_at P free zero from key ns some walk inside = absurd (omega (arith, some))
  fills_at P free (suc h) from key ns some walk inside =
      let head : In (node_of (suc h) from key walk.0) ns = subst (λ (l : List Node). In (node_of (suc h) from key walk.0) l) (sym walk.4) (inl refl) in
      let there = inside (node_of (suc h) from key walk.0) head in
      let sit = sits (node_of (suc h) from key walk.0) there in
      let below : tree.children_of (node_sets w owners image (bucket_of g key)) ≡ map (seen_child g) (children_of (set_keys walk.0)) = ap tree.children_of sit.seen ∙ children_are g walk.0 in
      let k = kids h from key walk.0 (keeps (node_of (suc h) from key walk.0) there) in
      subst (λ (cs : List Child). ChildRow (Below held.leaves held.inner_nodes P h) from cs key.end) (sym below)
      (rows g w layout owners image (Below held.leaves held.inner_nodes P h) (IsWalk g image h) (λ (n : Node). In n r.nodes)
      (λ a child here walk_ in_. child_below P free h a child here walk_ in_)
      from (children_of (set_keys walk.0)) walk.1 key.end walk.3 k.rise k.last (λ n i. inside n (subst (λ (l : List Node). In n l) (sym walk.4) (inr i))))

  fills : (P : Role → Type 0) → P Free → (n : Node) → In n r.nodes → 0 < n.level → Fills held.leaves held.inner_nodes P (inner_of g (Some n)) (tree.children_of (node_sets w owners image (bucket_of g n.key)))
  fills P free n i some =
      let sub = sub_walk g image r.newest.item.level 0 r.newest.item.root r.nodes is.nodes n i in
      fills_at P free n.level n.from n.key (n ∷ sub.rest) some sub.walk sub.inside

  inner_fits : (i : ℕ) (n : Node) (e : c.inner i ≡ Some n) → InnerFits held.leaves held.inner_nodes NoChange (records.nodes (bucket_of g n.key)) i (inner_of g (Some n))
  inner_fits i n e =
      let k = inner_node i n e in
      record {
        firm = used n k.0;
        some = (sits n k.0).some;
        now = fills IsLive tt n k.0 k.1;
        still = λ calm stay unsent. fills Stays tt n k.0 k.1;
        next = λ sent. absurd (cc);
        lost = λ failed. absurd (cc);
      }

  -- ---- the root

  root_at : (P : Role → Type 0) → P Free → HasRoot held.inner_nodes (2 ^ 40) P newest.root newest.level newest.word
  root_at P free =
      let first = walk_first g image r.newest.item.level 0 r.newest.item.root r.nodes is.nodes in
      let up = first.2 in
      let tall = level_is in
      let slot = chosen.inner_nodes.all first.0 first.1 (omega (arith, up, tall)) in (
        slot.0,
        subst (λ (o : Option Node). P (inner_of g o).role) (sym slot.1) free,
        ap (λ (o : Option Node). (inner_of g o).bucket) slot.1 ∙ ap (λ (x : Key). bucket_of g x) first.4,
        ap (λ (o : Option Node). suc (inner_of g o).height) slot.1 ∙ ap (λ l. suc (height_of l)) (first.2 ∙ level_is) ∙ sym level_is,
        ap (λ (o : Option Node). (inner_of g o).first) slot.1 ∙ first.3,
        ap (λ (o : Option Node). (inner_of g o).end) slot.1 ∙ ap (λ (x : Key). x.end) first.4 ∙ root_end,
        ap (λ (o : Option Node). (inner_of g o).word) slot.1 ∙ ap (λ (x : Key). word_of x) first.4,
      )

  -- no key with a pointer lies beyond its end
  none_beyond : (s : ℕ) → 2 ^ 40 ≤ s → (o : Option Key) → key_of r s ≡ o → ref_of o s ≡ None
  none_beyond s far None e = refl
  none_beyond s far (Some key) e =
      let f = last_key_found (reading.keys_of r) s key e in
      let own = All-contains (IsDataKey g size) (reading.keys_of r) key pointers.data_keys f.0 in
      let high = f.1.1 in
      by_lt 0 key.count (λ b. ref_by key s (if b then Some (ptr_at key 0) else None) ≡ None)
      (λ some. (let end = own.end some in let le = small in absurd (omega (arith, end, le, high, far)))) (λ _. refl)

  -- ---- all of it

  pub fits : Fits held
  fits = record {
    leaves = record {
      node = λ i. by_leaf (λ x. IsLive x.role → LeafNode (records.nodes x.bucket) [] x) i (λ n e _. node_fits i n e) (λ l. absurd l);
      firm = λ i. by_leaf (λ x. IsLive x.role → ((records.nodes x.bucket).loose ≡ false) × ((records.nodes x.bucket).sets ≢ [])) i
          (λ n e _. (let k = leaf_node i n e in (used n k.0, (sits n k.0).some))) (λ l. absurd l);
      keys = λ i. by_leaf (λ x. IsLive x.role → LeafKeys (journal_of records) (records.nodes x.bucket).sets [] x) i (λ n e _. keys_fit i n e) (λ l. absurd l);
      used = λ i. by_leaf (λ x. IsLive x.role → records.unused x.bucket ≡ false) i (λ n e _. used n (leaf_node i n e).0) (λ l. absurd l);
      below = λ i. by_leaf (λ x. IsLive x.role → x.end ≤ 2 ^ 40) i (λ n e _. leaf_end i n e) (λ l. absurd l);
      fresh = λ i l sent. absurd (cc);
      lost = λ i l failed. absurd (cc);
      apart = λ i k s. by_leaf (λ x. IsLive x.role → IsLive (held.leaves k).role → InRange x s → InRange (held.leaves k) s → (i ≡ k) ⊎ Partners x.role (held.leaves k).role) i
          (λ m a _. by_leaf (λ y. IsLive y.role → InRange (leaf_of g (Some m) (c.pending i)) s → InRange y s → (i ≡ k) ⊎ Partners Free y.role) k
          (λ n b _ hm hn. inl (leaves_apart i k s m n a b hm hn)) (λ l. absurd l)) (λ l. absurd l);
      drafts = λ i. by_leaf (λ x. x.role ≡ Draft → DraftFits (records.nodes x.bucket) [] x) i (λ n e d. absurd (cc)) (λ d. absurd (cc));
    };
    tree = record {
      inner = λ i. by_inner (λ x. IsLive x.role → InnerFits held.leaves held.inner_nodes NoChange (records.nodes x.bucket) i x) i (λ n e _. inner_fits i n e) (λ l. absurd l);
      inner_used = λ i. by_inner (λ x. IsLive x.role → records.unused x.bucket ≡ false) i (λ n e _. used n (inner_node i n e).0) (λ l. absurd l);
    };
    roots = record {
      newest = root_at IsLive tt;
      entry = λ ne. absurd (ne refl);
      newest_stays = λ _. root_at Stays tt;
      entry_stays = λ k ne. absurd (ne refl);
      order = tt;
      waiting = λ s _. refl;
      sealed = λ ne. absurd (ne refl);
      index = λ s far. said_ref records.index s ∙ sym (keys s) ∙ none_beyond s far (key_of r s) refl;
    };
    buckets = record {
      one_leaf = λ i k. by_leaf (λ x. x.role ≢ NoNode → (held.leaves k).role ≢ NoNode → x.bucket ≡ (held.leaves k).bucket → i ≡ k) i
          (λ m a _. by_leaf (λ y. y.role ≢ NoNode → bucket_of g m.key ≡ y.bucket → i ≡ k) k
          (λ n b _ e. chosen.leaves.once i k n (a ∙ ap Some (one_node m n (leaf_node i m a).0 (leaf_node k n b).0 e)) b) (λ ne. absurd (ne refl))) (λ ne. absurd (ne refl));
      one_inner = λ i k. by_inner (λ x. x.role ≢ NoNode → (held.inner_nodes k).role ≢ NoNode → x.bucket ≡ (held.inner_nodes k).bucket → i ≡ k) i
          (λ m a _. by_inner (λ y. y.role ≢ NoNode → bucket_of g m.key ≡ y.bucket → i ≡ k) k
          (λ n b _ e. chosen.inner_nodes.once i k n (a ∙ ap Some (one_node m n (inner_node i m a).0 (inner_node k n b).0 e)) b) (λ ne. absurd (ne refl))) (λ ne. absurd (ne refl));
      one_kind = λ i k. by_leaf (λ x. x.role ≢ NoNode → (held.inner_nodes k).role ≢ NoNode → x.bucket ≢ (held.inner_nodes k).bucket) i
          (λ m a _. by_inner (λ y. y.role ≢ NoNode → bucket_of g m.key ≢ y.bucket) k
          (λ n b _ e. (let x = leaf_node i m a in
          let y = inner_node k n b in
          let same = ap (λ (t : Node). t.level) (one_node m n x.0 y.0 e) in
          let low = x.1 in
          let high = y.1 in
          omega (arith, same, low, high))) (λ ne. absurd (ne refl))) (λ ne. absurd (ne refl));
      named = λ i. by_leaf (λ x. x.role ≢ NoNode → (records.nodes x.bucket).owner ≡ leaf_owner x) i
          (λ n e _. (let k = leaf_node i n e in (sits n k.0).owner_is ∙ ap (λ l. record { word = word_of n.key; leaf = is_leaf l }) k.1)) (λ ne. absurd (ne refl));
      inner_named = λ i. by_inner (λ x. x.role ≢ NoNode → (records.nodes x.bucket).owner ≡ inner_owner x) i
          (λ n e _. (let k = inner_node i n e in (sits n k.0).owner_is ∙ ap (λ b. record { word = word_of n.key; leaf = b }) (not_leaf n.level k.1))) (λ ne. absurd (ne refl));
    };
    quiet = record {
      calm = λ _ i. by_leaf (λ x. IsLive x.role → x.role ≡ Free) i (λ n e _. refl) (λ l. absurd l);
      calm_inner = λ _ i. by_inner (λ x. IsLive x.role → x.role ≡ Free) i (λ n e _. refl) (λ l. absurd l);
    };
  }
    where
      not_leaf : (l : ℕ) → 0 < l → is_leaf l ≡ false
      not_leaf zero lt = absurd (omega (arith, lt))
      not_leaf (suc l) lt = refl

  pub are : ArePartsOf g c held
  are = record { leaves = λ i. refl; inner_nodes = λ i. refl; end = refl; change = refl; sent = λ q. refl }
