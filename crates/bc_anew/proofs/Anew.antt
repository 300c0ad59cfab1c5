-- The opening of a pair that was made anew.
use Rattle.std.proofs.Common.{◌≡◌, ◌≢◌, ◌⊎◌, inl, inr, ℕ, ◌+◌, ◌-◌, ◌^◌, ◌<◌, ◌≤◌, Bool, true, false, List, [], ◌∷◌, ◌++◌, length, Some, None, refl, sym, ap, ◌∙◌, subst, arith, if◌then◌else◌, ◌==◌}
use Rattle.std.specs.Prelude.{map, reverse, slice_index_or}
use Rattle.bc_model.specs.Sector.{Image}
use Rattle.bc_disk.specs.declared.geometry.Geometry.{Geometry}
use Rattle.bc_key.specs.declared.key.Key.{Key}
use Rattle.bc_key.specs.Key.{ptr_at}
use Rattle.bc_record.specs.Places.{bucket_at}
use Rattle.bc_super.specs.Super.{data_sectors}
use Rattle.bc_super.specs.declared.backing.BackingSuper.{BackingSuper}
use Rattle.bc_super.specs.declared.cache.CacheSuper.{CacheSuper}
use Rattle.bc_books.specs.Books.{Setup}
use Rattle.bc_books.specs.Books as books
use Rattle.bc_data.specs.Data as flow
use Rattle.bc_data.specs.Laws.{IsPair}
use Rattle.bc_meta.specs.Facts.{In}
use Rattle.bc_meta.specs.Keys.{last_ref}
use Rattle.bc_meta.specs.Entries.{Entry}
use Rattle.bc_meta.specs.Tree as tree
use Rattle.bc_meta.specs.Tree.{Child, Each, EachChild, IsNamed, Keeps, NodeSet, NodeSets, Other, Owner, Walk, Whole, forest, tree_list}
use Rattle.bc_meta.specs.Layout.{Layout, image_keys, node_sets}
use Rattle.bc_meta.specs.Chain.{bytes_of, chain_in}
use Rattle.bc_meta.specs.Places.{IsSoundImage}
use Rattle.bc_meta.specs.Laws as meta
use Rattle.bc_meta.proofs.Acts.{opened_cases}
use Rattle.bc_leaves.specs.Keys.{last_said, ref_said}
use Rattle.bc_leaves.specs.Rows.{Below, ChildRow, Fills}
use Rattle.bc_leaves.specs.Parts.{Role, Leaf, InnerNode, Draft, Free, NoNode, NoChange, InRange, IsLive, leaf_owner, inner_owner}
use Rattle.bc_leaves.specs.Parts as parts
use Rattle.bc_leaves.specs.Fits.{Fits, Partners, LeafNode, LeafKeys, DraftFits, InnerFits, journal_of}
use Rattle.bc_leaves_runs.proofs.Example.{all_but, no_leaf, no_inner, not_in, only_0}
use Rattle.bc_image.specs.Children.{children_of, is_bare}
use Rattle.bc_image.specs.Formatted.{IsFormatted, IsKeyTo, leaf_bucket, root_bucket, table_bucket}
use Rattle.bc_image.specs.Pair.{Pair}
use Rattle.bc_image.specs.Sound.{HasSuperblocks}
use Rattle.bc_image.specs.Tree.{set_keys}
use Rattle.bc_image.proofs.Formatted.{enough, not_bare, one_set_at}
use Rattle.bc_image.proofs.Fresh.{fresh_reading}
use Rattle.bc_image.proofs.Unique.{one_sets}
use Rattle.bc_facts.specs.Layout.{IsLayoutOf}
use Rattle.bc_facts.specs.Reads.{back}
use Rattle.bc_facts.specs.Seen.{bucket_of, counted, seen_child, seen_entry, seen_sets, word_of}
use Rattle.bc_facts.proofs.Stood.{bucket_lies, in_contains, index_in}
use Rattle.bc_remains.specs.Laws.{IsOpened}
use Rattle.bc_remains.proofs.Children.{children_are}
use Rattle.bc_remains.proofs.Fresh.{fresh_opened}
use Rattle.bc_remains.proofs.Keys.{leaf_keys}
use Rattle.bc_remains.proofs.Tree.{has_pointer, node_at}
use Rattle.bc_whole.specs.State.{Opening}
use Rattle.bc_whole.specs.Together.{gen_from}
use Rattle.bc_whole.specs.Laws as whole_law
use Rattle.bc_whole.proofs.Start.{off_list}
use Rattle.bc_known.specs.Known.{AreLaid}
use Rattle.bc_known.specs.Laws.{IsSound}
use Rattle.bc_origin.specs.Keys.{WasThere}
use Rattle.bc_super.specs.Division.{IsPassThrough}
use Rattle.bc_image.specs.Pointers.{PointsInto}
use Rattle.bc_image.specs.Reading.{IsView, View}
use Rattle.bc_image.specs.Shown.{IsShown, cached, shown_by}
use Rattle.bc_image.specs.Sound.{HasSoundParts}
use Rattle.bc_image.specs.Tree.{node_of}
use Rattle.bc_image.specs.Tree as image
use Rattle.bc_image.proofs.Formatted.{only_bucket}
use Rattle.bc_image.proofs.Fresh.{fresh_is_sound, fresh_is_view, fresh_shows, fresh_view}
use Rattle.bc_image.proofs.Unique.{one_backing, one_shown, one_view}
use Rattle.bc_opened.specs.Opening.{IsInnerOf, IsLeafOf, IsSoundOpeningOf}
use Rattle.bc_anew.specs.Laws.{IsOpenedOn}
use Rattle.bc_anew.proofs.Classes.{Class, by_class, chain_has, class, class_area, class_chain, class_node, class_spare, class_table, fixed_has, from_on, is_chain, is_fixed, is_node, list_of, mark_of, node_has, not_chain, on_distinct, on_long, on_within, plain_has}

module _ (p : Pair) (b : BackingSuper) (c : CacheSuper) (g : Geometry) (w : Layout) (layout : IsLayoutOf g w) (f : IsFormatted p b c g) (supers : HasSuperblocks b c) where
  pub start : IsOpened g w p.cache (fresh_reading p b c g f)
  start = fresh_opened p b c g w layout f supers

  -- ---- its entry

  newest_is : start.opening.newest ≡ seen_entry g f.entry
  newest_is = sym start.opens.means.newest_is

  older_is : start.opening.older ≡ []
  older_is = tail (seen_entry g f.entry) start.opening.newest [] start.opening.older start.opens.means.entries
    where
      tail : (x y : Entry) (xs ys : List Entry) → x ∷ xs ≡ y ∷ ys → ys ≡ xs
      tail x y xs ys e = cc

  at_bucket : (bucket end size : ℕ) (key : Key) → IsKeyTo g bucket end size key → bucket_at g (ptr_at key 0).offset ≡ bucket
  at_bucket bucket end size key to =
      let at = to.offset in
      let wide = g.bucket_from in
      bucket_lies g bucket (ptr_at key 0).offset (omega (arith, at)) (omega (arith, at, wide))

  root_at : bucket_of g f.entry.root ≡ w.journal + w.chain_sets + 1
  root_at =
      let k = at_bucket (root_bucket g) (2 ^ 40) g.node_sectors f.entry.root f.first_entry.root in
      let j = layout.journal in
      let n = layout.chain_sets in
      omega (arith, k, j, n)

  leaf_at : bucket_of g f.leaf ≡ w.journal + w.chain_sets + 2
  leaf_at =
      let k = at_bucket (leaf_bucket g) (2 ^ 40) g.node_sectors f.leaf f.leaf_key in
      let j = layout.journal in
      let n = layout.chain_sets in
      omega (arith, k, j, n)

  room : w.journal + w.chain_sets + w.chain_sets + 3 ≤ w.buckets
  room =
      let k = enough g f.divided in
      let j = layout.journal in
      let n = layout.chain_sets in
      let m = layout.buckets in
      omega (arith, k, j, n, m)

  -- ---- its tree

  abbrev nodes : NodeSets
  nodes = node_sets w start.opening.owners p.cache

  named_at : IsNamed start.opening.owners nodes 1 (bucket_of g f.entry.root) (word_of f.entry.root)
  named_at =
      subst (λ l. IsNamed start.opening.owners (node_sets w start.opening.owners p.cache) l (bucket_of g f.entry.root) (word_of f.entry.root)) f.first_entry.level
      (subst (λ (e : Entry). IsNamed start.opening.owners (node_sets w start.opening.owners p.cache) e.level e.root e.word) newest_is
      (subst (λ (i : Image). IsNamed start.opening.owners (node_sets w start.opening.owners i) start.opening.newest.level start.opening.newest.root start.opening.newest.word) start.image_is start.sound.named))

  whole_at : Walk Whole nodes 1 (bucket_of g f.entry.root)
  whole_at =
      subst (λ l. Walk Whole (node_sets w start.opening.owners p.cache) l (bucket_of g f.entry.root)) f.first_entry.level
      (subst (λ (e : Entry). Walk Whole (node_sets w start.opening.owners p.cache) e.level e.root) newest_is
      (subst (λ (i : Image). Walk Whole (node_sets w start.opening.owners i) start.opening.newest.level start.opening.newest.root) start.image_is start.sound.whole.sound.whole))

  root_sets : nodes (bucket_of g f.entry.root) ≡ seen_sets g false (f.root_set ∷ [])
  root_sets =
      let k = node_at g w layout start.opening.owners p.cache false f.entry.root named_at.0 whole_at.0 in
      k.seen ∙ ap (seen_sets g false) (one_sets g p.cache 1 f.entry.root k.sets (f.root_set ∷ [])
      (record { ptr = ptr_at f.entry.root 0; points = has_pointer g f.entry.root (λ z. (let at = root_at in omega (arith, at, z))); stand = k.stand; some = k.some })
      (one_set_at g p.cache 1 (root_bucket g) (2 ^ 40) g.node_sectors f.entry.root f.root_set f.first_entry.root f.has_root))

  one_child : children_of (set_keys (f.root_set ∷ [])) ≡ f.leaf ∷ []
  one_child =
      let bare : is_bare f.leaf ≡ false = not_bare g (leaf_bucket g) (2 ^ 40) g.node_sectors f.leaf f.leaf_key in
      let kept : (if is_bare f.leaf then [] else f.leaf ∷ []) ≡ f.leaf ∷ [] = rw bare refl in
      ap (λ (ks : List Key). children_of (ks ++ [])) f.children ∙ kept

  kids : tree.children_of (nodes (bucket_of g f.entry.root)) ≡ seen_child g f.leaf ∷ []
  kids = ap tree.children_of root_sets ∙ children_are g (f.root_set ∷ []) ∙ ap (map (seen_child g)) one_child

  leaf_named : start.opening.owners (bucket_of g f.leaf) ≡ record { word = word_of f.leaf; leaf = true }
  leaf_named = (subst (λ (ks : List Child). EachChild (λ k. IsNamed start.opening.owners nodes 0 k.bucket k.word) ks) kids named_at.1).0

  leaf_whole : nodes (bucket_of g f.leaf) ≢ []
  leaf_whole = (subst (λ (ks : List Child). Each (Walk Whole nodes 0) ks) kids whole_at.1).0

  leaf_sets : nodes (bucket_of g f.leaf) ≡ seen_sets g true (f.leaf_set ∷ [])
  leaf_sets =
      let k = node_at g w layout start.opening.owners p.cache true f.leaf leaf_named leaf_whole in
      k.seen ∙ ap (seen_sets g true) (one_sets g p.cache 0 f.leaf k.sets (f.leaf_set ∷ [])
      (record { ptr = ptr_at f.leaf 0; points = has_pointer g f.leaf (λ z. (let at = leaf_at in omega (arith, at, z))); stand = k.stand; some = k.some })
      (one_set_at g p.cache 0 (leaf_bucket g) (2 ^ 40) g.node_sectors f.leaf f.leaf_set f.leaf_key f.has_leaf))

  leaf_none : tree.set_keys (nodes (bucket_of g f.leaf)) ≡ []
  leaf_none = ap tree.set_keys leaf_sets ∙ sym (leaf_keys g (f.leaf_set ∷ [])) ∙ ap (λ (ks : List Key). reverse (ks ++ [])) f.empty

  root_none : tree.set_keys (nodes (bucket_of g f.entry.root)) ≡ []
  root_none = ap tree.set_keys root_sets

  tree_none : tree_list nodes f.entry.level (bucket_of g f.entry.root) ≡ []
  tree_none = ap (λ l. tree_list nodes l (bucket_of g f.entry.root)) f.first_entry.level ∙ ap (forest (tree_list nodes 0)) kids ∙ leaf_none

  -- ---- the records

  abbrev unused : ℕ → Bool
  unused = all_but (bucket_of g f.entry.root ∷ bucket_of g f.leaf ∷ [])

  abbrev pub store : meta.Opening
  store = record {
    image = p.cache;
    owners = start.opening.owners;
    newest = seen_entry g f.entry;
    older = [];
    ring = start.opening.ring;
    ring_next = start.opening.ring_next;
    bucket = start.opening.bucket;
    unused = unused;
    chain = start.opening.chain;
    gens = start.opening.gens;
    spare = from_on (w.journal + w.chain_sets + 3) w.chain_sets;
  }

  keys_none : image_keys w start.opening.owners p.cache (seen_entry g f.entry) [] ≡ []
  keys_none = ap (λ (ks : List Key). (reverse ks ++ []) ++ tree_list nodes f.entry.level (bucket_of g f.entry.root)) f.first_entry.keys ∙ tree_none

  -- a bucket in front of the root's, or behind the leaf's
  far : (q : ℕ) → (q ≤ w.journal + w.chain_sets) ⊎ (w.journal + w.chain_sets + 3 ≤ q) → unused q ≡ true
  far q out = off_list (bucket_of g f.entry.root ∷ bucket_of g f.leaf ∷ []) q (λ i. apart i)
    where
      apart : In q (bucket_of g f.entry.root ∷ bucket_of g f.leaf ∷ []) → ⊥
      apart (inl e) = let at = root_at in elim out [ inl le ↦ omega (arith, at, e, le) | inr ge ↦ omega (arith, at, e, ge) ]
      apart (inr (inl e)) = let at = leaf_at in elim out [ inl le ↦ omega (arith, at, e, le) | inr ge ↦ omega (arith, at, e, ge) ]
      apart (inr (inr n)) = n

  used_root : unused (bucket_of g f.entry.root) ≡ false
  used_root = bool_false (unused (bucket_of g f.entry.root)) (λ e. not_in (bucket_of g f.entry.root ∷ bucket_of g f.leaf ∷ []) (bucket_of g f.entry.root) e (bucket_of g f.entry.root) (inl refl) refl)
    where
      bool_false : (t : Bool) → (t ≡ true → ⊥) → t ≡ false
      bool_false true h = absurd (h refl)
      bool_false false h = refl

  used_leaf : unused (bucket_of g f.leaf) ≡ false
  used_leaf = bool_false (unused (bucket_of g f.leaf)) (λ e. not_in (bucket_of g f.entry.root ∷ bucket_of g f.leaf ∷ []) (bucket_of g f.leaf) e (bucket_of g f.leaf) (inr (inl refl)) refl)
    where
      bool_false : (t : Bool) → (t ≡ true → ⊥) → t ≡ false
      bool_false true h = absurd (h refl)
      bool_false false h = refl

  in_map : (q : ℕ) (xs : List ℕ) → In q xs → In (back g q) (map (back g) xs)
  in_map q [] i = absurd i
  in_map q (x ∷ xs) (inl e) = inl (ap (back g) e)
  in_map q (x ∷ xs) (inr i) = inr (in_map q xs i)

  map_in : (q : ℕ) (xs : List ℕ) → In (back g q) (map (back g) xs) → In q xs
  map_in q [] i = absurd i
  map_in q (x ∷ xs) (inl e) = inl (omega (arith, e))
  map_in q (x ∷ xs) (inr i) = inr (map_in q xs i)

  -- the buckets of the chain
  in_chain : (q : ℕ) → In q start.opening.chain → (w.journal ≤ q) × (q < w.journal + w.chain_sets)
  in_chain q i =
      let k = in_contains f.gens.chain (back g q) (subst (λ (l : List ℕ). In (back g q) l) (sym start.opens.means.chain) (in_map q start.opening.chain i)) in
      let here = f.in_order k.0 (back g q) k.1 in
      let at = k.2 in
      let inside = k.1 in
      let count = f.chain.count in
      let j = layout.journal in
      let n = layout.chain_sets in
      (omega (arith, here, at, j), omega (arith, here, at, inside, count, j, n))

  chain_in_ : (q : ℕ) → w.journal ≤ q → q < w.journal + w.chain_sets → In q start.opening.chain
  chain_in_ q low high =
      let count = f.chain.count in
      let j = layout.journal in
      let n = layout.chain_sets in
      let inside : q - g.journal < length f.gens.chain = omega (arith, low, high, count, j, n) in
      let here = f.in_order (q - g.journal) 0 inside in
      let same : slice_index_or f.gens.chain (q - g.journal) 0 ≡ back g q = omega (arith, here, low, j) in
      map_in q start.opening.chain (subst (λ (l : List ℕ). In (back g q) l) start.opens.means.chain
      (subst (λ (t : ℕ). In t f.gens.chain) same (index_in f.gens.chain (q - g.journal) 0 inside)))

  keeps : Keeps unused nodes f.entry.level (bucket_of g f.entry.root)
  keeps = subst (λ l. Keeps unused nodes l (bucket_of g f.entry.root)) (sym f.first_entry.level) (λ q is. (
    not_in (bucket_of g f.entry.root ∷ bucket_of g f.leaf ∷ []) q is (bucket_of g f.entry.root) (inl refl),
    subst (λ (ks : List Child). Each (Walk (Other q) nodes 0) ks) (sym kids)
        (not_in (bucket_of g f.entry.root ∷ bucket_of g f.leaf ∷ []) q is (bucket_of g f.leaf) (inr (inl refl)), tt),
  ))

  pub sound_store : meta.IsSound w store
  sound_store = record {
    whole = subst (λ (l : List Entry). IsSoundImage w start.opening.owners p.cache (seen_entry g f.entry) l start.opening.ring start.opening.ring_next start.opening.bucket) older_is
        (subst (λ (e : Entry). IsSoundImage w start.opening.owners p.cache e start.opening.older start.opening.ring start.opening.ring_next start.opening.bucket) newest_is
        (subst (λ (i : Image). IsSoundImage w start.opening.owners i start.opening.newest start.opening.older start.opening.ring start.opening.ring_next start.opening.bucket) start.image_is start.sound.whole));
    keeps = keeps;
    outside = λ q out. far q (elim out [ inl lt ↦ inl (omega (arith, lt)) | inr ge ↦ inr (let r = room in omega (arith, ge, r)) ]);
    named = subst (λ l. IsNamed start.opening.owners nodes l (bucket_of g f.entry.root) (word_of f.entry.root)) (sym f.first_entry.level) named_at;
    chain = subst (λ (i : Image). chain_in w i (seen_entry g f.entry).prio ≡ Some (record { buckets = start.opening.chain; gens = bytes_of start.opening.gens })) start.image_is
        (ap (λ (e : Entry). chain_in w start.opening.image e.prio) (sym newest_is) ∙ start.sound.chain);
    distinct = start.sound.distinct;
    free = λ q i. far q (inl (let high = (in_chain q i).1 in omega (arith, high)));
    spare = λ q i.
        let k = on_within (w.journal + w.chain_sets + 3) w.chain_sets q i in
        let low = k.0 in
        let high = k.1 in
        let r = room in (
          far q (inr low),
          (λ h. (let under = (in_chain q h).1 in omega (arith, under, low))),
          omega (arith, low),
          omega (arith, high, r),
        );
    spare_distinct = on_distinct (w.journal + w.chain_sets + 3) w.chain_sets;
    spare_count = on_long (w.journal + w.chain_sets + 3) w.chain_sets;
  }

  -- ---- the books

  abbrev class_of : ℕ → Class
  class_of = class w.journal w.chain_sets w.buckets

  abbrev pub setup : Setup
  setup = record {
    bucket = λ t. counted g (bucket_at g t);
    size = data_sectors p.backing_sectors b;
    sets = w.chain_sets;
    fixed = λ q. is_fixed (class_of q);
    index = λ s. None;
    leaf = λ s. 0;
    version = gen_from g.first_bucket start.opening.gens;
    last_gc = gen_from g.first_bucket start.opening.gens;
    mark = λ q. mark_of (class_of q);
    listed = λ q. list_of (class_of q);
    node = λ q. is_node (class_of q);
    chain = λ q. is_chain (class_of q);
  }

  sound_books : books.IsSound setup
  sound_books = record {
    window = λ q. (omega arith, omega arith);
    inside = λ s r e. absurd (cc);
    dirty = λ s r e. absurd (cc);
    spare = λ s r e. absurd (cc);
    fixed = λ q. fixed_has (class_of q);
    node = λ q. node_has (class_of q);
    chain = λ q. chain_has (class_of q);
    plain = λ q. plain_has (class_of q);
    sets = ((λ i. w.journal + i), (λ i k x y e. omega (arith, e)), (λ i lt. ap is_chain (class_chain w.journal w.chain_sets w.buckets room (w.journal + i) (omega arith) (omega (arith, lt)))));
    next = ((λ i. w.journal + w.chain_sets + 3 + i), (λ i k x y e. omega (arith, e)), (λ i lt. ap list_of (class_spare w.journal w.chain_sets w.buckets room (w.journal + w.chain_sets + 3 + i) (omega arith) (omega (arith, lt)))));
  }

  abbrev pub pair : flow.Opening
  pair = record {
    books = setup;
    plain = false;
    cache = p.cache;
    backing = λ s. p.backing (b.data_offset + s);
    image = λ s. p.backing (b.data_offset + s);
  }

  sound_pair : IsPair pair
  sound_pair = record {
    books = sound_books;
    agree = λ s r e. absurd (cc);
    plain = λ e. absurd (cc);
    image = λ s. refl;
  }

  -- ---- the parts

  abbrev pub the_leaf : Leaf
  the_leaf = record { first = 0; end = 2 ^ 40; bucket = bucket_of g f.leaf; word = word_of f.leaf; role = Free; loaded = true; pending = [] }

  abbrev the_root : InnerNode
  the_root = record { first = 0; end = 2 ^ 40; bucket = bucket_of g f.entry.root; word = word_of f.entry.root; height = 0; role = Free; loaded = true }

  abbrev pub held : parts.State
  held = record {
    records = (meta.opened w store).places.records;
    leaves = λ i. if i == 0 then the_leaf else no_leaf;
    inner_nodes = λ i. if i == 0 then the_root else no_inner;
    end = 2 ^ 40;
    change = NoChange;
    sent = λ q. [];
  }

  no_sent : (i : ℕ) → IsLive (held.leaves i).role → (held.records.nodes (held.leaves i).bucket).sent ≡ true → ⊥
  no_sent i l e = cc

  no_failed : (i : ℕ) → IsLive (held.leaves i).role → (held.records.nodes (held.leaves i).bucket).failed ≡ true → ⊥
  no_failed i l e = cc

  -- the root's child is the leaf
  fills : (P : Role → Type 0) → P Free → Fills held.leaves held.inner_nodes P the_root (tree.children_of (nodes (bucket_of g f.entry.root)))
  fills P free =
      let end = f.leaf_key.ends in
      subst (λ (ks : List Child). ChildRow (Below held.leaves held.inner_nodes P 0) 0 ks (2 ^ 40)) (sym kids)
      (omega (arith, end), (0, free, refl, refl, sym f.leaf_key.ends, refl), f.leaf_key.ends)

  two_buckets : bucket_of g f.leaf ≢ bucket_of g f.entry.root
  two_buckets e = let r = root_at in let l = leaf_at in omega (arith, r, l, e)

  index_none : held.records.index ≡ []
  index_none = keys_none

  fits : Fits held
  fits = record {
    leaves = record {
      node = only_0 (λ i x. IsLive x.role → LeafNode (held.records.nodes x.bucket) [] x) the_leaf no_leaf (λ _. record {
        last = λ s. refl;
        sets_inside = λ s out. ap (λ (ks : List Key). last_said ks s) leaf_none;
        sent_inside = λ s out. refl;
        pending_inside = λ s out. refl;
      }) (λ i l. absurd l);
      firm = only_0 (λ i x. IsLive x.role → ((held.records.nodes x.bucket).loose ≡ false) × ((held.records.nodes x.bucket).sets ≢ [])) the_leaf no_leaf
          (λ _. (used_leaf, leaf_whole)) (λ i l. absurd l);
      keys = only_0 (λ i x. IsLive x.role → LeafKeys (journal_of held.records) (held.records.nodes x.bucket).sets [] x) the_leaf no_leaf (λ _. record {
        waiting = λ s r. refl;
        sealed = λ ne. absurd (ne refl);
        index = λ s r. ap (λ (ks : List Key). ref_said (last_said ks s)) index_none ∙ sym (ap (λ (ks : List Key). ref_said (last_said ks s)) leaf_none);
        ordered = tt;
        kept = λ y i. elim i [ inl a ↦ absurd a | inr n ↦ absurd n ];
        low = λ ne. absurd (ne refl);
        sent_low = λ r. absurd r;
      }) (λ i l. absurd l);
      used = only_0 (λ i x. IsLive x.role → held.records.unused x.bucket ≡ false) the_leaf no_leaf (λ _. used_leaf) (λ i l. absurd l);
      below = only_0 (λ i x. IsLive x.role → x.end ≤ 2 ^ 40) the_leaf no_leaf (λ _. omega arith) (λ i l. absurd l);
      fresh = λ i l e. absurd (no_sent i l e);
      lost = λ i l e. absurd (no_failed i l e);
      apart = λ i k s. only_0 (λ i x. IsLive x.role → IsLive (held.leaves k).role → InRange x s → InRange (held.leaves k) s → (i ≡ k) ⊎ Partners x.role (held.leaves k).role) the_leaf no_leaf
          (λ _. only_0 (λ k y. IsLive y.role → InRange the_leaf s → InRange y s → (0 ≡ k) ⊎ Partners Free y.role) the_leaf no_leaf (λ _ _ _. inl refl) (λ k l. absurd l) k)
          (λ i l. absurd l) i;
      drafts = only_0 (λ i x. x.role ≡ Draft → DraftFits (held.records.nodes x.bucket) [] x) the_leaf no_leaf (λ e. absurd (cc)) (λ i e. absurd (cc));
    };
    tree = record {
      inner = only_0 (λ i x. IsLive x.role → InnerFits held.leaves held.inner_nodes NoChange (held.records.nodes x.bucket) i x) the_root no_inner (λ _. record {
        firm = used_root;
        some = whole_at.0;
        now = fills IsLive tt;
        still = λ k s e. fills parts.Stays tt;
        next = λ e. absurd (cc);
        lost = λ e. absurd (cc);
      }) (λ i l. absurd l);
      inner_used = only_0 (λ i x. IsLive x.role → held.records.unused x.bucket ≡ false) the_root no_inner (λ _. used_root) (λ i l. absurd l);
    };
    roots = record {
      newest = (0, tt, refl, sym f.first_entry.level, refl, refl, refl);
      entry = λ ne. absurd (ne refl);
      newest_stays = λ _. (0, tt, refl, sym f.first_entry.level, refl, refl, refl);
      entry_stays = λ k ne. absurd (ne refl);
      order = tt;
      waiting = λ s _. refl;
      sealed = λ ne. absurd (ne refl);
      index = λ s ge. ap (λ (ks : List Key). ref_said (last_said ks s)) index_none;
    };
    buckets = record {
      one_leaf = λ i k. only_0 (λ i x. x.role ≢ NoNode → (held.leaves k).role ≢ NoNode → x.bucket ≡ (held.leaves k).bucket → i ≡ k) the_leaf no_leaf
          (λ _. only_0 (λ k y. y.role ≢ NoNode → bucket_of g f.leaf ≡ y.bucket → 0 ≡ k) the_leaf no_leaf (λ _ _. refl) (λ k ne. absurd (ne refl)) k)
          (λ i ne. absurd (ne refl)) i;
      one_inner = λ i k. only_0 (λ i x. x.role ≢ NoNode → (held.inner_nodes k).role ≢ NoNode → x.bucket ≡ (held.inner_nodes k).bucket → i ≡ k) the_root no_inner
          (λ _. only_0 (λ k y. y.role ≢ NoNode → bucket_of g f.entry.root ≡ y.bucket → 0 ≡ k) the_root no_inner (λ _ _. refl) (λ k ne. absurd (ne refl)) k)
          (λ i ne. absurd (ne refl)) i;
      one_kind = λ i k. only_0 (λ i x. x.role ≢ NoNode → (held.inner_nodes k).role ≢ NoNode → x.bucket ≢ (held.inner_nodes k).bucket) the_leaf no_leaf
          (λ _. only_0 (λ k y. y.role ≢ NoNode → bucket_of g f.leaf ≢ y.bucket) the_root no_inner (λ _. two_buckets) (λ k ne. absurd (ne refl)) k)
          (λ i ne. absurd (ne refl)) i;
      named = only_0 (λ i x. x.role ≢ NoNode → (held.records.nodes x.bucket).owner ≡ leaf_owner x) the_leaf no_leaf (λ _. leaf_named) (λ i ne. absurd (ne refl));
      inner_named = only_0 (λ i x. x.role ≢ NoNode → (held.records.nodes x.bucket).owner ≡ inner_owner x) the_root no_inner (λ _. named_at.0) (λ i ne. absurd (ne refl));
    };
    quiet = record {
      calm = λ _. only_0 (λ i x. IsLive x.role → x.role ≡ Free) the_leaf no_leaf (λ _. refl) (λ i l. absurd l);
      calm_inner = λ _. only_0 (λ i x. IsLive x.role → x.role ≡ Free) the_root no_inner (λ _. refl) (λ i l. absurd l);
    };
  }

  -- ---- all of it

  abbrev pub opening : Opening
  opening = record { flow = pair; layout = w; before = g.first_bucket; store = store }

  used_node : (q : ℕ) → unused q ≡ false → is_node (class_of q) ≡ true
  used_node q = by_class w.journal w.chain_sets w.buckets q (λ k. unused q ≡ false → is_node k ≡ true)
      (λ lt e. absurd (two (unused q) (far q (inl (omega (arith, lt)))) e))
      (λ ge lt e. absurd (two (unused q) (far q (inl (omega (arith, lt)))) e))
      (λ ge lt e. absurd (two (unused q) (far q (inl (omega (arith, lt)))) e))
      (λ ge lt e. refl)
      (λ ge lt e. absurd (two (unused q) (far q (inr ge)) e))
      (λ ge lt e. absurd (two (unused q) (far q (inr (omega (arith, ge)))) e))
      (λ ge e. absurd (two (unused q) (far q (inr (let r = room in omega (arith, ge, r)))) e))
    where
      two : (t : Bool) → t ≡ true → t ≡ false → ⊥
      two t x y = cc

  chain_is : (q : ℕ) → (meta.opened w store).chain_of q ≡ (if is_chain (class_of q) then Some 0 else None)
  chain_is q = elim (opened_cases start.opening.chain q) [
    | inl h ↦ (let k = in_chain q h.0 in h.1 ∙ sym (ap (λ (x : Class). if is_chain x then Some 0 else None) (class_chain w.journal w.chain_sets w.buckets room q k.0 k.1)))
    | inr h ↦ h.1 ∙ sym (ap (λ (t : Bool). if t then Some 0 else None) (not_chain w.journal w.chain_sets w.buckets room q (λ low high. h.0 (chain_in_ q low high))))
  ]

  sound_whole : whole_law.IsSound opening held
  sound_whole = record {
    pair = sound_pair;
    store = sound_store;
    fits = fits;
    records = refl;
    image = refl;
    index = λ s. ap (λ (ks : List Key). last_ref ks s) keys_none;
    gens = λ q. refl;
    chain = chain_is;
    nodes = used_node;
  }

  laid : AreLaid opening
  laid = record {
    area = class_area w.journal w.chain_sets w.buckets room;
    sector = λ q t lt low high.
        let first = layout.first q in
        let sectors = layout.bucket_sectors in
        let at = bucket_lies g (g.first_bucket + q) t (omega (arith, first, low)) (omega (arith, first, high, sectors)) in
        omega (arith, at);
    sets = refl;
  }

  node_there : (q : ℕ) → w.journal + w.chain_sets + 1 ≤ q → q < w.journal + w.chain_sets + 3 → is_node (class_of q) ≡ true
  node_there q low high = ap is_node (class_node w.journal w.chain_sets w.buckets room q low high)

  pub sound : IsSound opening held
  sound = record {
    whole = sound_whole;
    laid = laid;
    spare = λ q i. let k = on_within (w.journal + w.chain_sets + 3) w.chain_sets q i in let low = k.0 in let high = k.1 in
        ap list_of (class_spare w.journal w.chain_sets w.buckets room q low (omega (arith, high)));
    leaves = only_0 (λ i x. x.role ≢ NoNode → is_node (class_of x.bucket) ≡ true) the_leaf no_leaf
        (λ _. (let at = leaf_at in node_there (bucket_of g f.leaf) (omega (arith, at)) (omega (arith, at)))) (λ i ne. absurd (ne refl));
    inner_nodes = only_0 (λ i x. x.role ≢ NoNode → is_node (class_of x.bucket) ≡ true) the_root no_inner
        (λ _. (let at = root_at in node_there (bucket_of g f.entry.root) (omega (arith, at)) (omega (arith, at)))) (λ i ne. absurd (ne refl));
  }

  none_in : (key : Key) (ks : List Key) → ks ≡ [] → In key ks → ⊥
  none_in key ks e i = subst (λ (l : List Key). In key l) e i

  no_key : (key : Key) → WasThere opening key → ⊥
  no_key key (inl i) = none_in key (reverse f.entry.keys ++ []) (ap (λ (ks : List Key). reverse ks ++ []) f.first_entry.keys) i
  no_key key (inr (q, used, leaf, i)) = at_node q (λ out. two (unused q) out used) i
    where
      two : (t : Bool) → t ≡ true → t ≡ false → ⊥
      two t x y = cc

      at_node : (q : ℕ) → (unused q ≡ true → ⊥) → In key (tree.set_keys (nodes q)) → ⊥
      at_node q no_ i = no_ (off_list (bucket_of g f.entry.root ∷ bucket_of g f.leaf ∷ []) q (λ h. elim h [
        | inl e ↦ none_in key (tree.set_keys (nodes q)) (ap (λ t. tree.set_keys (nodes t)) e ∙ root_none) i
        | inr (inl e) ↦ none_in key (tree.set_keys (nodes q)) (ap (λ t. tree.set_keys (nodes t)) e ∙ leaf_none) i
        | inr (inr n) ↦ n
      ]))

  pub opened_on : IsOpenedOn p b g opening held
  opened_on = record {
    machine = record { layout = layout; before = refl };
    sound = sound;
    cache = refl;
    backing = λ s. refl;
    shows = λ s. refl;
    size = refl;
    empty = λ s. refl;
    no_key = no_key;
    table = let j = layout.journal in let n = layout.chain_sets in
        let at : counted g (table_bucket g) ≡ w.journal + w.chain_sets = omega (arith, j, n) in
        ap (λ q. is_fixed (class_of q)) at ∙ ap is_fixed (class_table w.journal w.chain_sets w.buckets room);
  }

  -- ---- an opening of a sound pair

  view_is : IsView p (fresh_view p b c g f)
  view_is = fresh_is_view p b c g f supers.initialised.1

  not_through : (d : BackingSuper) → d ≡ b → IsPassThrough d → ⊥
  not_through d same alone =
      let flags = ap (λ (s : BackingSuper). s.flags) same in
      elim supers.state [ inl clean ↦ omega (arith, clean, alone.1, flags) | inr dirty ↦ omega (arith, dirty, alone.1, flags) ]

  sound_parts : HasSoundParts p (fresh_view p b c g f)
  sound_parts = elim (fresh_is_sound p b c g f supers) [
    | inl alone ↦ absurd (not_through alone.0 (one_backing p alone.0 b alone.1 f.backing) alone.2)
    | inr k ↦ subst (λ (v : View). HasSoundParts p v) (one_view p k.0 (fresh_view p b c g f) k.1 view_is) k.2
  ]

  shows_is : (s : ℕ) → p.backing (b.data_offset + s) ≡ shown_by p (fresh_view p b c g f) s
  shows_is s =
      one_shown p (λ t. p.backing (b.data_offset + t)) (λ t. shown_by p (fresh_view p b c g f) t) (fresh_shows p b c g f supers)
      (cached (fresh_view p b c g f) view_is (not_through b refl) (λ t. refl)) s

  abbrev Nodes : List image.Node
  Nodes = node_of 1 0 f.entry.root (f.root_set ∷ []) ∷ node_of 0 0 f.leaf (f.leaf_set ∷ []) ∷ []

  pub opening_of : IsSoundOpeningOf p (fresh_view p b c g f) opening held
  opening_of = record {
    view = view_is;
    parts = sound_parts;
    machine = record { layout = layout; before = refl };
    sound = sound;
    cache = refl;
    backing = λ s. refl;
    shows = shows_is;
    keys = λ key was. absurd (no_key key was);
    leaves = only_0 (λ i x. x.role ≢ NoNode → (n : image.Node) × In n Nodes × IsLeafOf g opening n x) the_leaf no_leaf
        (λ _. (node_of 0 0 f.leaf (f.leaf_set ∷ []), inr (inl refl), record { level = refl; first = refl; end = f.leaf_key.ends; bucket = refl; word = refl; sets = leaf_sets }))
        (λ i ne. absurd (ne refl));
    inner_nodes = only_0 (λ i x. x.role ≢ NoNode → (n : image.Node) × In n Nodes × IsInnerOf g opening n x) the_root no_inner
        (λ _. (node_of 1 0 f.entry.root (f.root_set ∷ []), inl refl, record { level = refl; first = refl; end = f.first_entry.root.ends; bucket = refl; word = refl; sets = root_sets }))
        (λ i ne. absurd (ne refl));
    end = refl;
    table = λ bucket points.
        let same : bucket ≡ table_bucket g = only_bucket g (table_bucket g) g.bucket g.bucket f.entry.uuid_bucket f.first_entry.uuid_bucket bucket points in
        subst (λ q. is_fixed (class_of (counted g q)) ≡ true) (sym same) opened_on.table;
  }
