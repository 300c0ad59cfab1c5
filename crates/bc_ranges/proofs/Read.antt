-- The nodes that a reader's walk meets are slots.
use Rattle.std.proofs.Common.{◌≡◌, ◌≢◌, ◌⊎◌, inl, inr, ℕ, zero, suc, ◌+◌, ◌%◌, ◌<◌, ◌≤◌, Bool, true, false, List, [], ◌∷◌, ◌++◌, Option, Some, None, refl, sym, ap, ◌∙◌, subst, arith, if◌then◌else◌}
use Rattle.std.specs.Prelude.{map, reverse, All, Any, AllPairs, slice_index_or}
use Rattle.bc_model.specs.Sector.{Image}
use Rattle.bc_disk.specs.declared.geometry.Geometry.{Geometry}
use Rattle.bc_record.specs.Places.{bucket_at}
use Rattle.bc_key.specs.declared.key.Key.{Key}
use Rattle.bc_key.specs.declared.ptr.Ptr.{Ptr}
use Rattle.bc_key.specs.Key.{pointer_of, ptr_at}
use Rattle.bc_key.specs.Words.{ptr_word}
use Rattle.bc_set.specs.declared.set.Set.{Set}
use Rattle.bc_set.specs.Records.{AreNodeSets}
use Rattle.bc_meta.specs.Facts.{In}
use Rattle.bc_meta.specs.Tree.{Child, NodeSet, Owner}
use Rattle.bc_meta.specs.Tree as tree
use Rattle.bc_meta.specs.Layout.{Layout, node_sets}
use Rattle.bc_meta.specs.Records.{MayHold, MayRead, Node, owners}
use Rattle.bc_leaves.specs.Parts.{IsLive, Role, Stays, State, inner_owner, leaf_owner}
use Rattle.bc_leaves.specs.Fits.{Fits}
use Rattle.bc_leaves.specs.Rows.{Below, ChildRow, Fills}
use Rattle.bc_leaves.proofs.Contents.{fill_roles, live_some, stays_live}
use Rattle.bc_image.specs.Children.{children_of}
use Rattle.bc_image.specs.Pointers.{PointsInto}
use Rattle.bc_image.specs.Sound.{CoverUpTo, IsNodeKey, KeepsRange, LiesWithin}
use Rattle.bc_image.specs.Tree.{AreSetsAt, AreWalks, IsWalk, kind_at, node_of, set_keys}
use Rattle.bc_image.specs.Tree as image
use Rattle.bc_image.proofs.Unique.{some_same}
use Rattle.bc_image.proofs.Unique as unique
use Rattle.bc_facts.specs.Seen.{bucket_of, kind_of, seen_child, seen_sets, word_of}
use Rattle.bc_facts.specs.Layout.{IsLayoutOf}
use Rattle.bc_facts.proofs.Place.{by_lt}
use Rattle.bc_facts.proofs.Stood.{in_all, in_behind, in_either, in_front, in_contains}
use Rattle.bc_remains.proofs.Children.{children_are}
use Rattle.bc_remains.proofs.Keys.{leaf_keys}
use Rattle.bc_remains.proofs.Tree.{NodeAt, node_at}
use Rattle.bc_shows.proofs.Lists.{in_reverse}
use Rattle.bc_ranges.specs.Made.{Frame}
use Rattle.bc_ranges.proofs.Lists.{Pairs, one_sets, pairs_join}
use Rattle.bc_ranges.proofs.Slots.{AreMade, InnerMade, InnerSets, LeafMade, Lies, more_sets}

-- the first pointer is the one that counts
pub first_ptr : (key : Key) (ptr : Ptr) → pointer_of key ≡ Some ptr → ptr_at key 0 ≡ ptr
first_ptr key ptr = by_lt 0 key.count (λ t. (if t then Some (ptr_at key 0) else None) ≡ Some ptr → ptr_at key 0 ≡ ptr)
    (λ _ e. some_same (ptr_at key 0) ptr e) (λ _ e. absurd (cc))

no_cons : (x : NodeSet) (xs : List NodeSet) → x ∷ xs ≡ [] → ⊥
no_cons x xs h = cc

not_loose : (n : Node) → n.loose ≡ false → n.loose ≡ true → ⊥
not_loose n a b = two n.loose a b
  where
    two : (t : Bool) → t ≡ false → t ≡ true → ⊥
    two t x y = cc

module _ (f : Frame) (w : Layout) (layout : IsLayoutOf f.geometry w) (st : State) (fits : Fits st) (m : AreMade f st) (im : Image)
    (may : MayRead st.records.nodes (node_sets w (owners st.records.nodes) im)) where
  abbrev c : ℕ → List NodeSet
  c = node_sets w (owners st.records.nodes) im

  -- ---- what is read of a slot

  leaf_keys_in : (i : ℕ) → IsLive (st.leaves i).role → (key : Key) → In key (tree.set_keys (c (st.leaves i).bucket)) → Lies (st.leaves i).first (st.leaves i).end key
  leaf_keys_in i live key j = go (may (st.leaves i).bucket)
    where
      made : LeafMade (st.records.nodes (st.leaves i).bucket) (st.leaves i).first (st.leaves i).end
      made = m.leaves i (live_some (st.leaves i).role live)

      go : MayHold (st.records.nodes (st.leaves i).bucket) (c (st.leaves i).bucket) → Lies (st.leaves i).first (st.leaves i).end key
      go (inl loose) = absurd (not_loose (st.records.nodes (st.leaves i).bucket) (fits.leaves.firm i live).0 loose)
      go (inr (inl e)) = made.sets key (subst (λ (l : List NodeSet). In key (tree.set_keys l)) e j)
      go (inr (inr e)) = elim (in_either key (st.records.nodes (st.leaves i).bucket).last.keys (tree.set_keys (st.records.nodes (st.leaves i).bucket).sets)
          (subst (λ (l : List NodeSet). In key (tree.set_keys l)) e.1 j)) [
            | inl k ↦ made.last e.0 key k
            | inr k ↦ made.sets key k
          ]

  leaf_some : (i : ℕ) → IsLive (st.leaves i).role → c (st.leaves i).bucket ≢ []
  leaf_some i live none = go (may (st.leaves i).bucket)
    where
      go : MayHold (st.records.nodes (st.leaves i).bucket) (c (st.leaves i).bucket) → ⊥
      go (inl loose) = not_loose (st.records.nodes (st.leaves i).bucket) (fits.leaves.firm i live).0 loose
      go (inr (inl e)) = (fits.leaves.firm i live).1 (sym e ∙ none)
      go (inr (inr e)) = no_cons (st.records.nodes (st.leaves i).bucket).last (st.records.nodes (st.leaves i).bucket).sets (sym e.1 ∙ none)

  record InnerRead (i : ℕ) : Type 0 where
    fills : Fills st.leaves st.inner_nodes IsLive (st.inner_nodes i) (tree.children_of (c (st.inner_nodes i).bucket))
    sets : InnerSets f.geometry (st.inner_nodes i).first (st.inner_nodes i).end (c (st.inner_nodes i).bucket)
    some : c (st.inner_nodes i).bucket ≢ []

  abbrev node_in : ℕ → Node
  node_in i = st.records.nodes (st.inner_nodes i).bucket

  inner_read : (i : ℕ) → IsLive (st.inner_nodes i).role → InnerRead i
  inner_read i live = go (may (st.inner_nodes i).bucket)
    where
      made : InnerMade f.geometry (st.records.nodes (st.inner_nodes i).bucket) (st.inner_nodes i).first (st.inner_nodes i).end
      made = m.inner_nodes i (live_some (st.inner_nodes i).role live)

      stood : ((node_in i).sent ≡ true) ⊎ ((node_in i).failed ≡ true) → Fills st.leaves st.inner_nodes IsLive (st.inner_nodes i) (tree.children_of ((node_in i).last ∷ (node_in i).sets))
      stood (inl e) = fill_roles st.leaves st.inner_nodes Stays IsLive (st.inner_nodes i) (tree.children_of ((node_in i).last ∷ (node_in i).sets)) stays_live ((fits.tree.inner i live).next e).1
      stood (inr e) = ((fits.tree.inner i live).lost e).1

      go : MayHold (node_in i) (c (st.inner_nodes i).bucket) → InnerRead i
      go (inl loose) = absurd (not_loose (node_in i) (fits.tree.inner i live).firm loose)
      go (inr (inl e)) = record {
        fills = subst (λ (l : List NodeSet). Fills st.leaves st.inner_nodes IsLive (st.inner_nodes i) (tree.children_of l)) (sym e) (fits.tree.inner i live).now;
        sets = subst (λ (l : List NodeSet). InnerSets f.geometry (st.inner_nodes i).first (st.inner_nodes i).end l) (sym e) made.sets;
        some = λ none. (fits.tree.inner i live).some (sym e ∙ none);
      }
      go (inr (inr e)) = record {
        fills = subst (λ (l : List NodeSet). Fills st.leaves st.inner_nodes IsLive (st.inner_nodes i) (tree.children_of l)) (sym e.1) (stood e.0);
        sets = subst (λ (l : List NodeSet). InnerSets f.geometry (st.inner_nodes i).first (st.inner_nodes i).end l) (sym e.1)
            (more_sets f.geometry (st.inner_nodes i).first (st.inner_nodes i).end (node_in i).last (node_in i).sets (made.last e.0) made.sets);
        some = λ none. no_cons (node_in i).last (node_in i).sets (sym e.1 ∙ none);
      }

  -- the sets that a key leads to are those of its bucket
  sets_here : (leaf : Bool) (level : ℕ) → kind_of leaf ≡ kind_at level → (key : Key) (sets : List Set) → AreSetsAt f.geometry im level key sets
      → owners st.records.nodes (bucket_of f.geometry key) ≡ record { word = word_of key; leaf = leaf } → c (bucket_of f.geometry key) ≢ []
      → c (bucket_of f.geometry key) ≡ seen_sets f.geometry leaf sets
  sets_here leaf level kind key sets at own some =
      let n = node_at f.geometry w layout (owners st.records.nodes) im leaf key own some in
      let points : pointer_of key ≡ Some (ptr_at key 0) = at.points ∙ ap (λ (y : Ptr). Some y) (sym (first_ptr key at.ptr at.points)) in
      n.seen ∙ ap (seen_sets f.geometry leaf) (unique.one_sets f.geometry im level key n.sets sets (record {
        ptr = ptr_at key 0;
        points = points;
        stand = subst (λ k. AreNodeSets f.geometry (ptr_word (ptr_at key 0)) k im ((ptr_at key 0).offset + f.geometry.node_sectors) (ptr_at key 0).offset n.sets) kind n.stand;
        some = n.some;
      }) at)

  -- ---- the walk

  abbrev IsSlot : ℕ → Key → ℕ → Type 0
  IsSlot level key from = Below st.leaves st.inner_nodes IsLive level (bucket_of f.geometry key) (word_of key) from key.end

  pub record Good (from end level : ℕ) (n : image.Node) : Type 0 where
    pub keeps : KeepsRange n
    pub key : IsNodeKey f.geometry n.key
    pub slot : IsSlot n.level n.key n.from
    pub some : n.from < n.key.end
    pub low : from ≤ n.from
    pub high : n.key.end ≤ end
    pub below : n.level ≤ level

  abbrev pub Differ : image.Node → image.Node → Type 0
  Differ a b = a.level ≡ b.level → a.from ≡ b.from → ⊥

  pub record GoodWalk (level from end : ℕ) (nodes : List image.Node) : Type 0 where
    pub each : (n : image.Node) → In n nodes → Good from end level n
    pub apart : Pairs Differ nodes

  good_wide : (from end level from2 end2 level2 : ℕ) (n : image.Node) → from2 ≤ from → end ≤ end2 → level ≤ level2 → Good from end level n → Good from2 end2 level2 n
  good_wide from end level from2 end2 level2 n a b d h = record {
    keeps = h.keeps;
    key = h.key;
    slot = h.slot;
    some = h.some;
    low = let l = h.low in omega (arith, a, l);
    high = let l = h.high in omega (arith, b, l);
    below = let l = h.below in omega (arith, d, l);
  }

  abbrev WalkIsGood : ℕ → Type 0
  WalkIsGood level = (from : ℕ) (key : Key) (nodes : List image.Node) → IsWalk f.geometry im level from key nodes → IsSlot level key from → from < key.end → IsNodeKey f.geometry key
      → GoodWalk level from key.end nodes

  walks_good : (level : ℕ) → WalkIsGood level → (from end : ℕ) (ks : List Key) (nodes : List image.Node) → AreWalks (IsWalk f.geometry im level) from ks nodes
      → ChildRow (Below st.leaves st.inner_nodes IsLive level) from (map (seen_child f.geometry) ks) end → ((k : Key) → In k ks → IsNodeKey f.geometry k)
      → GoodWalk level from end nodes × (from ≤ end)
  walks_good level ih from end [] nodes walks row keys = (
    record { each = λ n i. absurd (subst (λ (l : List image.Node). In n l) walks i); apart = subst (λ (l : List image.Node). Pairs Differ l) (sym walks) tt },
    omega (arith, row),
  )
  walks_good level ih from end (k ∷ ks) nodes walks row keys =
      let here = ih from k walks.0 walks.2 row.1 row.0 (keys k (inl refl)) in
      let rest = walks_good level ih k.end end ks walks.1 walks.3 row.2 (λ j i. keys j (inr i)) in
      let some = row.0 in
      let more = rest.1 in
      let both : GoodWalk level from end (walks.0 ++ walks.1) = record {
        each = λ n i. elim (in_either n walks.0 walks.1 i) [
          | inl j ↦ good_wide from k.end level from end level n (omega arith) more (omega arith) (here.each n j)
          | inr j ↦ good_wide k.end end level from end level n (omega (arith, some)) (omega arith) (omega arith) (rest.0.each n j)
        ];
        apart = pairs_join Differ walks.0 walks.1 here.apart rest.0.apart (λ a b i j level_ from_.
            (let x = here.each a i in let y = rest.0.each b j in
            let p = x.some in let q = x.high in let r = y.low in omega (arith, p, q, r, from_)));
      } in (
        subst (λ (l : List image.Node). GoodWalk level from end l) (sym walks.4) both,
        omega (arith, some, more),
      )

  -- the last child ends where the row does
  row_ends : (level from end : ℕ) (ks : List Key) → ChildRow (Below st.leaves st.inner_nodes IsLive level) from (map (seen_child f.geometry) ks) end → from < end
      → (k : Key) × In k ks × (k.end ≡ end)
  row_ends level from end [] row lt = absurd (omega (arith, row, lt))
  row_ends level from end (k ∷ []) row lt = (k, inl refl, row.2)
  row_ends level from end (k ∷ (j ∷ js)) row lt =
      let more = row_long level j.end end js row.2.2 in
      let first = row.2.0 in
      let h = row_ends level k.end end (j ∷ js) row.2 (omega (arith, first, more)) in
      (h.0, inr h.1, h.2)
    where
      row_long : (level from end : ℕ) (ks : List Key) → ChildRow (Below st.leaves st.inner_nodes IsLive level) from (map (seen_child f.geometry) ks) end → from ≤ end
      row_long level from end [] row = omega (arith, row)
      row_long level from end (k ∷ ks) row = let a = row.0 in let b = row_long level k.end end ks row.2 in omega (arith, a, b)

  row_slots : (level from end : ℕ) (ks : List Key) → ChildRow (Below st.leaves st.inner_nodes IsLive level) from (map (seen_child f.geometry) ks) end
      → (k : Key) → In k ks → k.end % 256 ≡ 0
  row_slots level from end [] row k i = absurd i
  row_slots level from end (c ∷ cs) row k (inr i) = row_slots level c.end end cs row.2 k i
  row_slots level from end (c ∷ cs) row k (inl e) = ap (λ (y : Key). y.end % 256) e ∙ slot_end level c from row.1
    where
      slot_end : (level : ℕ) (key : Key) (from : ℕ) → IsSlot level key from → key.end % 256 ≡ 0
      slot_end zero key from (i, live, bucket, first, end, word) = ap (λ n. n % 256) (sym end) ∙ (m.leaves i (live_some (st.leaves i).role live)).ends
      slot_end (suc h) key from (i, live, height, bucket, first, end, word) = ap (λ n. n % 256) (sym end) ∙ (m.inner_nodes i (live_some (st.inner_nodes i).role live)).ends

  in_any : {A : Type 0} (P : A → Type 0) (xs : List A) (x : A) → In x xs → P x → Any P xs
  in_any P xs x i h = let k = in_contains xs x i in (k.0, x, k.1, k.2, h)

  pub walk_good : (level : ℕ) → WalkIsGood level
  walk_good zero from key nodes walk (i, live, bucket, first, end, word) lt node =
      let own : owners st.records.nodes (bucket_of f.geometry key) ≡ record { word = word_of key; leaf = true } =
      subst (λ q. (st.records.nodes q).owner ≡ record { word = word_of key; leaf = true }) bucket
      (fits.buckets.named i (live_some (st.leaves i).role live) ∙ ap (λ n. record { word = n; leaf = true }) word) in
      let seen = sets_here true zero refl key walk.0 walk.1 own (subst (λ q. c q ≢ []) bucket (leaf_some i live)) in
      let within : (k : Key) → In k (set_keys walk.0) → LiesWithin zero from key.end k = λ k j.
      (let there : In k (tree.set_keys (c (st.leaves i).bucket)) =
      subst (λ q. In k (tree.set_keys (c q))) (sym bucket)
      (subst (λ (l : List Key). In k l) (leaf_keys f.geometry walk.0 ∙ ap tree.set_keys (sym seen)) (in_reverse k (set_keys walk.0) j)) in
      let h = leaf_keys_in i live k there in
      (omega (arith, h.0, first), omega (arith, h.1, end))) in
      let one : Good from key.end zero (node_of zero from key walk.0) = record {
        keeps = record { within = in_all (LiesWithin zero from key.end) (set_keys walk.0) within; cover = tt };
        key = node;
        slot = (i, live, bucket, first, end, word);
        some = lt;
        low = omega arith;
        high = omega arith;
        below = omega arith;
      } in
      subst (λ (l : List image.Node). GoodWalk zero from key.end l) (sym walk.2) (record {
        each = λ n j. elim j [ inl e ↦ subst (λ (y : image.Node). Good from key.end zero y) (sym e) one | inr k ↦ absurd k ];
        apart = (λ y j. absurd j, tt);
      })
  walk_good (suc level) from key nodes walk (i, live, height, bucket, first, end, word) lt node =
      let own : owners st.records.nodes (bucket_of f.geometry key) ≡ record { word = word_of key; leaf = false } =
      subst (λ q. (st.records.nodes q).owner ≡ record { word = word_of key; leaf = false }) bucket
      (fits.buckets.inner_named i (live_some (st.inner_nodes i).role live) ∙ ap (λ n. record { word = n; leaf = false }) word) in
      let read = inner_read i live in
      let seen = sets_here false (suc level) refl key walk.0 walk.2 own (subst (λ q. c q ≢ []) bucket read.some) in
      let there : c (st.inner_nodes i).bucket ≡ seen_sets f.geometry false walk.0 = ap c bucket ∙ seen in
      let same : read.sets.sets ≡ walk.0 = one_sets f.geometry false read.sets.sets walk.0 (read.sets.seen ∙ there) in
      let kids : tree.children_of (c (st.inner_nodes i).bucket) ≡ map (seen_child f.geometry) (children_of (set_keys walk.0)) = ap tree.children_of there ∙ children_are f.geometry walk.0 in
      let row : ChildRow (Below st.leaves st.inner_nodes IsLive level) from (map (seen_child f.geometry) (children_of (set_keys walk.0))) key.end =
      subst (λ e. ChildRow (Below st.leaves st.inner_nodes IsLive level) from (map (seen_child f.geometry) (children_of (set_keys walk.0))) e) end
      (subst (λ a. ChildRow (Below st.leaves st.inner_nodes IsLive level) a (map (seen_child f.geometry) (children_of (set_keys walk.0))) (st.inner_nodes i).end) first
      (subst (λ h. ChildRow (Below st.leaves st.inner_nodes IsLive h) (st.inner_nodes i).first (map (seen_child f.geometry) (children_of (set_keys walk.0))) (st.inner_nodes i).end) height
      (subst (λ (l : List Child). ChildRow (Below st.leaves st.inner_nodes IsLive (st.inner_nodes i).height) (st.inner_nodes i).first l (st.inner_nodes i).end) kids read.fills))) in
      let below = walks_good level (walk_good level) from key.end (children_of (set_keys walk.0)) walk.1 walk.3 row
      (λ k j. read.sets.children k (subst (λ (l : List Set). In k (children_of (set_keys l))) (sym same) j)) in
      let last = row_ends level from key.end (children_of (set_keys walk.0)) row lt in
      let one : Good from key.end (suc level) (node_of (suc level) from key walk.0) = record {
        keeps = record {
          within = in_all (LiesWithin (suc level) from key.end) (set_keys walk.0) (λ k j.
              (let h = read.sets.within k (subst (λ (l : List Set). In k (set_keys l)) (sym same) j) in
              (omega (arith, h.0, first), omega (arith, h.1, end))));
          cover = (
            in_all (λ (k : Key). k.end % 256 ≡ 0) (children_of (set_keys walk.0)) (row_slots level from key.end (children_of (set_keys walk.0)) row),
            in_any (λ (k : Key). k.end ≡ key.end) (children_of (set_keys walk.0)) last.0 last.1 last.2,
          );
        };
        key = node;
        slot = (i, live, height, bucket, first, end, word);
        some = lt;
        low = omega arith;
        high = omega arith;
        below = omega arith;
      } in
      subst (λ (l : List image.Node). GoodWalk (suc level) from key.end l) (sym walk.4) (record {
        each = λ n j. elim j [
          | inl e ↦ subst (λ (y : image.Node). Good from key.end (suc level) y) (sym e) one
          | inr k ↦ good_wide from key.end level from key.end (suc level) n (omega arith) (omega arith) (omega arith) (below.0.each n k)
        ];
        apart = (λ y j level_ from_. (let h = (below.0.each y j).below in omega (arith, h, level_)), below.0.apart);
      })

  -- ---- two nodes of a walk lie in different buckets

  same_slot : (la lb : ℕ) (ka kb : Key) (fa fb : ℕ) → IsSlot la ka fa → IsSlot lb kb fb → bucket_of f.geometry ka ≡ bucket_of f.geometry kb → (la ≡ lb) × (fa ≡ fb)
  same_slot zero zero ka kb fa fb (i, live, bucket, first, end, word) (j, live2, bucket2, first2, end2, word2) e =
      let same = fits.buckets.one_leaf i j (live_some (st.leaves i).role live) (live_some (st.leaves j).role live2) (bucket ∙ e ∙ sym bucket2) in
      (refl, sym first ∙ ap (λ k. (st.leaves k).first) same ∙ first2)
  same_slot zero (suc h) ka kb fa fb (i, live, bucket, first, end, word) (j, live2, height2, bucket2, first2, end2, word2) e =
      absurd (fits.buckets.one_kind i j (live_some (st.leaves i).role live) (live_some (st.inner_nodes j).role live2) (bucket ∙ e ∙ sym bucket2))
  same_slot (suc h) zero ka kb fa fb (i, live, height, bucket, first, end, word) (j, live2, bucket2, first2, end2, word2) e =
      absurd (fits.buckets.one_kind j i (live_some (st.leaves j).role live2) (live_some (st.inner_nodes i).role live) (bucket2 ∙ sym e ∙ sym bucket))
  same_slot (suc h) (suc k) ka kb fa fb (i, live, height, bucket, first, end, word) (j, live2, height2, bucket2, first2, end2, word2) e =
      let same = fits.buckets.one_inner i j (live_some (st.inner_nodes i).role live) (live_some (st.inner_nodes j).role live2) (bucket ∙ e ∙ sym bucket2) in
      (ap suc (sym height ∙ ap (λ k. (st.inner_nodes k).height) same ∙ height2), sym first ∙ ap (λ k. (st.inner_nodes k).first) same ∙ first2)

  at_bucket : (key : Key) (bucket : ℕ) → PointsInto f.geometry key bucket → bucket_at f.geometry (ptr_at key 0).offset ≡ bucket
  at_bucket key bucket (ptr, points, at) = ap (λ (y : Ptr). bucket_at f.geometry y.offset) (first_ptr key ptr points) ∙ at

  pub other_buckets : (from end level : ℕ) (a b : image.Node) → Good from end level a → Good from end level b → Differ a b
      → (bucket : ℕ) → PointsInto f.geometry a.key bucket → PointsInto f.geometry b.key bucket → ⊥
  other_buckets from end level a b x y differ bucket p q =
      let pa = at_bucket a.key bucket p in
      let pb = at_bucket b.key bucket q in
      let k = same_slot a.level b.level a.key b.key a.from b.from x.slot y.slot (let e : bucket_of f.geometry a.key ≡ bucket_of f.geometry b.key = omega (arith, pa, pb) in e) in
      differ k.0 k.1
