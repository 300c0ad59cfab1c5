-- Keys of an opening of a sound pair lie in data, so the laws of runs hold of it.
use Rattle.std.proofs.Common.{subst, ◌≡◌, inl, inr, ℕ, zero, suc, Bool, true, false, List, [], ◌∷◌, refl, sym, ap, ◌∙◌}
use Rattle.std.specs.Prelude.{map, reverse}
use Rattle.std.specs.List.{flat_map}
use Rattle.bc_disk.specs.declared.geometry.Geometry.{Geometry}
use Rattle.bc_model.specs.History.{Allowed}
use Rattle.bc_model.specs.Sector.{Image}
use Rattle.bc_key.specs.declared.key.Key.{Key}
use Rattle.bc_super.specs.Super.{data_sectors}
use Rattle.bc_meta.specs.Entries.{all_keys}
use Rattle.bc_meta.specs.Facts.{In}
use Rattle.bc_meta.specs.Layout.{Layout, node_sets}
use Rattle.bc_meta.specs.Tree as tree
use Rattle.bc_meta.specs.Tree.{IsNamed, Owner, Walk, Whole}
use Rattle.bc_leaves.specs.After.{has}
use Rattle.bc_leaves.specs.Parts as parts
use Rattle.bc_leaves.proofs.Chains.{in_has}
use Rattle.bc_image.specs.Pair.{Pair}
use Rattle.bc_image.specs.Pointers.{PointsIntoData}
use Rattle.bc_image.specs.Reading.{Reading, View, keys_of}
use Rattle.bc_image.specs.Shown.{shown_by}
use Rattle.bc_image.specs.Sound.{IsDataKey}
use Rattle.bc_image.specs.Tree.{Node, data_keys, set_keys, tree_keys}
use Rattle.bc_facts.specs.Seen.{bucket_of, seen_sets}
use Rattle.bc_facts.proofs.Stood.{all_in, in_behind, in_front}
use Rattle.bc_remains.proofs.Keys.{entry_keys, leaf_keys}
use Rattle.bc_whole.specs.State.{Opening}
use Rattle.bc_known.specs.Run.{run, start}
use Rattle.bc_origin.specs.Keys.{WasThere}
use Rattle.bc_shows.specs.On.{IsRunOn}
use Rattle.bc_shows.proofs.Law as shows
use Rattle.bc_opening.specs.Choices.{Choices}
use Rattle.bc_opening.specs.Opening.{IsOpenedAs}
use Rattle.bc_opening.specs.Read.{is_leaf}
use Rattle.bc_opening.proofs.Nodes.{Sits, in_turned}
use Rattle.bc_opening.proofs.Opened as opened
use Rattle.bc_opening.proofs.Opened.{lies}
use Rattle.bc_opening.proofs.Uses as use_
use Rattle.bc_opening.proofs.Uses.{map_in}
use Rattle.bc_opening_runs.specs.Laws.{LawOldKeys, LawShown}

flat_in : {A : Type 0} (f : A → List Key) (xs : List A) (x : A) (key : Key) → In x xs → In key (f x) → In key (flat_map f xs)
flat_in f [] x key i k = absurd i
flat_in f (y ∷ ys) x key (inl e) k = in_front key (f y) (flat_map f ys) (subst (λ t. In key (f t)) e k)
flat_in f (y ∷ ys) x key (inr i) k = in_behind key (f y) (flat_map f ys) (flat_in f ys x key i k)

all_same : (a b : Image) → ((s : ℕ) → a s ≡ b s) → a ≡ b
all_same a b same = λ i s. same s i

leaf_level : (l : ℕ) → is_leaf l ≡ true → l ≡ 0
leaf_level zero e = refl
leaf_level (suc l) e = absurd (cc)

module _ (p : Pair) (v : View) (layout : Layout) (c : Choices) (w : Opening) (x : parts.State) (o : IsOpenedAs p v layout c w x) where
  abbrev g : Geometry
  g = v.geometry

  abbrev r : Reading
  r = v.reading

  sits : (n : Node) → In n r.nodes → Sits g w.layout (lies p v layout c w x o) w.store.owners w.store.image n
  sits = opened.sits p v layout c w x o

  points : (key : Key) → In key (keys_of r) → PointsIntoData g key
  points key i = (all_in (IsDataKey g (data_sectors p.backing_sectors v.backing)) (keys_of r) key o.parts.pointers.data_keys i).ptrs

  of_entries : (key : Key) → In key (all_keys (w.store.newest ∷ w.store.older)) → In key (keys_of r)
  of_entries key i =
      in_behind key (tree_keys r.nodes) (flat_map (λ e. e.item.keys) r.entries)
      (in_turned key (flat_map (λ e. e.item.keys) r.entries)
      (subst (λ (l : List Key). In key l) (sym (entry_keys g r.entries ∙ ap all_keys o.opening.store.opens.means.entries)) i))

  abbrev buckets : List ℕ
  buckets = map (λ (n : Node). bucket_of g n.key) r.nodes

  used_node : (q : ℕ) → w.store.unused q ≡ false → (n : Node) × In n r.nodes × (q ≡ bucket_of g n.key)
  used_node q used = go (has buckets q) refl
    where
      two : (b : Bool) → b ≡ true → b ≡ false → ⊥
      two b y z = cc

      go : (b : Bool) → has buckets q ≡ b → (n : Node) × In n r.nodes × (q ≡ bucket_of g n.key)
      go true e = map_in (λ (n : Node). bucket_of g n.key) r.nodes q (in_has buckets q e)
      go false e = absurd (two (w.store.unused q)
          ((o.opening.store.unused q).1 (λ is. two (has buckets q)
          ((use_.node_is g p.cache (data_sectors p.backing_sectors v.backing) r o.view.reading o.parts.pointers o.parts.uses w.store.chain o.opening.store.opens.means.chain q).1 is) e)) used)

  of_leaf : (q : ℕ) (key : Key) → w.store.unused q ≡ false → (w.store.owners q).leaf ≡ true → In key (tree.set_keys (node_sets w.layout w.store.owners w.store.image q)) → In key (keys_of r)
  of_leaf q key used leaf i =
      let k = used_node q used in
      let zero_ : k.0.level ≡ 0 = leaf_level k.0.level (ap (λ (t : Owner). t.leaf) (sym (sits k.0 k.1).owner_is) ∙ ap (λ b. (w.store.owners b).leaf) (sym k.2) ∙ leaf) in
      let seen : tree.set_keys (node_sets w.layout w.store.owners w.store.image q) ≡ reverse (set_keys k.0.sets) =
      ap (λ b. tree.set_keys (node_sets w.layout w.store.owners w.store.image b)) k.2 ∙ ap tree.set_keys (sits k.0 k.1).seen
      ∙ ap (λ l. tree.set_keys (seen_sets g (is_leaf l) k.0.sets)) zero_ ∙ sym (leaf_keys g k.0.sets) in
      let there = in_turned key (set_keys k.0.sets) (subst (λ (l : List Key). In key l) seen i) in
      in_front key (tree_keys r.nodes) (flat_map (λ e. e.item.keys) r.entries)
      (flat_in (λ (n : Node). data_keys n.level n.sets) r.nodes k.0 key k.1 (subst (λ l. In key (data_keys l k.0.sets)) (sym zero_) there))

  -- each key that was there was read
  pub read_keys : (key : Key) → WasThere w key → In key (keys_of r)
  read_keys key (inl i) = of_entries key i
  read_keys key (inr k) = of_leaf k.0 key k.1 k.2 k.3

  pub old_keys : (key : Key) → WasThere w key → PointsIntoData g key
  old_keys key was = points key (read_keys key was)

pub law_old_keys : LawOldKeys
law_old_keys = old_keys

pub law_shown : LawShown
law_shown p v layout c w x o next_seq es ran left later same is s =
    subst (λ (i : Image). Allowed i (run w (start w x next_seq) es).whole.flow.history s (shown_by left later s)) (all_same w.flow.image (shown_by p v) o.opening.devices.image)
    (shows.law_shown w x next_seq es left later (subst (λ (y : Geometry). IsRunOn y w x next_seq es) (sym same) (record {
      machine = record { layout = lies p v layout c w x o; before = o.opening.before };
      sound = o.sound;
      course = ran.course;
      old_keys = old_keys p v layout c w x o;
      keys = ran.keys;
      no_torn = ran.no_torn;
    })) is s)
