-- What an opening of a sound pair has.
use Rattle.std.proofs.Common.{◌≡◌, ◌≢◌, ◌⊎◌, inl, inr, ℕ, zero, suc, ◌%◌, ◌^◌, ◌<◌, ◌≤◌, Bool, true, false, List, [], ◌∷◌, ◌++◌, refl, sym, ap, ◌∙◌, subst, arith, lit≤}
use Rattle.std.specs.Prelude.{reverse, All}
use Rattle.bc_model.specs.Sector.{Image}
use Rattle.bc_disk.specs.declared.geometry.Geometry.{Geometry}
use Rattle.bc_key.specs.declared.key.Key.{Key}
use Rattle.bc_set.specs.declared.set.Set.{Set}
use Rattle.bc_meta.specs.Facts.{In}
use Rattle.bc_meta.specs.Entries.{Entry}
use Rattle.bc_meta.specs.Tree.{NodeSet}
use Rattle.bc_meta.specs.Tree as tree
use Rattle.bc_meta.specs.Layout.{image_keys, node_sets}
use Rattle.bc_meta.specs.Records.{MayStand, Node, Records}
use Rattle.bc_meta.specs.Laws.{opened}
use Rattle.bc_leaves.specs.Parts.{NoNode}
use Rattle.bc_leaves.specs.Parts as parts
use Rattle.bc_image.specs.Children.{children_of}
use Rattle.bc_image.specs.Pair.{Pair}
use Rattle.bc_image.specs.Reading.{IsReading, Reading, View}
use Rattle.bc_image.specs.Sound.{CoverUpTo, IsNodeKey, KeepsRange, LiesWithin}
use Rattle.bc_image.specs.Tree.{AreWalks, IsWalk, node_of, set_keys}
use Rattle.bc_image.specs.Tree as image
use Rattle.bc_image.proofs.Unique.{one_reading}
use Rattle.bc_facts.specs.Seen.{seen_entry, seen_sets}
use Rattle.bc_facts.proofs.Stood.{all_in, in_behind, in_front}
use Rattle.bc_remains.specs.Means.{Means}
use Rattle.bc_remains.proofs.Keys.{leaf_keys}
use Rattle.bc_remains.proofs.Next.{means}
use Rattle.bc_whole.specs.State.{Opening}
use Rattle.bc_opened.specs.Opening.{IsInnerOf, IsLeafOf, IsSoundOpeningOf}
use Rattle.bc_ranges.specs.Made.{Frame, IsGoodEntry}
use Rattle.bc_ranges.specs.Laws.{frame_of}
use Rattle.bc_ranges.proofs.Lists.{out_reverse}
use Rattle.bc_shows.proofs.Lists.{in_reverse}
use Rattle.bc_ranges.proofs.Slots.{AreMade, InnerMade, InnerSets, LeafMade, Lies}

-- ---- the nodes of a walk, where the keys of each lie in its range

-- it ends at a multiple of 256, and each of its children has a key of a node
record Ends (g : Geometry) (n : image.Node) : Type 0 where
  end : n.key.end % 256 ≡ 0
  children : (level : ℕ) → n.level ≡ suc level → (k : Key) → In k (children_of (set_keys n.sets)) → IsNodeKey g k

module _ (g : Geometry) (im : Image) where
  abbrev Fine : List image.Node → Type 0
  Fine nodes = (n : image.Node) → In n nodes → KeepsRange n × IsNodeKey g n.key

  walks_key : (level from : ℕ) (ks : List Key) (nodes : List image.Node) → AreWalks (IsWalk g im level) from ks nodes → (k : Key) → In k ks → (n : image.Node) × In n nodes × (n.key ≡ k)
  walks_key level from [] nodes walks k i = absurd i
  walks_key level from (c ∷ cs) nodes walks k (inl e) =
      let h = walk_key level from c walks.0 walks.2 in
      (h.0, subst (λ (l : List image.Node). In h.0 l) (sym walks.4) (in_front h.0 walks.0 walks.1 h.1), h.2 ∙ sym e)
    where
      walk_key : (level from : ℕ) (key : Key) (nodes : List image.Node) → IsWalk g im level from key nodes → (n : image.Node) × In n nodes × (n.key ≡ key)
      walk_key zero from key nodes walk = (node_of zero from key walk.0, subst (λ (l : List image.Node). In (node_of zero from key walk.0) l) (sym walk.2) (inl refl), refl)
      walk_key (suc level) from key nodes walk = (node_of (suc level) from key walk.0, subst (λ (l : List image.Node). In (node_of (suc level) from key walk.0) l) (sym walk.4) (inl refl), refl)
  walks_key level from (c ∷ cs) nodes walks k (inr i) =
      let h = walks_key level c.end cs walks.1 walks.3 k i in
      (h.0, subst (λ (l : List image.Node). In h.0 l) (sym walks.4) (in_behind h.0 walks.0 walks.1 h.1), h.2)

  abbrev EndsBelow : ℕ → Type 0
  EndsBelow level = (from : ℕ) (key : Key) (nodes : List image.Node) → IsWalk g im level from key nodes → Fine nodes → key.end % 256 ≡ 0
      → (n : image.Node) → In n nodes → Ends g n

  walks_end : (level : ℕ) → EndsBelow level → (from : ℕ) (ks : List Key) (nodes : List image.Node) → AreWalks (IsWalk g im level) from ks nodes → Fine nodes
      → ((k : Key) → In k ks → k.end % 256 ≡ 0) → (n : image.Node) → In n nodes → Ends g n
  walks_end level ih from [] nodes walks fine ends n i = absurd (subst (λ (l : List image.Node). In n l) walks i)
  walks_end level ih from (c ∷ cs) nodes walks fine ends n i =
      elim (either n walks.0 walks.1 (subst (λ (l : List image.Node). In n l) walks.4 i)) [
        | inl j ↦ ih from c walks.0 walks.2 (λ m a. fine m (subst (λ (l : List image.Node). In m l) (sym walks.4) (in_front m walks.0 walks.1 a))) (ends c (inl refl)) n j
        | inr j ↦ walks_end level ih c.end cs walks.1 walks.3 (λ m a. fine m (subst (λ (l : List image.Node). In m l) (sym walks.4) (in_behind m walks.0 walks.1 a))) (λ k a. ends k (inr a)) n j
      ]
    where
      either : (y : image.Node) (xs ys : List image.Node) → In y (xs ++ ys) → In y xs ⊎ In y ys
      either y [] ys a = inr a
      either y (z ∷ zs) ys (inl e) = inl (inl e)
      either y (z ∷ zs) ys (inr a) = elim (either y zs ys a) [ inl b ↦ inl (inr b) | inr b ↦ inr b ]

  walk_ends : (level : ℕ) → EndsBelow level
  walk_ends zero from key nodes walk fine end n i =
      elim (subst (λ (l : List image.Node). In n l) walk.2 i) [
        | inl e ↦ record { end = ap (λ (m : image.Node). m.key.end % 256) e ∙ end; children = λ l is k j. absurd (none l (sym (ap (λ (m : image.Node). m.level) e) ∙ is)) }
        | inr j ↦ absurd j
      ]
    where
      none : (level : ℕ) → 0 ≡ suc level → ⊥
      none level e = omega (arith, e)
  walk_ends (suc level) from key nodes walk fine end n i =
      let first : In (node_of (suc level) from key walk.0) nodes = subst (λ (l : List image.Node). In (node_of (suc level) from key walk.0) l) (sym walk.4) (inl refl) in
      let keeps = (fine (node_of (suc level) from key walk.0) first).0 in
      elim (subst (λ (l : List image.Node). In n l) walk.4 i) [
        | inl e ↦ record {
          end = ap (λ (m : image.Node). m.key.end % 256) e ∙ end;
          children = λ l is k j.
              let h = walks_key level from (children_of (set_keys walk.0)) walk.1 walk.3 k (subst (λ (m : image.Node). In k (children_of (set_keys m.sets))) e j) in
              subst (λ (y : Key). IsNodeKey g y) h.2 (fine h.0 (subst (λ (l : List image.Node). In h.0 l) (sym walk.4) (inr h.1))).1;
        }
        | inr j ↦ walks_end level (walk_ends level) from (children_of (set_keys walk.0)) walk.1 walk.3 (λ m a. fine m (subst (λ (l : List image.Node). In m l) (sym walk.4) (inr a)))
            (λ k a. all_in (λ (c : Key). c.end % 256 ≡ 0) (children_of (set_keys walk.0)) k keeps.cover.0 a) n j
      ]

-- ---- an opening

module _ (p : Pair) (v : View) (w : Opening) (x : parts.State) (on : IsSoundOpeningOf p v w x) where
  reads : IsReading v.geometry w.store.image v.reading
  reads = subst (λ (i : Image). IsReading v.geometry i v.reading) (sym (on.sound.whole.image ∙ on.cache)) on.view.reading

  pub said : Means v.geometry v.reading w.store.newest w.store.older (image_keys w.layout w.store.owners w.store.image w.store.newest w.store.older) w.store.chain w.store.gens
  said =
      let m = means v.geometry w.layout on.machine.layout w.store on.sound.whole.store in
      subst (λ (r : Reading). Means v.geometry r w.store.newest w.store.older (image_keys w.layout w.store.owners w.store.image w.store.newest w.store.older) w.store.chain w.store.gens)
      (one_reading v.geometry w.store.image m.0 v.reading m.1 reads) m.2

  fine : Fine v.geometry w.store.image v.reading.nodes
  fine n i = (all_in KeepsRange v.reading.nodes n on.parts.ranges i, all_in (λ (m : image.Node). IsNodeKey v.geometry m.key) v.reading.nodes n on.parts.pointers.nodes i)

  ends : (n : image.Node) → In n v.reading.nodes → Ends v.geometry n
  ends = walk_ends v.geometry w.store.image v.reading.newest.item.level 0 v.reading.newest.item.root v.reading.nodes reads.nodes fine
      (ap (λ k. k % 256) on.parts.pointers.root)

  leaf_within : (n : image.Node) → n.level ≡ 0 → In n v.reading.nodes → (key : Key) → In key (set_keys n.sets) → Lies n.from n.key.end key
  leaf_within n level i key j =
      subst (λ l. LiesWithin l n.from n.key.end key) level (all_in (LiesWithin n.level n.from n.key.end) (set_keys n.sets) key (fine n i).0.within j)

  inner_within : (n : image.Node) (level : ℕ) → n.level ≡ suc level → In n v.reading.nodes → (key : Key) → In key (set_keys n.sets) → (n.from < key.end) × (key.end ≤ n.key.end)
  inner_within n level is i key j =
      subst (λ l. LiesWithin l n.from n.key.end key) is (all_in (LiesWithin n.level n.from n.key.end) (set_keys n.sets) key (fine n i).0.within j)

  no_stand : (b c : Bool) → b ≡ false → c ≡ false → (b ≡ true) ⊎ (c ≡ true) → ⊥
  no_stand b c e h (inl k) = cc
  no_stand b c e h (inr k) = cc

  leaf_made : (i : ℕ) (n : image.Node) → In n v.reading.nodes → IsLeafOf v.geometry w n (x.leaves i) → LeafMade ((opened w.layout w.store).places.records.nodes (x.leaves i).bucket) (x.leaves i).first (x.leaves i).end
  leaf_made i n at is = record {
    ends = subst (λ e. e % 256 ≡ 0) is.end (ends n at).end;
    sets = λ key j.
        let there : In key (set_keys n.sets) = out_reverse key (set_keys n.sets) (subst (λ (l : List Key). In key l) (ap tree.set_keys is.sets ∙ sym (leaf_keys v.geometry n.sets)) j) in
        let k = leaf_within n is.level at key there in
        let first = is.first in
        let end = is.end in
        (omega (arith, k.0, first), omega (arith, k.1, end));
    last = λ stand. absurd (no_stand false false refl refl stand);
  }

  inner_made : (i : ℕ) (n : image.Node) → In n v.reading.nodes → IsInnerOf v.geometry w n (x.inner_nodes i)
      → InnerMade v.geometry ((opened w.layout w.store).places.records.nodes (x.inner_nodes i).bucket) (x.inner_nodes i).first (x.inner_nodes i).end
  inner_made i n at is = record {
    ends = subst (λ e. e % 256 ≡ 0) is.end (ends n at).end;
    sets = record {
      sets = n.sets;
      seen = sym is.sets;
      within = λ key j.
          let k = inner_within n (x.inner_nodes i).height is.level at key j in
          let first = is.first in
          let end = is.end in
          (omega (arith, k.0, first), omega (arith, k.1, end));
      children = (ends n at).children (x.inner_nodes i).height is.level;
    };
    last = λ stand. absurd (no_stand false false refl refl stand);
  }

  good : IsGoodEntry v.geometry v.reading.newest.item.uuid_bucket w.store.newest
  good =
      let root = at_root v.reading.newest.item.level 0 v.reading.newest.item.root v.reading.nodes reads.nodes fine in
      record { entry = v.reading.newest.item; seen = said.newest_is; names = refl; root = root; end = on.parts.pointers.root }
    where
      at_root : (level from : ℕ) (key : Key) (nodes : List image.Node) → IsWalk v.geometry w.store.image level from key nodes → Fine v.geometry w.store.image nodes → IsNodeKey v.geometry key
      at_root zero from key nodes walk f = (f (node_of zero from key walk.0) (subst (λ (l : List image.Node). In (node_of zero from key walk.0) l) (sym walk.2) (inl refl))).1
      at_root (suc level) from key nodes walk f = (f (node_of (suc level) from key walk.0) (subst (λ (l : List image.Node). In (node_of (suc level) from key walk.0) l) (sym walk.4) (inl refl))).1

  pub opened_made : AreMade (frame_of p v) x
  opened_made = record {
    leaves = λ i some. let k = on.leaves i some in
        subst (λ (r : Records). LeafMade (r.nodes (x.leaves i).bucket) (x.leaves i).first (x.leaves i).end) (sym on.sound.whole.records) (leaf_made i k.0 k.1 k.2);
    inner_nodes = λ i some. let k = on.inner_nodes i some in
        subst (λ (r : Records). InnerMade v.geometry (r.nodes (x.inner_nodes i).bucket) (x.inner_nodes i).first (x.inner_nodes i).end) (sym on.sound.whole.records) (inner_made i k.0 k.1 k.2);
    newest = subst (λ (r : Records). IsGoodEntry v.geometry v.reading.newest.item.uuid_bucket r.newest) (sym on.sound.whole.records) good;
    entry = subst (λ (r : Records). IsGoodEntry v.geometry v.reading.newest.item.uuid_bucket r.entry) (sym on.sound.whole.records) good;
    end = on.end;
  }
