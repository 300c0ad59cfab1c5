-- An image that a crash may leave, read by its formats, key by key.
use Rattle.std.proofs.Common.{subst, ◌≡◌, inl, ℕ, ◌<◌, Bool, true, List, ◌∷◌, ◌++◌, Some, refl, sym, ap, ◌∙◌, arith}
use Rattle.std.specs.Prelude.{reverse, flat_map}
use Rattle.std.proofs.lemmas.List.{reverse-append}
use Rattle.bc_model.specs.Sector.{Image}
use Rattle.bc_disk.specs.declared.geometry.Geometry.{Geometry}
use Rattle.bc_key.specs.declared.key.Key.{Key}
use Rattle.bc_jset.specs.Entries.{FoundEntry}
use Rattle.bc_meta.specs.Entries.{AreEntries, Entry, all_keys}
use Rattle.bc_meta.specs.Tree.{IsNamed, Keeps, Owner, Walk, Whole, tree_list}
use Rattle.bc_meta.specs.Layout.{Layout, image_keys, node_sets, ring_entries}
use Rattle.bc_meta.specs.Chain.{Distinct, bytes_of, chain_in}
use Rattle.bc_meta.specs.Records.{owners}
use Rattle.bc_meta.specs.Acts.{State}
use Rattle.bc_meta.specs.Laws.{Finds}
use Rattle.bc_image.specs.Reading.{IsReading, Reading, keys_of}
use Rattle.bc_image.specs.Tree.{tree_keys}
use Rattle.bc_facts.specs.Layout.{IsLayoutOf}
use Rattle.bc_facts.specs.Reads.{gens_of}
use Rattle.bc_facts.proofs.Journal.{read_entries}
use Rattle.bc_facts.proofs.Chain.{read_chain}
use Rattle.bc_remains.proofs.Keys.{entry_keys}
use Rattle.bc_remains.proofs.Tree.{Counted, tree_is}

module _ (g : Geometry) (w : Layout) (layout : IsLayoutOf g w) (image : Image) where
  pub record Found (own : ℕ → Owner) (newest : Entry) (older : List Entry) (gens : List ℕ) : Type 0 where
    pub reading : Reading
    pub is : IsReading g image reading
    pub keys : reverse (keys_of reading) ≡ image_keys w own image newest older
    pub gens_are : gens_of reading.gens.records ≡ gens

  reads : (own : ℕ → Owner) (newest : Entry) (older : List Entry) (buckets gens : List ℕ) (unused : ℕ → Bool)
      → 0 < g.journal → AreEntries (ring_entries w image w.journal) newest older
      → Walk Whole (node_sets w own image) newest.level newest.root → IsNamed own (node_sets w own image) newest.level newest.root newest.word
      → Keeps unused (node_sets w own image) newest.level newest.root → unused 0 ≡ true
      → Distinct buckets → chain_in w image newest.prio ≡ Some (record { buckets = buckets; gens = bytes_of gens })
      → Found own newest older (bytes_of gens)
  reads own newest older buckets gens unused some entries whole named keeps low distinct chain =
      let e = read_entries g w layout image newest older entries in
      let t = tree_is g w layout own image e.are.newest.item.level 0 e.are.newest.item.root
      (subst (λ (y : Entry). IsNamed own (node_sets w own image) y.level y.root y.word) (sym e.newest_is) named)
      (subst (λ (y : Entry). Walk Whole (node_sets w own image) y.level y.root) (sym e.newest_is) whole)
      (subst (λ (y : Entry). Walk Counted (node_sets w own image) y.level y.root) (sym e.newest_is) (keeps 0 low)) in
      let c = read_chain g w layout image some e.are.newest.item.prio buckets (bytes_of gens) distinct (ap (λ (y : Entry). chain_in w image y.prio) e.newest_is ∙ chain) in
      let tree : reverse (tree_keys t.nodes) ≡ tree_list (node_sets w own image) newest.level newest.root = t.keys ∙ ap (λ (y : Entry). tree_list (node_sets w own image) y.level y.root) e.newest_is in
      record {
        reading = record { entries = e.es; newest = e.are.newest; gens = c.found; nodes = t.nodes };
        is = record { entries = e.are; newest = refl; gens = c.are; nodes = t.walk };
        keys = reverse-append (tree_keys t.nodes) (flat_map (λ (x : FoundEntry). x.item.keys) e.es)
            ∙ ap (λ (l : List Key). l ++ reverse (tree_keys t.nodes)) (entry_keys g e.es ∙ ap all_keys e.seen)
            ∙ ap (λ (l : List Key). all_keys (newest ∷ older) ++ l) tree;
        gens_are = c.gens_are;
      }

  pub finds : (st : State) (newest : Entry) (older : List Entry) (index : List Key) (n : ℕ) → Finds w st image newest older index n
      → Found (owners st.places.records.nodes) newest older (bytes_of (st.gens n))
  finds st newest older index n f =
      let j = layout.journal in
      let current = f.again.whole.current in
      reads (owners st.places.records.nodes) newest older (st.buckets n) (st.gens n) st.places.records.unused (omega arith)
      f.again.whole.sound.entries f.again.whole.sound.whole f.again.named f.again.keeps (f.again.low 0 (inl (omega arith)))
      (subst (λ (l : List ℕ). Distinct l) f.chain_is.0 f.sound.distinct) f.chain
