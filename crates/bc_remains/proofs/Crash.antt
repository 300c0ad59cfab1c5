-- Each image that a crash may leave, read by its formats.
use Rattle.std.proofs.Common.{subst, ◌≡◌, inl, inr, ℕ, ◌<◌, Bool, true, List, ◌∷◌, ◌++◌, Some, refl, sym, ap, ◌∙◌, arith}
use Rattle.std.specs.Prelude.{reverse, flat_map}
use Rattle.std.proofs.lemmas.List.{reverse-append}
use Rattle.bc_model.specs.Sector.{Image}
use Rattle.bc_disk.specs.declared.geometry.Geometry.{Geometry}
use Rattle.bc_key.specs.declared.key.Key.{Key}
use Rattle.bc_jset.specs.Entries.{FoundEntry}
use Rattle.bc_meta.specs.Keys.{Alike, last_ref}
use Rattle.bc_meta.specs.Entries.{AreEntries, Entry, all_keys, live}
use Rattle.bc_meta.specs.Tree.{IsNamed, Keeps, Owner, Walk, Whole, tree_list}
use Rattle.bc_meta.specs.Layout.{Layout, image_keys, node_sets, ring_entries}
use Rattle.bc_meta.specs.Chain.{Distinct, bytes_of, chain_in}
use Rattle.bc_meta.specs.Records.{owners}
use Rattle.bc_meta.specs.Acts.{State}
use Rattle.bc_meta.specs.Laws.{Finds, Survives, reached}
use Rattle.bc_meta.proofs.Acts as acts
use Rattle.bc_image.specs.Reading.{IsReading, Reading}
use Rattle.bc_image.specs.Tree.{tree_keys}
use Rattle.bc_facts.specs.Layout.{IsLayoutOf}
use Rattle.bc_facts.proofs.Journal.{read_entries}
use Rattle.bc_facts.proofs.Chain.{read_chain}
use Rattle.bc_facts.proofs.Torn.{no_chance}
use Rattle.bc_remains.specs.Means.{Means}
use Rattle.bc_remains.specs.Laws.{IsLeft, LawCrash}
use Rattle.bc_remains.proofs.Keys.{entry_keys, last_is}
use Rattle.bc_remains.proofs.Tree.{Counted, tree_is}

module _ (g : Geometry) (w : Layout) (layout : IsLayoutOf g w) (image : Image) where
  abbrev Left : Entry → List Entry → List Key → List ℕ → List ℕ → Type 0
  Left newest older index buckets gens = (r : Reading) × IsReading g image r × Means g r newest older index buckets gens

  pub reads : (own : ℕ → Owner) (newest : Entry) (older : List Entry) (index : List Key) (buckets gens : List ℕ) (unused : ℕ → Bool)
      → 0 < g.journal → AreEntries (ring_entries w image w.journal) newest older
      → Walk Whole (node_sets w own image) newest.level newest.root → IsNamed own (node_sets w own image) newest.level newest.root newest.word
      → Keeps unused (node_sets w own image) newest.level newest.root → unused 0 ≡ true
      → Alike (image_keys w own image newest older) index
      → Distinct buckets → chain_in w image newest.prio ≡ Some (record { buckets = buckets; gens = bytes_of gens })
      → Left newest older index buckets gens
  reads own newest older index buckets gens unused some entries whole named keeps low same distinct chain =
      let e = read_entries g w layout image newest older entries in
      let v = e.newest_is in
      let item = e.are.newest.item in
      let t = tree_is g w layout own image e.are.newest.item.level 0 e.are.newest.item.root
      (subst (λ (y : Entry). IsNamed own (node_sets w own image) y.level y.root y.word) (sym e.newest_is) named)
      (subst (λ (y : Entry). Walk Whole (node_sets w own image) y.level y.root) (sym e.newest_is) whole)
      (subst (λ (y : Entry). Walk Counted (node_sets w own image) y.level y.root) (sym e.newest_is) (keeps 0 low)) in
      let c = read_chain g w layout image some e.are.newest.item.prio buckets (bytes_of gens) distinct (ap (λ (y : Entry). chain_in w image y.prio) e.newest_is ∙ chain) in
      let r : Reading = record { entries = e.es; newest = e.are.newest; gens = c.found; nodes = t.nodes } in
      let tree : reverse (tree_keys t.nodes) ≡ tree_list (node_sets w own image) newest.level newest.root = t.keys ∙ ap (λ (y : Entry). tree_list (node_sets w own image) y.level y.root) e.newest_is in
      let all : reverse (tree_keys t.nodes ++ flat_map (λ (x : FoundEntry). x.item.keys) e.es) ≡ image_keys w own image newest older =
      reverse-append (tree_keys t.nodes) (flat_map (λ (x : FoundEntry). x.item.keys) e.es)
      ∙ ap (λ (l : List Key). l ++ reverse (tree_keys t.nodes)) (entry_keys g e.es ∙ ap all_keys e.seen)
      ∙ ap (λ (l : List Key). all_keys (newest ∷ older) ++ l) tree in (
        record { entries = e.es; newest = e.are.newest; gens = c.found; nodes = t.nodes },
        record { entries = e.are; newest = refl; gens = c.are; nodes = t.walk },
        record {
          entries = e.seen;
          newest_is = e.newest_is;
          keys = λ s. last_is (tree_keys t.nodes ++ flat_map (λ (x : FoundEntry). x.item.keys) e.es) s ∙ ap (λ (l : List Key). last_ref l s) all ∙ same s;
          chain = c.chain;
          gens_are = c.gens_are;
        },
      )

  pub finds : (st : State) (newest : Entry) (older : List Entry) (index : List Key) (n : ℕ) → Finds w st image newest older index n → Left newest older index (st.buckets n) (st.gens n)
  finds st newest older index n f =
      let a = f.again in
      let j = layout.journal in
      let current = f.again.whole.current in
      reads (owners st.places.records.nodes) newest older index (st.buckets n) (st.gens n) st.places.records.unused (omega arith)
      f.again.whole.sound.entries f.again.whole.sound.whole f.again.named f.again.keeps (f.again.low 0 (inl (omega arith))) f.again.same
      (subst (λ (l : List ℕ). Distinct l) f.chain_is.0 f.sound.distinct) f.chain

  survives : (st : State) → Survives w st image → (r : Reading) × IsReading g image r × IsLeft g st r
  survives st s = elim s.finds [
    | inl f ↦ (let k = finds st st.places.records.newest st.places.records.older st.places.records.index st.durable_chain f in (k.0, k.1, inl k.2))
    | inr f ↦ (let k = finds st st.places.records.entry (live st.places.records.entry.last_seq (st.places.records.newest ∷ st.places.records.older)) (st.places.records.entry.keys ++ st.places.records.index) st.sealed_chain f.1 in (k.0, k.1, inr (f.0, k.2)))
  ]

pub law_crash : LawCrash
law_crash g w o acts_ run image left =
    survives g w run.layout image (reached w o acts_)
    (acts.law_crash w o acts_ run.sound run.run (no_chance g w run.layout o.image (reached w o acts_).places run.no_torn) image left)
