-- What the machine reads is what the formats say.
use Rattle.std.specs.Prelude.{◌≡◌, ◌≢◌, ℕ, ◌+◌, ◌≤◌, true, List, ◌∷◌, map, Contains, Some, None}
use Rattle.bc_model.specs.Sector.{Image}
use Rattle.bc_disk.specs.Gens.{Gens}
use Rattle.bc_disk.specs.declared.geometry.Geometry.{Geometry}
use Rattle.bc_jset.specs.Entries as jset
use Rattle.bc_jset.specs.Entries.{FoundEntry, StandsInJournal}
use Rattle.bc_set.specs.declared.set.Set.{Set}
use Rattle.bc_set.specs.Records.{AreNodeSets}
use Rattle.bc_prio.specs.Set.{magic_of}
use Rattle.bc_prio.specs.Records.{ChainIn}
use Rattle.bc_meta.specs.Entries.{Entry, AreEntries}
use Rattle.bc_meta.specs.Tree.{Owner}
use Rattle.bc_meta.specs.Layout.{Layout, is_within, ring_entries, sets_in}
use Rattle.bc_meta.specs.Chain.{Distinct, chain_in}
use Rattle.bc_facts.specs.Seen.{counted, kind_of, seen_entry, seen_entries, seen_sets}
use Rattle.bc_facts.specs.Layout.{begins_at}
use Rattle.bc_facts.specs.Reads.{back, gens_of}

-- The entries of a device. Where no entry that counts stands elsewhere too, they are read both
-- ways.
pub record ReadsEntries (g : Geometry) (w : Layout) (image : Image) : Type 0 where
  pub found : (newest : Entry) (older : List Entry)
      → AreEntries (ring_entries w image w.journal) newest older
      → (es : List FoundEntry) × (a : jset.AreEntries g image es)
      × (seen_entries g es ≡ newest ∷ older) × (seen_entry g a.newest.item ≡ newest)
  pub read : (es : List FoundEntry) (a : jset.AreEntries g image es)
      → ((e : FoundEntry) → StandsInJournal g image e → a.newest.item.last_seq ≤ e.item.seq
      → Contains es e)
      → (older : List Entry) × (seen_entries g es ≡ seen_entry g a.newest.item ∷ older)
      × AreEntries (ring_entries w image w.journal) (seen_entry g a.newest.item) older

-- the sets of a node that lies whole in its bucket
abbrev pub ReadsSets : Geometry → Layout → Image → Type 0
ReadsSets g w image = (o : Owner) (q : ℕ) (sets : List Set) → is_within w q o ≡ true
    → AreNodeSets g o.word (kind_of o.leaf) image (begins_at o.word + g.node_sectors)
    (begins_at o.word) sets
    → sets_in w image o q ≡ seen_sets g o.leaf sets

-- the chain that begins in a bucket
pub record ReadsChain (g : Geometry) (w : Layout) (image : Image) (first : ℕ) : Type 0 where
  pub found : (buckets gens : List ℕ) → Distinct buckets
      → chain_in w image (counted g first) ≡ Some (record { buckets = buckets; gens = gens })
      → (found : Gens) × ChainIn g image first found × (found.chain ≡ map (back g) buckets)
      × (gens_of found.records ≡ gens)
  pub read : (gens : Gens) → ChainIn g image first gens
      → chain_in w image (counted g first)
      ≡ Some (record { buckets = map (counted g) gens.chain; gens = gens_of gens.records })

-- no record is found where the first sector is zeros, but for priority sets whose magic is zero
pub record ReadsZeros (g : Geometry) (w : Layout) (image : Image) (end place : ℕ) : Type 0 where
  pub entry : w.entries.found image tt end place ≡ None
  pub set : (o : Owner) → w.sets.found image o end place ≡ None
  pub prio : (part : ℕ) → magic_of g ≢ 0 → w.prios.found image part end place ≡ None
