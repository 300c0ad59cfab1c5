-- The parts of a pair in memory, as they were read.
use Rattle.std.specs.Prelude.{◌≡◌, ℕ, List, replicate}
use Rattle.bc_alloc.specs.Buckets.{AreFor}
use Rattle.bc_bucket.specs.Walk.{none_found}
use Rattle.bc_cache.specs.Slots.{NodeCache}
use Rattle.bc_disk.specs.Disk.{DiskFacts, IsKept}
use Rattle.bc_disk.specs.declared.disk.Device.TheVariants as device
use Rattle.bc_image.specs.Pair.{Pair}
use Rattle.bc_loaded.specs.declared.loading.Loaded.{Loaded}
use Rattle.bc_pending.specs.Entries.{keys_in}
use Rattle.bc_pending.specs.Pieces.{ArePending}
use Rattle.bc_pending.specs.declared.numbered.Numbered.{Numbered}
use Rattle.bc_recover.specs.Known.{AreKnown}
use Rattle.bc_recover.specs.Read.{IsReadOf}
use Rattle.bc_recover.specs.Spare.{HasReserves}
use Rattle.bc_regrow.specs.Tree.{IsTreeOf, OfRead}
use Rattle.bc_replay.specs.declared.error.OpenError.{OpenError}
use Rattle.bc_replay.specs.declared.error.OpenError.TheVariants as errors
use Rattle.bc_replay.specs.declared.held.Survey.{Survey}
use Rattle.bc_resume.specs.Resume.{IsResumed}
use Rattle.bc_slots.specs.Parts.{AreParts}
use Rattle.bc_spine.specs.declared.leaf.LeafRange.{LeafRange}

-- so many parts have those of these leaves of which the journal that was read has keys, as the device
-- has them, with these keys
pub record HasLeaves (s : Survey) (leaves : List LeafRange) (count : ℕ) (d : DiskFacts)
    (parts : List NodeCache) : Type 0 where
  pub pending : List (List Numbered)
  pub keys : ArePending leaves (keys_in s.journal.entries) pending
  pub are : AreParts s.supers.geometry leaves pending count d parts

-- Of a device that tells what it holds, tree, buckets and lists are those of the pair that was read.
-- The lists are of the buckets, the chain is the one that was read, the journal goes on behind the
-- entries, and so many parts have leaves, of each device.
pub record AreLoaded {C : Type 0} (facts : C → DiskFacts) (s : Survey) (count : ℕ) (cache : C)
    (l : Loaded) : Type 0 where
  pub grown : OfRead s (facts cache)
      (λ p h. IsTreeOf h.view.geometry h.view.reading.nodes l.tree)
  pub known : (p : Pair) → (h : IsReadOf s p)
      → AreKnown h.view.geometry h.view.reading l.buckets
  pub spare : (p : Pair) → (h : IsReadOf s p)
      → HasReserves h.view.geometry h.view.reading l.reserves
  pub fit : AreFor l.reserves l.buckets
  pub chain : l.chain.items ≡ s.gens.chain
  pub walk : l.walk ≡ replicate s.supers.geometry.nbuckets none_found
  pub journal : IsResumed s.supers.geometry s.journal l.journal
  -- the device before the leaves were read
  pub was : C
  pub kept : IsKept (facts was) (facts cache)
  pub leaves : HasLeaves s l.tree.leaves count (facts was) l.leaves.items

-- why they aren't had: a call of the cache device failed, or memory ran out, and nothing else where a
-- pair is held that was read
abbrev pub IsLoadCause : Survey → DiskFacts → OpenError → Type 0
IsLoadCause s d (errors.Fault device.Cache) = Unit {0}
IsLoadCause s d (errors.Fault device.Backing) = ⊥
IsLoadCause s d errors.Memory = Unit {0}
IsLoadCause s d e = OfRead s d (λ p h. ⊥)
