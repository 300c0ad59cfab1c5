-- An entry that a seat seals with a new chain: what has to hold for it, and what the seat did.
use Rattle.std.specs.Prelude.{◌≡◌, ℕ, List, None, Some, Vec, false, slice_index}
use Rattle.std.specs.declared.alloc.Global.{Global}
use Rattle.bc_chained.specs.Chained.{AreForChain, AreSetsOf, AreShown, HasRenewing}
use Rattle.bc_chained.specs.Laws.{numbers}
use Rattle.bc_disk.specs.Disk.{DiskFacts}
use Rattle.bc_disk.specs.declared.gens.BucketRecord.{BucketRecord}
use Rattle.bc_entry.specs.Seal.{CanSeal, begun_by}
use Rattle.bc_events.specs.declared.event.Deed.{Deed}
use Rattle.bc_events.specs.declared.event.Deed.TheVariants as deed
use Rattle.bc_facts.specs.Seen.{entry_rest}
use Rattle.bc_chain.specs.bc_hand.Seats.{Did, View}
use Rattle.bc_chain.specs.bc_hand.declared.hand.Hand.{Hand}
use Rattle.bc_chain.specs.bc_machine.World.{FromEach, World}
use Rattle.bc_chain.specs.bc_machine.declared.part.BucketsPart.{BucketsPart}
use Rattle.bc_journal.specs.Journal.{IsSealed, Journal}
use Rattle.bc_journal.specs.Sealed.{Sealed}
use Rattle.bc_journal.specs.declared.heads.Heads.{Heads}

-- what the newest durable entry names, but for the chain, which begins in the first of these buckets
abbrev pub with_chain : Heads → List ℕ → Heads
with_chain heads new = record heads { prio = slice_index new 0 }

-- The seat wrote a chain of these records into buckets that it holds for it. The records are the
-- generations of the buckets in hand.
pub record IsReadyChain (i : ℕ) (records : List BucketRecord) (new : List ℕ) (p : BucketsPart)
    (j : Journal) (x : World) : Type 0 where
  pub shown : AreShown records p
  pub each : FromEach x (AreForChain i new)
  pub sets : AreSetsOf j.ring.geometry records new x

-- Buckets, journal and cache device are in hand, no newer chain than the one in hand is named yet,
-- and the next entry may be sealed.
pub record MaySealChain {C B : Type 0} (h : Hand C B) (i : ℕ) (new : List ℕ) (x : World) :
    Type 0 where
  pub buckets : BucketsPart
  pub are_buckets : h.buckets ≡ Some buckets
  pub settled : buckets.renewing ≡ false
  pub journal : Journal
  pub is_journal : h.journal ≡ Some journal
  pub seals : CanSeal journal
  pub cache : C
  pub is_cache : h.cache ≡ Some cache
  pub records : List BucketRecord
  pub ready : IsReadyChain i records new buckets journal x

abbrev pub seal_chain_by : Journal → Sealed → (rest chain : Vec ℕ Global) → Deed
seal_chain_by j s rest chain =
    deed.Seal s.entry.last_seq (begun_by j) rest None (Some (record { buckets = chain }))

module _ {C B : Type 0} (cache_facts : C → DiskFacts) (backing_facts : B → DiskFacts) where
  -- The seat sealed this entry, with the chain in these buckets, of the same root as the one before.
  pub record HasSealedChain (j : Journal) (new : List ℕ) (s : Sealed)
      (v w : View cache_facts backing_facts) : Type 0 where
    pub rest : Vec ℕ Global
    pub rest_is : rest.items ≡ entry_rest s.entry
    pub chain : Vec ℕ Global
    pub chain_is : chain.items ≡ numbers j.ring.geometry new
    pub did : Did cache_facts backing_facts (Some (seal_chain_by j s rest chain)) v w

-- the entry is sealed in the hand, and it is noted that the chain is
pub record IsSealedIn {C B : Type 0} (h : Hand C B) (new : List ℕ) (s : Sealed) (g : Hand C B)
    (old then_ : Journal) : Type 0 where
  pub buckets : BucketsPart
  pub renewing : BucketsPart
  pub are_buckets : h.buckets ≡ Some buckets
  pub is_journal : h.journal ≡ Some old
  pub hand : g ≡ record h { buckets = Some renewing; journal = Some then_ }
  pub renews : HasRenewing buckets renewing
  pub sealed : IsSealed old (with_chain old.heads new) s then_
