-- A chain that is written, named by an entry, and what it frees made ready.
use Rattle.std.specs.Prelude.{◌≡◌, ◌⊎◌, ℕ, ◌≤◌, List, [], length, map, Vec, vec_capacity, false, None, Some}
use Rattle.std.specs.declared.alloc.Global.{Global}
use Rattle.bc_bucket.specs.Buckets.{shown_on_disk}
use Rattle.bc_new_chain.specs.bc_chained.Chained.{HasRenewing}
use Rattle.bc_disk.specs.Disk.{DiskFacts}
use Rattle.bc_disk.specs.declared.gens.BucketRecord.{BucketRecord}
use Rattle.bc_disk.specs.declared.geometry.Geometry.{Geometry}
use Rattle.bc_new_chain.specs.bc_entry.Seal.{CanSeal}
use Rattle.bc_journal.specs.Journal.{Journal}
use Rattle.bc_new_chain.specs.Put.{GoesOnWith, HasCutChain, HasPutChain}
use Rattle.bc_new_chain.specs.bc_deed.Asked.{IsHalted}
use Rattle.bc_new_chain.specs.bc_hand.Seats.{Did, View, world}
use Rattle.bc_new_chain.specs.bc_hand.declared.error.StepError.{StepError}
use Rattle.bc_new_chain.specs.bc_hand.declared.hand.Hand.{Hand}
use Rattle.bc_new_chain.specs.bc_machine.World.{FromEach}
use Rattle.bc_new_chain.specs.bc_machine.declared.part.BucketsPart.{BucketsPart}
use Rattle.bc_new_chain.specs.bc_renew.Ready.{HasMadeReady}
use Rattle.bc_ready.specs.Ready.{HasReadied}
use Rattle.bc_refill.specs.Sets.{AreRooms, HaveNotWritten, HaveWritten}
use Rattle.bc_refill.specs.declared.room.NamingRoom.{NamingRoom}

-- the records of these buckets, as a chain has them
abbrev pub records_of : BucketsPart → List BucketRecord
records_of p = map shown_on_disk p.buckets.records

-- ---- before

-- The buckets in hand may be named: no newer chain than theirs is, each bucket of the device has a
-- record, and the journal may seal an entry.
pub record CanName (g : Geometry) (p : BucketsPart) (j : Journal) : Type 0 where
  pub settled : p.renewing ≡ false
  pub each : length p.buckets.records ≡ g.nbuckets
  pub seals : CanSeal j

-- There is memory for a chain of so many sets, and for what is made ready behind it.
pub record IsNamingRoom (g : Geometry) (many raised chained : ℕ) (r : NamingRoom) : Type 0 where
  pub sets : length r.sets.items ≡ many
  pub set_rooms : AreRooms g r.sets.items
  pub records : length r.gens.records ≡ g.nbuckets
  pub none_back : r.back.items ≡ []
  pub back : chained ≤ vec_capacity r.back
  pub none_listed : r.listed.items ≡ []
  pub listed : raised ≤ vec_capacity r.listed
  pub chain : many ≤ r.chain.len

module _ {C B : Type 0} (cache_facts : C → DiskFacts) (backing_facts : B → DiskFacts) where
  -- ---- the entry, and behind it

  -- The entry with the chain is durable, which is noted; and then what it frees was made ready: the
  -- raised buckets, all of them, and the chain before.
  pub record HasFinished (g : Geometry) (new : Vec ℕ Global) (h k : Hand C B)
      (v w : View cache_facts backing_facts) : Type 0 where
    pub old : BucketsPart
    pub was : h.buckets ≡ Some old
    pub journal : Journal
    pub was_journal : h.journal ≡ Some journal
    pub put_at : View cache_facts backing_facts
    pub put : HasPutChain cache_facts backing_facts journal new.items v put_at
    pub renewing : BucketsPart
    pub renews : HasRenewing old renewing
    pub behind : Journal
    pub goes_on : GoesOnWith journal new.items behind
    pub readied : HasReadied cache_facts backing_facts g.first_bucket renewing
        (length renewing.reserves.raised) put_at w
    pub ready : BucketsPart
    pub made : FromEach (world cache_facts backing_facts w)
        (λ o st. HasMadeReady renewing (length renewing.reserves.raised) new ready)
    pub hand : k ≡ record h {
      buckets = Some ready;
      journal = Some behind;
      cache = k.cache;
    }

  -- The entry came no further than this: it was sealed, so a crash finds the chain before or the
  -- new one; or it wasn't, and a crash finds the chain before.
  pub record HasNotPut (e : StepError) (new : List ℕ) (h k : Hand C B)
      (v w : View cache_facts backing_facts) : Type 0 where
    pub journal : Journal
    pub was_journal : h.journal ≡ Some journal
    pub cut : HasCutChain cache_facts backing_facts e journal new h k v w
    pub hand : k ≡ record h {
      buckets = k.buckets;
      journal = k.journal;
      cache = k.cache;
    }

  -- The entry is durable, so a crash finds the new chain; but a device had halted the run before
  -- what it frees was made ready.
  pub record HasNotReadied (e : StepError) (new : List ℕ) (h k : Hand C B)
      (v w : View cache_facts backing_facts) : Type 0 where
    pub old : BucketsPart
    pub was : h.buckets ≡ Some old
    pub journal : Journal
    pub was_journal : h.journal ≡ Some journal
    pub put_at : View cache_facts backing_facts
    pub put : HasPutChain cache_facts backing_facts journal new v put_at
    pub renewing : BucketsPart
    pub renews : HasRenewing old renewing
    pub behind : Journal
    pub goes_on : GoesOnWith journal new behind
    pub did : Did cache_facts backing_facts None put_at w
    pub halted : IsHalted e w.seen
    pub hand : k ≡ record h {
      buckets = Some renewing;
      journal = Some behind;
      cache = k.cache;
    }

  abbrev pub HasNotFinished : StepError → List ℕ → Hand C B → Hand C B
      → View cache_facts backing_facts → View cache_facts backing_facts → Type 0
  HasNotFinished e new h k v w = HasNotPut e new h k v w ⊎ HasNotReadied e new h k v w

  -- ---- with the sets before

  -- The sets were written, of the records of the buckets in hand; and so it was finished.
  pub record HasNamed (g : Geometry) (new : Vec ℕ Global) (p : BucketsPart) (h k : Hand C B)
      (v w : View cache_facts backing_facts) : Type 0 where
    pub written_at : View cache_facts backing_facts
    pub written : HaveWritten cache_facts backing_facts g (records_of p) new.items 0
        (length new.items) v written_at
    pub then_ : Hand C B
    pub between : then_ ≡ record h { cache = then_.cache }
    pub finished : HasFinished g new then_ k written_at w

  -- One of the sets wasn't: no entry names the new chain.
  pub record HasNotWritten (e : StepError) (g : Geometry) (new : List ℕ) (p : BucketsPart)
      (h k : Hand C B) (v w : View cache_facts backing_facts) : Type 0 where
    pub written : HaveNotWritten cache_facts backing_facts e g (records_of p) new v w
    pub hand : k ≡ record h { cache = k.cache }

  -- Or they were, but it wasn't finished.
  pub record HasNotNamedThen (e : StepError) (g : Geometry) (new : List ℕ) (p : BucketsPart)
      (h k : Hand C B) (v w : View cache_facts backing_facts) : Type 0 where
    pub written_at : View cache_facts backing_facts
    pub written : HaveWritten cache_facts backing_facts g (records_of p) new 0
        (length new) v written_at
    pub then_ : Hand C B
    pub between : then_ ≡ record h { cache = then_.cache }
    pub not_finished : HasNotFinished e new then_ k written_at w

  abbrev pub HasNotNamed : StepError → Geometry → List ℕ → BucketsPart → Hand C B → Hand C B
      → View cache_facts backing_facts → View cache_facts backing_facts → Type 0
  HasNotNamed e g new p h k v w =
      HasNotWritten e g new p h k v w ⊎ HasNotNamedThen e g new p h k v w
