-- What a seat has done that makes a sealed entry durable, and that puts one with a new chain.
use Rattle.std.specs.Prelude.{◌≡◌, ◌⊎◌, ℕ, List, [], ◌∷◌, None, Some, Vec}
use Rattle.std.specs.declared.alloc.Global.{Global}
use Rattle.bc_chain.specs.bc_deed.Flushed.{HasDone}
use Rattle.bc_chain.specs.bc_hand.Seats.{View, world}
use Rattle.bc_chain.specs.bc_hand.declared.error.StepError.{StepError}
use Rattle.bc_chain.specs.bc_hand.declared.error.StepError.TheVariants as error
use Rattle.bc_chain.specs.bc_hand.declared.hand.Hand.{Hand}
use Rattle.bc_chain.specs.bc_machine.World.{FromEach}
use Rattle.bc_chain.specs.bc_machine.declared.part.BucketsPart.{BucketsPart}
use Rattle.bc_chained.specs.Chained.{HasRenewing, IsSealedChain}
use Rattle.bc_chained.specs.Laws.{numbers}
use Rattle.bc_chained.specs.bc_renew.Ready.{MayReady}
use Rattle.bc_disk.specs.Disk.{DiskFacts}
use Rattle.bc_entry.specs.Entry.{AreValuesOf, IsNewestEntry}
use Rattle.bc_entry.specs.Put.{IsCutBehind, write_by}
use Rattle.bc_disk.specs.declared.disk.Device.TheVariants.{Cache}
use Rattle.bc_events.specs.Columns.{halt_of}
use Rattle.bc_events.specs.declared.event.Deed.{Deed}
use Rattle.bc_events.specs.declared.event.Deed.TheVariants as deed
use Rattle.bc_events.specs.declared.event.Event.{Event}
use Rattle.bc_facts.specs.Seen.{entry_rest}
use Rattle.bc_journal.specs.Journal.{IsSealed, Journal, entry_now}
use Rattle.bc_journal.specs.Sealed.{Sealed, numbers_of}
use Rattle.bc_model.specs.Sector.{Value}
use Rattle.bc_new_chain.specs.Seal.{seal_chain_by, with_chain}

-- Behind its seal: a barrier, it is written, a barrier, it is durable.
abbrev pub put_behind_by : Sealed → List Value → List Deed
put_behind_by s values = deed.CacheBarrier ∷ write_by s values ∷ deed.CacheBarrier ∷ deed.Sealed
    ∷ []

-- of the buckets in hand it is noted that a newer chain is named
pub record IsRenewingIn {C B : Type 0} (h g : Hand C B) : Type 0 where
  pub old : BucketsPart
  pub then_ : BucketsPart
  pub was : h.buckets ≡ Some old
  pub now : g.buckets ≡ Some then_
  pub renews : HasRenewing old then_

-- Why it came no further. There is no want of memory, which is there before.
abbrev pub IsChainCause : StepError → List Event → Type 0
IsChainCause (error.Fault device) es = device ≡ Cache
IsChainCause (error.Halted device) es = halt_of es ≡ Some device
IsChainCause error.Memory es = ⊥

-- a device had halted the run before
abbrev pub IsStop : StepError → Type 0
IsStop (error.Fault device) = ⊥
IsStop (error.Halted device) = Unit {0}
IsStop error.Memory = ⊥

-- The entry with this chain was sealed, and no more than that came of it: of what is in hand, the
-- journal has it as the sealed one, and of the buckets it is noted that a newer chain may be named.
pub record IsChainCutAt {C B : Type 0} (e : StepError) (j : Journal) (new : List ℕ) (h g : Hand C B)
    (deeds : List Deed) : Type 0 where
  pub sealed : Sealed
  pub behind : Journal
  pub entry : IsSealed j (with_chain j.heads new) sealed behind
  pub journal : g.journal ≡ Some behind
  pub buckets : IsRenewingIn h g
  pub rest : Vec ℕ Global
  pub rest_is : rest.items ≡ entry_rest sealed.entry
  pub chain : Vec ℕ Global
  pub chain_is : chain.items ≡ numbers j.ring.geometry new
  pub more : List Deed
  pub cut : IsCutBehind e sealed more
  pub is : deeds ≡ seal_chain_by j sealed rest chain ∷ more

-- or not even that, and what is in hand is as it was
pub record IsChainUncut {C B : Type 0} (e : StepError) (h g : Hand C B) (deeds : List Deed) :
    Type 0 where
  pub stop : IsStop e
  pub same : g ≡ h
  pub none : deeds ≡ []

abbrev pub IsChainCut : {C B : Type 0} → StepError → Journal → List ℕ → Hand C B → Hand C B
    → List Deed → Type 0
IsChainCut e j new h g deeds = IsChainUncut e h g deeds ⊎ IsChainCutAt e j new h g deeds

-- The journal behind it: the keys that waited are durable, and it goes on behind the entry, which
-- names the chain.
pub record GoesOnWith (j : Journal) (new : List ℕ) (k : Journal) : Type 0 where
  pub durable : k.durable ≡ numbers_of (entry_now j (with_chain j.heads new))
  pub heads : k.heads ≡ with_chain j.heads new
  pub sealed : k.sealed ≡ None
  pub waiting : k.waiting ≡ []
  pub needed : k.needed ≡ j.needed
  pub geometry : k.ring.geometry ≡ j.ring.geometry

module _ {C B : Type 0} (cache_facts : C → DiskFacts) (backing_facts : B → DiskFacts) where
  pub record HasPutBehind (s : Sealed) (v w : View cache_facts backing_facts) : Type 0 where
    pub values : List Value
    pub values_are : AreValuesOf s values
    pub done : HasDone cache_facts backing_facts (put_behind_by s values) v w

  -- it came so far behind the seal, for this error
  pub record HasCutBehind (e : StepError) (s : Sealed) (v w : View cache_facts backing_facts) :
      Type 0 where
    pub deeds : List Deed
    pub cut : IsCutBehind e s deeds
    pub done : HasDone cache_facts backing_facts deeds v w

  -- Of a chain that was the newest sealed one, the buckets, the one before and raised ones may be
  -- made ready.
  abbrev pub ReadiesChain : View cache_facts backing_facts → View cache_facts backing_facts → Type 0
  ReadiesChain v w = (new raised : List ℕ)
      → FromEach (world cache_facts backing_facts v) (IsSealedChain v.first new)
      → FromEach (world cache_facts backing_facts w) (MayReady v.first raised new)

  -- The seat put the entry with this chain, by its own deeds and no others; from each opening that is
  -- the newest durable one.
  pub record HasPutChain (j : Journal) (new : List ℕ) (v w : View cache_facts backing_facts) :
      Type 0 where
    pub sealed : Sealed
    pub behind : Journal
    pub entry : IsSealed j (with_chain j.heads new) sealed behind
    pub rest : Vec ℕ Global
    pub rest_is : rest.items ≡ entry_rest sealed.entry
    pub chain : Vec ℕ Global
    pub chain_is : chain.items ≡ numbers j.ring.geometry new
    pub values : List Value
    pub values_are : AreValuesOf sealed values
    pub done : HasDone cache_facts backing_facts
        (seal_chain_by j sealed rest chain ∷ put_behind_by sealed values) v w
    pub newest : FromEach (world cache_facts backing_facts w)
        (IsNewestEntry sealed.geometry sealed.entry)

  -- it came so far, for this error
  pub record HasCutChain (e : StepError) (j : Journal) (new : List ℕ) (h g : Hand C B)
      (v w : View cache_facts backing_facts) : Type 0 where
    pub deeds : List Deed
    pub cut : IsChainCut e j new h g deeds
    pub done : HasDone cache_facts backing_facts deeds v w
