-- What a seat has done that makes an entry with a new root durable.
use Rattle.std.specs.Prelude.{◌≡◌, ◌⊎◌, ℕ, List, [], ◌∷◌, None, Some, Vec}
use Rattle.std.specs.declared.alloc.Global.{Global}
use Rattle.bc_change.specs.Under.{IsByRoot}
use Rattle.bc_disk.specs.Disk.{DiskFacts}
use Rattle.bc_change.specs.bc_entry.Entry.{AreValuesOf, IsNewestEntry}
use Rattle.bc_change.specs.bc_entry.Put.{IsCutBehind, IsNoFault, write_by}
use Rattle.bc_change.specs.bc_entry.Seal.{begun_by}
use Rattle.bc_change.specs.bc_deed.Flushed.{HasDone}
use Rattle.bc_change.specs.bc_hand.Seats.{Did, View, world}
use Rattle.bc_change.specs.bc_hand.declared.error.StepError.{StepError}
use Rattle.bc_change.specs.bc_hand.declared.hand.Hand.{Hand}
use Rattle.bc_change.specs.bc_machine.World.{FromEach}
use Rattle.bc_events.specs.declared.event.Change.{Change}
use Rattle.bc_events.specs.declared.event.Deed.{Deed}
use Rattle.bc_events.specs.declared.event.Deed.TheVariants as deed
use Rattle.bc_facts.specs.Seen.{entry_rest}
use Rattle.bc_journal.specs.Journal.{IsSealed, Journal, entry_now}
use Rattle.bc_journal.specs.Sealed.{Sealed, numbers_of}
use Rattle.bc_journal.specs.declared.heads.Heads.{Heads}
use Rattle.bc_model.specs.Sector.{Value}
use Rattle.bc_tree.specs.declared.plan.Plan.{Plan}

-- The journal behind the entry: the keys that waited are durable, and it goes on behind the entry,
-- which names this.
pub record GoesOnWith (j : Journal) (heads : Heads) (k : Journal) : Type 0 where
  pub durable : k.durable ≡ numbers_of (entry_now j heads)
  pub heads_are : k.heads ≡ heads
  pub sealed : k.sealed ≡ None
  pub waiting : k.waiting ≡ []
  pub needed : k.needed ≡ j.needed
  pub geometry : k.ring.geometry ≡ j.ring.geometry

-- it is sealed with this root, by which the change is made
abbrev pub seal_by : Journal → Sealed → Vec ℕ Global → ℕ → Change → Deed
seal_by j s rest slot c = deed.Seal s.entry.last_seq (begun_by j) rest
    (Some (record { inner = slot; change = c })) None

-- The deeds begin with the seal of the entry that the journal gives, and go on so.
pub record IsSealedThen (j : Journal) (heads : Heads) (slot : ℕ) (c : Change) (deeds : List Deed) :
    Type 0 where
  pub sealed : Sealed
  pub behind : Journal
  pub entry : IsSealed j heads sealed behind
  pub rest : Vec ℕ Global
  pub rest_is : rest.items ≡ entry_rest sealed.entry
  pub more : List Deed
  pub is : deeds ≡ seal_by j sealed rest slot c ∷ more

-- for this error it came no further behind the seal
pub record IsCutRootAt (e : StepError) (j : Journal) (heads : Heads) (slot : ℕ) (c : Change)
    (deeds : List Deed) : Type 0 where
  pub at : IsSealedThen j heads slot c deeds
  pub cut : IsCutBehind e at.sealed at.more

-- a barrier, it is written, a barrier, and it is durable
abbrev pub durable_by : Sealed → List Value → List Deed
durable_by s values =
    deed.CacheBarrier ∷ write_by s values ∷ deed.CacheBarrier ∷ deed.Sealed ∷ []

module _ {C B : Type 0} (cache_facts : C → DiskFacts) (backing_facts : B → DiskFacts) where
  -- The seat put the entry that the journal gives, by its own deeds and no others. From each
  -- opening that is the newest durable one, and the change is under way that it makes.
  pub record HasPutRoot (j : Journal) (heads : Heads) (slot : ℕ) (plan : Plan) (c : Change)
      (v w : View cache_facts backing_facts) : Type 0 where
    pub deeds : List Deed
    pub at : IsSealedThen j heads slot c deeds
    pub values : List Value
    pub values_are : AreValuesOf at.sealed values
    pub more_is : at.more ≡ durable_by at.sealed values
    pub done : HasDone cache_facts backing_facts deeds v w
    pub newest : FromEach (world cache_facts backing_facts w)
        (IsNewestEntry at.sealed.geometry at.sealed.entry)
    pub under : FromEach (world cache_facts backing_facts w)
        (IsByRoot v.first plan c at.sealed.entry.seq slot)

  -- it came so far behind its seal, for this error
  pub record HasCutRootAt (e : StepError) (j : Journal) (heads : Heads) (slot : ℕ) (c : Change)
      (v w : View cache_facts backing_facts) : Type 0 where
    pub deeds : List Deed
    pub cut : IsCutRootAt e j heads slot c deeds
    pub done : HasDone cache_facts backing_facts deeds v w

  -- It wasn't even sealed: nothing was done, and what is in hand is as it was.
  pub record HasNotSealed (e : StepError) (h k : Hand C B)
      (v w : View cache_facts backing_facts) : Type 0 where
    pub no_fault : IsNoFault e
    pub same : k ≡ h
    pub did : Did cache_facts backing_facts None v w

  -- the one or the other
  abbrev pub HasCutRoot : StepError → Journal → Heads → ℕ → Change → Hand C B → Hand C B
      → View cache_facts backing_facts → View cache_facts backing_facts → Type 0
  HasCutRoot e j heads slot c h k v w = HasNotSealed e h k v w ⊎ HasCutRootAt e j heads slot c v w
