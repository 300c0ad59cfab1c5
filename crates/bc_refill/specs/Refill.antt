-- A whole refill: what it did, and how far it came.
use Rattle.std.specs.Prelude.{◌≡◌, ◌⊎◌, ℕ, false, List, [], ◌++◌, length, None, Some, Vec}
use Rattle.std.specs.declared.alloc.Global.{Global}
use Rattle.bc_alloc.specs.Reserves.{returned_all, stored_all}
use Rattle.bc_disk.specs.Chain.{sets_in_chain}
use Rattle.bc_disk.specs.Disk.{DiskFacts}
use Rattle.bc_disk.specs.declared.disk.Device.TheVariants.{Cache}
use Rattle.bc_disk.specs.declared.geometry.Geometry.{Geometry}
use Rattle.bc_events.specs.Columns.{halt_of}
use Rattle.bc_events.specs.Run.{State}
use Rattle.bc_facts.specs.Seen.{counted}
use Rattle.bc_new_chain.specs.bc_held.declared.held.HeldBucket.{HeldBucket}
use Rattle.bc_journal.specs.Journal.{Journal}
use Rattle.bc_new_chain.specs.bc_deed.Flushed.{HasDone}
use Rattle.bc_new_chain.specs.bc_hand.Seats.{View, world}
use Rattle.bc_new_chain.specs.bc_hand.declared.error.StepError.{StepError}
use Rattle.bc_new_chain.specs.bc_hand.declared.error.StepError.TheVariants as error
use Rattle.bc_new_chain.specs.bc_hand.declared.hand.Hand.{Hand}
use Rattle.bc_new_chain.specs.bc_machine.World.{FromEach, Origin}
use Rattle.bc_new_chain.specs.bc_machine.declared.part.BucketsPart.{BucketsPart}
use Rattle.bc_refill.specs.Most.{IsIdle}
use Rattle.bc_refill.specs.Raised.{HasNotRenewed, HasRenewed}
use Rattle.bc_refill.specs.Taken.{HasGivenBack, HasStoppedBack, HasStoppedTaking, HaveTaken, IsUnsound, numbers_of}
use Rattle.bc_refill.specs.declared.answer.Refilled.{Refilled}
use Rattle.bc_refill.specs.declared.answer.Refilled.TheVariants as answer
use Rattle.bc_shares.specs.Shares.{journal_share}

-- A crash finds the chain that begins in this bucket: the newest durable entry names it.
abbrev pub FindsChain : Geometry → ℕ → Origin → State → Type 0
FindsChain g n o st = (journal_share st.machine).entries.newest.prio ≡ counted g n

-- What the buckets in hand are once they are refilled. The lists have what came: the chain before
-- went back to its own, as far as that has room, and the raised ones, those that waited and then
-- the victims, to the first that has room, or to none. No raised bucket waits, these buckets are
-- the chain, and no newer one is named.
pub record IsFilled (p : BucketsPart) (victims new : List ℕ) (q : BucketsPart) : Type 0 where
  pub lists : q.reserves.lists ≡ stored_all (p.reserves.raised ++ victims)
      (returned_all p.chain.items p.reserves.lists)
  pub none_waits : q.reserves.raised ≡ []
  pub chain : q.chain.items ≡ new
  pub settled : q.renewing ≡ false

module _ {C B : Type 0} (cache_facts : C → DiskFacts) (backing_facts : B → DiskFacts) where
  -- ---- behind the promises

  -- A bucket was taken for each set of a chain; then victims were raised, and with them all raised
  -- ones named by a chain in these buckets.
  pub record HasRefilled (g : Geometry) (p : BucketsPart) (h k : Hand C B)
      (v w : View cache_facts backing_facts) : Type 0 where
    pub taken : List HeldBucket
    pub many : length taken ≡ sets_in_chain g
    pub left : BucketsPart
    pub taken_at : View cache_facts backing_facts
    pub took : HaveTaken cache_facts backing_facts g.first_bucket taken p left v taken_at
    pub new : Vec ℕ Global
    pub new_is : new.items ≡ numbers_of taken
    pub renewed : HasRenewed cache_facts backing_facts g new (record h { buckets = Some left }) k
        taken_at w
    pub then_ : BucketsPart
    pub now : k.buckets ≡ Some then_
    pub filled : FromEach (world cache_facts backing_facts w)
        (λ o st. IsFilled left renewed.victims new.items then_)

  -- There can be no chain, and what was taken for it was let go again.
  pub record HasNoChainAgain (a : Refilled) (g : Geometry) (p : BucketsPart) (h k : Hand C B)
      (v w : View cache_facts backing_facts) : Type 0 where
    pub then_ : BucketsPart
    pub hand : k ≡ record h { buckets = Some then_ }
    pub back : HasGivenBack cache_facts backing_facts g.first_bucket (sets_in_chain g) a p then_ v w

  abbrev pub HasAnsweredIn : Refilled → Geometry → BucketsPart → Hand C B → Hand C B
      → View cache_facts backing_facts → View cache_facts backing_facts → Type 0
  HasAnsweredIn answer.Done g p h k v w = HasRefilled g p h k v w
  HasAnsweredIn a g p h k v w = HasNoChainAgain a g p h k v w

  -- A device had halted the run before there was a bucket for each set. None was raised.
  pub record HasNotTaken (e : StepError) (g : Geometry) (p : BucketsPart) (h k : Hand C B)
      (v w : View cache_facts backing_facts) : Type 0 where
    pub then_ : BucketsPart
    pub hand : k ≡ record h { buckets = Some then_ }
    pub stopped : HasStoppedTaking cache_facts backing_facts g.first_bucket (sets_in_chain g) e p
        then_ v w ⊎ HasStoppedBack cache_facts backing_facts g.first_bucket (sets_in_chain g) e p
        then_ v w

  -- There was, but what was raised isn't on a list.
  pub record HasNotRefilledThen (e : StepError) (g : Geometry) (p : BucketsPart) (h k : Hand C B)
      (v w : View cache_facts backing_facts) : Type 0 where
    pub taken : List HeldBucket
    pub many : length taken ≡ sets_in_chain g
    pub left : BucketsPart
    pub taken_at : View cache_facts backing_facts
    pub took : HaveTaken cache_facts backing_facts g.first_bucket taken p left v taken_at
    pub not_renewed : HasNotRenewed cache_facts backing_facts e g (numbers_of taken)
        (record h { buckets = Some left }) k taken_at w
    pub then_ : BucketsPart
    pub now : k.buckets ≡ Some then_
    pub lists : then_.reserves.lists ≡ left.reserves.lists

  abbrev pub HasNotRefilledIn : StepError → Geometry → BucketsPart → Hand C B → Hand C B
      → View cache_facts backing_facts → View cache_facts backing_facts → Type 0
  HasNotRefilledIn e g p h k v w = HasNotTaken e g p h k v w ⊎ HasNotRefilledThen e g p h k v w

  -- ---- the whole

  -- Nothing was done, for this reason.
  pub record HasIdled (a : Refilled) (p : BucketsPart) (j : Journal) (h k : Hand C B)
      (v w : View cache_facts backing_facts) : Type 0 where
    pub why : IsIdle a p j
    pub unsound : a ≡ answer.Unsound → IsUnsound (world cache_facts backing_facts w)
    pub same : k ≡ h
    pub done : HasDone cache_facts backing_facts [] v w

  -- Room for all deeds was promised, and so it was answered.
  pub record HasAnsweredThen (a : Refilled) (g : Geometry) (p : BucketsPart) (h k : Hand C B)
      (v w : View cache_facts backing_facts) : Type 0 where
    pub ready_at : View cache_facts backing_facts
    pub waited : HasDone cache_facts backing_facts [] v ready_at
    pub answered : HasAnsweredIn a g p h k ready_at w

  abbrev pub HasAnswered : Refilled → Geometry → BucketsPart → Journal → Hand C B → Hand C B
      → View cache_facts backing_facts → View cache_facts backing_facts → Type 0
  HasAnswered a g p j h k v w = HasIdled a p j h k v w ⊎ HasAnsweredThen a g p h k v w

  -- Nothing was done: there was no memory, or a device had halted the run.
  pub record HasNotBegun (h k : Hand C B) (v w : View cache_facts backing_facts) : Type 0 where
    pub same : k ≡ h
    pub done : HasDone cache_facts backing_facts [] v w

  -- Room for all deeds was promised, and it came so far.
  pub record HasNotRefilledBehind (e : StepError) (g : Geometry) (p : BucketsPart) (h k : Hand C B)
      (v w : View cache_facts backing_facts) : Type 0 where
    pub ready_at : View cache_facts backing_facts
    pub waited : HasDone cache_facts backing_facts [] v ready_at
    pub far : HasNotRefilledIn e g p h k ready_at w

  abbrev pub HasNotRefilled : StepError → Geometry → BucketsPart → Hand C B → Hand C B
      → View cache_facts backing_facts → View cache_facts backing_facts → Type 0
  HasNotRefilled error.Memory g p h k v w = HasNotBegun h k v w
  HasNotRefilled e g p h k v w = HasNotBegun h k v w ⊎ HasNotRefilledBehind e g p h k v w

  -- Its own call of the cache device failed, or a device had halted the run. There was no memory
  -- only where the seat wasn't told of a halt.
  abbrev pub IsRefusal : StepError → View cache_facts backing_facts → Type 0
  IsRefusal (error.Fault device) w = device ≡ Cache
  IsRefusal (error.Halted device) w = halt_of w.seen ≡ Some device
  IsRefusal error.Memory w = w.heard ≡ None
