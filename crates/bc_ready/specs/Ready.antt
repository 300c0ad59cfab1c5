-- What an entry with a new chain of priority sets allows is made ready: what its seat did.
use Rattle.std.specs.Prelude.{◌≡◌, ℕ, take, Some, Vec}
use Rattle.std.specs.declared.alloc.Global.{Global}
use Rattle.bc_alloc.specs.Reserves.{returned_all}
use Rattle.bc_disk.specs.Disk.{DiskFacts}
use Rattle.bc_events.specs.declared.event.Deed.TheVariants as deed
use Rattle.bc_events.specs.declared.event.Listing.{Listing}
use Rattle.bc_raise.specs.bc_hand.Seats.{Did, View, world}
use Rattle.bc_raise.specs.bc_hand.declared.hand.Hand.{Hand}
use Rattle.bc_raise.specs.bc_machine.World.{FromEach}
use Rattle.bc_raise.specs.bc_machine.declared.part.BucketsPart.{BucketsPart}
use Rattle.bc_raise.specs.bc_renew.Goes.{given_back, listings}
use Rattle.bc_raise.specs.bc_renew.Ready.{HasMadeReady}

module _ {C B : Type 0} (cache_facts : C → DiskFacts) (backing_facts : B → DiskFacts) where
  -- The part in hand has become one in which these buckets are ready: so it is from each opening,
  -- since whether the buckets may go their records alone don't say.
  pub record HasMadeReadyIn (h : Hand C B) (named : ℕ) (new : Vec ℕ Global) (g : Hand C B)
      (w : View cache_facts backing_facts) : Type 0 where
    pub old : BucketsPart
    pub then_ : BucketsPart
    pub was : h.buckets ≡ Some old
    pub now : g ≡ record h { buckets = Some then_ }
    pub made : FromEach (world cache_facts backing_facts w)
        (λ o st. HasMadeReady old named new then_)

  -- The event says which ones of the chain in hand go back, and the list of each named one.
  pub record HasReadied (before : ℕ) (p : BucketsPart) (named : ℕ)
      (v w : View cache_facts backing_facts) : Type 0 where
    pub back : Vec ℕ Global
    pub back_is : back.items ≡ given_back before p.chain.items p.reserves.lists
    pub listed : Vec Listing Global
    pub listed_is : listed.items ≡ listings before (take named p.reserves.raised)
        (returned_all p.chain.items p.reserves.lists)
    pub did : Did cache_facts backing_facts (Some (deed.Ready back listed)) v w
