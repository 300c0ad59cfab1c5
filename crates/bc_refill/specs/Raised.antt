-- Victims that are raised, and then named.
use Rattle.std.specs.Prelude.{◌≡◌, ◌⊎◌, ℕ, List, Vec, Some}
use Rattle.std.specs.declared.alloc.Global.{Global}
use Rattle.bc_alloc.specs.Victims.{AreVictims}
use Rattle.bc_disk.specs.Disk.{DiskFacts}
use Rattle.bc_disk.specs.declared.geometry.Geometry.{Geometry}
use Rattle.bc_new_chain.specs.bc_deed.Flushed.{HasDone}
use Rattle.bc_new_chain.specs.bc_hand.Seats.{View}
use Rattle.bc_new_chain.specs.bc_hand.declared.error.StepError.{StepError}
use Rattle.bc_new_chain.specs.bc_hand.declared.hand.Hand.{Hand}
use Rattle.bc_new_chain.specs.bc_machine.declared.part.BucketsPart.{BucketsPart}
use Rattle.bc_new_chain.specs.bc_machine.Containers.{SameRest}
use Rattle.bc_new_chain.specs.bc_renew.Raised.{HasRaised}
use Rattle.bc_ready.specs.bc_raise.Raise.{HasRaisedSome, raises}
use Rattle.bc_refill.specs.Named.{HasNamed, HasNotNamed}

-- A search for victims leaves the buckets as they are.
pub record IsSame (p q : BucketsPart) : Type 0 where
  pub buckets : q.buckets ≡ p.buckets
  pub reserves : q.reserves ≡ p.reserves
  pub fill : q.fill ≡ p.fill
  pub rest : SameRest p q

module _ {C B : Type 0} (cache_facts : C → DiskFacts) (backing_facts : B → DiskFacts) where
  -- All victims of the buckets in hand were raised, in order; and with them the raised ones were
  -- named.
  pub record HasRenewed (g : Geometry) (new : Vec ℕ Global) (h k : Hand C B)
      (v w : View cache_facts backing_facts) : Type 0 where
    pub old : BucketsPart
    pub was : h.buckets ≡ Some old
    pub victims : List ℕ
    pub victims_are : AreVictims old.reserves old.buckets victims
    pub raised_at : View cache_facts backing_facts
    pub raise : HasDone cache_facts backing_facts (raises g.first_bucket victims) v raised_at
    pub raised : BucketsPart
    pub has_raised : HasRaised old victims raised
    pub named : HasNamed cache_facts backing_facts g new raised
        (record h { buckets = Some raised }) k raised_at w

  -- A device had halted the run before all of them were.
  pub record HasNotRaised (e : StepError) (g : Geometry) (h k : Hand C B)
      (v w : View cache_facts backing_facts) : Type 0 where
    pub old : BucketsPart
    pub was : h.buckets ≡ Some old
    pub searched : BucketsPart
    pub same : IsSame old searched
    pub victims : List ℕ
    pub victims_are : AreVictims old.reserves old.buckets victims
    pub some : HasRaisedSome cache_facts backing_facts g.first_bucket
        (record h { buckets = Some searched }) victims k v w

  -- All of them were raised, but not named.
  pub record HasNotNamedRaised (e : StepError) (g : Geometry) (new : List ℕ) (h k : Hand C B)
      (v w : View cache_facts backing_facts) : Type 0 where
    pub old : BucketsPart
    pub was : h.buckets ≡ Some old
    pub victims : List ℕ
    pub victims_are : AreVictims old.reserves old.buckets victims
    pub raised_at : View cache_facts backing_facts
    pub raise : HasDone cache_facts backing_facts (raises g.first_bucket victims) v raised_at
    pub raised : BucketsPart
    pub has_raised : HasRaised old victims raised
    pub not_named : HasNotNamed cache_facts backing_facts e g new raised
        (record h { buckets = Some raised }) k raised_at w

  abbrev pub HasNotRenewed : StepError → Geometry → List ℕ → Hand C B → Hand C B
      → View cache_facts backing_facts → View cache_facts backing_facts → Type 0
  HasNotRenewed e g new h k v w =
      HasNotRaised e g h k v w ⊎ HasNotNamedRaised e g new h k v w
