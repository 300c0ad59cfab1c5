-- What a seat has done that makes a sealed entry durable.
use Rattle.std.specs.Prelude.{ℕ, List, [], ◌∷◌}
use Rattle.bc_disk.specs.Disk.{DiskFacts}
use Rattle.bc_events.specs.declared.event.Change.{Change}
use Rattle.bc_events.specs.declared.event.Deed.{Deed}
use Rattle.bc_events.specs.declared.event.Deed.TheVariants as deed
use Rattle.bc_entry.specs.Entry.{AreValuesOf}
use Rattle.bc_entry.specs.Put.{IsCutBehind, write_by}
use Rattle.bc_entry.specs.bc_deed.Flushed.{HasDone}
use Rattle.bc_entry.specs.bc_hand.Seats.{View, world}
use Rattle.bc_entry.specs.bc_hand.declared.error.StepError.{StepError}
use Rattle.bc_entry.specs.bc_machine.World.{FromEach}
use Rattle.bc_journal.specs.Sealed.{Sealed}
use Rattle.bc_model.specs.Sector.{Value}
use Rattle.bc_tree.specs.declared.plan.Plan.{Plan}
use Rattle.bc_change.specs.Under.{IsByRoot}

module _ {C B : Type 0} (cache_facts : C → DiskFacts) (backing_facts : B → DiskFacts) where
  -- behind its seal: a barrier, it is written, a barrier, it is durable
  pub record HasPutBehind (s : Sealed) (v w : View cache_facts backing_facts) : Type 0 where
    pub values : List Value
    pub values_are : AreValuesOf s values
    pub done : HasDone cache_facts backing_facts (deed.CacheBarrier ∷ write_by s values
        ∷ deed.CacheBarrier ∷ deed.Sealed ∷ []) v w

  -- it came so far behind the seal, for this error
  pub record HasCutBehind (e : StepError) (s : Sealed) (v w : View cache_facts backing_facts) :
      Type 0 where
    pub deeds : List Deed
    pub cut : IsCutBehind e s deeds
    pub done : HasDone cache_facts backing_facts deeds v w

  -- what the seat knew of a change that is under way it knows still
  abbrev pub KeepsByRoot : View cache_facts backing_facts → View cache_facts backing_facts → Type 0
  KeepsByRoot v w = (plan : Plan) (c : Change) (number slot : ℕ)
      → FromEach (world cache_facts backing_facts v) (IsByRoot v.first plan c number slot)
      → FromEach (world cache_facts backing_facts w) (IsByRoot v.first plan c number slot)
