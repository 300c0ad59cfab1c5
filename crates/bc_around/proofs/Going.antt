-- Whatever came of a piece, the seat's run went on by deeds of its own.
use Rattle.std.proofs.Common.{ℕ, Bool, List, [], ◌∷◌, ◌++◌, length}
use Rattle.bc_around.specs.Look.{HasFoundKey, HasLookedFree}
use Rattle.bc_around.specs.Owed.{HasOwed}
use Rattle.bc_around.specs.Past.{HasComeTo, HasTried}
use Rattle.bc_around.specs.declared.past.Past.{Past}
use Rattle.bc_around.specs.declared.past.Past.TheVariants as past
use Rattle.bc_flush.specs.bc_deed.Flushed.{HasDone}
use Rattle.bc_flush.proofs.of_bc_deed.Sequence.{done_both}
use Rattle.bc_disk.specs.Disk.{DiskFacts}
use Rattle.bc_events.specs.declared.event.Deed.{Deed}
use Rattle.bc_events.specs.declared.event.Deed.TheVariants as deed
use Rattle.bc_events.specs.declared.event.LineNumber.{LineNumber}
use Rattle.bc_flight.specs.declared.claim.Share.TheVariants.{Exclusive}
use Rattle.bc_flush.specs.Sync.{HasSynced}
use Rattle.bc_flush.proofs.of_bc_hand.Knowing.{View}
use Rattle.bc_flush.specs.bc_job.Deeds.{written}
use Rattle.bc_flush.specs.bc_machine.declared.part.CorePart.{CorePart}
use Rattle.bc_model.specs.declared.values.Values.{Values}
use Rattle.bc_parts.specs.Seat.{PartsView}

module _ {C B : Type 0} (cache_facts : C → DiskFacts) (backing_facts : B → DiskFacts) where
  abbrev pub Gone : View cache_facts backing_facts → View cache_facts backing_facts → Type 0
  Gone v w = (ds : List Deed) × HasDone cache_facts backing_facts ds v w

  pub gone_both : (u v w : View cache_facts backing_facts) → Gone u v → Gone v w → Gone u w
  gone_both u v w a b = (a.0 ++ b.0, done_both cache_facts backing_facts a.0 b.0 u v w a.1 b.1)

  pub gone_none : (v w : View cache_facts backing_facts) → HasDone cache_facts backing_facts [] v w
      → Gone v w
  gone_none v w h = ([], h)

  gone_one : (d : Deed) (v w : View cache_facts backing_facts)
      → HasDone cache_facts backing_facts (d ∷ []) v w → Gone v w
  gone_one d v w h = (d ∷ [], h)

  -- ---- the look

  module _ (p : PartsView (CorePart C B)) (first count : ℕ) where
    pub gone_looked : (v w : View cache_facts backing_facts)
        → HasLookedFree cache_facts backing_facts p first count v w → Gone v w
    gone_looked v w h =
        gone_both v h.at w (h.way ++ deed.Look h.number ∷ [], h.done) (gone_none h.at w h.then)

    gone_found : (v w : View cache_facts backing_facts)
        → HasFoundKey cache_facts backing_facts p first count v w → Gone v w
    gone_found v w h =
        gone_both v h.at w (h.way, h.done) (gone_none h.at w h.then)

  gone_owed : (v w : View cache_facts backing_facts) → HasOwed cache_facts backing_facts v w
      → Gone v w
  gone_owed v w h = gone_both v h.at w (gone_none v h.at h.way) (gone_none h.at w h.then)

  -- ---- a try

  module _ (p : PartsView (CorePart C B)) (force : Bool) (of : LineNumber) (first : ℕ)
      (values : Values) where
    pub gone_come : (o : Past) (v w : View cache_facts backing_facts)
        → HasComeTo cache_facts backing_facts o p force of first values v w → Gone v w
    gone_come past.Written v w h = gone_both v h.looked w
        (gone_looked p first (length values) v h.looked h.look)
        (written force of first values, h.wrote)
    gone_come past.Cached v w h = gone_found p first (length values) v w h
    gone_come past.Waiting v w h = gone_both v h.looked w
        (gone_looked p first (length values) v h.looked h.look) (gone_owed h.looked w h.owed)

    between : (v u x w : View cache_facts backing_facts)
        → HasDone cache_facts backing_facts (deed.Claim first (length values) Exclusive ∷ []) v u
        → Gone u x
        → HasDone cache_facts backing_facts (deed.Release ∷ []) x w → Gone v w
    between v u x w claim under release = gone_both v u w
        (gone_one (deed.Claim first (length values) Exclusive) v u claim)
        (gone_both u x w under (gone_one deed.Release x w release))

    pub gone_tried : (o : Past) (v w : View cache_facts backing_facts)
        → HasTried cache_facts backing_facts o p force of first values v w → Gone v w
    gone_tried o v w h = between v h.claimed h.tried w h.claim
        (gone_come o h.claimed h.tried h.outcome) h.released

  -- ---- an entry

  pub gone_synced : (v w : View cache_facts backing_facts)
      → HasSynced cache_facts backing_facts v w → Gone v w
  gone_synced v w h = (h.deeds, h.done)
