-- What was done in a turn, one part behind the other.
use Rattle.std.proofs.Common.{ℕ, List, [], refl}
use Rattle.bc_disk.specs.Disk.{DiskFacts}
use Rattle.bc_flush.proofs.Counting.{durable_lasts}
use Rattle.bc_flush.proofs.Syncing.{as_waited, cut_on, entry_on}
use Rattle.bc_flush.proofs.Walking.{lasts_done}
use Rattle.bc_flush.proofs.of_bc_deed.Sequence.{done_both}
use Rattle.bc_flush.proofs.of_bc_hand.Knowing.{View, m}
use Rattle.bc_flush.specs.Durable.{AreDurable}
use Rattle.bc_flush.specs.Sync.{HasNotSynced, HasSynced}
use Rattle.bc_flush.specs.bc_deed.Flushed.{HasDone}
use Rattle.bc_flush.specs.bc_hand.Seats.{world}
use Rattle.bc_flush.specs.bc_machine.World.{FromEach, Origin}
use Rattle.bc_flush.specs.bc_machine.declared.part.CorePart.{CorePart}
use Rattle.bc_events.specs.declared.event.Deed.{Deed}
use Rattle.bc_parts.specs.Seat.{PartsView}
use Rattle.bc_flush.specs.declared.error.FlushError.{FlushError}
use Rattle.bc_flush.specs.declared.error.FlushError.TheVariants as flush
use Rattle.bc_seats.specs.Seats.{Waited}
use Rattle.bc_turned.specs.Turned.{HasEnded}
use Rattle.bc_turned.specs.declared.answer.Turned.{Turned}
use Rattle.bc_turned.specs.declared.answer.Turned.TheVariants as turned

module _ {C B : Type 0} (cache_facts : C → DiskFacts) (backing_facts : B → DiskFacts) where
  -- it waited, and room was promised
  pub promised_done : (t u v : View cache_facts backing_facts)
      → Waited (m cache_facts backing_facts) t u → HasDone cache_facts backing_facts [] u v
      → HasDone cache_facts backing_facts [] t v
  promised_done t u v first then =
      done_both cache_facts backing_facts [] [] t u v
      (as_waited cache_facts backing_facts t u first) then

  -- no memory was there, before any deed
  pub no_memory : (sectors : ℕ) (v w : View cache_facts backing_facts)
      → HasDone cache_facts backing_facts [] v w
      → HasNotSynced cache_facts backing_facts sectors flush.Memory v w
  no_memory sectors v w done =
      record { deeds = []; cut = refl; stood = tt; halt = tt; done = done }

  module _ (t u w : View cache_facts backing_facts)
      (first : HasDone cache_facts backing_facts [] t u) where
    pub synced_behind : HasSynced cache_facts backing_facts u w
        → HasSynced cache_facts backing_facts t w
    synced_behind h = record {
      deeds = h.deeds;
      are = h.are;
      stood = entry_on cache_facts backing_facts [] t u first h.deeds h.are h.stood;
      done = done_both cache_facts backing_facts [] h.deeds t u w first h.done;
    }

    pub refused_behind : (sectors : ℕ) (e : FlushError)
        → HasNotSynced cache_facts backing_facts sectors e u w
        → HasNotSynced cache_facts backing_facts sectors e t w
    refused_behind sectors e h = record {
      deeds = h.deeds;
      cut = h.cut;
      stood = cut_on cache_facts backing_facts [] t u first sectors e h.deeds h.cut h.stood;
      halt = h.halt;
      done = done_both cache_facts backing_facts [] h.deeds t u w first h.done;
    }

  -- ---- what was durable stays so

  durable_on : (n : Origin → ℕ) (ds : List Deed) (v w : View cache_facts backing_facts)
      → HasDone cache_facts backing_facts ds v w
      → FromEach (world cache_facts backing_facts v) (AreDurable n)
      → FromEach (world cache_facts backing_facts w) (AreDurable n)
  durable_on n ds v w done h =
      lasts_done cache_facts backing_facts (AreDurable n) (durable_lasts n) ds v w done h

  pub durable_ended : (p : PartsView (CorePart C B)) (sectors low : ℕ) (answer : Turned)
      (v w : View cache_facts backing_facts)
      → HasEnded cache_facts backing_facts p sectors low answer v w → (n : Origin → ℕ)
      → FromEach (world cache_facts backing_facts v) (AreDurable n)
      → FromEach (world cache_facts backing_facts w) (AreDurable n)
  durable_ended p sectors low turned.Done v w h n was =
      durable_on n h.put.put.deeds h.put.at w h.put.put.done
      (durable_on n [] h.between h.put.at h.put.before
      (durable_on n h.sets.deeds v h.between h.sets.done was))
  durable_ended p sectors low (turned.Left left) v w h n was =
      durable_on n [] h.then w (as_waited cache_facts backing_facts h.then w h.since)
      (durable_on n h.before.deeds v h.then h.before.done was)
  durable_ended p sectors low (turned.NoEntry cause) v w h n was =
      durable_on n [] h.none.at w h.none.since
      (durable_on n [] h.between h.none.at h.none.before
      (durable_on n h.sets.deeds v h.between h.sets.done was))
