-- What a seat's claim is behind its steps.
use Rattle.std.specs.Prelude.{Result, Ok, Err, OnOk, OnErr}
use Rattle.std.proofs.Common.{◌≡◌, Bool, Some, None, ◌∙◌}
use Rattle.bc_disk.specs.Disk.{DiskFacts}
use Rattle.bc_events.specs.declared.event.Deed.{Deed}
use Rattle.bc_hand.specs.bc_machine.Note.{note_after}
use Rattle.bc_hand.specs.Seats.{note, IsCoreSeat, Did}
use Rattle.bc_hand.specs.declared.error.StepError.{StepError}
use Rattle.bc_hand.specs.declared.error.StepError.TheVariants as step
use Rattle.bc_hand.proofs.Knowing.{View, note_waited, note_committed}
use Rattle.bc_deed.specs.Asked.{HasFailed, HasFailedOr}

module _ {C B : Type 0} (cache_facts : C → DiskFacts) (backing_facts : B → DiskFacts) where
  pub still_claimed : (v w : View cache_facts backing_facts) → IsCoreSeat cache_facts backing_facts v
      → Did cache_facts backing_facts None v w
      → (note cache_facts backing_facts w).range ≡ (note cache_facts backing_facts v).range
  still_claimed v w seat did = (note_waited cache_facts backing_facts v w seat did.is).range

  -- what is noted goes on behind a call that failed, or that waited
  pub range_failed : (error : StepError) (d : Deed) (v w : View cache_facts backing_facts)
      → IsCoreSeat cache_facts backing_facts v
      → ((plain : Bool) → (note_after plain (note cache_facts backing_facts v) d).range
      ≡ (note cache_facts backing_facts v).range)
      → HasFailedOr cache_facts backing_facts error d v w
      → (note cache_facts backing_facts w).range ≡ (note cache_facts backing_facts v).range
  range_failed (step.Fault device) d v w seat same why =
      (note_committed cache_facts backing_facts v w d seat why.1.is).range ∙ same _
  range_failed (step.Halted device) d v w seat same why = still_claimed v w seat why.1
  range_failed step.Memory d v w seat same why = still_claimed v w seat why

  pub range_stopped : (error : StepError) (d : Deed) (v w : View cache_facts backing_facts)
      → IsCoreSeat cache_facts backing_facts v
      → ((plain : Bool) → (note_after plain (note cache_facts backing_facts v) d).range
      ≡ (note cache_facts backing_facts v).range)
      → HasFailed cache_facts backing_facts error d v w
      → (note cache_facts backing_facts w).range ≡ (note cache_facts backing_facts v).range
  range_stopped (step.Fault device) d v w seat same why =
      (note_committed cache_facts backing_facts v w d seat why.1.is).range ∙ same _
  range_stopped (step.Halted device) d v w seat same why = still_claimed v w seat why.1
  range_stopped step.Memory d v w seat same why = absurd why

  -- the last step of a sequence, done or not
  pub range_either : {A : Type 0} (r : Result A StepError) (d : Deed) (v w : View cache_facts backing_facts)
      → IsCoreSeat cache_facts backing_facts v
      → ((plain : Bool) → (note_after plain (note cache_facts backing_facts v) d).range
      ≡ (note cache_facts backing_facts v).range)
      → OnOk r (Did cache_facts backing_facts (Some d) v w) → OnErr r (Did cache_facts backing_facts None v w)
      → (note cache_facts backing_facts w).range ≡ (note cache_facts backing_facts v).range
  range_either (Ok a) d v w seat same ok err =
      (note_committed cache_facts backing_facts v w d seat ok.is).range ∙ same _
  range_either (Err e) d v w seat same ok err = still_claimed v w seat err
