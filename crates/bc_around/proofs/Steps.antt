-- What the steps of a write past the cache come to, and what the seat notes of them.
use Rattle.std.specs.Prelude.{Result, Ok, Err, OnErr, IfErr}
use Rattle.std.proofs.Common.{◌≡◌, inl, inr, ℕ, Bool, true, false, [], ◌∷◌, length, Some, None, refl, sym, ◌∙◌, subst, arith}
use Rattle.bc_around.specs.Past.{NotWritten}
use Rattle.bc_flush.specs.bc_deed.Asked.{HasFailed, HasFailedOr, IsHalted, IsLast}
use Rattle.bc_flush.specs.bc_deed.Flushed.{HasDone}
use Rattle.bc_flush.proofs.of_bc_deed.Sequence.{done_first, done_then}
use Rattle.bc_disk.specs.Disk.{DiskFacts}
use Rattle.bc_disk.specs.declared.disk.Device.{Device}
use Rattle.bc_disk.specs.declared.disk.Device.TheVariants.{Backing}
use Rattle.bc_events.specs.Columns.{halt_of}
use Rattle.bc_events.specs.declared.event.Deed.{Deed}
use Rattle.bc_events.specs.declared.event.Deed.TheVariants as deed
use Rattle.bc_events.specs.declared.event.Failure.TheVariants as failure
use Rattle.bc_events.specs.declared.event.LineNumber.{LineNumber}
use Rattle.bc_flush.specs.bc_hand.Seats.{Did, IsCoreSeat, note}
use Rattle.bc_flush.specs.bc_hand.declared.error.StepError.{StepError}
use Rattle.bc_flush.specs.bc_hand.declared.error.StepError.TheVariants as step
use Rattle.bc_flush.proofs.of_bc_hand.Knowing.{View, note_committed}
use Rattle.bc_flush.specs.bc_job.Deeds.{written}
use Rattle.bc_flush.specs.bc_machine.Note.{LastWrite}
use Rattle.bc_model.specs.declared.values.Values.{Values}

pub last_of : (x : LastWrite) (line first n m : ℕ) → n ≡ m → IsLast x line first m
    → IsLast x line first n
last_of x line first n m is h = subst (λ k. IsLast x line first k) (sym is) h

module _ {C B : Type 0} (cache_facts : C → DiskFacts) (backing_facts : B → DiskFacts) where
  abbrev write : LineNumber → ℕ → Values → Deed
  write of first values = deed.BackingWrite first (Some of) values

  -- a step that asks for no memory
  pub failed_or : (e : StepError) (d : Deed) (v w : View cache_facts backing_facts)
      → HasFailed cache_facts backing_facts e d v w → HasFailedOr cache_facts backing_facts e d v w
  failed_or (step.Fault device) d v w why = why
  failed_or (step.Halted device) d v w why = why
  failed_or step.Memory d v w why = absurd why

  pub not_begun : (device : Device) (force : Bool) (of : LineNumber) (first : ℕ) (values : Values)
      (v : View cache_facts backing_facts) → halt_of v.seen ≡ Some device
      → Did cache_facts backing_facts None v v
      → NotWritten cache_facts backing_facts (step.Halted device) force of first values v v
  not_begun device force of first values v halted did =
      (halted, inl (done_first cache_facts backing_facts None v v did))

  pub write_failed : (e : StepError) (force : Bool) (of : LineNumber) (first : ℕ)
      (values : Values) (v w : View cache_facts backing_facts)
      → HasFailed cache_facts backing_facts e
      (deed.DeviceFault (failure.BackingWrite first (Some of) values)) v w
      → NotWritten cache_facts backing_facts e force of first values v w
  write_failed (step.Fault device) force of first values v w why = (
    why.0,
    inl (done_first cache_facts backing_facts
        (Some (deed.DeviceFault (failure.BackingWrite first (Some of) values))) v w why.1),
  )
  write_failed (step.Halted device) force of first values v w why =
      (why.0, inl (done_first cache_facts backing_facts None v w why.1))
  write_failed step.Memory force of first values v w why = absurd why

  pub barrier_failed : (e : StepError) (force : Bool) (of : LineNumber) (first : ℕ)
      (values : Values) (u v w : View cache_facts backing_facts) → force ≡ true
      → Did cache_facts backing_facts (Some (deed.BackingWrite first (Some of) values)) u v
      → HasFailed cache_facts backing_facts e (deed.DeviceFault (failure.Barrier Backing)) v w
      → NotWritten cache_facts backing_facts e force of first values u w
  barrier_failed (step.Fault device) force of first values u v w is wrote why = (
    why.0,
    inr (
      is,
      done_then cache_facts backing_facts (write of first values ∷ [])
          (Some (deed.DeviceFault (failure.Barrier Backing))) u v w
          (done_first cache_facts backing_facts (Some (write of first values)) u v wrote) why.1,
    ),
  )
  barrier_failed (step.Halted device) force of first values u v w is wrote why = (
    why.0,
    inr (
      is,
      inl (done_then cache_facts backing_facts (write of first values ∷ []) None u v w
          (done_first cache_facts backing_facts (Some (write of first values)) u v wrote) why.1),
    ),
  )
  barrier_failed step.Memory force of first values u v w is wrote why = absurd why

  made_firm : (of : LineNumber) (first : ℕ) (values : Values)
      (t u v : View cache_facts backing_facts)
      → Did cache_facts backing_facts (Some (deed.BackingWrite first (Some of) values)) t u
      → Did cache_facts backing_facts (Some deed.BackingBarrier) u v
      → HasDone cache_facts backing_facts (write of first values ∷ deed.BackingBarrier ∷ []) t v
  made_firm of first values t u v wrote firm = done_then cache_facts backing_facts
      (write of first values ∷ []) (Some deed.BackingBarrier) t u v
      (done_first cache_facts backing_facts (Some (write of first values)) t u wrote) firm

  not_told : (e : StepError) (force : Bool) (of : LineNumber) (first : ℕ) (values : Values)
      (t u v w : View cache_facts backing_facts) → force ≡ true
      → Did cache_facts backing_facts (Some (deed.BackingWrite first (Some of) values)) t u
      → Did cache_facts backing_facts (Some deed.BackingBarrier) u v → IsHalted e w.seen
      → Did cache_facts backing_facts None v w
      → NotWritten cache_facts backing_facts e force of first values t w
  not_told (step.Fault device) force of first values t u v w is wrote firm halted none =
      absurd halted
  not_told (step.Halted device) force of first values t u v w is wrote firm halted none = (
    halted,
    inr (
      is,
      inr (done_then cache_facts backing_facts
          (write of first values ∷ deed.BackingBarrier ∷ []) None t v w
          (made_firm of first values t u v wrote firm) none),
    ),
  )
  not_told step.Memory force of first values t u v w is wrote firm halted none = absurd halted

  pub durable_stopped : {A : Type 0} (r : Result A StepError) (force : Bool) (of : LineNumber)
      (first : ℕ) (values : Values) (t u v w : View cache_facts backing_facts) → force ≡ true
      → Did cache_facts backing_facts (Some (deed.BackingWrite first (Some of) values)) t u
      → Did cache_facts backing_facts (Some deed.BackingBarrier) u v
      → IfErr r (λ e. IsHalted e w.seen) → OnErr r (Did cache_facts backing_facts None v w)
      → IfErr r (λ e. NotWritten cache_facts backing_facts e force of first values t w)
  durable_stopped (Ok x) force of first values t u v w is wrote firm halted none = tt
  durable_stopped (Err e) force of first values t u v w is wrote firm halted none =
      not_told e force of first values t u v w is wrote firm halted none

  -- ---- done

  pub written_done : (force : Bool) (of : LineNumber) (first : ℕ) (values : Values)
      (v w : View cache_facts backing_facts) → force ≡ false
      → Did cache_facts backing_facts (Some (deed.BackingWrite first (Some of) values)) v w
      → HasDone cache_facts backing_facts (written force of first values) v w
  written_done force of first values v w is did = subst (λ (b : Bool).
      HasDone cache_facts backing_facts (written b of first values) v w) (sym is)
      (done_first cache_facts backing_facts (Some (write of first values)) v w did)

  forced : (of : LineNumber) (first count : ℕ) (values : Values)
      (t u v w : View cache_facts backing_facts) → count ≡ length values
      → Did cache_facts backing_facts (Some (deed.BackingWrite first (Some of) values)) t u
      → Did cache_facts backing_facts (Some deed.BackingBarrier) u v
      → Did cache_facts backing_facts (Some (deed.Durable of first count)) v w
      → HasDone cache_facts backing_facts (written true of first values) t w
  forced of first count values t u v w is wrote firm told = subst (λ n.
      HasDone cache_facts backing_facts
      (write of first values ∷ deed.BackingBarrier ∷ deed.Durable of first n ∷ []) t w) is
      (done_then cache_facts backing_facts (write of first values ∷ deed.BackingBarrier ∷ [])
      (Some (deed.Durable of first count)) t v w (made_firm of first values t u v wrote firm) told)

  pub forced_done : (force : Bool) (of : LineNumber) (first count : ℕ) (values : Values)
      (t u v w : View cache_facts backing_facts) → force ≡ true → count ≡ length values
      → Did cache_facts backing_facts (Some (deed.BackingWrite first (Some of) values)) t u
      → Did cache_facts backing_facts (Some deed.BackingBarrier) u v
      → Did cache_facts backing_facts (Some (deed.Durable of first count)) v w
      → HasDone cache_facts backing_facts (written force of first values) t w
  forced_done force of first count values t u v w is long wrote firm told = subst (λ (b : Bool).
      HasDone cache_facts backing_facts (written b of first values) t w) (sym is)
      (forced of first count values t u v w long wrote firm told)

  -- ---- what is noted

  pub range_written : (of : LineNumber) (first : ℕ) (values : Values)
      (v w : View cache_facts backing_facts) → IsCoreSeat cache_facts backing_facts v
      → Did cache_facts backing_facts (Some (deed.BackingWrite first (Some of) values)) v w
      → (note cache_facts backing_facts w).range ≡ (note cache_facts backing_facts v).range
  range_written of first values v w seat did =
      (note_committed cache_facts backing_facts v w (write of first values) seat did.is).range

  module _ (of : LineNumber) (first : ℕ) (values : Values) (t u v : View cache_facts backing_facts)
      (one : IsCoreSeat cache_facts backing_facts t) (two : IsCoreSeat cache_facts backing_facts u)
      (wrote : Did cache_facts backing_facts (Some (deed.BackingWrite first (Some of) values)) t u)
      (firm : Did cache_facts backing_facts (Some deed.BackingBarrier) u v) where
    -- the last write, since which a barrier was made
    pub is_last : IsLast (note cache_facts backing_facts v).last of.line first (length values)
    is_last =
        let a = (note_committed cache_facts backing_facts t u (write of first values) one
        wrote.is).last in
        let b = (note_committed cache_facts backing_facts u v deed.BackingBarrier two firm.is).last
        in
        let long : (note cache_facts backing_facts v).last.count ≡ length values = b.2 ∙ a.2 in
        record {
          its_line = b.0 ∙ a.0;
          its_first = b.1 ∙ a.1;
          its_count = omega arith;
          firm = b.3 refl;
        }

    pub was_written : (note cache_facts backing_facts v).wrote ≡ true
    was_written = (note_committed cache_facts backing_facts u v deed.BackingBarrier two
        firm.is).wrote
        ∙ (note_committed cache_facts backing_facts t u (write of first values) one wrote.is).wrote

    pub range_firm : (note cache_facts backing_facts v).range
        ≡ (note cache_facts backing_facts t).range
    range_firm = (note_committed cache_facts backing_facts u v deed.BackingBarrier two
        firm.is).range
        ∙ (note_committed cache_facts backing_facts t u (write of first values) one wrote.is).range
