-- What the steps under a claim come to, and what the seat notes of them.
use Rattle.std.specs.Prelude.{Result, Ok, Err, OnErr, IfErr}
use Rattle.std.proofs.Common.{◌≡◌, inl, inr, ℕ, Bool, true, false, List, [], ◌∷◌, length, Some, None, refl, sym, ap, ◌∙◌, subst, arith}
use Rattle.bc_model.specs.Sector.{Value}
use Rattle.bc_disk.specs.Disk.{DiskFacts}
use Rattle.bc_disk.specs.declared.disk.Device.TheVariants.{Backing}
use Rattle.bc_flight.specs.declared.claim.Share.{Share}
use Rattle.bc_flight.specs.declared.claim.Share.TheVariants.{Exclusive}
use Rattle.bc_events.specs.Acts.{is_exclusive}
use Rattle.bc_events.specs.declared.event.LineNumber.{LineNumber}
use Rattle.bc_events.specs.declared.event.Deed.{Deed}
use Rattle.bc_events.specs.declared.event.Deed.TheVariants as deed
use Rattle.bc_events.specs.declared.event.Failure.TheVariants as failure
use Rattle.bc_deed.specs.bc_machine.Frame.{Range}
use Rattle.bc_deed.specs.bc_machine.World.{are_plain}
use Rattle.bc_deed.specs.bc_machine.Note.{Note, IsFirmer}
use Rattle.bc_deed.specs.bc_hand.Seats.{note, IsCoreSeat, Did}
use Rattle.bc_deed.specs.bc_hand.declared.error.StepError.{StepError}
use Rattle.bc_deed.specs.bc_hand.declared.error.StepError.TheVariants as step
use Rattle.bc_deed.proofs.of_bc_hand.Knowing.{View, note_committed}
use Rattle.bc_deed.specs.Asked.{HasFailed, HasFailedOr, IsHalted, IsHaltedOr, IsLast, IsWithin, MayWrite}
use Rattle.bc_deed.specs.Flushed.{HasDone}
use Rattle.bc_deed.proofs.Sequence.{done_first, done_then}
use Rattle.bc_deed.proofs.May.{plain_seen}
use Rattle.bc_job.specs.Deeds.{written}
use Rattle.bc_job.specs.Pieces.{IsFresh, ReadUnder, WriteUnder}

-- ---- claims

pub within_same : (r q : Range) (first n m : ℕ) → r ≡ q → n ≡ m → IsWithin q first m → IsWithin r first n
within_same r q first n m range count within = subst (λ (x : Range). IsWithin x first n) (sym range)
    (subst (λ k. IsWithin q first k) (sym count) within)

pub within_fresh : (first count : ℕ) (how : Share) (o : Note) → IsFresh first count how o
    → IsWithin o.range first count
within_fresh first count how o fresh = subst (λ (r : Range). IsWithin r first count) (sym fresh.range)
    (omega arith, omega arith)

pub may_write_fresh : (first count : ℕ) (o : Note) → IsFresh first count Exclusive o → MayWrite o first count
may_write_fresh first count o fresh = record {
  exclusive = ap (λ (r : Range). r.exclusive) fresh.range;
  first_write = fresh.wrote;
  covered = within_fresh first count Exclusive o fresh;
}

pub last_of : (x : Rattle.bc_deed.specs.bc_machine.Note.LastWrite) (line first n m : ℕ) → n ≡ m → IsLast x line first m
    → IsLast x line first n
last_of x line first n m is h = subst (λ k. IsLast x line first k) (sym is) h

module _ {C B : Type 0} (cache_facts : C → DiskFacts) (backing_facts : B → DiskFacts) where
  pub claim_range : (v w : View cache_facts backing_facts) (first count : ℕ) (share : Share)
      → IsCoreSeat cache_facts backing_facts v
      → Did cache_facts backing_facts (Some (deed.Claim first count share)) v w
      → (note cache_facts backing_facts w).range
      ≡ record { first = first; count = count; exclusive = is_exclusive share }
  claim_range v w first count share seat did =
      (note_committed cache_facts backing_facts v w (deed.Claim first count share) seat did.is).range

  pub fresh_claim : (v w : View cache_facts backing_facts) (first count : ℕ) (share : Share)
      → IsCoreSeat cache_facts backing_facts v
      → are_plain cache_facts backing_facts v.run.start ≡ true
      → Did cache_facts backing_facts (Some (deed.Claim first count share)) v w
      → IsFresh first count share (note cache_facts backing_facts w)
  fresh_claim v w first count share seat plain did =
      let firm = note_committed cache_facts backing_facts v w (deed.Claim first count share) seat did.is in record {
        range = firm.range;
        wrote = firm.wrote;
        looked = firm.looked ∙ plain_seen cache_facts backing_facts v ∙ plain;
      }

  -- ---- reading

  pub read_failed : (error : StepError) (first : ℕ) (v w : View cache_facts backing_facts)
      → HasFailedOr cache_facts backing_facts error (deed.DeviceFault (failure.Read Backing)) v w
      → ReadUnder cache_facts backing_facts error first v w
  read_failed (step.Fault device) first v w why =
      (why.0, done_first cache_facts backing_facts (Some (deed.DeviceFault (failure.Read Backing))) v w why.1)
  read_failed (step.Halted device) first v w why =
      (why.0, inl (done_first cache_facts backing_facts None v w why.1))
  read_failed step.Memory first v w why = inl (done_first cache_facts backing_facts None v w why)

  pub read_only : (error : StepError) (first : ℕ) (values : List Value) (u v w : View cache_facts backing_facts)
      → Did cache_facts backing_facts (Some (deed.BackingRead first values)) u v → IsHaltedOr error w.seen
      → Did cache_facts backing_facts None v w → ReadUnder cache_facts backing_facts error first u w
  read_only (step.Fault device) first values u v w read why none = absurd why
  read_only (step.Halted device) first values u v w read why none = (
    why,
    inr (
      values,
      done_then cache_facts backing_facts (deed.BackingRead first values ∷ []) None u v w
          (done_first cache_facts backing_facts (Some (deed.BackingRead first values)) u v read) none,
    ),
  )
  read_only step.Memory first values u v w read why none = inr (
    values,
    done_then cache_facts backing_facts (deed.BackingRead first values ∷ []) None u v w
        (done_first cache_facts backing_facts (Some (deed.BackingRead first values)) u v read) none,
  )

  pub read_answered : (of : LineNumber) (first : ℕ) (values told : List Value) (u v w : View cache_facts backing_facts)
      → told ≡ values → Did cache_facts backing_facts (Some (deed.BackingRead first values)) u v
      → Did cache_facts backing_facts (Some (deed.Answer of first told)) v w
      → HasDone cache_facts backing_facts (deed.BackingRead first values ∷ deed.Answer of first values ∷ []) u w
  read_answered of first values told u v w is read answered =
      subst (λ (vs : List Value). HasDone cache_facts backing_facts
      (deed.BackingRead first values ∷ deed.Answer of first vs ∷ []) u w) is
      (done_then cache_facts backing_facts (deed.BackingRead first values ∷ []) (Some (deed.Answer of first told)) u v w
      (done_first cache_facts backing_facts (Some (deed.BackingRead first values)) u v read) answered)

  -- ---- writing

  pub write_failed : (error : StepError) (force : Bool) (of : LineNumber) (first : ℕ) (values : List Value)
      (v w : View cache_facts backing_facts)
      → HasFailedOr cache_facts backing_facts error
      (deed.DeviceFault (failure.BackingWrite first (Some of) values)) v w
      → WriteUnder cache_facts backing_facts error force of first values v w
  write_failed (step.Fault device) force of first values v w why = (
    why.0,
    inl (done_first cache_facts backing_facts
        (Some (deed.DeviceFault (failure.BackingWrite first (Some of) values))) v w why.1),
  )
  write_failed (step.Halted device) force of first values v w why =
      (why.0, inl (done_first cache_facts backing_facts None v w why.1))
  write_failed step.Memory force of first values v w why = done_first cache_facts backing_facts None v w why

  abbrev write : LineNumber → ℕ → List Value → Deed
  write of first values = deed.BackingWrite first (Some of) values

  pub barrier_failed : (error : StepError) (force : Bool) (of : LineNumber) (first : ℕ) (values : List Value)
      (u v w : View cache_facts backing_facts) → force ≡ true
      → Did cache_facts backing_facts (Some (deed.BackingWrite first (Some of) values)) u v
      → HasFailed cache_facts backing_facts error (deed.DeviceFault (failure.Barrier Backing)) v w
      → WriteUnder cache_facts backing_facts error force of first values u w
  barrier_failed (step.Fault device) force of first values u v w is wrote why = (
    why.0,
    inr (
      is,
      done_then cache_facts backing_facts (write of first values ∷ [])
          (Some (deed.DeviceFault (failure.Barrier Backing))) u v w
          (done_first cache_facts backing_facts (Some (write of first values)) u v wrote) why.1,
    ),
  )
  barrier_failed (step.Halted device) force of first values u v w is wrote why = (
    why.0,
    inr (
      is,
      inl (done_then cache_facts backing_facts (write of first values ∷ []) None u v w
          (done_first cache_facts backing_facts (Some (write of first values)) u v wrote) why.1),
    ),
  )
  barrier_failed step.Memory force of first values u v w is wrote why = absurd why

  made_firm : (of : LineNumber) (first : ℕ) (values : List Value) (t u v : View cache_facts backing_facts)
      → Did cache_facts backing_facts (Some (deed.BackingWrite first (Some of) values)) t u
      → Did cache_facts backing_facts (Some deed.BackingBarrier) u v
      → HasDone cache_facts backing_facts (write of first values ∷ deed.BackingBarrier ∷ []) t v
  made_firm of first values t u v wrote firm = done_then cache_facts backing_facts (write of first values ∷ [])
      (Some deed.BackingBarrier) t u v
      (done_first cache_facts backing_facts (Some (write of first values)) t u wrote) firm

  pub not_told : (error : StepError) (force : Bool) (of : LineNumber) (first : ℕ) (values : List Value)
      (t u v w : View cache_facts backing_facts) → force ≡ true
      → Did cache_facts backing_facts (Some (deed.BackingWrite first (Some of) values)) t u
      → Did cache_facts backing_facts (Some deed.BackingBarrier) u v → IsHalted error w.seen
      → Did cache_facts backing_facts None v w
      → WriteUnder cache_facts backing_facts error force of first values t w
  not_told (step.Fault device) force of first values t u v w is wrote firm halted none = absurd halted
  not_told (step.Halted device) force of first values t u v w is wrote firm halted none = (
    halted,
    inr (
      is,
      inr (done_then cache_facts backing_facts (write of first values ∷ deed.BackingBarrier ∷ []) None t v w
          (made_firm of first values t u v wrote firm) none),
    ),
  )
  not_told step.Memory force of first values t u v w is wrote firm halted none = absurd halted

  pub forced : (of : LineNumber) (first count : ℕ) (values : List Value) (t u v w : View cache_facts backing_facts)
      → count ≡ length values
      → Did cache_facts backing_facts (Some (deed.BackingWrite first (Some of) values)) t u
      → Did cache_facts backing_facts (Some deed.BackingBarrier) u v
      → Did cache_facts backing_facts (Some (deed.Durable of first count)) v w
      → HasDone cache_facts backing_facts (deed.BackingWrite first (Some of) values ∷ deed.BackingBarrier
      ∷ deed.Durable of first (length values) ∷ []) t w
  forced of first count values t u v w is wrote firm told = subst (λ n. HasDone cache_facts backing_facts
      (write of first values ∷ deed.BackingBarrier ∷ deed.Durable of first n ∷ []) t w) is
      (done_then cache_facts backing_facts (write of first values ∷ deed.BackingBarrier ∷ [])
      (Some (deed.Durable of first count)) t v w (made_firm of first values t u v wrote firm) told)

  -- ---- what is noted

  pub claimed_behind : (v w : View cache_facts backing_facts) (d : Deed) → IsCoreSeat cache_facts backing_facts v
      → Did cache_facts backing_facts (Some d) v w
      → Rattle.bc_deed.specs.bc_machine.Note.note_after
      (Rattle.bc_deed.specs.bc_hand.Seats.world cache_facts backing_facts v).opening.machine.flow.plain
      (note cache_facts backing_facts v) d ≡ note cache_facts backing_facts v
      → (note cache_facts backing_facts w).range ≡ (note cache_facts backing_facts v).range
  claimed_behind v w d seat did same = (note_committed cache_facts backing_facts v w d seat did.is).range
      ∙ ap (λ (o : Note). o.range) same

  -- the last write, since which a barrier was made
  pub is_last : (of : LineNumber) (first : ℕ) (values : List Value) (t u v : View cache_facts backing_facts)
      → IsCoreSeat cache_facts backing_facts t → IsCoreSeat cache_facts backing_facts u
      → Did cache_facts backing_facts (Some (deed.BackingWrite first (Some of) values)) t u
      → Did cache_facts backing_facts (Some deed.BackingBarrier) u v
      → IsLast (note cache_facts backing_facts v).last of.line first (length values)
  is_last of first values t u v one two wrote firm =
      let a = (note_committed cache_facts backing_facts t u (deed.BackingWrite first (Some of) values) one wrote.is).last in
      let b = (note_committed cache_facts backing_facts u v deed.BackingBarrier two firm.is).last in
      let long : (note cache_facts backing_facts v).last.count ≡ length values = b.2 ∙ a.2 in record {
        its_line = b.0 ∙ a.0;
        its_first = b.1 ∙ a.1;
        its_count = omega arith;
        firm = b.3 refl;
      }

  pub was_written : (of : LineNumber) (first : ℕ) (values : List Value) (t u v : View cache_facts backing_facts)
      → IsCoreSeat cache_facts backing_facts t → IsCoreSeat cache_facts backing_facts u
      → Did cache_facts backing_facts (Some (deed.BackingWrite first (Some of) values)) t u
      → Did cache_facts backing_facts (Some deed.BackingBarrier) u v
      → ((note cache_facts backing_facts v).wrote ≡ true)
      × ((note cache_facts backing_facts v).range ≡ (note cache_facts backing_facts t).range)
  was_written of first values t u v one two wrote firm =
      let a = note_committed cache_facts backing_facts t u (deed.BackingWrite first (Some of) values) one wrote.is in
      let b = note_committed cache_facts backing_facts u v deed.BackingBarrier two firm.is in
      (b.wrote ∙ a.wrote, b.range ∙ a.range)

  -- behind a read
  pub read_noted : (first : ℕ) (values : List Value) (v w : View cache_facts backing_facts)
      → IsCoreSeat cache_facts backing_facts v
      → Did cache_facts backing_facts (Some (deed.BackingRead first values)) v w
      → IsFirmer (record (note cache_facts backing_facts v) {
        read = λ s. Rattle.bc_data.specs.Seats.noted (Rattle.bc_model.specs.Sector.at_run first values s)
            ((note cache_facts backing_facts v).read s);
      }) (note cache_facts backing_facts w)
  read_noted first values v w seat did = note_committed cache_facts backing_facts v w
      (deed.BackingRead first values) seat did.is

  pub read_there : (first : ℕ) (values told : List Value) (v w : View cache_facts backing_facts)
      → IsCoreSeat cache_facts backing_facts v → told ≡ values
      → Did cache_facts backing_facts (Some (deed.BackingRead first values)) v w
      → Rattle.bc_model.specs.Sector.Gives first told (λ s y. (note cache_facts backing_facts w).read s ≡ Some y)
  read_there first values told v w seat is did = λ s y at. (read_noted first values v w seat did).read s
      ∙ ap (λ o. Rattle.bc_data.specs.Seats.noted o ((note cache_facts backing_facts v).read s))
      (ap (λ (vs : List Value). Rattle.bc_model.specs.Sector.at_run first vs s) (sym is) ∙ at)

  pub durable_stopped : {A : Type 0} (r : Result A StepError) (force : Bool) (of : LineNumber) (first : ℕ)
      (values : List Value) (t u v w : View cache_facts backing_facts) → force ≡ true
      → Did cache_facts backing_facts (Some (deed.BackingWrite first (Some of) values)) t u
      → Did cache_facts backing_facts (Some deed.BackingBarrier) u v
      → IfErr r (λ e. IsHalted e w.seen) → OnErr r (Did cache_facts backing_facts None v w)
      → IfErr r (λ e. WriteUnder cache_facts backing_facts e force of first values t w)
  durable_stopped (Ok a) force of first values t u v w is wrote firm why none = tt
  durable_stopped (Err e) force of first values t u v w is wrote firm why none =
      not_told e force of first values t u v w is wrote firm why none

  pub behind_write : (of : LineNumber) (first : ℕ) (values : List Value) (v w : View cache_facts backing_facts)
      → IsCoreSeat cache_facts backing_facts v
      → Did cache_facts backing_facts (Some (deed.BackingWrite first (Some of) values)) v w
      → (note cache_facts backing_facts w).range ≡ (note cache_facts backing_facts v).range
  behind_write of first values v w seat did = (note_committed cache_facts backing_facts v w
      (deed.BackingWrite first (Some of) values) seat did.is).range

  pub written_done : (force : Bool) (of : LineNumber) (first : ℕ) (values : List Value) (v w : View cache_facts backing_facts)
      → force ≡ false → Did cache_facts backing_facts (Some (deed.BackingWrite first (Some of) values)) v w
      → HasDone cache_facts backing_facts (written force of first values) v w
  written_done force of first values v w is did = subst (λ (b : Bool).
      HasDone cache_facts backing_facts (written b of first values) v w) (sym is)
      (done_first cache_facts backing_facts (Some (deed.BackingWrite first (Some of) values)) v w did)

  pub forced_done : (force : Bool) (of : LineNumber) (first count : ℕ) (values : List Value)
      (t u v w : View cache_facts backing_facts) → force ≡ true → count ≡ length values
      → Did cache_facts backing_facts (Some (deed.BackingWrite first (Some of) values)) t u
      → Did cache_facts backing_facts (Some deed.BackingBarrier) u v
      → Did cache_facts backing_facts (Some (deed.Durable of first count)) v w
      → HasDone cache_facts backing_facts (written force of first values) t w
  forced_done force of first count values t u v w is long wrote firm told = subst (λ (b : Bool).
      HasDone cache_facts backing_facts (written b of first values) t w) (sym is)
      (forced of first count values t u v w long wrote firm told)
