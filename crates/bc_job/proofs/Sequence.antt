-- The deeds under a claim, one behind the other.
use Rattle.std.proofs.Common.{◌≡◌, ◌⊎◌, inl, inr, ℕ, ◌+◌, ◌≤◌, Bool, true, false, List, [], ◌∷◌, ◌++◌, Some, None, refl, sym, ap, ◌∙◌, subst, arith}
use Rattle.std.specs.Prelude.{length, if◌then◌else◌}
use Rattle.bc_model.specs.Sector.{Value}
use Rattle.bc_disk.specs.Disk.{DiskFacts}
use Rattle.bc_disk.specs.declared.disk.Device.{Device}
use Rattle.bc_disk.specs.declared.disk.Device.TheVariants.{Backing}
use Rattle.bc_flight.specs.declared.claim.Share.{Share}
use Rattle.bc_flight.specs.declared.claim.Share.TheVariants.{Shared, Exclusive}
use Rattle.bc_events.specs.Columns.{halt_of}
use Rattle.bc_events.specs.declared.event.LineNumber.{LineNumber}
use Rattle.bc_events.specs.declared.event.Deed.{Deed}
use Rattle.bc_events.specs.declared.event.Deed.TheVariants as deed
use Rattle.bc_events.specs.declared.event.Failure.TheVariants as failure
use Rattle.bc_parts.specs.Seat.{PartsView, Run}
use Rattle.bc_events.specs.Acts.{is_exclusive}
use Rattle.bc_flight.specs.declared.claim.Claim.{Claim}
use Rattle.bc_deed.specs.bc_machine.Frame.{Range}
use Rattle.bc_deed.specs.bc_machine.World.{are_plain}
use Rattle.bc_deed.specs.bc_machine.declared.part.CorePart.{CorePart}
use Rattle.bc_deed.specs.bc_hand.Seats.{Did, IsCoreSeat, Works, empty}
use Rattle.bc_deed.specs.bc_hand.declared.error.StepError.{StepError}
use Rattle.bc_deed.specs.bc_hand.declared.error.StepError.TheVariants as step
use Rattle.bc_deed.proofs.of_bc_hand.Knowing.{View, note_committed}
use Rattle.bc_deed.specs.Asked.{HasClaimed, IsHalted}
use Rattle.bc_deed.specs.Flushed.{HasDone, HasStopped}
use Rattle.bc_deed.proofs.Sequence.{done_both, done_first, done_then}
use Rattle.bc_deed.proofs.May.{did_nothing}
use Rattle.bc_job.specs.Refusals.{refusal}
use Rattle.bc_job.specs.Deeds.{under, read_deeds, written, write_deeds, flush_deeds, HasBegunRead, ReadStop, WriteStop, FlushStop}
use Rattle.bc_job.specs.Pieces.{HasMadeClaim, MayHaveRead, ReadUnder, WriteUnder, FailedUnder, HaltedUnder}
use Rattle.bc_job.specs.Requests.{HasStoppedBy, HasNotFlushed}
use Rattle.bc_job.specs.declared.error.RequestError.{RequestError}
use Rattle.bc_job.specs.declared.error.RequestError.TheVariants as request
use Rattle.bc_job.proofs.Holding.{halted_still}
use Rattle.bc_job.proofs.Under.{claim_range, fresh_claim}
use Rattle.bc_job.specs.Asked.{IsReady}
use Rattle.bc_job.specs.declared.stock.Stock.{Stock}

module _ {C B : Type 0} (cache_facts : C → DiskFacts) (backing_facts : B → DiskFacts) where
  -- the claim, what was done under it, and its release
  pub done_under : (first count : ℕ) (share : Share) (ds : List Deed)
      (u v k a r : View cache_facts backing_facts) → HasDone cache_facts backing_facts [] u v
      → HasDone cache_facts backing_facts (deed.Claim first count share ∷ []) v k
      → HasDone cache_facts backing_facts ds k a → Did cache_facts backing_facts (Some deed.Release) a r
      → HasDone cache_facts backing_facts (under first count share ds) u r
  done_under first count share ds u v k a r room claimed did released =
      done_both cache_facts backing_facts [] (under first count share ds) u v r room
      (done_both cache_facts backing_facts (deed.Claim first count share ∷ []) (ds ++ deed.Release ∷ []) v k r claimed
      (done_then cache_facts backing_facts ds (Some deed.Release) k a r did released))

  halted_released : (a r : View cache_facts backing_facts) (d : Device)
      → Did cache_facts backing_facts (Some deed.Release) a r → halt_of a.seen ≡ Some d → halt_of r.seen ≡ Some d
  halted_released a r d released is = halted_still cache_facts backing_facts a r d released.is.grown is

  -- ---- a claim

  pub none_yet : (v : View cache_facts backing_facts) → IsCoreSeat cache_facts backing_facts v
      → HasDone cache_facts backing_facts [] v v
  none_yet v seat = done_first cache_facts backing_facts None v v (did_nothing cache_facts backing_facts v seat)

  pub still_waiting : (u v w : View cache_facts backing_facts) → HasDone cache_facts backing_facts [] u v
      → Did cache_facts backing_facts None v w → HasDone cache_facts backing_facts [] u w
  still_waiting u v w before none = done_then cache_facts backing_facts [] None u v w before none

  pub has_claimed : (done : Bool) (v w : View cache_facts backing_facts) (first count : ℕ) (how : Share)
      → done ≡ true → HasClaimed cache_facts backing_facts done first count how v w
      → Did cache_facts backing_facts (Some (deed.Claim first count how)) v w
  has_claimed true v w first count how is h = h
  has_claimed false v w first count how is h = absurd (cc)

  pub has_waited : (done : Bool) (v w : View cache_facts backing_facts) (first count : ℕ) (how : Share)
      → done ≡ false → HasClaimed cache_facts backing_facts done first count how v w
      → Did cache_facts backing_facts None v w
  has_waited true v w first count how is h = absurd (cc)
  has_waited false v w first count how is h = h.0

  pub made_claim : (c : Claim) (u v w : View cache_facts backing_facts) (first count : ℕ) (share : Share)
      → c ≡ record { seat = w.first; first = first; count = count; share = share } → 1 ≤ count
      → IsCoreSeat cache_facts backing_facts v
      → HasDone cache_facts backing_facts [] u v → v.promises ≡ u.promises → Did cache_facts backing_facts (Some (deed.Claim first count share)) v w
      → HasMadeClaim cache_facts backing_facts c first count share u w
  made_claim c u v w first count share is some seat before room did =
      let range = claim_range cache_facts backing_facts v w first count share seat did in
      let used = did.is.promises in record {
        its = record {
          its_seat = ap (λ (x : Claim). x.seat) is;
          some = subst (λ (x : Claim). 1 ≤ x.count) (sym is) some;
          range = range ∙ ap (λ (x : Claim). record {
            first = x.first;
            count = x.count;
            exclusive = is_exclusive x.share;
          }) (sym is);
        };
        range = range;
        fresh = λ plain. fresh_claim cache_facts backing_facts v w first count share seat
            (ap (λ (r : Run (CorePart C B)). are_plain cache_facts backing_facts r.start) before.same.run ∙ plain) did;
        promises = used ∙ room;
        done = done_then cache_facts backing_facts [] (Some (deed.Claim first count share)) u v w before did;
      }

  -- nothing is claimed once the claim is let go
  pub ready_released : (p : PartsView (CorePart C B)) (v w : View cache_facts backing_facts) (s : Stock C B)
      → s.hand ≡ empty → Works cache_facts backing_facts p w s.hand
      → are_plain cache_facts backing_facts p.run.start ≡ true → IsCoreSeat cache_facts backing_facts v
      → Did cache_facts backing_facts (Some deed.Release) v w → s.room + 1 ≤ v.promises
      → IsReady cache_facts backing_facts p w s
  ready_released p v w s free works plain seat did room = record {
    works = works;
    free = free;
    room = (let used = did.is.promises in omega arith);
    plain = plain;
    unclaimed = ap (λ (r : Range). r.count)
        (note_committed cache_facts backing_facts v w deed.Release seat did.is).range;
  }

  -- what an unforced write leaves of its room, and a forced one
  pub room_left : (force : Bool) (room deeds p q r : ℕ) → (if force then 5 else 3) ≤ deeds → room + deeds ≤ p
      → p ≤ q + 1 → q ≤ r + (if force then 3 else 1) → room + 1 ≤ r
  room_left true room deeds p q r is a b c = omega arith
  room_left false room deeds p q r is a b c = omega arith

  pub room_still : (force : Bool) (room deeds p q : ℕ) → (if force then 5 else 3) ≤ deeds → room + deeds ≤ p
      → p ≤ q + 1 → room ≤ q
  room_still true room deeds p q is a b = omega arith
  room_still false room deeds p q is a b = omega arith

  -- ---- before the claim

  pub read_unclaimed : (error : StepError) (first count : ℕ) (u v w : View cache_facts backing_facts)
      → HasDone cache_facts backing_facts [] u v → IsHalted error w.seen → HasDone cache_facts backing_facts [] v w
      → HasStoppedBy cache_facts backing_facts (refusal error) (ReadStop (refusal error) first count) u w
  read_unclaimed (step.Fault device) first count u v w room halted done = absurd halted
  read_unclaimed (step.Halted device) first count u v w room halted done =
      (halted, ([], inl refl, done_both cache_facts backing_facts [] [] u v w room done))
  read_unclaimed step.Memory first count u v w room halted done = absurd halted

  pub write_unclaimed : (error : StepError) (force : Bool) (of : LineNumber) (first : ℕ) (values : List Value)
      (u v w : View cache_facts backing_facts) → HasDone cache_facts backing_facts [] u v
      → IsHalted error w.seen → HasDone cache_facts backing_facts [] v w
      → HasStoppedBy cache_facts backing_facts (refusal error) (WriteStop (refusal error) force of first values) u w
  write_unclaimed (step.Fault device) force of first values u v w room halted done = absurd halted
  write_unclaimed (step.Halted device) force of first values u v w room halted done =
      (halted, ([], inl (inl refl), done_both cache_facts backing_facts [] [] u v w room done))
  write_unclaimed step.Memory force of first values u v w room halted done = absurd halted

  -- ---- under the claim

  pub answered_under : (of : LineNumber) (first count : ℕ) (values : List Value)
      (u v k a r : View cache_facts backing_facts) → HasDone cache_facts backing_facts [] u v
      → HasDone cache_facts backing_facts (deed.Claim first count Shared ∷ []) v k
      → HasDone cache_facts backing_facts (deed.BackingRead first values ∷ deed.Answer of first values ∷ []) k a
      → Did cache_facts backing_facts (Some deed.Release) a r
      → HasDone cache_facts backing_facts (read_deeds of first count values) u r
  answered_under of first count values u v k a r room claimed did released = done_under first count Shared
      (deed.BackingRead first values ∷ deed.Answer of first values ∷ []) u v k a r room claimed did released

  pub read_stopped : (error : StepError) (first count : ℕ) (u v k a r : View cache_facts backing_facts)
      → HasDone cache_facts backing_facts [] u v
      → HasDone cache_facts backing_facts (deed.Claim first count Shared ∷ []) v k
      → ReadUnder cache_facts backing_facts error first k a → Did cache_facts backing_facts (Some deed.Release) a r
      → HasStoppedBy cache_facts backing_facts (refusal error) (ReadStop (refusal error) first count) u r
  read_stopped (step.Fault device) first count u v k a r room claimed why released = (
    tt,
    (
      under first count Shared (deed.DeviceFault (failure.Read Backing) ∷ []),
      (why.0, refl),
      done_under first count Shared (deed.DeviceFault (failure.Read Backing) ∷ []) u v k a r room claimed why.1 released,
    ),
  )
  read_stopped (step.Halted device) first count u v k a r room claimed why released =
      (halted_released a r device released why.0, go why.1)
    where
      go : MayHaveRead cache_facts backing_facts first k a
          → (ds : List Deed) × HasBegunRead first count ds × HasDone cache_facts backing_facts ds u r
      go (inl none) = (under first count Shared [], inr (inl refl), done_under first count Shared [] u v k a r room claimed none released)
      go (inr some) = (
        under first count Shared (deed.BackingRead first some.0 ∷ []),
        inr (inr (some.0, refl)),
        done_under first count Shared (deed.BackingRead first some.0 ∷ []) u v k a r room claimed some.1 released,
      )
  read_stopped step.Memory first count u v k a r room claimed why released = (tt, go why)
    where
      go : MayHaveRead cache_facts backing_facts first k a
          → (ds : List Deed) × HasBegunRead first count ds × HasDone cache_facts backing_facts ds u r
      go (inl none) = (under first count Shared [], inr (inl refl), done_under first count Shared [] u v k a r room claimed none released)
      go (inr some) = (
        under first count Shared (deed.BackingRead first some.0 ∷ []),
        inr (inr (some.0, refl)),
        done_under first count Shared (deed.BackingRead first some.0 ∷ []) u v k a r room claimed some.1 released,
      )

  pub write_stopped : (error : StepError) (force : Bool) (of : LineNumber) (first : ℕ) (values : List Value)
      (u v k a r : View cache_facts backing_facts) → HasDone cache_facts backing_facts [] u v
      → HasDone cache_facts backing_facts
      (deed.Claim first (length values) Exclusive ∷ []) v k
      → WriteUnder cache_facts backing_facts error force of first values k a
      → Did cache_facts backing_facts (Some deed.Release) a r
      → HasStoppedBy cache_facts backing_facts (refusal error) (WriteStop (refusal error) force of first values) u r
  write_stopped (step.Fault device) force of first values u v k a r room claimed why released = (tt, go why.1)
    where
      go : FailedUnder cache_facts backing_facts force of first values k a
          → (ds : List Deed) × WriteStop (request.Fault device) force of first values ds
          × HasDone cache_facts backing_facts ds u r
      go (inl tried) = (
        under first (length values) Exclusive (deed.DeviceFault (failure.BackingWrite first (Some of) values) ∷ []),
        (why.0, inl refl),
        done_under first (length values) Exclusive (deed.DeviceFault (failure.BackingWrite first (Some of) values) ∷ []) u v k a r room claimed tried released,
      )
      go (inr wrote) = (
        under first (length values) Exclusive (deed.BackingWrite first (Some of) values ∷ deed.DeviceFault (failure.Barrier Backing) ∷ []),
        (why.0, inr (wrote.0, refl)),
        done_under first (length values) Exclusive (deed.BackingWrite first (Some of) values ∷ deed.DeviceFault (failure.Barrier Backing) ∷ []) u v k a r room claimed wrote.1 released,
      )
  write_stopped (step.Halted device) force of first values u v k a r room claimed why released =
      (halted_released a r device released why.0, go why.1)
    where
      go : HaltedUnder cache_facts backing_facts force of first values k a
          → (ds : List Deed) × WriteStop (request.Halted device) force of first values ds
          × HasDone cache_facts backing_facts ds u r
      go (inl none) = (
        under first (length values) Exclusive [],
        inl (inr refl),
        done_under first (length values) Exclusive [] u v k a r room claimed none released,
      )
      go (inr (is, inl wrote)) = (
        under first (length values) Exclusive (deed.BackingWrite first (Some of) values ∷ []),
        inr (is, inl refl),
        done_under first (length values) Exclusive (deed.BackingWrite first (Some of) values ∷ []) u v k a r room claimed wrote released,
      )
      go (inr (is, inr firm)) = (
        under first (length values) Exclusive (deed.BackingWrite first (Some of) values ∷ deed.BackingBarrier ∷ []),
        inr (is, inr refl),
        done_under first (length values) Exclusive (deed.BackingWrite first (Some of) values ∷ deed.BackingBarrier ∷ []) u v k a r room claimed firm released,
      )
  write_stopped step.Memory force of first values u v k a r room claimed why released =
      (tt, (under first (length values) Exclusive [], inr refl, done_under first (length values) Exclusive [] u v k a r room claimed why released))

  claim_of : (first n m : ℕ) (v k : View cache_facts backing_facts) → n ≡ m
      → HasDone cache_facts backing_facts (deed.Claim first n Exclusive ∷ []) v k
      → HasDone cache_facts backing_facts (deed.Claim first m Exclusive ∷ []) v k
  claim_of first n m v k is = subst (λ j. HasDone cache_facts backing_facts (deed.Claim first j Exclusive ∷ []) v k) is

  pub written_under : (force : Bool) (of : LineNumber) (first count : ℕ) (values : List Value)
      (u v k a r : View cache_facts backing_facts) → count ≡ length values
      → HasDone cache_facts backing_facts [] u v
      → HasDone cache_facts backing_facts (deed.Claim first count Exclusive ∷ []) v k
      → HasDone cache_facts backing_facts (written force of first values) k a
      → Did cache_facts backing_facts (Some deed.Release) a r
      → HasDone cache_facts backing_facts (write_deeds force of first values) u r
  written_under force of first count values u v k a r long room claimed did released =
      done_under first (length values) Exclusive (written force of first values) u v k a r room
      (claim_of first count (length values) v k long claimed) did released

  pub write_stopped_for : (error : StepError) (force : Bool) (of : LineNumber) (first count : ℕ) (values : List Value)
      (u v k a r : View cache_facts backing_facts) → count ≡ length values
      → HasDone cache_facts backing_facts [] u v
      → HasDone cache_facts backing_facts (deed.Claim first count Exclusive ∷ []) v k
      → WriteUnder cache_facts backing_facts error force of first values k a
      → Did cache_facts backing_facts (Some deed.Release) a r
      → HasStoppedBy cache_facts backing_facts (refusal error) (WriteStop (refusal error) force of first values) u r
  write_stopped_for error force of first count values u v k a r long room claimed why released =
      write_stopped error force of first values u v k a r room
      (claim_of first count (length values) v k long claimed) why released

  -- ---- flushes

  pub flush_stopped : (error : StepError) (of : LineNumber) (u v w : View cache_facts backing_facts)
      → HasDone cache_facts backing_facts [] u v → HasStopped cache_facts backing_facts error of v w
      → HasNotFlushed cache_facts backing_facts (refusal error) of u w
  flush_stopped (step.Fault device) of u v w room why = (
    tt,
    (
      deed.FlushFrom of ∷ deed.DeviceFault (failure.Barrier Backing) ∷ [],
      (why.0, refl),
      done_both cache_facts
          backing_facts [] (deed.FlushFrom of ∷ deed.DeviceFault (failure.Barrier Backing) ∷ []) u v w room why.1,
    ),
  )
  flush_stopped (step.Halted device) of u v w room why = (why.0, go why.1)
    where
      go : HasDone cache_facts backing_facts [] v w
          ⊎ (HasDone cache_facts backing_facts (deed.FlushFrom of ∷ []) v w
          ⊎ HasDone cache_facts backing_facts (deed.FlushFrom of ∷ deed.BackingBarrier ∷ []) v w)
          → (ds : List Deed) × FlushStop (request.Halted device) of ds × HasDone cache_facts backing_facts ds u w
      go (inl none) = ([], inl refl, done_both cache_facts backing_facts [] [] u v w room none)
      go (inr (inl one)) = (deed.FlushFrom of ∷ [], inr (inl refl), done_both cache_facts backing_facts [] (deed.FlushFrom of ∷ []) u v w room one)
      go (inr (inr two)) = (
        deed.FlushFrom of ∷ deed.BackingBarrier ∷ [],
        inr (inr refl),
        done_both cache_facts backing_facts [] (deed.FlushFrom of ∷ deed.BackingBarrier ∷ []) u v w room two,
      )
  flush_stopped step.Memory of u v w room why = absurd why

  -- the same refusals in the words of the request
  pub flush_in_words : (why : RequestError) (error : StepError) (of line : LineNumber) (u v w : View cache_facts backing_facts)
      → why ≡ refusal error → of ≡ line → HasDone cache_facts backing_facts [] u v
      → HasStopped cache_facts backing_facts error of v w → HasNotFlushed cache_facts backing_facts why line u w
  flush_in_words why error of line u v w is same room stopped = subst (λ (e : RequestError).
      HasNotFlushed cache_facts backing_facts e line u w) (sym is)
      (subst (λ (l : LineNumber). HasNotFlushed cache_facts backing_facts (refusal error) l u w) same
      (flush_stopped error of u v w room stopped))

  pub flushed_for : (of line : LineNumber) (u v w : View cache_facts backing_facts) → of ≡ line
      → HasDone cache_facts backing_facts [] u v → HasDone cache_facts backing_facts (flush_deeds of) v w
      → HasDone cache_facts backing_facts (flush_deeds line) u w
  flushed_for of line u v w same room done = subst (λ (l : LineNumber).
      HasDone cache_facts backing_facts (flush_deeds l) u w) same
      (done_both cache_facts backing_facts [] (flush_deeds of) u v w room done)
