-- Steps one behind the other.
use Rattle.std.proofs.Common.{◌≡◌, inl, inr, ℕ, List, [], ◌∷◌, ◌++◌, Option, Some, None, true, refl, sym, ap, subst}
use Rattle.std.specs.Prelude.{map, Result, Ok, Err, OnErr, IfErr}
use Rattle.bc_disk.specs.Disk.{DiskFacts}
use Rattle.bc_disk.specs.declared.disk.Device.TheVariants.{Backing}
use Rattle.bc_seats.specs.Seats.{Went}
use Rattle.bc_seats.proofs.Knowing.{waited, committed, both}
use Rattle.bc_events.specs.declared.event.LineNumber.{LineNumber}
use Rattle.bc_events.specs.declared.event.Deed.{Deed}
use Rattle.bc_events.specs.declared.event.Deed.TheVariants.{FlushFrom, BackingBarrier, FlushDone, DeviceFault}
use Rattle.bc_events.specs.declared.event.Failure.TheVariants.{Barrier}
use Rattle.bc_events.specs.declared.event.Event.{Event}
use Rattle.bc_hand.specs.Seats.{by, note, IsCoreSeat, Did}
use Rattle.bc_hand.specs.declared.error.StepError.{StepError}
use Rattle.bc_hand.specs.declared.error.StepError.TheVariants as error
use Rattle.bc_hand.proofs.Knowing.{View, m, note_committed}
use Rattle.bc_deed.specs.Asked.{HasFailed, IsHalted}
use Rattle.bc_deed.specs.Flushed.{HasDone, HasStopped}

abbrev pub one_of : Option Deed → List Deed
one_of None = []
one_of (Some d) = d ∷ []

module _ {C B : Type 0} (cache_facts : C → DiskFacts) (backing_facts : B → DiskFacts) where
  -- what a step did is a way
  pub done_one : (o : Option Deed) (v w : View cache_facts backing_facts) → Did cache_facts backing_facts o v w
      → HasDone cache_facts backing_facts (one_of o) v w
  done_one None v w h = waited (m cache_facts backing_facts) v w h.is
  done_one (Some d) v w h = committed (m cache_facts backing_facts) v (by v.first d) w h.is

  pub same_first : (v w : View cache_facts backing_facts) (ds : List Deed) → HasDone cache_facts backing_facts ds v w
      → w.first ≡ v.first
  same_first v w ds h = h.same.first

  map_both : (i : ℕ) (xs ys : List Deed) → map (by i) (xs ++ ys) ≡ map (by i) xs ++ map (by i) ys
  map_both i [] ys = refl
  map_both i (x ∷ xs) ys = ap (λ l. by i x ∷ l) (map_both i xs ys)

  pub done_both : (xs ys : List Deed) (u v w : View cache_facts backing_facts)
      → HasDone cache_facts backing_facts xs u v → HasDone cache_facts backing_facts ys v w
      → HasDone cache_facts backing_facts (xs ++ ys) u w
  done_both xs ys u v w a b = subst (λ (l : List Event). Went (m cache_facts backing_facts) u l w)
      (sym (map_both u.first xs ys))
      (both (m cache_facts backing_facts) u v w (map (by u.first) xs) (map (by u.first) ys) a
      (subst (λ n. Went (m cache_facts backing_facts) v (map (by n) ys) w) a.same.first b))

  pub done_then : (xs : List Deed) (o : Option Deed) (u v w : View cache_facts backing_facts)
      → HasDone cache_facts backing_facts xs u v → Did cache_facts backing_facts o v w
      → HasDone cache_facts backing_facts (xs ++ one_of o) u w
  done_then xs o u v w a b = done_both xs (one_of o) u v w a (done_one o v w b)

  pub done_first : (o : Option Deed) (v w : View cache_facts backing_facts) → Did cache_facts backing_facts o v w
      → HasDone cache_facts backing_facts (one_of o) v w
  done_first o v w h = done_one o v w h

  -- ---- a flush

  pub begun_going : (v w : View cache_facts backing_facts) (of : LineNumber) → IsCoreSeat cache_facts backing_facts v
      → Did cache_facts backing_facts (Some (FlushFrom of)) v w
      → ((note cache_facts backing_facts w).flush.going ≡ true) × ((note cache_facts backing_facts w).flush.line ≡ of.line)
  begun_going v w of seat h = let firm = note_committed cache_facts backing_facts v w (FlushFrom of) seat h.is in
      (firm.flush.0, firm.flush.1)

  pub barrier_firm : (v w : View cache_facts backing_facts) → IsCoreSeat cache_facts backing_facts v
      → Did cache_facts backing_facts (Some BackingBarrier) v w
      → ((note cache_facts backing_facts w).flush.going ≡ (note cache_facts backing_facts v).flush.going)
      × ((note cache_facts backing_facts w).flush.line ≡ (note cache_facts backing_facts v).flush.line)
      × ((note cache_facts backing_facts w).flush.firm ≡ true)
  barrier_firm v w seat h = let firm = note_committed cache_facts backing_facts v w BackingBarrier seat h.is in
      (firm.flush.0, firm.flush.1, firm.flush.2 refl)

  pub stopped_first : (e : StepError) (of : LineNumber) (v w : View cache_facts backing_facts) → IsHalted e w.seen
      → Did cache_facts backing_facts None v w → HasStopped cache_facts backing_facts e of v w
  stopped_first (error.Fault d) of v w halted h = absurd halted
  stopped_first (error.Halted d) of v w halted h = (halted, inl (done_first None v w h))
  stopped_first error.Memory of v w halted h = absurd halted

  pub stopped_barrier : (e : StepError) (of : LineNumber) (u v w : View cache_facts backing_facts)
      → Did cache_facts backing_facts (Some (FlushFrom of)) u v
      → HasFailed cache_facts backing_facts e (DeviceFault (Barrier Backing)) v w
      → HasStopped cache_facts backing_facts e of u w
  stopped_barrier (error.Fault d) of u v w a h =
      (h.0, done_then (FlushFrom of ∷ []) (Some (DeviceFault (Barrier Backing))) u v w (done_first (Some (FlushFrom of)) u v a) h.1)
  stopped_barrier (error.Halted d) of u v w a h =
      (h.0, inr (inl (done_then (FlushFrom of ∷ []) None u v w (done_first (Some (FlushFrom of)) u v a) h.1)))
  stopped_barrier error.Memory of u v w a h = absurd h

  pub stopped_done : (e : StepError) (of : LineNumber) (t u v w : View cache_facts backing_facts)
      → Did cache_facts backing_facts (Some (FlushFrom of)) t u
      → Did cache_facts backing_facts (Some BackingBarrier) u v → IsHalted e w.seen
      → Did cache_facts backing_facts None v w → HasStopped cache_facts backing_facts e of t w
  stopped_done (error.Fault d) of t u v w a b halted h = absurd halted
  stopped_done (error.Halted d) of t u v w a b halted h = (
    halted,
    inr (inr
        (done_then (FlushFrom of ∷ BackingBarrier ∷ []) None t v w
        (done_then (FlushFrom of ∷ []) (Some BackingBarrier) t u v (done_first (Some (FlushFrom of)) t u a) b) h)),
  )
  stopped_done error.Memory of t u v w a b halted h = absurd halted

  pub stopped_end : {A : Type 0} (r : Result A StepError) (of : LineNumber)
      (t u v w : View cache_facts backing_facts)
      → Did cache_facts backing_facts (Some (FlushFrom of)) t u
      → Did cache_facts backing_facts (Some BackingBarrier) u v
      → OnErr r (Did cache_facts backing_facts None v w) → IfErr r (λ e. IsHalted e w.seen)
      → IfErr r (λ e. HasStopped cache_facts backing_facts e of t w)
  stopped_end (Ok x) of t u v w a b h halted = tt
  stopped_end (Err e) of t u v w a b h halted = stopped_done e of t u v w a b halted h

  pub flushed : (of : LineNumber) (t u v w : View cache_facts backing_facts)
      → Did cache_facts backing_facts (Some (FlushFrom of)) t u
      → Did cache_facts backing_facts (Some BackingBarrier) u v
      → Did cache_facts backing_facts (Some (FlushDone of)) v w
      → HasDone cache_facts backing_facts (FlushFrom of ∷ BackingBarrier ∷ FlushDone of ∷ []) t w
  flushed of t u v w a b h = done_then (FlushFrom of ∷ BackingBarrier ∷ []) (Some (FlushDone of)) t v w
      (done_then (FlushFrom of ∷ []) (Some BackingBarrier) t u v (done_first (Some (FlushFrom of)) t u a) b) h
