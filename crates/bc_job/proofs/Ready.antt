-- A seat with a stock, and one without.
use Rattle.std.proofs.Common.{◌≡◌, ℕ, ◌+◌, ◌≤◌, Some, None, refl, sym, ap, ◌∙◌, subst, arith}
use Rattle.std.specs.Prelude.{Result, Ok, Err, OnOk, OnErr}
use Rattle.bc_disk.specs.Disk.{DiskFacts}
use Rattle.bc_parts.specs.Seat.{PartsView}
use Rattle.bc_deed.specs.bc_machine.Frame.{Range}
use Rattle.bc_deed.specs.bc_machine.Note.{IsFirmer}
use Rattle.bc_deed.specs.bc_machine.declared.part.CorePart.{CorePart}
use Rattle.bc_deed.specs.bc_hand.declared.hand.Hand.{Hand}
use Rattle.bc_events.specs.declared.event.Deed.{Deed}
use Rattle.bc_deed.specs.bc_hand.declared.error.StepError.{StepError}
use Rattle.bc_deed.specs.bc_hand.declared.error.StepError.TheVariants as step
use Rattle.bc_deed.specs.bc_hand.Seats.{Did, Works, empty, note}
use Rattle.bc_deed.proofs.of_bc_hand.Knowing.{View}
use Rattle.bc_deed.specs.Asked.{HasFailed}
use Rattle.bc_job.specs.Asked.{IsIdle, IsReady}
use Rattle.bc_job.specs.declared.stock.Stock.{Stock}
use Rattle.bc_job.proofs.Holding.{works_empty}

-- room that was asked for was found, or is as it was
pub no_less : {T E : Type 0} (r : Result T E) (n p q room : ℕ) → OnOk r (q ≡ p + n) → OnErr r (q ≡ p) → room ≤ p
    → room ≤ q
no_less (Ok x) n p q room ok err low = omega arith
no_less (Err e) n p q room ok err low = omega arith

module _ {C B : Type 0} (cache_facts : C → DiskFacts) (backing_facts : B → DiskFacts) where
  -- an empty stock is one of any seat that holds nothing
  pub ready_begin : (p : PartsView (CorePart C B)) (v : View cache_facts backing_facts) (s : Stock C B)
      → s.hand ≡ empty → s.room ≡ 0 → IsIdle cache_facts backing_facts p v
      → IsReady cache_facts backing_facts p v s
  ready_begin p v s free none idle = record {
    works = subst (λ (h : Hand C B). Works cache_facts backing_facts p v h) (sym free) idle.works;
    free = free;
    room = omega arith;
    plain = idle.plain;
    unclaimed = idle.unclaimed;
  }

  -- one of which some room was taken
  pub ready_less : (p : PartsView (CorePart C B)) (v : View cache_facts backing_facts) (s : Stock C B) (n : ℕ)
      → IsReady cache_facts backing_facts p v s → n ≤ s.room
      → IsReady cache_facts backing_facts p v (record s { room = n })
  ready_less p v s n ready less = record {
    works = ready.works;
    free = ready.free;
    room = (let room = ready.room in omega arith);
    plain = ready.plain;
    unclaimed = ready.unclaimed;
  }

  -- one of a seat that asked for room
  pub ready_more : (p : PartsView (CorePart C B)) (v w : View cache_facts backing_facts) (s : Stock C B) (h : Hand C B)
      (n : ℕ) → IsReady cache_facts backing_facts p v s → Works cache_facts backing_facts p w h → h ≡ s.hand
      → IsFirmer (note cache_facts backing_facts v) (note cache_facts backing_facts w) → n ≤ w.promises
      → IsReady cache_facts backing_facts p w (record { hand = h; room = n })
  ready_more p v w s h n ready works same firm room = record {
    works = works;
    free = same ∙ ready.free;
    room = room;
    plain = ready.plain;
    unclaimed = ap (λ (r : Range). r.count) firm.range ∙ ready.unclaimed;
  }

  pub idle_of : (p : PartsView (CorePart C B)) (v : View cache_facts backing_facts) (s : Stock C B)
      → IsReady cache_facts backing_facts p v s → IsIdle cache_facts backing_facts p v
  idle_of p v s ready = record {
    works = works_empty cache_facts backing_facts p v s.hand ready.free ready.works;
    plain = ready.plain;
    unclaimed = ready.unclaimed;
  }

  -- what a step leaves of its room: a call that may fail, and the last step of a sequence
  pub left_failed : (error : StepError) (d : Deed) (v w : View cache_facts backing_facts)
      → HasFailed cache_facts backing_facts error d v w → v.promises ≤ w.promises + 1
  left_failed (step.Fault device) d v w why = let used = why.1.is.promises in omega arith
  left_failed (step.Halted device) d v w why = let waited = why.1.is.promises in omega arith
  left_failed step.Memory d v w why = absurd why

  pub left_either : {A : Type 0} (r : Result A StepError) (d : Deed) (v w : View cache_facts backing_facts)
      → OnOk r (Did cache_facts backing_facts (Some d) v w) → OnErr r (Did cache_facts backing_facts None v w)
      → v.promises ≤ w.promises + 1
  left_either (Ok a) d v w ok err = let used = ok.is.promises in omega arith
  left_either (Err e) d v w ok err = let waited = err.is.promises in omega arith
