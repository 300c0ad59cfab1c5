-- A halt of which a seat has heard is answered before want of memory.
use Rattle.std.proofs.Common.{◌≡◌, ℕ, List, Option, Some, None, refl, sym, ◌∙◌, subst}
use Rattle.bc_append.proofs.of_bc_hand.Knowing.{View}
use Rattle.bc_append.specs.Append.{HasFailedToAppend}
use Rattle.bc_append.specs.bc_hand.declared.error.StepError.{StepError}
use Rattle.bc_append.specs.bc_hand.declared.error.StepError.TheVariants as error
use Rattle.bc_append.specs.bc_hand.declared.hand.Hand.{Hand}
use Rattle.bc_append.specs.bc_machine.declared.part.CorePart.{CorePart}
use Rattle.bc_disk.specs.Disk.{DiskFacts}
use Rattle.bc_disk.specs.declared.disk.Device.{Device}
use Rattle.bc_events.specs.declared.event.Event.{Event}
use Rattle.bc_parts.specs.Seat.{PartsView}
use Rattle.bc_turn.specs.Heard.{IsAnswerTo}
use Rattle.bc_turn.specs.Part.{HasFailed, HasWrittenSets}

-- where memory is answered, the seat has heard of no halt
pub none_heard : (e r : StepError) (o : Option Device) (es : List Event) → IsAnswerTo e o es r
    → r ≡ error.Memory → o ≡ None
none_heard (error.Fault device) r o es is memory =
    let both : error.Fault device ≡ error.Memory = sym is ∙ memory in absurd (cc)
none_heard (error.Halted device) r o es is memory =
    let both : error.Halted device ≡ error.Memory = sym is ∙ memory in absurd (cc)
none_heard error.Memory r None es is memory = refl
none_heard error.Memory r (Some device) es is memory =
    let both : error.Halted device ≡ error.Memory = sym is.0 ∙ memory in absurd (cc)

module _ {C B : Type 0} (cache_facts : C → DiskFacts) (backing_facts : B → DiskFacts) where
  -- what was refused was refused for that
  pub append_answered : (e r : StepError) (number : ℕ) (h k : Hand C B)
      (v w : View cache_facts backing_facts) → IsAnswerTo e w.heard w.seen r
      → HasFailedToAppend cache_facts backing_facts e number h k v w
      → HasFailedToAppend cache_facts backing_facts r number h k v w
  append_answered e r number h k v w is failed = go e w.heard is failed
    where
      go : (e : StepError) (o : Option Device) → IsAnswerTo e o w.seen r
          → HasFailedToAppend cache_facts backing_facts e number h k v w
          → HasFailedToAppend cache_facts backing_facts r number h k v w
      go (error.Fault device) o is failed =
          subst (λ x. HasFailedToAppend cache_facts backing_facts x number h k v w) (sym is) failed
      go (error.Halted device) o is failed =
          subst (λ x. HasFailedToAppend cache_facts backing_facts x number h k v w) (sym is) failed
      go error.Memory None is failed =
          subst (λ x. HasFailedToAppend cache_facts backing_facts x number h k v w) (sym is) failed
      go error.Memory (Some device) (is, halt) failed =
          subst (λ x. HasFailedToAppend cache_facts backing_facts x number h k v w) (sym is)
          (halt, failed.0, failed.1)

  -- there was no memory for more
  pub missed_answered : (p : PartsView (CorePart C B)) (low : ℕ) (r : StepError)
      (v w : View cache_facts backing_facts) → IsAnswerTo error.Memory w.heard w.seen r
      → HasWrittenSets cache_facts backing_facts p low v w
      → HasFailed cache_facts backing_facts p low r v w
  missed_answered p low r v w is sets = go w.heard refl is
    where
      go : (o : Option Device) → w.heard ≡ o → IsAnswerTo error.Memory o w.seen r
          → HasFailed cache_facts backing_facts p low r v w
      go None at is = subst (λ x. HasFailed cache_facts backing_facts p low x v w) (sym is)
          (at, sets)
      go (Some device) at (is, halt) =
          subst (λ x. HasFailed cache_facts backing_facts p low x v w) (sym is) (halt, sets)
