-- A halt of which a seat has heard is answered before want of memory.
use Rattle.std.proofs.Common.{◌≡◌, inl, inr, ℕ, List, [], Option, Some, None, refl, sym, ◌∙◌, subst}
use Rattle.bc_disk.specs.Disk.{DiskFacts}
use Rattle.bc_disk.specs.declared.disk.Device.{Device}
use Rattle.bc_entry.specs.Put.{HasCut, IsCause, IsCut}
use Rattle.bc_events.specs.Columns.{halt_of}
use Rattle.bc_events.specs.declared.event.Deed.{Deed}
use Rattle.bc_events.specs.declared.event.Event.{Event}
use Rattle.bc_flush.proofs.of_bc_hand.Knowing.{View}
use Rattle.bc_flush.specs.Refusals.{refusal}
use Rattle.bc_flush.specs.Sync.{HasNotSynced, StoodBehind}
use Rattle.bc_flush.specs.bc_deed.Flushed.{HasDone}
use Rattle.bc_flush.specs.bc_hand.declared.error.StepError.{StepError}
use Rattle.bc_flush.specs.bc_hand.declared.error.StepError.TheVariants as step
use Rattle.bc_flush.specs.declared.error.FlushError.{FlushError}
use Rattle.bc_flush.specs.declared.error.FlushError.TheVariants as flush
use Rattle.bc_journal.specs.Journal.{Journal}
use Rattle.bc_turn.specs.Heard.{IsAnswerTo}
use Rattle.bc_turned.specs.Turned.{IsRefusalFor}

-- where memory is answered, the seat has heard of no halt
pub none_told : (e r : FlushError) (o : Option Device) (es : List Event) → IsRefusalFor e o es r
    → r ≡ flush.Memory → o ≡ None
none_told (flush.Fault device) r o es is memory =
    let both : flush.Fault device ≡ flush.Memory = sym is ∙ memory in absurd (cc)
none_told (flush.Halted device) r o es is memory =
    let both : flush.Halted device ≡ flush.Memory = sym is ∙ memory in absurd (cc)
none_told flush.Outside r o es is memory =
    let both : flush.Outside ≡ flush.Memory = sym is ∙ memory in absurd (cc)
none_told flush.Memory r None es is memory = refl
none_told flush.Memory r (Some device) es is memory =
    let both : flush.Halted device ≡ flush.Memory = sym is.0 ∙ memory in absurd (cc)

-- a refusal is want of memory where the step's is
pub refused_memory : (e : StepError) → refusal e ≡ flush.Memory → e ≡ step.Memory
refused_memory (step.Fault device) is = absurd (cc)
refused_memory (step.Halted device) is = absurd (cc)
refused_memory step.Memory is = refl

module _ {C B : Type 0} (cache_facts : C → DiskFacts) (backing_facts : B → DiskFacts) where
  -- ---- an entry

  memory_cut : (j : Journal) (device : Device) (v w : View cache_facts backing_facts)
      → HasCut cache_facts backing_facts step.Memory j v w
      → HasCut cache_facts backing_facts (step.Halted device) j v w
  memory_cut j device v w h = record { deeds = h.deeds; cut = go h.cut; done = h.done }
    where
      go : IsCut step.Memory j h.deeds → IsCut (step.Halted device) j h.deeds
      go (inl none) = inl none
      go (inr cut) = absurd cut.cut

  -- it came as far as it came, for that
  pub cut_answered : (e r : StepError) (j : Journal) (v w : View cache_facts backing_facts)
      → IsAnswerTo e w.heard w.seen r → HasCut cache_facts backing_facts e j v w
      → HasCut cache_facts backing_facts r j v w
  cut_answered e r j v w is cut = go e w.heard is cut
    where
      go : (e : StepError) (o : Option Device) → IsAnswerTo e o w.seen r
          → HasCut cache_facts backing_facts e j v w → HasCut cache_facts backing_facts r j v w
      go (step.Fault device) o is h =
          subst (λ x. HasCut cache_facts backing_facts x j v w) (sym is) h
      go (step.Halted device) o is h =
          subst (λ x. HasCut cache_facts backing_facts x j v w) (sym is) h
      go step.Memory None is h = subst (λ x. HasCut cache_facts backing_facts x j v w) (sym is) h
      go step.Memory (Some device) (is, halt) h =
          subst (λ x. HasCut cache_facts backing_facts x j v w) (sym is)
          (memory_cut j device v w h)

  pub cause_answered : (e r : StepError) (w : View cache_facts backing_facts)
      → IsAnswerTo e w.heard w.seen r → IsCause e w.seen → IsCause r w.seen
  cause_answered e r w is cause = go e w.heard is cause
    where
      go : (e : StepError) (o : Option Device) → IsAnswerTo e o w.seen r → IsCause e w.seen
          → IsCause r w.seen
      go (step.Fault device) o is h = subst (λ x. IsCause x w.seen) (sym is) h
      go (step.Halted device) o is h = subst (λ x. IsCause x w.seen) (sym is) h
      go step.Memory None is h = subst (λ x. IsCause x w.seen) (sym is) h
      go step.Memory (Some device) (is, halt) h = subst (λ x. IsCause x w.seen) (sym is) halt

  -- ---- the keys that wait

  memory_stays : (sectors : ℕ) (device : Device) (j : Journal) (v w : View cache_facts backing_facts)
      → StoodBehind cache_facts backing_facts v j → halt_of w.seen ≡ Some device
      → HasNotSynced cache_facts backing_facts sectors flush.Memory v w
      → HasNotSynced cache_facts backing_facts sectors (flush.Halted device) v w
  memory_stays sectors device j v w stood halt h = record {
    deeds = [];
    cut = (j, inl (tt, refl));
    stood = stood;
    halt = halt;
    done = subst (λ (ds : List Deed). HasDone cache_facts backing_facts ds v w) h.cut h.done;
  }

  pub refused_answered : (sectors : ℕ) (e r : FlushError) (j : Journal)
      (v w : View cache_facts backing_facts) → StoodBehind cache_facts backing_facts v j
      → IsRefusalFor e w.heard w.seen r
      → HasNotSynced cache_facts backing_facts sectors e v w
      → HasNotSynced cache_facts backing_facts sectors r v w
  refused_answered sectors e r j v w stood is h = go e w.heard is h
    where
      go : (e : FlushError) (o : Option Device) → IsRefusalFor e o w.seen r
          → HasNotSynced cache_facts backing_facts sectors e v w
          → HasNotSynced cache_facts backing_facts sectors r v w
      go (flush.Fault device) o is h =
          subst (λ x. HasNotSynced cache_facts backing_facts sectors x v w) (sym is) h
      go (flush.Halted device) o is h =
          subst (λ x. HasNotSynced cache_facts backing_facts sectors x v w) (sym is) h
      go flush.Outside o is h =
          subst (λ x. HasNotSynced cache_facts backing_facts sectors x v w) (sym is) h
      go flush.Memory None is h =
          subst (λ x. HasNotSynced cache_facts backing_facts sectors x v w) (sym is) h
      go flush.Memory (Some device) (is, halt) h =
          subst (λ x. HasNotSynced cache_facts backing_facts sectors x v w) (sym is)
          (memory_stays sectors device j v w stood halt h)
