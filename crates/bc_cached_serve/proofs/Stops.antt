-- How reading is stopped, by the refusal.
use Rattle.std.proofs.Common.{◌≡◌, inl, inr, true, false, List, [], ◌∷◌, ◌++◌, Some, append_assoc, append-nil, refl, sym, ap, ◌∙◌, subst}
use Rattle.bc_serve.proofs.of_bc_deed.Sequence.{done_both}
use Rattle.bc_serve.specs.bc_deed.Flushed.{HasDone}
use Rattle.bc_disk.specs.Disk.{DiskFacts}
use Rattle.bc_disk.specs.declared.disk.Device.{Device}
use Rattle.bc_disk.specs.declared.disk.Device.TheVariants as device
use Rattle.bc_events.specs.Columns.{halt_of}
use Rattle.bc_events.specs.declared.event.Deed.{Deed}
use Rattle.bc_events.specs.declared.event.Deed.TheVariants as deed
use Rattle.bc_events.specs.declared.event.Event.{Event}
use Rattle.bc_events.specs.declared.event.Failure.TheVariants as failure
use Rattle.bc_flush.specs.bc_fetch.declared.error.LeafError.TheVariants as leaf
use Rattle.bc_serve.proofs.of_bc_hand.Knowing.{View}
use Rattle.bc_serve.specs.bc_hand.declared.error.StepError.{StepError}
use Rattle.bc_serve.specs.bc_hand.declared.error.StepError.TheVariants as step
use Rattle.bc_serve.proofs.of_bc_job.Holding.{halted_still}
use Rattle.bc_model.specs.declared.history.Entry.{Entry}
use Rattle.bc_flush.specs.bc_reader.Deeds.{HasTurned, IsHaltAt, RunStop, RunsStop, backing_fault, cache_fault}
use Rattle.bc_flush.specs.bc_reader.declared.error.ReadError.{ReadError}
use Rattle.bc_flush.specs.bc_reader.declared.error.ReadError.TheVariants as error
use Rattle.bc_flush.specs.bc_reads.declared.runs.ReadRun.{ReadRun}
use Rattle.bc_cached_serve.specs.Deeds.{is_backing}
use Rattle.bc_cached_serve.proofs.Going.{HasRead, Reads, before_run, reads_both, reads_none, runs_read, turned_run}

-- the last deed is a read of this device that failed
pub record FailsAt (which : Device) (entries : List Entry) (ds : List Deed) : Type 0 where
  pub before : List Deed
  pub reads : Reads (is_backing which) entries before
  pub is : ds ≡ before ++ deed.DeviceFault (failure.Read which) ∷ []

-- what was done, by the refusal, and that a halt was one
abbrev pub StepStops : StepError → List Event → List Entry → List Deed → Type 0
StepStops (step.Fault which) seen es ds = FailsAt which es ds
StepStops (step.Halted which) seen es ds = (halt_of seen ≡ Some which) × Reads true es ds
StepStops step.Memory seen es ds = Reads true es ds

abbrev pub ReadStops : ReadError → List Event → List Entry → List Deed → Type 0
ReadStops (error.Leaf (leaf.Step e)) seen es ds = StepStops e seen es ds
ReadStops e seen es ds = Reads false es ds

-- ---- one behind the other

fails_behind : (which : Device) (es fs : List Entry) (xs ys : List Deed) → Reads false es xs
    → FailsAt which fs ys → FailsAt which (es ++ fs) (xs ++ ys)
fails_behind which es fs xs ys a b = record {
  before = xs ++ b.before;
  reads = reads_both (is_backing which) es fs xs b.before a b.reads;
  is = ap (λ (l : List Deed). xs ++ l) b.is
      ∙ sym (append_assoc xs b.before (deed.DeviceFault (failure.Read which) ∷ []));
}

step_behind : (e : StepError) (seen : List Event) (es fs : List Entry) (xs ys : List Deed)
    → Reads false es xs → StepStops e seen fs ys → StepStops e seen (es ++ fs) (xs ++ ys)
step_behind (step.Fault which) seen es fs xs ys a b = fails_behind which es fs xs ys a b
step_behind (step.Halted which) seen es fs xs ys a b = (b.0, reads_both true es fs xs ys a b.1)
step_behind step.Memory seen es fs xs ys a b = reads_both true es fs xs ys a b

pub stops_behind : (e : ReadError) (seen : List Event) (es fs : List Entry) (xs ys : List Deed)
    → Reads false es xs → ReadStops e seen fs ys → ReadStops e seen (es ++ fs) (xs ++ ys)
stops_behind (error.Leaf (leaf.Step e)) seen es fs xs ys a b = step_behind e seen es fs xs ys a b
stops_behind (error.Leaf leaf.Busy) seen es fs xs ys a b = reads_both false es fs xs ys a b
stops_behind (error.Leaf leaf.Outside) seen es fs xs ys a b = reads_both false es fs xs ys a b
stops_behind (error.Leaf leaf.Missing) seen es fs xs ys a b = reads_both false es fs xs ys a b
stops_behind (error.Leaf (leaf.Node q n)) seen es fs xs ys a b = reads_both false es fs xs ys a b
stops_behind error.Lost seen es fs xs ys a b = reads_both false es fs xs ys a b

-- ---- runs

cache_fails : (which : Device) → which ≡ device.Cache → FailsAt which [] (cache_fault ∷ [])
cache_fails which is = subst (λ (d : Device). FailsAt d [] (cache_fault ∷ [])) (sym is)
    (record { before = []; reads = reads_none false; is = refl })

backing_fails : (which : Device) (r : ReadRun) (before : List Deed) → which ≡ device.Backing
    → HasTurned r before → FailsAt which [] (before ++ backing_fault ∷ [])
backing_fails which r before is turned =
    subst (λ (d : Device). FailsAt d [] (before ++ backing_fault ∷ [])) (sym is)
    (record { before = before; reads = before_run r before turned; is = refl })

run_stops : (e : StepError) (r : ReadRun) (seen : List Event) (ds : List Deed) → RunStop e r ds
    → IsHaltAt e seen → StepStops e seen [] ds
run_stops (step.Fault which) r seen ds (inl h) halted =
    subst (FailsAt which []) (sym h.2) (cache_fails which h.0)
run_stops (step.Fault which) r seen ds (inr h) halted =
    subst (FailsAt which []) (sym h.3) (backing_fails which r h.0 h.1 h.2)
run_stops (step.Halted which) r seen ds h halted = (halted, turned_run r ds h)
run_stops step.Memory r seen ds h halted = turned_run r ds h

pub runs_stop : (e : StepError) (rs : List ReadRun) (seen : List Event) (ds : List Deed)
    → RunsStop e rs ds → IsHaltAt e seen → StepStops e seen [] ds
runs_stop e rs seen ds h halted = subst (StepStops e seen []) (sym h.deeds)
    (step_behind e seen [] [] h.before h.last (runs_read h.served h.values h.before h.reads)
    (run_stops e h.refused seen h.last h.stop halted))

-- ---- of a seat

module _ {C B : Type 0} (cache_facts : C → DiskFacts) (backing_facts : B → DiskFacts) where
  pub record HasStoppedReading (e : ReadError) (entries : List Entry)
      (v w : View cache_facts backing_facts) : Type 0 where
    pub deeds : List Deed
    pub done : HasDone cache_facts backing_facts deeds v w
    pub stops : ReadStops e w.seen entries deeds

  pub then_stopped : (e : ReadError) (es fs : List Entry) (u v w : View cache_facts backing_facts)
      → HasRead cache_facts backing_facts false es u v → HasStoppedReading e fs v w
      → HasStoppedReading e (es ++ fs) u w
  then_stopped e es fs u v w a b = record {
    deeds = a.deeds ++ b.deeds;
    done = done_both cache_facts backing_facts a.deeds b.deeds u v w a.done b.done;
    stops = stops_behind e w.seen es fs a.deeds b.deeds a.reads b.stops;
  }

  -- what came behind it did nothing
  step_still : (e : StepError) (es : List Entry) (xs ys : List Deed)
      (v w : View cache_facts backing_facts) → HasDone cache_facts backing_facts ys v w
      → StepStops e v.seen es xs → StepStops e w.seen es xs
  step_still (step.Fault which) es xs ys v w then_done h = h
  step_still (step.Halted which) es xs ys v w then_done h =
      (halted_still cache_facts backing_facts v w which then_done.grown h.0, h.1)
  step_still step.Memory es xs ys v w then_done h = h

  pub stops_still : (e : ReadError) (es : List Entry) (xs ys : List Deed)
      (v w : View cache_facts backing_facts) → HasDone cache_facts backing_facts ys v w
      → ReadStops e v.seen es xs → ReadStops e w.seen es xs
  stops_still (error.Leaf (leaf.Step e)) es xs ys v w done h = step_still e es xs ys v w done h
  stops_still (error.Leaf leaf.Busy) es xs ys v w done h = h
  stops_still (error.Leaf leaf.Outside) es xs ys v w done h = h
  stops_still (error.Leaf leaf.Missing) es xs ys v w done h = h
  stops_still (error.Leaf (leaf.Node q n)) es xs ys v w done h = h
  stops_still error.Lost es xs ys v w done h = h

  pub stopped_still : (e : ReadError) (es : List Entry) (u v w : View cache_facts backing_facts)
      → HasStoppedReading e es u v → HasDone cache_facts backing_facts [] v w
      → HasStoppedReading e es u w
  stopped_still e es u v w h done = record {
    deeds = h.deeds;
    done = subst (λ (l : List Deed). HasDone cache_facts backing_facts l u w)
        (append-nil h.deeds)
        (done_both cache_facts backing_facts h.deeds [] u v w h.done done);
    stops = stops_still e es h.deeds [] v w done h.stops;
  }
