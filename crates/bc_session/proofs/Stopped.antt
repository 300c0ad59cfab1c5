-- What is left where the run of an opening wasn't started.
use Rattle.std.proofs.Common.{◌≡◌, inl, inr, List, Option, Some, None, refl, sym, ap, ◌∙◌, subst}
use Rattle.bc_started.specs.bc_begun.Begin.{Beginning}
use Rattle.bc_book.specs.declared.pass.Pass.{Pass}
use Rattle.bc_started.specs.bc_cached.declared.run.Ready.{Ready}
use Rattle.bc_disk.specs.Disk.{BothTold, DiskFacts, IsSettled}
use Rattle.bc_disk.specs.declared.geometry.Geometry.{Geometry}
use Rattle.bc_enter.specs.Next.{IsOdd}
use Rattle.bc_open.specs.bc_entered.Enter.{KeepsThePair}
use Rattle.bc_open.specs.bc_entered.Laws.{IsSameImage}
use Rattle.bc_entries.specs.Journal.{Journal as Read}
use Rattle.bc_entries.specs.Lists.{IsFit}
use Rattle.bc_started.specs.bc_entry.Put.{HasFailedBehind, HasStoppedBehind, IsCut, IsCutBehind}
use Rattle.bc_events.specs.declared.event.Deed.{Deed}
use Rattle.bc_started.specs.bc_hand.declared.error.StepError.{StepError}
use Rattle.bc_started.specs.bc_hand.declared.error.StepError.TheVariants as step
use Rattle.bc_journal.specs.Journal.{Journal}
use Rattle.bc_journal.specs.Sealed.{Sealed}
use Rattle.bc_loaded.specs.declared.loading.Loaded.{Loaded}
use Rattle.bc_started.specs.bc_machine.declared.part.BackingPart.{BackingPart}
use Rattle.bc_model.specs.Sector.{Image}
use Rattle.bc_open.specs.Left.{ChangesState, IsStill, LeavesThePair}
use Rattle.bc_open.specs.Open.{HasFailed}
use Rattle.bc_open.proofs.States.{stored_leaves, stored_settled}
use Rattle.bc_recover.specs.Read.{IsReadOf}
use Rattle.bc_replay.specs.Causes.{OfHeld}
use Rattle.bc_replay.specs.declared.error.OpenError.{OpenError}
use Rattle.bc_replay.specs.declared.held.Survey.{Survey}
use Rattle.bc_started.specs.Stop.{HasEnded, IsCauseOf, IsEarly, IsNotStarted, IsUnbegun, StopsWith}
use Rattle.bc_started.specs.declared.start.NotStarted.{NotStarted}
use Rattle.bc_started.specs.declared.start.StartError.{StartError}
use Rattle.bc_started.specs.declared.start.StartError.TheVariants as starts
use Rattle.bc_state.specs.State.{super_in}
use Rattle.bc_super.specs.Reading.{ReadsSuper}
use Rattle.bc_super.specs.Writing.{IsBackingStored, count_after}
use Rattle.bc_super.specs.declared.backing.BackingSuper.{BackingSuper}
use Rattle.bc_super.specs.declared.state.BackingState.{BackingState}
use Rattle.bc_super.specs.declared.state.BackingState.TheVariants as states
use Rattle.bc_session.specs.Open.{HasStayed, IsErrorOf, IsPartOf, IsStopOf, ready_of}
use Rattle.bc_session.specs.declared.opening.NotOpened.{NotOpened}
use Rattle.bc_session.proofs.Cut.{IsLeft, cut_left, stayed_keeps}
use Rattle.bc_session.proofs.Data.{AreOff, rested}
use Rattle.bc_session.proofs.Left.{both_left}

pub settled_self : (d : DiskFacts) → IsStill d → IsSettled d d
settled_self d still = record { sectors = refl; holds = go d.holds; leaves = still }
  where
    go : (o : Option Image) → BothTold IsSameImage o o
    go None = tt
    go (Some image) = λ s. refl

-- ---- deeds that don't call the backing device

failed_off : (s : Sealed) (ds : List Deed) → HasFailedBehind s ds → AreOff ds
failed_off s ds (inl is) = subst AreOff (sym is) (refl, tt)
failed_off s ds (inr (values, are, inl is)) = subst AreOff (sym is) (refl, (refl, tt))
failed_off s ds (inr (values, are, inr is)) = subst AreOff (sym is) (refl, (refl, (refl, tt)))

stopped_off : (s : Sealed) (ds : List Deed) → HasStoppedBehind s ds → AreOff ds
stopped_off s ds (inl is) = subst AreOff (sym is) tt
stopped_off s ds (inr (inl is)) = subst AreOff (sym is) (refl, tt)
stopped_off s ds (inr (inr (values, are, inl is))) = subst AreOff (sym is) (refl, (refl, tt))
stopped_off s ds (inr (inr (values, are, inr is))) =
    subst AreOff (sym is) (refl, (refl, (refl, tt)))

behind_off : (e : StepError) (s : Sealed) (ds : List Deed) → IsCutBehind e s ds → AreOff ds
behind_off (step.Fault d) s ds cut = failed_off s ds cut.1
behind_off (step.Halted d) s ds cut = stopped_off s ds cut
behind_off step.Memory s ds cut = absurd cut

cut_is_off : (e : StepError) (j : Journal) (ds : List Deed) → IsCut e j ds
    → AreOff ds
cut_is_off e j ds (inl none) = subst AreOff (sym none.1) tt
cut_is_off e j ds (inr at) =
    subst AreOff (sym at.is) (refl, behind_off e at.sealed at.more at.cut)

-- ---- a run that wasn't started

module _ {C B : Type 0} (cache_facts : C → DiskFacts) (backing_facts : B → DiskFacts)
    (s : Survey) (b : BackingSuper) (cache : C) (backing between : B) (loaded : Loaded)
    (part : BackingPart B) (of : IsPartOf backing_facts b between part)
    (fit : IsFit s.supers.geometry s.journal.all s.journal.entries)
    (can_go_on : ¬ (IsOdd s.journal)) (still : IsStill (cache_facts cache))
    (state : IsBackingStored (super_in states.Dirty b) (backing_facts backing)
    (backing_facts between)) (n : NotStarted C B) where
  abbrev g : Geometry
  g = s.supers.geometry

  abbrev ready : Ready C B
  ready = ready_of loaded cache part

  abbrev CausedBy : StartError → Type 0
  CausedBy starts.Odd = ⊥
  CausedBy starts.Memory = HasStayed (cache_facts cache) (cache_facts n.cache)
  CausedBy starts.Fault = HasFailed 3 (cache_facts cache) (cache_facts n.cache)

  pub record IsOver : Type 0 where
    pub keeps : KeepsThePair g s.journal (cache_facts cache) (cache_facts n.cache)
    pub cause : CausedBy n.why
    pub settled : IsSettled (backing_facts between) (backing_facts n.backing.disk)
    pub calls : (backing_facts n.backing.disk).calls ≡ (backing_facts between).calls
    pub faults : (backing_facts n.backing.disk).faults ≡ (backing_facts between).faults

  early : (why : StartError) → IsEarly s.journal why
      → HasStayed (cache_facts cache) (cache_facts n.cache) → CausedBy why
  early starts.Odd odd stayed = absurd (can_go_on odd)
  early starts.Memory cause stayed = stayed
  early starts.Fault cause stayed = absurd cause

  -- no run began
  unbegun : IsUnbegun cache_facts backing_facts g s.journal ready n → IsOver
  unbegun h =
      let d = cache_facts cache in
      let stayed : HasStayed d (cache_facts n.cache) =
      subst (λ (c : C). HasStayed d (cache_facts c)) (sym h.cache)
      (record { settled = settled_self d still; faults = refl }) in
      let disk : n.backing.disk ≡ between =
      ap (λ (p : BackingPart B). p.disk) h.backing ∙ of.disk_is in
      record {
        keeps = stayed_keeps g s.journal d (cache_facts n.cache) stayed.settled;
        cause = early n.why h.cause stayed;
        settled = subst (λ (x : B). IsSettled (backing_facts between) (backing_facts x)) (sym disk)
            (settled_self (backing_facts between) state.2.leaves);
        calls = ap (λ (x : B). (backing_facts x).calls) disk;
        faults = ap (λ (x : B). (backing_facts x).faults) disk;
      }

  module _ (pass : Pass) (h : HasEnded cache_facts backing_facts g s.journal ready n pass) where
    abbrev k : Beginning C B
    k = h.beginning

    cache_is : k.cache ≡ cache
    cache_is = h.made.cache

    disk_is : k.backing.disk ≡ between
    disk_is = ap (λ (p : BackingPart B). p.disk) h.made.backing ∙ of.disk_is

    -- with what is known of the cache device
    over_by : KeepsThePair g s.journal (cache_facts k.cache) (cache_facts n.cache) → CausedBy n.why
        → IsOver
    over_by keeps cause =
        let r = rested cache_facts backing_facts loaded.tree k n.backing h.deeds
        (cut_is_off h.error h.unsealed h.deeds h.cut) h.backing in
        record {
          keeps = subst (λ (c : C). KeepsThePair g s.journal (cache_facts c) (cache_facts n.cache))
              cache_is keeps;
          cause = cause;
          settled = subst (λ (x : B). IsSettled (backing_facts x) (backing_facts n.backing.disk))
              disk_is r.settled;
          calls = r.calls ∙ ap (λ (x : B). (backing_facts x).calls) disk_is;
          faults = r.faults ∙ ap (λ (x : B). (backing_facts x).faults) disk_is;
        }

    ended_by : (e : StepError) → IsCauseOf e n.why
        → IsLeft cache_facts backing_facts g s.journal fit loaded.tree k h.unsealed h.is_unsealed
        n.cache e → IsOver
    ended_by (step.Fault d) why left = over_by left.keeps (subst CausedBy (sym why)
        (subst (λ (c : C). HasFailed 3 (cache_facts c) (cache_facts n.cache)) cache_is left.failed))
    ended_by (step.Halted d) why left = absurd why
    ended_by step.Memory why left = over_by
        (stayed_keeps g s.journal (cache_facts k.cache) (cache_facts n.cache) left.settled)
        (subst CausedBy (sym why)
        (subst (λ (c : C). HasStayed (cache_facts c) (cache_facts n.cache)) cache_is left))

    -- a run began, and it ended
    ended : IsOver
    ended = ended_by h.error h.cause (cut_left cache_facts backing_facts g s.journal fit loaded.tree
        k h.unsealed h.is_unsealed n.cache h.error h.deeds h.cut h.cache)

  pub over : IsNotStarted cache_facts backing_facts g s.journal ready n → IsOver
  over h = go n.pass h
    where
      go : (o : Option Pass) → StopsWith cache_facts backing_facts g s.journal ready n o → IsOver
      go None h = unbegun h
      go (Some pass) h = ended pass h

  -- ---- as the opening answers it

  module _ (is : IsOver) (m : NotOpened C B) (same_cache : m.cache ≡ n.cache)
      (same_disk : m.backing ≡ n.backing.disk) where
    abbrev Stop : OpenError → Type 0
    Stop e = IsStopOf cache_facts backing_facts s b cache backing m e

    pub stop_cause : (backing_facts between).calls ≡ count_after 2 (backing_facts backing).calls
        → (backing_facts between).faults ≡ (backing_facts backing).faults
        → IsErrorOf n.why m.why → IsStopOf cache_facts backing_facts s b cache backing m m.why
    stop_cause called good error = go n.why is.cause error
      where
        calls : (backing_facts m.backing).calls ≡ count_after 2 (backing_facts backing).calls
        calls = ap (λ (x : B). (backing_facts x).calls) same_disk ∙ is.calls ∙ called

        faults : (backing_facts m.backing).faults ≡ (backing_facts backing).faults
        faults = ap (λ (x : B). (backing_facts x).faults) same_disk ∙ is.faults ∙ good

        go : (why : StartError) → CausedBy why → IsErrorOf why m.why → Stop m.why
        go starts.Odd cause error = absurd error
        go starts.Memory cause error = subst Stop (sym error) (
          subst (λ (c : C). HasStayed (cache_facts cache) (cache_facts c)) (sym same_cache) cause,
          faults,
        )
        go starts.Fault cause error = subst Stop (sym error) (
          subst (λ (c : C). HasFailed 3 (cache_facts cache) (cache_facts c)) (sym same_cache) cause,
          calls,
          faults,
        )

    pub stop_state : ChangesState (λ (x : BackingState). x ≡ states.Dirty) b (backing_facts backing)
        (backing_facts m.backing)
    stop_state = subst (λ (d : B). ChangesState (λ (x : BackingState). x ≡ states.Dirty) b
        (backing_facts backing) (backing_facts d)) (sym same_disk)
        (stored_leaves (λ (x : BackingState). x ≡ states.Dirty) b (backing_facts backing)
        (backing_facts n.backing.disk) states.Dirty refl tt (
          state.0,
          state.1,
          stored_settled state.0 (backing_facts backing) (backing_facts between)
              (backing_facts n.backing.disk) state.2 is.settled,
        ))

    pub stop_left : OfHeld (IsReadOf s) (cache_facts cache) (backing_facts backing)
        → ReadsSuper (backing_facts backing) b
        → LeavesThePair (cache_facts cache) (cache_facts m.cache) (backing_facts backing)
        (backing_facts m.backing)
    stop_left read reads = both_left (cache_facts cache) (cache_facts m.cache)
        (backing_facts backing) (backing_facts m.backing) s b
        (λ (x : BackingState). x ≡ states.Dirty) read reads
        (subst (λ (c : C). KeepsThePair g s.journal (cache_facts cache) (cache_facts c))
        (sym same_cache) is.keeps) stop_state

-- it can't be for a newest entry that is odd
pub not_for_odd : {C B : Type 0} (cache_facts : C → DiskFacts) (backing_facts : B → DiskFacts)
    (g : Geometry) (read : Read) (ready : Ready C B) (n : NotStarted C B) → ¬ (IsOdd read)
    → IsNotStarted cache_facts backing_facts g read ready n → n.why ≡ starts.Odd → ⊥
not_for_odd cache_facts backing_facts g read ready n never stopped odd = go n.pass stopped
  where
    caused : (e : StepError) → IsCauseOf e starts.Odd → ⊥
    caused (step.Fault d) is = cc
    caused (step.Halted d) is = is
    caused step.Memory is = cc

    go : (o : Option Pass) → StopsWith cache_facts backing_facts g read ready n o → ⊥
    go None h = never (subst (IsEarly read) odd h.cause)
    go (Some pass) h = caused h.error (subst (IsCauseOf h.error) odd h.cause)
