-- A flush, as steps one behind the other.
use Rattle.std.proofs.Common.{◌≡◌, inl, inr, ℕ, Bool, true, false, List, [], ◌∷◌, ◌++◌, Option, Some, None, refl, sym, ap, ◌∙◌, subst}
use Rattle.std.specs.Prelude.{All, Err, IfErr, Ok, OnOk, Result, Vec, fold, map}
use Rattle.std.specs.declared.alloc.Global.{Global}
use Rattle.std.proofs.lemmas.List.Elements.{All-append, All-cons, All-head, All-nil, All-same, All-tail}
use Rattle.std.proofs.lemmas.List.Sums.{fold-append}
use Rattle.bc_entry.proofs.of_bc_deed.Sequence.{barrier_firm, begun_going, done_both, done_then}
use Rattle.bc_entry.specs.bc_deed.Asked.{HasFailed, IsHalted}
use Rattle.bc_entry.specs.bc_deed.Flushed.{HasDone}
use Rattle.bc_disk.specs.Disk.{DiskFacts}
use Rattle.bc_disk.specs.declared.disk.Device.TheVariants.{Backing}
use Rattle.bc_entry.specs.Put.{HasFailedBehind, HasStoppedBehind, IsCut, IsCutBehind as IsCutEntry, IsPut, failed_barrier, lost_by, put_by, seal_by, write_by}
use Rattle.bc_entry.specs.Seal.{begun_by}
use Rattle.bc_events.specs.declared.event.Deed.{Deed}
use Rattle.bc_events.specs.declared.event.Deed.TheVariants as deed
use Rattle.bc_events.specs.declared.event.Event.{Event}
use Rattle.bc_events.specs.declared.event.Failure.TheVariants as failure
use Rattle.bc_events.specs.declared.event.LineNumber.{LineNumber}
use Rattle.bc_entry.specs.bc_hand.Seats.{Did, IsCoreSeat, Works, by, empty, note, world}
use Rattle.bc_entry.specs.bc_hand.declared.error.StepError.{StepError}
use Rattle.bc_entry.specs.bc_hand.declared.error.StepError.TheVariants as step
use Rattle.bc_entry.proofs.of_bc_hand.Knowing.{View, m}
use Rattle.bc_journal.specs.Journal.{Journal}
use Rattle.bc_journal.specs.Sealed.{Sealed}
use Rattle.bc_entry.specs.bc_machine.Frame.{Range, is_noted}
use Rattle.bc_entry.specs.bc_machine.Note.{Note, no_note, note_after, note_by}
use Rattle.bc_entry.specs.bc_machine.World.{FromEach, Origin, World, are_plain}
use Rattle.bc_entry.specs.bc_machine.declared.part.CorePart.{CorePart}
use Rattle.bc_model.specs.Sector.{Value}
use Rattle.bc_parts.specs.Seat.{PartsView, Run}
use Rattle.bc_request.specs.Asked.{IsIdle}
use Rattle.bc_seats.specs.Seats.{own_events}
use Rattle.bc_flush.specs.Flushed.{HasFlushed, HasNotEnded, HasNotFlushed, IsCutAtEnd, IsCutBefore, IsFlush, IsFlushCut}
use Rattle.bc_flush.specs.Durable.{AreDurable, HaveComeIn, IsFlushed}
use Rattle.bc_flush.specs.Refusals.{refusal}
use Rattle.bc_flush.specs.Sync.{AreSynced, HasNotSynced, HasSynced, IsSyncCut}
use Rattle.bc_flush.specs.declared.error.FlushError.{FlushError}
use Rattle.bc_flush.specs.declared.error.FlushError.TheVariants as flush
use Rattle.bc_flush.proofs.Noting.{AreStill, IsStill, all_flushed, begun_with, flushed_done, keys_at, still_noted}
use Rattle.bc_flush.proofs.Syncing.{cut_on, entry_on}

-- ---- what each of the deeds has, all of them have

module _ (P : Deed → Type 0)
    (of_seal : (low : ℕ) (bucket : Option ℕ) (rest : Vec ℕ Global)
    → P (deed.Seal low bucket rest None None))
    (of_barrier : P deed.CacheBarrier)
    (of_write : (s : Sealed) (values : List Value) → P (write_by s values)) where
  two : (c d : Deed) → P c → P d → All P (c ∷ d ∷ [])
  two c d a b = All-cons P c (d ∷ []) a (All-cons P d [] b (All-nil P))

  three : (b c d : Deed) → P b → P c → P d → All P (b ∷ c ∷ d ∷ [])
  three b c d x y z = All-cons P b (c ∷ d ∷ []) x (two c d y z)

  module _ (of_end : P deed.Sealed) where
    all_put : (j : Journal) (s : Sealed) (ds : List Deed) → IsPut j s ds → All P ds
    all_put j s ds put =
        let write = write_by s put.values in
        All-same P ds (put_by j s put.rest put.values) put.is
        (All-cons P (seal_by j s put.rest)
        (deed.CacheBarrier ∷ write ∷ deed.CacheBarrier ∷ deed.Sealed ∷ [])
        (of_seal s.entry.last_seq (begun_by j) put.rest)
        (All-cons P deed.CacheBarrier (write ∷ deed.CacheBarrier ∷ deed.Sealed ∷ []) of_barrier
        (three write deed.CacheBarrier deed.Sealed (of_write s put.values) of_barrier of_end)))

    pub all_synced : (ds : List Deed) → AreSynced ds → All P ds
    all_synced ds (inl none) = All-same P ds [] none (All-nil P)
    all_synced ds (inr entry) = all_put entry.journal entry.sealed ds entry.put

  module _ (of_lost : (s : Sealed) (values : List Value) → P (lost_by s values))
      (of_failed : P failed_barrier) where
    one : (d : Deed) → P d → All P (d ∷ [])
    one d a = All-cons P d [] a (All-nil P)

    all_failed : (s : Sealed) (ds : List Deed) → HasFailedBehind s ds → All P ds
    all_failed s ds (inl is) = All-same P ds (failed_barrier ∷ []) is (one failed_barrier of_failed)
    all_failed s ds (inr (values, are, inl is)) =
        All-same P ds (deed.CacheBarrier ∷ lost_by s values ∷ []) is
        (two deed.CacheBarrier (lost_by s values) of_barrier (of_lost s values))
    all_failed s ds (inr (values, are, inr is)) =
        All-same P ds (deed.CacheBarrier ∷ write_by s values ∷ failed_barrier ∷ []) is
        (three deed.CacheBarrier (write_by s values) failed_barrier of_barrier (of_write s values)
        of_failed)

    all_stopped : (s : Sealed) (ds : List Deed) → HasStoppedBehind s ds → All P ds
    all_stopped s ds (inl is) = All-same P ds [] is (All-nil P)
    all_stopped s ds (inr (inl is)) =
        All-same P ds (deed.CacheBarrier ∷ []) is (one deed.CacheBarrier of_barrier)
    all_stopped s ds (inr (inr (values, are, inl is))) =
        All-same P ds (deed.CacheBarrier ∷ write_by s values ∷ []) is
        (two deed.CacheBarrier (write_by s values) of_barrier (of_write s values))
    all_stopped s ds (inr (inr (values, are, inr is))) =
        All-same P ds (deed.CacheBarrier ∷ write_by s values ∷ deed.CacheBarrier ∷ []) is
        (three deed.CacheBarrier (write_by s values) deed.CacheBarrier of_barrier
        (of_write s values) of_barrier)

    all_behind : (e : StepError) (s : Sealed) (ds : List Deed) → IsCutEntry e s ds → All P ds
    all_behind (step.Fault device) s ds cut = all_failed s ds cut.1
    all_behind (step.Halted device) s ds cut = all_stopped s ds cut
    all_behind step.Memory s ds cut = absurd cut

    all_cut : (e : StepError) (j : Journal) (ds : List Deed) → IsCut e j ds → All P ds
    all_cut e j ds (inl none) = All-same P ds [] none.1 (All-nil P)
    all_cut e j ds (inr at) = All-same P ds (seal_by j at.sealed at.rest ∷ at.more) at.is
        (All-cons P (seal_by j at.sealed at.rest) at.more
        (of_seal at.sealed.entry.last_seq (begun_by j) at.rest)
        (all_behind e at.sealed at.more at.cut))

    pub all_sync_cut : (sectors : ℕ) (e : FlushError) (ds : List Deed)
        → IsSyncCut sectors e ds → All P ds
    all_sync_cut sectors (flush.Fault device) ds cut = all_cut (step.Fault device) cut.0 ds cut.1
    all_sync_cut sectors (flush.Halted device) ds cut =
        all_cut (step.Halted device) cut.0 ds cut.1
    all_sync_cut sectors flush.Memory ds none = All-same P ds [] none (All-nil P)
    all_sync_cut sectors flush.Outside ds cut = All-same P ds [] cut.0 (All-nil P)

    module _ (of_end : P deed.Sealed) (of_begin : (of : LineNumber) → P (deed.FlushFrom of))
        (of_firm : P deed.BackingBarrier) (of_done : (of : LineNumber) → P (deed.FlushDone of))
        (of_fault : P (deed.DeviceFault (failure.Barrier Backing))) where
      begun : (of : LineNumber) (entry more : List Deed) → All P entry → All P more
          → All P (deed.FlushFrom of ∷ (entry ++ more))
      begun of entry more a b = All-cons P (deed.FlushFrom of) (entry ++ more) (of_begin of)
          (All-append P entry more a b)

      pub all_flush : (of : LineNumber) (ds : List Deed) → IsFlush of ds → All P ds
      all_flush of ds is = All-same P ds
          (deed.FlushFrom of ∷ (is.entry ++ (deed.BackingBarrier ∷ deed.FlushDone of ∷ []))) is.is
          (begun of is.entry (deed.BackingBarrier ∷ deed.FlushDone of ∷ [])
          (all_synced of_end is.entry is.synced)
          (two deed.BackingBarrier (deed.FlushDone of) of_firm (of_done of)))

      all_at_end : (e : FlushError) (ds : List Deed) → IsCutAtEnd e ds → All P ds
      all_at_end (flush.Fault device) ds cut =
          All-same P ds (deed.DeviceFault (failure.Barrier Backing) ∷ []) cut.1
          (one (deed.DeviceFault (failure.Barrier Backing)) of_fault)
      all_at_end (flush.Halted device) ds (inl none) = All-same P ds [] none (All-nil P)
      all_at_end (flush.Halted device) ds (inr is) =
          All-same P ds (deed.BackingBarrier ∷ []) is (one deed.BackingBarrier of_firm)
      all_at_end flush.Memory ds none = All-same P ds [] none (All-nil P)
      all_at_end flush.Outside ds cut = absurd cut

      all_before : (e : FlushError) (ds : List Deed) → IsCutBefore e ds → All P ds
      all_before (flush.Halted device) ds none = All-same P ds [] none (All-nil P)
      all_before flush.Memory ds none = All-same P ds [] none (All-nil P)
      all_before (flush.Fault device) ds cut = absurd cut
      all_before flush.Outside ds cut = absurd cut

      pub all_flush_cut : (sectors : ℕ) (e : FlushError) (of : LineNumber) (ds : List Deed)
          → IsFlushCut sectors e of ds → All P ds
      all_flush_cut sectors e of ds (inl cut) = all_before e ds cut
      all_flush_cut sectors e of ds (inr (inl with_)) = All-same P ds
          (deed.FlushFrom of ∷ with_.more) with_.is
          (All-cons P (deed.FlushFrom of) with_.more (of_begin of)
          (all_sync_cut sectors e with_.more with_.cut))
      all_flush_cut sectors e of ds (inr (inr behind)) = All-same P ds
          (deed.FlushFrom of ∷ (behind.entry ++ behind.more)) behind.is
          (begun of behind.entry behind.more (all_synced of_end behind.entry behind.synced)
          (all_at_end e behind.more behind.cut))

-- ---- what is noted

-- nothing is noted by it
abbrev pub IsUnnoted : Deed → Type 0
IsUnnoted d = (plain : Bool) (o : Note) → note_after plain o d ≡ o

-- the claim stays
abbrev pub KeepsRange : Deed → Type 0
KeepsRange d = (plain : Bool) (o : Note) → (note_after plain o d).range ≡ o.range

pub synced_unnoted : (ds : List Deed) → AreSynced ds → All IsUnnoted ds
synced_unnoted = all_synced IsUnnoted (λ low bucket rest plain o. refl) (λ plain o. refl)
    (λ s values plain o. refl) (λ plain o. refl)

pub synced_off : (ds : List Deed) → AreSynced ds
    → All (λ d. is_noted d ≡ false) ds
synced_off = all_synced (λ d. is_noted d ≡ false) (λ low bucket rest. refl) refl
    (λ s values. refl) refl

abbrev noted : Bool → ℕ → Note → List Deed → Note
noted plain i o ds = fold (λ x (e : Event). note_after plain x e.deed) o (map (by i) ds)

none_noted : (plain : Bool) (i : ℕ) (o : Note) (ds : List Deed) → All IsUnnoted ds
    → noted plain i o ds ≡ o
none_noted plain i o [] all = refl
none_noted plain i o (d ∷ ds) all = none_noted plain i (note_after plain o d) ds
    (All-tail IsUnnoted d ds all) ∙ All-head IsUnnoted d ds all plain o

range_noted : (plain : Bool) (i : ℕ) (o : Note) (ds : List Deed) → All KeepsRange ds
    → (noted plain i o ds).range ≡ o.range
range_noted plain i o [] all = refl
range_noted plain i o (d ∷ ds) all = range_noted plain i (note_after plain o d) ds
    (All-tail KeepsRange d ds all) ∙ All-head KeepsRange d ds all plain o

module _ {C B : Type 0} (cache_facts : C → DiskFacts) (backing_facts : B → DiskFacts) where
  abbrev seen : View cache_facts backing_facts → World
  seen v = world cache_facts backing_facts v

  abbrev Done : List Deed → View cache_facts backing_facts → View cache_facts backing_facts → Type 0
  Done ds v w = HasDone cache_facts backing_facts ds v w

  note_done : (ds : List Deed) (v w : View cache_facts backing_facts) → Done ds v w
      → note cache_facts backing_facts w
      ≡ noted (are_plain cache_facts backing_facts v.run.start) v.first
      (note cache_facts backing_facts v) ds
  note_done ds v w h = ap (λ b. note_by b (own_events (m cache_facts backing_facts) w))
      (ap (λ (r : Run (CorePart C B)). are_plain cache_facts backing_facts r.start) h.same.run)
      ∙ ap (λ es. note_by (are_plain cache_facts backing_facts v.run.start) es) h.own
      ∙ fold-append (λ o (e : Event). note_after (are_plain cache_facts backing_facts v.run.start)
      o e.deed) no_note (own_events (m cache_facts backing_facts) v) (map (by v.first) ds)

  pub note_still : (ds : List Deed) (v w : View cache_facts backing_facts) → Done ds v w
      → All IsUnnoted ds → note cache_facts backing_facts w ≡ note cache_facts backing_facts v
  note_still ds v w h all = note_done ds v w h
      ∙ none_noted (are_plain cache_facts backing_facts v.run.start) v.first
      (note cache_facts backing_facts v) ds all

  range_still : (ds : List Deed) (v w : View cache_facts backing_facts) → Done ds v w
      → All KeepsRange ds
      → (note cache_facts backing_facts w).range ≡ (note cache_facts backing_facts v).range
  range_still ds v w h all = ap (λ (o : Note). o.range) (note_done ds v w h)
      ∙ range_noted (are_plain cache_facts backing_facts v.run.start) v.first
      (note cache_facts backing_facts v) ds all

  -- ---- an idle seat is idle again

  idle_by : (p : PartsView (CorePart C B)) (ds : List Deed) (v w : View cache_facts backing_facts)
      → IsIdle cache_facts backing_facts p v → Done ds v w → All KeepsRange ds
      → Works cache_facts backing_facts p w empty → IsIdle cache_facts backing_facts p w
  idle_by p ds v w idle done all works = record {
    works = works;
    cached = idle.cached;
    leaves = idle.leaves;
    unclaimed = ap (λ (r : Range). r.count) (range_still ds v w done all) ∙ idle.unclaimed;
  }

  pub idle_flushed : (p : PartsView (CorePart C B)) (of : LineNumber)
      (v w : View cache_facts backing_facts) → IsIdle cache_facts backing_facts p v
      → Works cache_facts backing_facts p w empty
      → HasFlushed cache_facts backing_facts of v w → IsIdle cache_facts backing_facts p w
  idle_flushed p of v w idle works h = idle_by p h.deeds v w idle h.done
      (all_flush KeepsRange (λ low bucket rest plain o. refl) (λ plain o. refl)
      (λ s values plain o. refl) (λ s values plain o. refl) (λ plain o. refl) (λ plain o. refl)
      (λ of plain o. refl) (λ plain o. refl) (λ of plain o. refl) (λ plain o. refl) of
      h.deeds h.are) works

  pub idle_refused : (p : PartsView (CorePart C B)) (sectors : ℕ) (e : FlushError) (of : LineNumber)
      (v w : View cache_facts backing_facts)
      → IsIdle cache_facts backing_facts p v → Works cache_facts backing_facts p w empty
      → HasNotFlushed cache_facts backing_facts sectors e of v w
      → IsIdle cache_facts backing_facts p w
  idle_refused p sectors e of v w idle works h = idle_by p h.deeds v w idle h.done
      (all_flush_cut KeepsRange (λ low bucket rest plain o. refl) (λ plain o. refl)
      (λ s values plain o. refl) (λ s values plain o. refl) (λ plain o. refl) (λ plain o. refl)
      (λ of plain o. refl) (λ plain o. refl) (λ of plain o. refl) (λ plain o. refl) sectors e of
      h.deeds h.cut) works

  pub idle_either : {A : Type 0} (r : Result A FlushError) (p : PartsView (CorePart C B))
      (sectors : ℕ) (of : LineNumber) (v w : View cache_facts backing_facts)
      → IsIdle cache_facts backing_facts p v → Works cache_facts backing_facts p w empty
      → OnOk r (HasFlushed cache_facts backing_facts of v w)
      → IfErr r (λ e. HasNotFlushed cache_facts backing_facts sectors e of v w)
      → IsIdle cache_facts backing_facts p w
  idle_either (Ok a) p sectors of v w idle works ok err =
      idle_flushed p of v w idle works ok
  idle_either (Err e) p sectors of v w idle works ok err =
      idle_refused p sectors e of v w idle works err

  -- ---- what is known

  module _ (of : LineNumber) (t u v : View cache_facts backing_facts) (first : Done [] t u)
      (begins : Did cache_facts backing_facts (Some (deed.FlushFrom of)) u v) where
    module _ (w : View cache_facts backing_facts)
        (synced : HasSynced cache_facts backing_facts v w)
        (seat : IsCoreSeat cache_facts backing_facts u) where
      still : note cache_facts backing_facts w ≡ note cache_facts backing_facts v
      still = note_still synced.deeds v w synced.done
          (synced_unnoted synced.deeds synced.are)

      pub still_going : (note cache_facts backing_facts w).flush.going ≡ true
      still_going = ap (λ (o : Note). o.flush.going) still
          ∙ (begun_going cache_facts backing_facts u v of seat begins).0

      pub still_its : (note cache_facts backing_facts w).flush.line ≡ of.line
      still_its = ap (λ (o : Note). o.flush.line) still
          ∙ (begun_going cache_facts backing_facts u v of seat begins).1

      -- what had come in as the flush began is durable
      pub all_synced_now : ((n : Origin → ℕ) → FromEach (seen v) (HaveComeIn n)
          → FromEach (seen w) (AreDurable n)) → FromEach (seen w) (IsFlushed w.first)
      all_synced_now durable = subst (λ i. FromEach (seen w) (IsFlushed i))
          (sym (synced.done.same.first ∙ begins.is.same.first))
          (all_flushed cache_facts backing_facts (seen v) (seen w) u.first
          (durable (keys_at (seen v) u.first) (begun_with cache_facts backing_facts u v of begins))
          (subst (λ i. FromEach (seen w) (AreStill (seen v) i)) begins.is.same.first
          (still_noted cache_facts backing_facts (seen v) synced.deeds v w synced.done
          (synced_off synced.deeds synced.are) (λ o is course. refl))))

  -- it is durable still behind deeds that note nothing, and behind a barrier
  pub flushed_waited : (t u : View cache_facts backing_facts) → Done [] t u
      → FromEach (seen t) (IsFlushed t.first) → FromEach (seen u) (IsFlushed u.first)
  flushed_waited t u first h = subst (λ i. FromEach (seen u) (IsFlushed i)) (sym first.same.first)
      (flushed_done cache_facts backing_facts [] t u first (All-nil IsStill) h)

  pub flushed_barrier : (t u v : View cache_facts backing_facts) → Done [] t u
      → Did cache_facts backing_facts (Some deed.BackingBarrier) u v
      → FromEach (seen t) (IsFlushed t.first) → FromEach (seen v) (IsFlushed v.first)
  flushed_barrier t u v first barrier h =
      subst (λ i. FromEach (seen v) (IsFlushed i)) (sym (barrier.is.same.first ∙ first.same.first))
      (flushed_done cache_facts backing_facts (deed.BackingBarrier ∷ []) t v
      (done_then cache_facts backing_facts [] (Some deed.BackingBarrier) t u v first barrier)
      (All-cons IsStill deed.BackingBarrier [] (inr refl) (All-nil IsStill)) h)

  module _ (of : LineNumber) (t u v : View cache_facts backing_facts) (first : Done [] t u)
      (seat : IsCoreSeat cache_facts backing_facts u)
      (barrier : Did cache_facts backing_facts (Some deed.BackingBarrier) u v) where
    pub going_at_end : (note cache_facts backing_facts t).flush.going ≡ true
        → (note cache_facts backing_facts v).flush.going ≡ true
    going_at_end going = (barrier_firm cache_facts backing_facts u v seat barrier).0
        ∙ ap (λ (o : Note). o.flush.going) (note_still [] t u first (All-nil IsUnnoted)) ∙ going

    pub its_at_end : (note cache_facts backing_facts t).flush.line ≡ of.line
        → (note cache_facts backing_facts v).flush.line ≡ of.line
    its_at_end its = (barrier_firm cache_facts backing_facts u v seat barrier).1
        ∙ ap (λ (o : Note). o.flush.line) (note_still [] t u first (All-nil IsUnnoted)) ∙ its

  -- ---- its end

  pub end_memory : (v w : View cache_facts backing_facts) → Done [] v w
      → HasNotEnded cache_facts backing_facts flush.Memory v w
  end_memory v w done = record { deeds = []; cut = refl; halt = tt; done = done }

  pub end_barrier : (e : StepError) (u v w : View cache_facts backing_facts) → Done [] u v
      → HasFailed cache_facts backing_facts e (deed.DeviceFault (failure.Barrier Backing)) v w
      → HasNotEnded cache_facts backing_facts (refusal e) u w
  end_barrier (step.Fault device) u v w first h = record {
    deeds = deed.DeviceFault (failure.Barrier Backing) ∷ [];
    cut = (h.0, refl);
    halt = tt;
    done = done_then cache_facts backing_facts []
        (Some (deed.DeviceFault (failure.Barrier Backing))) u v w first h.1;
  }
  end_barrier (step.Halted device) u v w first h = record {
    deeds = [];
    cut = inl refl;
    halt = h.0;
    done = done_then cache_facts backing_facts [] None u v w first h.1;
  }
  end_barrier step.Memory u v w first h = absurd h

  module _ (of : LineNumber) (t u v : View cache_facts backing_facts) (first : Done [] t u)
      (barrier : Did cache_facts backing_facts (Some deed.BackingBarrier) u v)
      (w : View cache_facts backing_facts) where
    pub end_done : Did cache_facts backing_facts (Some (deed.FlushDone of)) v w
        → Done (deed.BackingBarrier ∷ deed.FlushDone of ∷ []) t w
    end_done did = done_then cache_facts backing_facts (deed.BackingBarrier ∷ [])
        (Some (deed.FlushDone of)) t v w
        (done_then cache_facts backing_facts [] (Some deed.BackingBarrier) t u v first barrier) did

    pub end_halted : (e : StepError) → IsHalted e w.seen
        → Did cache_facts backing_facts None v w
        → HasNotEnded cache_facts backing_facts (refusal e) t w
    end_halted (step.Fault device) halted did = absurd halted
    end_halted (step.Halted device) halted did = record {
      deeds = deed.BackingBarrier ∷ [];
      cut = inr refl;
      halt = halted;
      done = done_then cache_facts backing_facts (deed.BackingBarrier ∷ []) None t v w
          (done_then cache_facts backing_facts [] (Some deed.BackingBarrier) t u v first barrier)
          did;
    }
    end_halted step.Memory halted did = absurd halted

  -- ---- all of it

  pub flush_memory : (sectors : ℕ) (of : LineNumber)
      (v w : View cache_facts backing_facts) → Done [] v w
      → HasNotFlushed cache_facts backing_facts sectors flush.Memory of v w
  flush_memory sectors of v w done =
      record { deeds = []; cut = inl refl; stood = tt; halt = tt; done = done }

  pub flush_halted : (sectors : ℕ) (e : StepError) (of : LineNumber)
      (t u v : View cache_facts backing_facts) → Done [] t u → IsHalted e v.seen
      → Did cache_facts backing_facts None u v
      → HasNotFlushed cache_facts backing_facts sectors (refusal e) of t v
  flush_halted sectors (step.Fault device) of t u v first halted did = absurd halted
  flush_halted sectors (step.Halted device) of t u v first halted did = record {
    deeds = [];
    cut = inl refl;
    stood = tt;
    halt = halted;
    done = done_then cache_facts backing_facts [] None t u v first did;
  }
  flush_halted sectors step.Memory of t u v first halted did = absurd halted

  module _ (sectors : ℕ) (of : LineNumber) (t u v : View cache_facts backing_facts)
      (first : Done [] t u)
      (begins : Did cache_facts backing_facts (Some (deed.FlushFrom of)) u v) where
    from : Done (deed.FlushFrom of ∷ []) t v
    from = done_then cache_facts backing_facts [] (Some (deed.FlushFrom of)) t u v first begins

    pub flush_synced : (e : FlushError) (w : View cache_facts backing_facts)
        → HasNotSynced cache_facts backing_facts sectors e v w
        → HasNotFlushed cache_facts backing_facts sectors e of t w
    flush_synced e w h = record {
      deeds = deed.FlushFrom of ∷ h.deeds;
      cut = inr (inl (record { more = h.deeds; cut = h.cut; is = refl }));
      stood = cut_on cache_facts backing_facts (deed.FlushFrom of ∷ []) t v from sectors e h.deeds
          h.cut h.stood;
      halt = h.halt;
      done = done_both cache_facts backing_facts (deed.FlushFrom of ∷ []) h.deeds t v w from h.done;
    }

    module _ (w : View cache_facts backing_facts)
        (synced : HasSynced cache_facts backing_facts v w)
        (x : View cache_facts backing_facts) where
      behind : (more : List Deed) → Done more w x
          → Done (deed.FlushFrom of ∷ (synced.deeds ++ more)) t x
      behind more done = done_both cache_facts backing_facts (deed.FlushFrom of ∷ [])
          (synced.deeds ++ more) t v x from
          (done_both cache_facts backing_facts synced.deeds more v w x synced.done done)

      pub flush_ended : {A E : Type 0} (r : Result A E)
          → OnOk r (Done (deed.BackingBarrier ∷ deed.FlushDone of ∷ []) w x)
          → OnOk r (HasFlushed cache_facts backing_facts of t x)
      flush_ended (Ok a) done = record {
        deeds = deed.FlushFrom of
            ∷ (synced.deeds ++ (deed.BackingBarrier ∷ deed.FlushDone of ∷ []));
        are = record { entry = synced.deeds; synced = synced.are; is = refl };
        stood = entry_on cache_facts backing_facts (deed.FlushFrom of ∷ []) t v from synced.deeds
            synced.are synced.stood;
        done = behind (deed.BackingBarrier ∷ deed.FlushDone of ∷ []) done;
      }
      flush_ended (Err e) done = tt

      pub flush_not_ended : {A : Type 0} (r : Result A FlushError)
          → IfErr r (λ e. HasNotEnded cache_facts backing_facts e w x)
          → IfErr r (λ e. HasNotFlushed cache_facts backing_facts sectors e of t x)
      flush_not_ended (Ok a) h = tt
      flush_not_ended (Err e) h = record {
        deeds = deed.FlushFrom of ∷ (synced.deeds ++ h.deeds);
        cut = inr (inr (record {
          entry = synced.deeds;
          synced = synced.are;
          more = h.deeds;
          cut = h.cut;
          is = refl;
        }));
        stood = entry_on cache_facts backing_facts (deed.FlushFrom of ∷ []) t v from synced.deeds
            synced.are synced.stood;
        halt = h.halt;
        done = behind h.deeds h.done;
      }
