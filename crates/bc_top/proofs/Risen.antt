-- Where a run over a pair with a cache says that a device failed, the count of that device's faults
-- rose.
use Rattle.std.proofs.Common.{◌≡◌, ◌⊎◌, inl, inr, ℕ, suc, Bool, true, false, ◌||◌, List, [], ◌∷◌, ◌++◌, Some, Ok, Err, refl, sym, ap, ◌∙◌, subst}
use Rattle.std.specs.Prelude.{Result, fold, map}
use Rattle.std.specs.List.{list_any}
use Rattle.bc_session_laws.specs.bc_begun.Begin.{parts_of}
use Rattle.bc_book.specs.Pass.{events_in}
use Rattle.bc_sound_reads.specs.bc_cached_serve.Answered.{HasServedLine, IsLineCaused}
use Rattle.bc_sound_reads.specs.bc_cached_serve.Deeds.{HasFailedAt, IsCaused, IsCutAtEnd, IsCutBefore, IsFlushCaused, IsFlushCut, refusal_of_step}
use Rattle.bc_sound_reads.specs.bc_cached_serve.Served.{AreAnswered, HaveServed}
use Rattle.bc_sound_reads.specs.bc_cached_serve.declared.unsound.Unsound.{Unsound}
use Rattle.bc_sound_reads.specs.bc_cached_serve.declared.whole_run.Outcome.{Outcome}
use Rattle.bc_sound_reads.specs.bc_deed.Flushed.{HasDone}
use Rattle.bc_disk.specs.Device.{HasRisen, next_count}
use Rattle.bc_disk.specs.Disk.{DiskFacts}
use Rattle.bc_disk.specs.declared.disk.Device.{Device}
use Rattle.bc_disk.specs.declared.disk.Device.TheVariants as device
use Rattle.bc_events.specs.Columns.{call_by, halt_of}
use Rattle.bc_events.specs.declared.event.Deed.{Deed}
use Rattle.bc_events.specs.declared.event.Deed.TheVariants as deed
use Rattle.bc_events.specs.declared.event.Event.{Event}
use Rattle.bc_events.specs.declared.event.Failure.TheVariants as failure
use Rattle.bc_events.specs.declared.event.LineNumber.{LineNumber}
use Rattle.bc_session_laws.specs.bc_hand.Seats.{View, by, world}
use Rattle.bc_session_laws.specs.bc_hand.declared.error.StepError.{StepError}
use Rattle.bc_session_laws.specs.bc_hand.declared.error.StepError.TheVariants as step
use Rattle.bc_session_laws.specs.bc_machine.World.{World, after, opening}
use Rattle.bc_session_laws.specs.bc_machine.declared.part.CorePart.{CorePart}
use Rattle.bc_parts.specs.Seat.{PartsView}
use Rattle.bc_replay.specs.declared.held.Survey.{Survey}
use Rattle.bc_script.specs.declared.answer.Answer.{Answer}
use Rattle.bc_script.specs.declared.answer.Answer.TheVariants.{Silent, Done, Runs, Refused}
use Rattle.bc_script.specs.declared.answer.Refusal.{Refusal}
use Rattle.bc_script.specs.declared.answer.Refusal.TheVariants as refusal
use Rattle.bc_script.specs.declared.line.Action.TheVariants.{Flush}
use Rattle.bc_script.specs.declared.line.Line.{Line}
use Rattle.bc_script.specs.declared.line.Line.TheVariants as line
use Rattle.bc_sound_reads.specs.bc_serve.Causes.{has_failed as failed_deeds, is_failed}
use Rattle.bc_sound_reads.proofs.of_bc_serve.Failing.{failed_in, failed_left, failed_map, failed_right, halt_failed}
use Rattle.bc_session_laws.specs.bc_session.Close.{IsBarrierOf, IsLastState, Outcome as Barrier}
use Rattle.bc_session_laws.specs.bc_session.Open.{IsRunOver}
use Rattle.bc_session_laws.specs.bc_session.declared.closing.CloseError.{CloseError}
use Rattle.bc_session_laws.specs.bc_session.declared.closing.CloseError.TheVariants as closings
use Rattle.bc_session_laws.proofs.of_bc_session.Seen.{disk_is}
use Rattle.bc_super.specs.Super.{data_sectors}
use Rattle.bc_super.specs.Writing.{AreCounted}
use Rattle.bc_super.specs.declared.backing.BackingSuper.{BackingSuper}
use Rattle.bc_top.specs.Cached.{HasRunFrom, closing_of}
use Rattle.bc_top.specs.Ended.{has_failed, says_fault}
use Rattle.bc_top.specs.Top.{OneHasRisen}
use Rattle.bc_top.proofs.Counting.{Holds, both_hold, holds_same, next_holds, one_rises, risen_next, still_risen}

-- ---- deeds

deeds_right : (xs ys : List Deed) → failed_deeds ys ≡ true → failed_deeds (xs ++ ys) ≡ true
deeds_right [] ys is = is
deeds_right (x ∷ xs) ys is = or_right (is_failed (call_by x)) (failed_deeds (xs ++ ys))
    (deeds_right xs ys is)
  where
    or_right : (a b : Bool) → b ≡ true → (a || b) ≡ true
    or_right true b is = refl
    or_right false b is = is

fails_at : (which : Device) (ds : List Deed) → HasFailedAt which ds → failed_deeds ds ≡ true
fails_at which ds failed = subst (λ (l : List Deed). failed_deeds l ≡ true) (sym failed.is)
    (deeds_right failed.before _ refl)

first_or : {P : Type 0} (a b : Bool) → (a || b) ≡ true → (a ≡ true → P) → (b ≡ true → P) → P
first_or true b is here later = here refl
first_or false b is here later = later is

-- of an answer that says so a call had failed by then
caused_failed : (seen : List Event) (ds : List Deed) (a : Answer) → IsCaused a seen ds
    → says_fault a ≡ true → (failed_deeds ds ≡ true) ⊎ (failed_in seen ≡ true)
caused_failed seen ds Silent caused is = absurd (cc)
caused_failed seen ds Done caused is = absurd (cc)
caused_failed seen ds (Runs at values) caused is = absurd (cc)
caused_failed seen ds (Refused refusal.OutOfRange) caused is = absurd (cc)
caused_failed seen ds (Refused (refusal.NoBucket purpose none_len own_len)) caused is = absurd (cc)
caused_failed seen ds (Refused refusal.JournalEnd) caused is = absurd (cc)
caused_failed seen ds (Refused (refusal.Node bucket why)) caused is = absurd (cc)
caused_failed seen ds (Refused (refusal.Fault d)) caused is = inl (fails_at d ds caused)
caused_failed seen ds (Refused (refusal.Halted d)) caused is = inr (halt_failed seen d caused.0)
caused_failed seen ds (Refused refusal.Memory) caused is = absurd (cc)

-- a flush says so where its barrier failed, or a halt came before
end_failed : (e : StepError) (seen : List Event) (more : List Deed) → IsCutAtEnd e seen more
    → says_fault (Refused (refusal_of_step e)) ≡ true
    → (failed_deeds more ≡ true) ⊎ (failed_in seen ≡ true)
end_failed (step.Fault which) seen more cut is = inl (ap failed_deeds cut.1)
end_failed (step.Halted which) seen more cut is = inr (halt_failed seen which cut.0)
end_failed step.Memory seen more cut is = absurd (cc)

before_failed : (e : StepError) (seen : List Event) (ds : List Deed) → IsCutBefore e seen ds
    → says_fault (Refused (refusal_of_step e)) ≡ true
    → (failed_deeds ds ≡ true) ⊎ (failed_in seen ≡ true)
before_failed (step.Fault which) seen ds cut is = absurd cut
before_failed (step.Halted which) seen ds cut is = inr (halt_failed seen which cut.0)
before_failed step.Memory seen ds cut is = absurd (cc)

cut_failed : (of : LineNumber) (e : StepError) (seen : List Event) (ds : List Deed)
    → IsFlushCut of e seen ds → says_fault (Refused (refusal_of_step e)) ≡ true
    → (failed_deeds ds ≡ true) ⊎ (failed_in seen ≡ true)
cut_failed of e seen ds (inl before) is = before_failed e seen ds before is
cut_failed of e seen ds (inr (more, cut, are)) is = elim (end_failed e seen more cut is) [
  | inl failed ↦ inl (ap failed_deeds are ∙ failed)
  | inr failed ↦ inr failed
]

flush_failed : (of : LineNumber) (seen : List Event) (ds : List Deed) (a : Answer)
    → IsFlushCaused of a seen ds → says_fault a ≡ true
    → (failed_deeds ds ≡ true) ⊎ (failed_in seen ≡ true)
flush_failed of seen ds Silent caused is = absurd caused
flush_failed of seen ds Done caused is = absurd (cc)
flush_failed of seen ds (Runs at values) caused is = absurd caused
flush_failed of seen ds (Refused why) caused is = cut_failed of caused.0 seen ds caused.2
    (subst (λ (r : Refusal). says_fault (Refused r) ≡ true) caused.1 is)

line_failed : (number : ℕ) (l : Line) (seen : List Event) (ds : List Deed) (a : Answer)
    → IsLineCaused number l a seen ds → says_fault a ≡ true
    → (failed_deeds ds ≡ true) ⊎ (failed_in seen ≡ true)
line_failed number line.Silent seen ds a caused is = caused_failed seen ds a caused is
line_failed number (line.Request worker phase Flush) seen ds a caused is =
    flush_failed (record { worker = worker; line = number }) seen ds a caused is
line_failed number (line.Request worker phase action) seen ds a caused is =
    caused_failed seen ds a caused.1 is

-- what was seen goes on to be
failed_behind : (xs ys : List Event) (ds : List Deed) → ys ≡ xs ++ map (by 16) ds
    → failed_in xs ≡ true → failed_in ys ≡ true
failed_behind xs ys ds is failed = subst (λ (es : List Event). failed_in es ≡ true) (sym is)
    (failed_left xs (map (by 16) ds) failed)

-- and what was done is seen
failed_done : (xs ys : List Event) (ds : List Deed) → ys ≡ xs ++ map (by 16) ds
    → failed_deeds ds ≡ true → failed_in ys ≡ true
failed_done xs ys ds is failed = subst (λ (es : List Event). failed_in es ≡ true) (sym is)
    (failed_right xs (map (by 16) ds) (failed_map 16 ds ∙ failed))

module _ {C B : Type 0} (cache_facts : C → DiskFacts) (facts : B → DiskFacts) where
  done_keeps : (v w : View cache_facts facts) (ds : List Deed) → HasDone cache_facts facts ds v w
      → failed_in v.seen ≡ true → failed_in w.seen ≡ true
  done_keeps v w ds done is = subst (λ (es : List Event). failed_in es ≡ true) (sym done.grown.seen)
      (failed_left v.seen done.grown.more is)

  module _ (p : PartsView (CorePart C B)) (size : ℕ) where
    -- an answer that says so has seen it
    answer_failed : (number : ℕ) (l : Line) (a : Answer) (v w : View cache_facts facts)
        → HasServedLine cache_facts facts p size number l a v w → says_fault a ≡ true
        → failed_in w.seen ≡ true
    answer_failed number l a v w h is = elim (line_failed number l h.last.seen h.answered.deeds a
        h.answered.caused is) [
          | inl failed ↦ failed_done v.seen w.seen h.answered.deeds h.taken.seen failed
          | inr failed ↦ subst (λ (es : List Event). failed_in es ≡ true) h.taken.last failed
        ]

    answered_keeps : (number : ℕ) (ls : List Line) (answers : List Answer)
        (v w : View cache_facts facts) → AreAnswered cache_facts facts p size number ls answers v w
        → failed_in v.seen ≡ true → failed_in w.seen ≡ true
    answered_keeps number [] [] v w is failed =
        subst (λ (x : View cache_facts facts). failed_in x.seen ≡ true) (sym is) failed
    answered_keeps number [] (a ∷ others) v w is failed = absurd is
    answered_keeps number (l ∷ ls) [] v w is failed = absurd is
    answered_keeps number (l ∷ ls) (a ∷ others) v w (u, first, rest) failed =
        answered_keeps (suc number) ls others u w rest
        (failed_behind v.seen u.seen first.answered.deeds first.taken.seen failed)

    said_failed : (number : ℕ) (ls : List Line) (answers : List Answer)
        (v w : View cache_facts facts) → AreAnswered cache_facts facts p size number ls answers v w
        → list_any says_fault answers ≡ true → failed_in w.seen ≡ true
    said_failed number [] [] v w served is = absurd (cc)
    said_failed number [] (a ∷ others) v w served is = absurd served
    said_failed number (l ∷ ls) [] v w served is = absurd served
    said_failed number (l ∷ ls) (a ∷ others) v w (u, first, rest) is =
        first_or (says_fault a) (list_any says_fault others) is
        (λ here. answered_keeps (suc number) ls others u w rest
        (answer_failed number l a v u first here))
        (said_failed (suc number) ls others u w rest)

    pub served_failed : (result : Result (Unit {0}) Unsound) (ls : List Line)
        (answers : List Answer) (v w : View cache_facts facts)
        → HaveServed cache_facts facts p size ls answers result v w
        → list_any says_fault answers ≡ true → failed_in w.seen ≡ true
    served_failed (Ok u) ls answers v w served is = said_failed 1 ls answers v w served.by_line is
    served_failed (Err stop) ls answers v w served is =
        failed_behind served.at.seen w.seen served.stopped.stopped.deeds served.stopped.taken.seen
        (said_failed 1 served.before answers v served.at served.answered.by_line is)

-- ---- the whole run

module _ {C B : Type 0} (cache_facts : C → DiskFacts) (facts : B → DiskFacts) (b : BackingSuper)
    (s : Survey) (cache : C) (backing : B) (lines : List Line) (r : Outcome C B)
    (run : HasRunFrom cache_facts facts b s cache backing lines r) where
  abbrev over : IsRunOver cache_facts facts s b run.read backing run.loaded run.over.parts
      run.over.seat
  over = run.over.over

  abbrev events : List Event
  events = events_in r.closed.pass

  abbrev first : World
  first = opening cache_facts facts (parts_of run.loaded.tree over.started.beginning)

  abbrev last : World
  last = fold after first events

  abbrev mid : DiskFacts
  mid = facts run.over.on.closed.between.disk

  abbrev end : DiskFacts
  end = facts r.closed.backing

  last_is : world cache_facts facts run.over.on.closed.last ≡ last
  last_is = run.over.on.ends ∙ ap (λ (ps : List (CorePart C B)).
      fold after (opening cache_facts facts ps) events) over.started.start

  -- ---- where it began and ended

  cache_first : first.cache.faults ≡ (cache_facts cache).faults
  cache_first = ap (λ (c : C). (cache_facts c).faults) over.started.made.cache ∙ run.quiet

  cache_last : (cache_facts r.closed.cache).faults ≡ last.cache.faults
  cache_last = run.over.on.closed.cache.stands.faults ∙ ap (λ (x : World). x.cache.faults) last_is

  backing_first : first.backing.faults ≡ (facts backing).faults
  backing_first = ap (λ (d : B). (facts d).faults)
      (disk_is cache_facts facts s b run.read backing run.loaded run.over.parts run.over.seat over)
      ∙ over.faults

  backing_last : mid.faults ≡ last.backing.faults
  backing_last = (run.over.on.closed.backing _ (inl refl)).stands.faults
      ∙ ap (λ (x : World). x.backing.faults) last_is

  abbrev Rises : Type 0
  Rises = OneHasRisen (cache_facts cache) (cache_facts r.closed.cache) (facts backing) end

  -- ---- the write of the state behind the barrier

  counted_holds : (x : Barrier) → AreCounted 2 x mid end → Holds mid.faults end.faults
  counted_holds (Ok u) counted = holds_same mid.faults end.faults counted.1
  counted_holds (Err why) counted =
      subst (Holds mid.faults) (sym counted.1) (next_holds mid.faults)

  state_holds : (barrier : Barrier) (dirty : Bool)
      → IsLastState facts b dirty barrier r.closed.result run.over.on.closed.between.disk
      r.closed.backing → Holds mid.faults end.faults
  state_holds (Err why) dirty is =
      holds_same mid.faults end.faults (ap (λ (d : B). (facts d).faults) is.1)
  state_holds (Ok u) true is =
      holds_same mid.faults end.faults (ap (λ (d : B). (facts d).faults) is.1)
  state_holds (Ok u) false is = counted_holds r.closed.result is.counted

  -- a call among the events failed
  events_rose : failed_in events ≡ true → Rises
  events_rose failed = by_side (one_rises first events failed)
    where
      by_side : HasRisen first.cache.faults last.cache.faults
          ⊎ HasRisen first.backing.faults last.backing.faults → Rises
      by_side (inl risen) = inl (subst (λ n. HasRisen n (cache_facts r.closed.cache).faults)
          cache_first (subst (HasRisen first.cache.faults) (sym cache_last) risen))
      by_side (inr risen) = inr (still_risen (facts backing).faults mid.faults end.faults
          (subst (λ n. HasRisen n mid.faults) backing_first
          (subst (HasRisen first.backing.faults) (sym backing_last) risen))
          (state_holds run.over.on.closed.barrier run.dirty run.over.on.closed.state))

  -- or the write of the state did
  state_rose : end.faults ≡ next_count mid.faults → Rises
  state_rose is = inr (risen_next (facts backing).faults mid.faults end.faults
      (subst (λ n. Holds n mid.faults) backing_first
      (subst (Holds first.backing.faults) (sym backing_last) (both_hold first events).1)) is)

  -- ---- the closing

  barrier_failed : (ds : List Deed) → ds ≡ deed.DeviceFault (failure.Barrier device.Backing) ∷ []
      → run.over.on.closed.made.deeds ≡ ds → failed_in events ≡ true
  barrier_failed ds is same = subst (λ (es : List Event). failed_in es ≡ true)
      (sym run.over.on.told)
      (failed_right (run.over.seat.seen ++ map (by 16) run.over.on.lines_by.deeds)
      (map (by 0) run.over.on.closed.made.deeds)
      (failed_map 0 run.over.on.closed.made.deeds
      ∙ ap failed_deeds (same ∙ is)))

  halted : (d : Device) → halt_of run.over.on.closed.last.seen ≡ Some d → failed_in events ≡ true
  halted d is = subst (λ (es : List Event). failed_in es ≡ true) (sym run.over.on.closed.events)
      (halt_failed run.over.on.closed.last.seen d is)

  by_barrier : (why : CloseError)
      → IsBarrierOf (Err why) run.over.on.closed.made.deeds run.over.on.closed.last.seen
      → has_failed (closing_of (Err why)) ≡ true → Rises
  by_barrier closings.Fault made is =
      events_rose (barrier_failed run.over.on.closed.made.deeds made refl)
  by_barrier (closings.Halted d) made is = events_rose (halted d made.1)
  by_barrier closings.Memory made is = absurd (cc)

  by_state : (x : Barrier) → AreCounted 2 x mid end → has_failed (closing_of x) ≡ true → Rises
  by_state (Ok u) counted is = absurd (cc)
  by_state (Err why) counted is = state_rose counted.1

  closing_rose : (barrier : Barrier) (dirty : Bool)
      → IsBarrierOf barrier run.over.on.closed.made.deeds run.over.on.closed.last.seen
      → IsLastState facts b dirty barrier r.closed.result run.over.on.closed.between.disk
      r.closed.backing → has_failed (closing_of r.closed.result) ≡ true → Rises
  closing_rose (Err why) dirty made is failed = by_barrier why made
      (subst (λ (x : Barrier). has_failed (closing_of x) ≡ true) is.0 failed)
  closing_rose (Ok u) true made is failed =
      absurd (let no : has_failed (closing_of (Ok tt)) ≡ true =
      subst (λ (x : Barrier). has_failed (closing_of x) ≡ true) is.0 failed in cc)
  closing_rose (Ok u) false made is failed = by_state r.closed.result is.counted failed

  -- ---- what is said

  said_rose : list_any says_fault r.answers.items ≡ true → Rises
  said_rose said =
      let by = run.over.on.lines_by in
      let closed = run.over.on.closed in
      let seen = served_failed cache_facts facts run.over.parts
      (data_sectors (facts backing).sectors b) r.served lines r.answers.items run.over.seat
      run.over.on.before by.served said in
      let then = done_keeps cache_facts facts run.over.on.before closed.last closed.made.deeds
      closed.made.done seen in
      events_rose (subst (λ (es : List Event). failed_in es ≡ true) (sym closed.events) then)

  pub run_rose : (list_any says_fault r.answers.items ≡ true)
      ⊎ (has_failed (closing_of r.closed.result) ≡ true) → Rises
  run_rose (inl said) = said_rose said
  run_rose (inr failed) = closing_rose run.over.on.closed.barrier run.dirty
      run.over.on.closed.made.is run.over.on.closed.state failed
