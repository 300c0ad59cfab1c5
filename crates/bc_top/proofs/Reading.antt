-- A trace that changes no value, over a pair with a cache.
use Rattle.std.proofs.Common.{◌≡◌, inl, inr, ℕ, suc, List, [], ◌∷◌, Option, Some, None, Ok, Err, refl, sym, ◌∙◌, subst}
use Rattle.std.specs.Prelude.{All, IfSome, IsNone, IsSome, Result}
use Rattle.bc_book.specs.Pass.{events_in}
use Rattle.bc_book.specs.declared.pass.Pass.{Pass}
use Rattle.bc_sound_reads.specs.bc_cached_serve.Answered.{IsLineCaused}
use Rattle.bc_sound_reads.specs.bc_cached_serve.Deeds.{IsCaused, IsFlushCaused, refusal_of_step}
use Rattle.bc_sound_reads.specs.bc_cached_serve.Served.{AreAnswered, HaveServed}
use Rattle.bc_sound_reads.specs.bc_cached_serve.declared.unsound.Unsound.{Unsound}
use Rattle.bc_sound_reads.specs.bc_cached_serve.declared.whole_run.Outcome.{Outcome}
use Rattle.bc_disk.specs.Device.{HasRisen}
use Rattle.bc_disk.specs.Disk.{DiskFacts, IsHonest}
use Rattle.bc_disk.specs.Stream.{StreamFacts}
use Rattle.bc_events.specs.Columns.{entries_of}
use Rattle.bc_events.specs.declared.event.Deed.{Deed}
use Rattle.bc_events.specs.declared.event.Event.{Event}
use Rattle.bc_events.specs.declared.event.LineNumber.{LineNumber}
use Rattle.bc_session_laws.specs.bc_hand.Seats.{View}
use Rattle.bc_session_laws.specs.bc_hand.declared.error.StepError.{StepError}
use Rattle.bc_session_laws.specs.bc_hand.declared.error.StepError.TheVariants as step
use Rattle.bc_session_laws.specs.bc_machine.declared.part.CorePart.{CorePart}
use Rattle.bc_session_laws.specs.bc_open.Left.{LeavesThePair}
use Rattle.bc_output.specs.declared.status.Status.{Status}
use Rattle.bc_output.specs.declared.status.Status.TheVariants as statuses
use Rattle.bc_parts.specs.Seat.{PartsView}
use Rattle.bc_recover.specs.Read.{IsReadOf}
use Rattle.bc_replay.specs.Causes.{OfHeld}
use Rattle.bc_replay.specs.declared.held.Survey.{Survey}
use Rattle.bc_script.specs.Proper.{IsLine}
use Rattle.bc_script.specs.Served.{Served}
use Rattle.bc_script.specs.Trace.{IsTrace, IsWhole}
use Rattle.bc_script.specs.declared.answer.Answer.{Answer}
use Rattle.bc_script.specs.declared.answer.Answer.TheVariants.{Refused}
use Rattle.bc_script.specs.declared.answer.Refusal.TheVariants as refusal
use Rattle.bc_script.specs.declared.line.Action.TheVariants.{Flush}
use Rattle.bc_script.specs.declared.line.Line.{Line}
use Rattle.bc_script.specs.declared.line.Line.TheVariants as line
use Rattle.bc_sound_reads.specs.bc_serve.Causes.{entries_by}
use Rattle.bc_session_laws.proofs.of_bc_session.Stops.{held_on}
use Rattle.bc_super.specs.Super.{data_sectors}
use Rattle.bc_super.specs.declared.backing.BackingSuper.{BackingSuper}
use Rattle.bc_super.proofs.Told.{reads_before}
use Rattle.bc_top.specs.Cached.{HasReported, HasRunFrom, ServesSound, closing_of, stopped_at}
use Rattle.bc_top.specs.Call.{HasCause, HasRun, ServesOver}
use Rattle.bc_top.specs.Ended.{HasStopped, IsDone, IsEnd}
use Rattle.bc_top.specs.Idle.{EndsOpening, EndsUnopened, IsTested}
use Rattle.bc_top.specs.Opened.{AsksForNone}
use Rattle.bc_top.specs.Top.{AskToKeep, OneHasRisen}
use Rattle.bc_top.specs.declared.exit.Exit.{Exit}
use Rattle.bc_top.proofs.Completing.{asks_the_same}
use Rattle.bc_top.proofs.Idle.{all_rose, all_unwritten, begun_answers, not_sink, not_source, not_used, shows, unopened_answers}
use Rattle.bc_top.proofs.Judging.{held_before}
use Rattle.bc_top.proofs.Risen.{run_rose}
use Rattle.bc_top.proofs.Settled.{both_same}
use Rattle.bc_top.proofs.Showing.{run_served, serves_sound}
use Rattle.bc_top.proofs.Statuses.{ArePlain, IsPlain, done, failed_by, never_source, never_usage, not_stopped, sink_stopped}

-- ---- whether there is a pass

each : {R : Type 0} (o : Option Pass) → (IsNone o → R) → ((pass : Pass) → o ≡ Some pass → R) → R
each None none some = none refl
each (Some pass) none some = some pass refl

on_some : (o : Option Pass) (P Q : Pass → Type 0) → ((pass : Pass) → P pass → Q pass) → IfSome o P
    → IfSome o Q
on_some None P Q f h = tt
on_some (Some pass) P Q f h = f pass h

at_some : (o : Option Pass) (P : Pass → Type 0) (pass : Pass) → o ≡ Some pass → IfSome o P → P pass
at_some o P pass is h = subst (λ (x : Option Pass). IfSome x P) is h

is_there : (o : Option Pass) (pass : Pass) → o ≡ Some pass → IsSome o
is_there o pass is = subst IsSome (sym is) refl

-- ---- a run whose status is `Done`

plain_one : (a : Answer) (seen : List Event) (ds : List Deed) → IsCaused a seen ds → IsPlain a
plain_one (Refused (refusal.NoBucket purpose none_len own_len)) seen ds h = h
plain_one (Refused refusal.JournalEnd) seen ds h = h
plain_one a seen ds h = tt

no_bucket : (e : StepError) (purpose : _) (none_len own_len : ℕ)
    → refusal.NoBucket purpose none_len own_len ≡ refusal_of_step e → ⊥
no_bucket (step.Fault which) purpose none_len own_len is = cc
no_bucket (step.Halted which) purpose none_len own_len is = cc
no_bucket step.Memory purpose none_len own_len is = cc

no_end : (e : StepError) → refusal.JournalEnd ≡ refusal_of_step e → ⊥
no_end (step.Fault which) is = cc
no_end (step.Halted which) is = cc
no_end step.Memory is = cc

plain_flush : (of : LineNumber) (a : Answer) (seen : List Event) (ds : List Deed)
    → IsFlushCaused of a seen ds → IsPlain a
plain_flush of (Refused (refusal.NoBucket purpose none_len own_len)) seen ds h =
    no_bucket h.0 purpose none_len own_len h.1
plain_flush of (Refused refusal.JournalEnd) seen ds h = no_end h.0 h.1
plain_flush of a seen ds h = tt

plain_line : (number : ℕ) (l : Line) (a : Answer) (seen : List Event) (ds : List Deed)
    → IsLineCaused number l a seen ds → IsPlain a
plain_line number line.Silent a seen ds h = plain_one a seen ds h
plain_line number (line.Request worker phase Flush) a seen ds h =
    plain_flush (record { worker = worker; line = number }) a seen ds h
plain_line number (line.Request worker phase action) a seen ds h = plain_one a seen ds h.1

module _ {C B : Type 0} (cache_facts : C → DiskFacts) (facts : B → DiskFacts) where
  all_plain : (p : PartsView (CorePart C B)) (size number : ℕ) (ls : List Line)
      (answers : List Answer) (v w : View cache_facts facts)
      → AreAnswered cache_facts facts p size number ls answers v w → ArePlain answers
  all_plain p size number [] [] v w served = tt
  all_plain p size number [] (a ∷ others) v w served = absurd served
  all_plain p size number (l ∷ ls) [] v w served = absurd served
  all_plain p size number (l ∷ ls) (a ∷ others) v w (u, first, rest) = (
    plain_line number l a first.last.seen first.answered.deeds first.answered.caused,
    all_plain p size (suc number) ls others u w rest,
  )

  -- a run that stopped at a line isn't done
  run_done : (p : PartsView (CorePart C B)) (size : ℕ) (result : Result (Unit {0}) Unsound)
      (lines : List Line) (answers : List Answer) (v w : View cache_facts facts) → All IsLine lines
      → HaveServed cache_facts facts p size lines answers result v w → (status : Status)
      (how : _) (old new : StreamFacts) → IsEnd status answers (stopped_at result) how old new
      → status ≡ statuses.Done → IsDone size lines answers old new
  run_done p size (Ok u) lines answers v w are served status how old new end is =
      done status answers None how old new end size lines (entries_by served.deeds) are
      (all_plain p size 1 lines answers v w served.by_line) served.served is
  run_done p size (Err stop) lines answers v w are served status how old new end is =
      absurd (let no : Some stop.line ≡ None =
      not_stopped status answers (Some stop.line) how old new end is
      in cc)

  module _ (b : BackingSuper) (s : Survey) (cache : C) (backing : B) (lines : List Line)
      (r : Outcome C B) (run : HasRunFrom cache_facts facts b s cache backing lines r) where
    pub reported_done : All IsLine lines → (status : Status) (old new : StreamFacts)
        → IsEnd status r.answers.items (stopped_at r.served) (closing_of r.closed.result) old new
        → status ≡ statuses.Done
        → IsDone (data_sectors (facts backing).sectors b) lines r.answers.items old new
    reported_done are status old new end is =
        run_done run.over.parts (data_sectors (facts backing).sectors b) r.served lines
        r.answers.items run.over.seat run.over.on.before are run.over.on.lines_by.served status
        (closing_of r.closed.result) old new end is

module _ {C B : Type 0} (cache_facts : C → DiskFacts) (facts : B → DiskFacts)
    (honest : (e : B) → IsHonest (facts e)) (b : BackingSuper) (s : Survey) (cache : C)
    (backing : B)
    (lines : List Line) (r : Outcome C B)
    (run : HasRunFrom cache_facts facts b s cache backing lines r) where
  pub reported_served : All IsLine lines → (status : Status) (old new : StreamFacts)
      → IsEnd status r.answers.items (stopped_at r.served) (closing_of r.closed.result) old new
      → status ≡ statuses.Done
      → Served (data_sectors (facts backing).sectors b) lines r.answers.items
      (entries_of (events_in r.closed.pass))
  reported_served are status old new end is =
      run_served cache_facts facts honest b s cache backing lines are r run
      (not_stopped status r.answers.items (stopped_at r.served) (closing_of r.closed.result) old new
      end is)

-- ---- the whole call

module _ {C B : Type 0} (cache_facts : C → DiskFacts) (facts : B → DiskFacts)
    (honest : (e : B) → IsHonest (facts e)) (b : BackingSuper) (s : Survey) (cache tested_cache : C)
    (backing tested : B) (it : Exit C B) (source left old new : StreamFacts) (lines : List Line)
    (trace : IsTrace lines) (whole : IsWhole source left lines) (reads : AskToKeep lines)
    (is : IsTested b s (cache_facts cache) (cache_facts tested_cache) (facts backing)
    (facts tested))
    (ran : IfSome it.pass
    (HasReported cache_facts facts b s tested_cache tested lines it old new))
    (unopened : IsNone it.pass → EndsUnopened cache_facts facts b s tested_cache it.cache tested
    it.backing it.status old new)
    (leaves : IsNone it.pass → LeavesThePair (cache_facts tested_cache) (cache_facts it.cache)
    (facts tested) (facts it.backing)) where
  abbrev Rises : Type 0
  Rises = OneHasRisen (cache_facts cache) (cache_facts it.cache) (facts backing) (facts it.backing)

  -- the run as one that couldn't be opened
  ended : IsNone it.pass → EndsOpening cache_facts facts b s tested_cache it.cache tested it.backing
      it.status old new
  ended none = inr (unopened none)

  -- a device that asks for no cache has no such pair
  never_alone : AsksForNone (facts backing) → ⊥
  never_alone asks = asks_the_same (cache_facts cache) (cache_facts tested_cache) (facts backing)
      (facts tested) asks is.backing_same b (reads_before (facts backing) (facts tested)
      is.backing_same.sectors is.backing_same.holds b is.reads) is.asks

  module _ (pass : Pass)
      (h : HasReported cache_facts facts b s tested_cache tested lines it old new pass) where
    serves : OfHeld (ServesSound cache_facts facts b s tested_cache tested lines h.outcome h.run)
        (cache_facts cache) (facts backing)
    serves = held_before (ServesSound cache_facts facts b s tested_cache tested lines h.outcome
        h.run)
        (cache_facts cache) (cache_facts h.run.read) (facts backing) (facts tested)
        (h.run.kept.sectors ∙ is.cache_same.sectors)
        (both_same (cache_facts cache).holds (cache_facts tested_cache).holds
        (cache_facts h.run.read).holds is.cache_same.holds h.run.kept.holds)
        is.backing_same.sectors is.backing_same.holds
        (serves_sound cache_facts facts honest b s tested_cache tested lines trace.proper h.outcome
        h.run is.reads (held_on (cache_facts tested_cache) (cache_facts h.run.read) h.run.kept
        (facts tested) (IsReadOf s) is.read))

    has_run : HasRun cache_facts facts cache backing it source left old new pass
    has_run = inr (record {
      lines = lines;
      trace = trace;
      whole = whole;
      asked = reads;
      superblock = b;
      survey = s;
      tested_cache = tested_cache;
      tested = tested;
      is_tested = is;
      reported = h;
      serves = serves;
    })

    run_raised : it.status ≡ statuses.Device → Rises
    run_raised six = by_side (run_rose cache_facts facts b s tested_cache tested lines h.outcome
        h.run
        (failed_by it.status h.outcome.answers.items (stopped_at h.outcome.served)
        (closing_of h.outcome.closed.result) old new h.ends six))
      where
        by_side : OneHasRisen (cache_facts tested_cache) (cache_facts h.outcome.closed.cache)
            (facts tested) (facts h.outcome.closed.backing) → Rises
        by_side (inl risen) = inl (subst (λ n. HasRisen n (cache_facts it.cache).faults) is.quiet.0
            (subst (λ (x : C). HasRisen (cache_facts tested_cache).faults (cache_facts x).faults)
            (sym h.cache_is) risen))
        by_side (inr risen) = inr (subst (λ n. HasRisen n (facts it.backing).faults) is.quiet.1
            (subst (λ (x : B). HasRisen (facts tested).faults (facts x).faults)
            (sym h.backing_is) risen))

    run_source : it.status ≡ statuses.Source → ⊥
    run_source = never_source it.status h.outcome.answers.items (stopped_at h.outcome.served)
        (closing_of h.outcome.closed.result) old new h.ends

    run_usage : it.status ≡ statuses.Usage → ⊥
    run_usage = never_usage it.status h.outcome.answers.items (stopped_at h.outcome.served)
        (closing_of h.outcome.closed.result) old new h.ends

    run_sink : it.status ≡ statuses.Sink → HasStopped old new
    run_sink = sink_stopped it.status h.outcome.answers.items (stopped_at h.outcome.served)
        (closing_of h.outcome.closed.result) old new h.ends

  abbrev At : Pass → Type 0
  At = HasReported cache_facts facts b s tested_cache tested lines it old new

  pub kept_served : ServesOver cache_facts facts cache backing it source left old new
  kept_served = record {
    stopped = λ none. inr (inr (record {
      trace = (lines, trace, whole, reads);
      superblock = b;
      survey = s;
      tested_cache = tested_cache;
      tested = tested;
      is_tested = is;
      ends = unopened none;
      shows = shows cache_facts facts b s cache tested_cache it.cache backing tested it.backing
          it.status old new is (ended none) (leaves none);
    }));
    run = on_some it.pass At (HasRun cache_facts facts cache backing it source left old new) has_run
        ran;
    complete = λ spells asks quiet still takes. absurd (never_alone asks);
    judged = each it.pass
        (λ none. unopened_answers cache_facts facts b s cache tested_cache it.cache backing tested
        it.backing it.status old new is (ended none) (IsSome it.pass) source left lines whole reads
        (unopened none))
        (λ pass eq. begun_answers (IsSome it.pass) b s (cache_facts cache)
        (cache_facts tested_cache)
        (cache_facts it.cache) (facts backing) (facts tested) (facts it.backing) is
        (is_there it.pass pass eq) source left lines whole reads it.status old new);
  }

  pub kept_caused : HasCause cache_facts facts cache backing it source left old new
  kept_caused = record {
    unwritten = λ none refused. all_unwritten cache_facts facts b s cache tested_cache it.cache
        backing tested it.backing it.status old new is (ended none) refused;
    by_device = λ six. each it.pass
        (λ none. all_rose cache_facts facts b s cache tested_cache it.cache backing tested
        it.backing
        it.status old new is (ended none) six)
        (λ pass eq. run_raised pass (at_some it.pass At pass eq ran) six);
    by_source = λ seven. absurd (each it.pass
        (λ none. not_source cache_facts facts b s tested_cache it.cache tested it.backing it.status
        old new (ended none) seven)
        (λ pass eq. run_source pass (at_some it.pass At pass eq ran) seven));
    by_sink = λ eight. each it.pass
        (λ none. absurd (not_sink cache_facts facts b s tested_cache it.cache tested it.backing
        it.status old new (ended none) eight))
        (λ pass eq. run_sink pass (at_some it.pass At pass eq ran) eight);
  }

  pub kept_known : it.status ≡ statuses.Usage → ⊥
  kept_known two = each it.pass
      (λ none. not_used cache_facts facts b s tested_cache it.cache tested it.backing it.status old
      new
      (ended none) two)
      (λ pass eq. run_usage pass (at_some it.pass At pass eq ran) two)
