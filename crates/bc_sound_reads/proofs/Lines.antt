-- Lines that a seat serves over a sound pair.
use Rattle.std.proofs.Common.{◌≡◌, inr, ℕ, suc, ◌<◌, false, List, [], ◌∷◌, ◌++◌, Ok, Err, refl, sym, ap, ◌∙◌, subst}
use Rattle.std.specs.Prelude.{IfErr, Result, fold, map}
use Rattle.std.proofs.lemmas.List.Sums.{fold-append}
use Rattle.std.specs.List.{AllByRecursion}
use Rattle.bc_cached_serve.specs.Answered.{DidLine, HasAnswered, HasStopped, IsLineCaused, PartLine, StoppedLine}
use Rattle.bc_cached_serve.specs.Deeds.{refusal_of_step}
use Rattle.bc_cached_serve.specs.Refusals.{IsRefusalOf, IsUnsound}
use Rattle.bc_cached_serve.specs.Served.{AreAnswered, HaveServed}
use Rattle.bc_cached_serve.specs.Worker.{IsTakenIn, worker_seat}
use Rattle.bc_cached_serve.specs.declared.unsound.Unsound.{Unsound}
use Rattle.bc_cached_serve.specs.bc_deed.Asked.{size_of}
use Rattle.bc_cached_serve.specs.bc_deed.Flushed.{HasDone}
use Rattle.bc_disk.specs.Disk.{DiskFacts}
use Rattle.bc_disk.specs.declared.geometry.Geometry.{Geometry}
use Rattle.bc_events.specs.declared.event.Deed.{Deed}
use Rattle.bc_events.specs.declared.event.Event.{Event}
use Rattle.bc_cached_serve.specs.bc_hand.Seats.{View, by, world}
use Rattle.bc_cached_serve.specs.bc_hand.declared.error.StepError.{StepError}
use Rattle.bc_cached_serve.specs.bc_hand.declared.error.StepError.TheVariants as step
use Rattle.bc_image.specs.Pair.{Pair}
use Rattle.bc_image.specs.Reading as pairs
use Rattle.bc_cached_serve.specs.bc_job.declared.job.Job.{Job}
use Rattle.bc_cached_serve.specs.bc_machine.World.{IsCourseOf, IsOrigin, Origin, World, after, cache_among, opening}
use Rattle.bc_cached_serve.specs.bc_machine.declared.part.CorePart.{CorePart}
use Rattle.bc_opened.specs.Opening.{IsSoundOpeningOf}
use Rattle.bc_parts.specs.Seat.{PartsView, Run}
use Rattle.bc_cached_serve.specs.bc_request.Line.{HasNotReadLine}
use Rattle.bc_cached_serve.specs.bc_request.declared.error.RequestError.{RequestError}
use Rattle.bc_cached_serve.specs.bc_request.declared.error.RequestError.TheVariants as request
use Rattle.bc_script.specs.Proper.{IsLine}
use Rattle.bc_script.specs.Served.{ServesLine}
use Rattle.bc_script.specs.declared.answer.Answer.{Answer}
use Rattle.bc_script.specs.declared.answer.Answer.TheVariants.{Refused}
use Rattle.bc_script.specs.declared.answer.Refusal.TheVariants as refusal
use Rattle.bc_script.specs.declared.line.Action.TheVariants.{Flush, Read}
use Rattle.bc_script.specs.declared.line.Line.{Line}
use Rattle.bc_script.specs.declared.line.Line.TheVariants as line
use Rattle.bc_cached_serve.specs.bc_serve.Deeds.{job_of}
use Rattle.bc_cached_serve.specs.bc_started.Laws.{AreUntorn}
use Rattle.bc_refusals.specs.Lines.{IsNode, MayCome}
use Rattle.bc_refusals.specs.Made.{IsOfPair, TouchNoLeaf}
use Rattle.bc_refusals.specs.Over.{IsOfDevice, IsOver}
use Rattle.bc_refusals.proofs.Lines.{law_line, law_no_node}
use Rattle.bc_refusals.proofs.Opened.{law_goes_on}
use Rattle.bc_sound_reads.specs.Laws.{NamesNode}
use Rattle.bc_sound_reads.proofs.Over.{touch_before, untorn_before}

-- ---- refusals

names_node : (e : RequestError) (bucket why : ℕ) → IsRefusalOf e (refusal.Node bucket why) → IsNode
    e
names_node request.OutOfRange bucket why is = absurd (cc)
names_node (request.Fault device) bucket why is = absurd (cc)
names_node (request.Halted device) bucket why is = absurd (cc)
names_node request.Memory bucket why is = absurd (cc)
names_node (request.Node at error) bucket why is = tt
names_node e bucket why is = absurd is

only_busy : (e : RequestError) → IsUnsound e → MayCome e → e ≡ request.Busy
only_busy request.Busy unsound may = refl
only_busy request.Outside unsound may = absurd may
only_busy request.Missing unsound may = absurd may
only_busy request.Lost unsound may = absurd may
only_busy e unsound may = absurd unsound

module _ {C B : Type 0} (cache_facts : C → DiskFacts) (facts : B → DiskFacts) (o : Origin)
    (g : Geometry) (pair : Pair) (view : pairs.View)
    (opened : IsSoundOpeningOf pair view o.opening.machine o.parts) (p : PartsView (CorePart C B))
    (size : ℕ) where
  -- no torn record matched by chance, and no leaf was touched, as far as a seat has seen it
  pub record IsCalm (w : View cache_facts facts) : Type 0 where
    pub untorn : AreUntorn o (world cache_facts facts w).log
    pub touched : TouchNoLeaf (world cache_facts facts w).log

  -- and it serves a run over a sound pair, whose data are so many sectors
  pub record IsServing (w : View cache_facts facts) : Type 0 where
    pub over : IsOver cache_facts facts o g w
    pub size_is : size ≡ size_of cache_facts facts w.run.start

  -- seats of one run that have seen the same
  same_world : (v w : View cache_facts facts) → w.run ≡ v.run → w.seen ≡ v.seen
      → world cache_facts facts w ≡ world cache_facts facts v
  same_world v w run seen = ap (λ (r : Run (CorePart C B)).
      fold after (opening cache_facts facts r.start) w.seen) run
      ∙ ap (λ (l : List Event). fold after (opening cache_facts facts v.run.start) l) seen

  calm_same : (v w : View cache_facts facts) → w.run ≡ v.run → w.seen ≡ v.seen → IsCalm v
      → IsCalm w
  calm_same v w run seen calm = record {
    untorn = subst (λ (x : World). AreUntorn o x.log) (sym (same_world v w run seen)) calm.untorn;
    touched = subst (λ (x : World). TouchNoLeaf x.log) (sym (same_world v w run seen))
        calm.touched;
  }

  serving_same : (v w : View cache_facts facts) → w.run ≡ v.run → w.seen ≡ v.seen → IsServing v
      → IsServing w
  serving_same v w run seen serving = record {
    over = record {
      origin = subst (λ (x : World). IsOrigin x o) (sym (same_world v w run seen))
          serving.over.origin;
      course = subst (λ (x : World). IsCourseOf o x.log) (sym (same_world v w run seen))
          serving.over.course;
      device = subst (λ (r : Run (CorePart C B)). IsOfDevice o g
          (cache_among cache_facts facts r.start).sectors) (sym run) serving.over.device;
    };
    size_is = serving.size_is
        ∙ sym (ap (λ (r : Run (CorePart C B)). size_of cache_facts facts r.start) run);
  }

  serves_on : (v w : View cache_facts facts) (ds : List Deed) → HasDone cache_facts facts ds v w
      → IsServing v → IsCalm w → IsServing w
  serves_on v w ds done serving calm = record {
    over = law_goes_on cache_facts facts o g ds v w serving.over done calm.untorn;
    size_is = serving.size_is
        ∙ sym (ap (λ (r : Run (CorePart C B)). size_of cache_facts facts r.start) done.same.run);
  }

  of_pair : (w : View cache_facts facts) → IsCalm w → IsOfPair cache_facts facts pair view o w
  of_pair w calm = record { opening = opened; made = inr calm.touched }

  -- ---- a line

  job_answered : (v w : View cache_facts facts) → IsServing w → IsCalm w → (job : Job)
      → job.size ≡ size → 0 < job.count → (e : RequestError)
      → HasNotReadLine cache_facts facts p e job v w → IsNode e → ⊥
  job_answered v w serving calm job is some e not node = law_no_node cache_facts facts o g pair
      view p
      e job v w serving.over (of_pair w calm) (is ∙ serving.size_is) some not node

  -- what the seat of worker 1 did of a line
  abbrev HasDoneLine : (number : ℕ) → Line → Answer → View cache_facts facts
      → View cache_facts facts → Type 0
  HasDoneLine number l a v w = HasAnswered cache_facts facts (ServesLine size number l)
      (IsLineCaused number l) (DidLine cache_facts facts p size number l v w) a v w

  no_step : (e : StepError) (bucket why : ℕ) → refusal.Node bucket why ≡ refusal_of_step e → ⊥
  no_step (step.Fault which) bucket why is = cc
  no_step (step.Halted which) bucket why is = cc
  no_step step.Memory bucket why is = cc

  node_answered : (v w : View cache_facts facts) → IsServing w → IsCalm w → (number : ℕ) (l : Line)
      → IsLine l → (bucket why : ℕ) → HasDoneLine number l (Refused (refusal.Node bucket why)) v w
      → ⊥
  node_answered v w serving calm number line.Silent are bucket why h =
      absurd (let no = h.serves.0 in cc)
  node_answered v w serving calm number (line.Request worker phase (Read first count)) are bucket
      why h = job_answered v w serving calm
      (job_of size (record { worker = worker; line = number }) first count false) refl
      are.proper.1 h.did.0 h.did.2 (names_node h.did.0 bucket why h.did.1)
  node_answered v w serving calm number (line.Request worker phase Flush) are bucket why h =
      no_step h.caused.0 bucket why h.caused.1
  node_answered v w serving calm number (line.Request worker phase action) are bucket why h =
      absurd h.did

  line_answered : (v w : View cache_facts facts) → IsServing w → IsCalm w → (number : ℕ) (l : Line)
      → IsLine l → (a : Answer) → HasDoneLine number l a v w → NamesNode a → ⊥
  line_answered v w serving calm number l are (Refused (refusal.Node bucket why)) h names =
      node_answered v w serving calm number l are bucket why h
  line_answered v w serving calm number l are a h names = names

  line_stopped : (v w : View cache_facts facts) → IsServing w → IsCalm w → (number : ℕ) (l : Line)
      → IsLine l → (e : RequestError) → HasStopped cache_facts facts (PartLine size number l)
      (StoppedLine cache_facts facts p size number l v w) e v w → e ≡ request.Busy
  line_stopped v w serving calm number line.Silent are e h = absurd h.did
  line_stopped v w serving calm number (line.Request worker phase (Read first count)) are e h =
      only_busy e h.unsound (law_line cache_facts facts o g p e
      (job_of size (record { worker = worker; line = number }) first count false) v w serving.over
      serving.size_is are.proper.1 h.did)
  line_stopped v w serving calm number (line.Request worker phase action) are e h = absurd h.did

  -- ---- the seat of worker 1

  module _ (ds : List Deed) (v last w : View cache_facts facts)
      (done : HasDone cache_facts facts ds (worker_seat cache_facts facts v) last)
      (taken : IsTakenIn cache_facts facts ds v last w) where
    calm_v : IsCalm w → IsCalm v
    calm_v calm =
        let is : world cache_facts facts w
        ≡ fold after (world cache_facts facts v) (map (by 16) ds) =
        ap (λ (r : Run (CorePart C B)).
        fold after (opening cache_facts facts r.start) w.seen) taken.run
        ∙ ap (λ (l : List Event). fold after (opening cache_facts facts v.run.start) l) taken.seen
        ∙ fold-append after (opening cache_facts facts v.run.start) v.seen (map (by 16) ds) in
        record {
          untorn = untorn_before (map (by 16) ds) (world cache_facts facts v) o
              (subst (λ (x : World). AreUntorn o x.log) is calm.untorn);
          touched = touch_before (map (by 16) ds) (world cache_facts facts v)
              (subst (λ (x : World). TouchNoLeaf x.log) is calm.touched);
        }

    last_run : last.run ≡ w.run
    last_run = done.same.run ∙ sym taken.run

    calm_last : IsCalm w → IsCalm last
    calm_last calm = calm_same w last last_run taken.last calm

    serving_last : IsServing v → IsCalm w → IsServing last
    serving_last serving calm = serves_on (worker_seat cache_facts facts v) last ds done
        (serving_same v (worker_seat cache_facts facts v) refl refl serving) (calm_last calm)

    serving_w : IsServing v → IsCalm w → IsServing w
    serving_w serving calm =
        serving_same last w (sym last_run) (sym taken.last) (serving_last serving calm)

  -- ---- lines

  calm_answered : (number : ℕ) (ls : List Line) (answers : List Answer)
      (v w : View cache_facts facts)
      → AreAnswered cache_facts facts p size number ls answers v w → IsCalm w → IsCalm v
  calm_answered number [] [] v w is calm = subst IsCalm is calm
  calm_answered number [] (a ∷ others) v w is calm = absurd is
  calm_answered number (l ∷ ls) [] v w is calm = absurd is
  calm_answered number (l ∷ ls) (a ∷ others) v w (u, first, rest) calm =
      calm_v first.answered.deeds v first.last u first.answered.done first.taken
      (calm_answered (suc number) ls others u w rest calm)

  answered_on : (number : ℕ) (ls : List Line) (answers : List Answer) (v w : View cache_facts facts)
      → AllByRecursion IsLine ls → AreAnswered cache_facts facts p size number ls answers v w
      → IsServing v → IsCalm w → AllByRecursion (λ a. NamesNode a → ⊥) answers × IsServing w
  answered_on number [] [] v w are is serving calm = (tt, subst IsServing (sym is) serving)
  answered_on number [] (a ∷ others) v w are is serving calm = absurd is
  answered_on number (l ∷ ls) [] v w are is serving calm = absurd is
  answered_on number (l ∷ ls) (a ∷ others) v w are (u, first, rest) serving calm =
      let ds = first.answered.deeds in
      let done = first.answered.done in
      let here = calm_answered (suc number) ls others u w rest calm in
      let later = answered_on (suc number) ls others u w are.1 rest
      (serving_w ds v first.last u done first.taken serving here) calm in (
        (
          (λ names. line_answered (worker_seat cache_facts facts v) first.last
              (serving_last ds v first.last u done first.taken serving here)
              (calm_last ds v first.last u done first.taken here) number l are.0 a first.answered
              names),
          later.0,
        ),
        later.1,
      )

  those_before : (before others : List Line) → AllByRecursion IsLine (before ++ others)
      → AllByRecursion IsLine before × AllByRecursion IsLine others
  those_before [] others are = (tt, are)
  those_before (l ∷ ls) others are =
      let rest = those_before ls others are.1 in ((are.0, rest.0), rest.1)

  pub served_on : (result : Result (Unit {0}) Unsound) (ls : List Line) (answers : List Answer)
      (v w : View cache_facts facts) → AllByRecursion IsLine ls
      → HaveServed cache_facts facts p size ls answers result v w → IsServing v → IsCalm w
      → AllByRecursion (λ a. NamesNode a → ⊥) answers
      × IfErr result (λ stop. stop.why ≡ request.Busy)
  served_on (Ok u) ls answers v w are h serving calm =
      ((answered_on 1 ls answers v w are h.by_line serving calm).0, tt)
  served_on (Err stop) ls answers v w are h serving calm =
      let half = h.stopped in
      let ds = half.stopped.deeds in
      let done = half.stopped.done in
      let calm_at = calm_v ds h.at half.last w done half.taken calm in
      let parts = those_before h.before (h.refused ∷ h.others) (subst (AllByRecursion IsLine)
      h.lines_are are) in
      let first = answered_on 1 h.before answers v h.at parts.0 h.answered.by_line serving calm_at
      in (
        first.0,
        line_stopped (worker_seat cache_facts facts h.at) half.last
            (serving_last ds h.at half.last w done half.taken first.1 calm)
            (calm_last ds h.at half.last w done half.taken calm) stop.line h.refused parts.1.0
            stop.why half.stopped,
      )
