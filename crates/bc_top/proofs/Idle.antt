-- A trace that asks for nothing, over a pair with a cache.
use Rattle.std.specs.Prelude.{All, not, option_map}
use Rattle.std.specs.Bool.{MatchBool}
use Rattle.std.proofs.Common.{◌≡◌, ◌⊎◌, ◌*◌, ◌≤◌, inl, inr, Bool, true, false, List, Option, Some, None, refl, sym, ap, ◌∙◌, subst}
use Rattle.bc_model.specs.Sector.{Image}
use Rattle.bc_sound_reads.specs.bc_cached_serve.Answered.{KeepsValues}
use Rattle.bc_disk.specs.Device.{HasRisen, quiet}
use Rattle.bc_disk.specs.Disk.{Allows, BothTold, DiskFacts, IfTold, IsKept}
use Rattle.bc_disk.specs.Stream.{StreamFacts}
use Rattle.bc_disk.specs.declared.disk.Device.TheVariants as device
use Rattle.bc_enter.specs.Next.{IsOdd}
use Rattle.bc_session_laws.specs.bc_entered.Laws.{IsSameImage}
use Rattle.bc_image.specs.Pair.{Pair}
use Rattle.bc_image.specs.Sound.{ServesAlone}
use Rattle.bc_session_laws.specs.bc_open.Left.{IsStill, LeavesThePair, ShowsOn}
use Rattle.bc_session_laws.proofs.of_bc_open.Odd.{needs_first}
use Rattle.bc_output.specs.declared.status.Status.{Status}
use Rattle.bc_output.specs.declared.status.Status.TheVariants as statuses
use Rattle.bc_pair.specs.Found.{pair_of}
use Rattle.bc_recover.specs.Read.{HasParts, IsReadOf}
use Rattle.bc_session_laws.specs.bc_regrow.Tree.{OfRead}
use Rattle.bc_replay.specs.Causes.{OfHeld}
use Rattle.bc_replay.specs.Survey.{CanBeOpened, IsFirst}
use Rattle.bc_replay.specs.declared.error.OpenError.{OpenError}
use Rattle.bc_replay.specs.declared.error.OpenError.TheVariants as errors
use Rattle.bc_replay.specs.declared.held.Survey.{Survey}
use Rattle.bc_replay.proofs.Once.{never_both}
use Rattle.bc_replay.proofs.Opens.{held_map}
use Rattle.bc_replay.proofs.Pairs.{of_both}
use Rattle.bc_script.specs.Trace.{IsWhole}
use Rattle.bc_script.specs.declared.line.Line.{Line}
use Rattle.bc_session_laws.specs.bc_session.Idle.{IsIdleStop, IsUnwritten}
use Rattle.bc_super.specs.Division.{IsPassThrough}
use Rattle.bc_super.specs.declared.backing.BackingSuper.{BackingSuper}
use Rattle.bc_super.proofs.Told.{reads_after, reads_before}
use Rattle.bc_top.specs.Idle.{EndsOpening, EndsUnopened, IsTested, left_with}
use Rattle.bc_top.specs.Opened.{AreQuiet, AreStill, AsksForNone, IsOpened, IsReadAgain, IsSameDevice, SameImage, StandsStill}
use Rattle.bc_top.specs.Stops.{IsRefusal, open_stop, status_of}
use Rattle.bc_top.specs.Top.{AnswersPair, AreSame, AskMore, AskNothing, AskToKeep, AskSomething, EndsAnswering, NeedsFirst, OneHasRisen}
use Rattle.bc_top.specs.Ready.{IsCached}
use Rattle.bc_top.specs.declared.serve.Opening.{Opening}
use Rattle.bc_top.specs.declared.serve.Opening.TheVariants.{Cached}
use Rattle.bc_top.proofs.Completing.{asks_the_same}
use Rattle.bc_top.proofs.Judging.{held_before, opened_held, same_again, same_lines}
use Rattle.bc_top.proofs.Settled.{next_risen, same_kept, same_self}

-- ---- devices

pub both_back : (a b : Option Image) → BothTold SameImage a b → BothTold SameImage b a
both_back None None same = tt
both_back None (Some y) same = absurd same
both_back (Some x) None same = absurd same
both_back (Some x) (Some y) same = λ s. sym (same s)

pub still_is : (d : DiskFacts) → StandsStill d → IsStill d
still_is d still = go d.holds still.content
  where
    go : (o : Option Image) → Allows (option_map quiet o) o d.may_leave
        → IfTold o (λ held. (image : Image) → d.may_leave image → IsSameImage held image)
    go None allows = tt
    go (Some held) allows = λ image may s. elim (allows.1 image may s) [
      | inl is ↦ is
      | inr never ↦ absurd never
    ]

-- what holds of the pair of two devices holds of it once they were kept
pub held_after : (P : Pair → Type 0) (cache cache' backing backing' : DiskFacts)
    → IsKept cache cache' → IsKept backing backing' → OfHeld P cache backing → OfHeld P cache'
    backing'
held_after P cache cache' backing backing' kept keeps = held_before P cache' cache backing' backing
    (sym kept.sectors) (both_back cache.holds cache'.holds kept.holds)
    (sym keeps.sectors) (both_back backing.holds backing'.holds keeps.holds)

-- ---- the test of a pair

module _ (b : BackingSuper) (s : Survey) (cache cache' backing opened backing' : DiskFacts) where
  pub tested : IsOpened b backing opened → IsSameDevice backing opened → (IsPassThrough b → ⊥)
      → OfHeld CanBeOpened cache opened → AreQuiet cache cache' opened backing'
      → IsReadAgain cache cache' opened backing' opened.calls → AreStill cache' backing'
      → IsSameDevice cache cache' → IsSameDevice opened backing' → IsKept opened backing'
      → HasParts s → s.supers.geometry.bucket * s.supers.geometry.nbuckets ≤ cache'.sectors
      → OfHeld (IsReadOf s) cache' backing' → IsTested b s cache cache' backing backing'
  tested is first never can quiet again still same then kept parts room read = record {
    asks = never;
    can = opened_held cache cache' backing opened backing' is.sectors is.holds is.faults CanBeOpened
        can;
    quiet = (quiet.0, quiet.1 ∙ is.faults);
    again = subst (λ n. IsReadAgain cache cache' backing backing' n) is.calls again;
    still = still;
    cache_same = same;
    backing_same = same_again backing opened backing' first then;
    reads = reads_after opened backing' kept.sectors kept.holds b is.reads;
    parts = parts;
    room = room;
    read = read;
  }

-- ---- what is asked

pub asks : (b : Bool) (lines : List Line) → b ≡ true
    → MatchBool b (AskSomething lines) (AskNothing lines) → AskSomething lines
asks true lines is so = so
asks false lines is so = absurd (cc)

pub asks_more : (b : Bool) (lines : List Line) → not b ≡ true
    → MatchBool b (All KeepsValues lines) (¬ (All KeepsValues lines)) → AskMore lines
asks_more true lines is so = absurd (cc)
asks_more false lines is so = so

pub keeps_values : (b : Bool) (lines : List Line) → not b ≡ false
    → MatchBool b (All KeepsValues lines) (¬ (All KeepsValues lines)) → All KeepsValues lines
keeps_values true lines is so = so
keeps_values false lines is so = absurd (cc)

pub asks_nothing : (b : Bool) (lines : List Line) → b ≡ false
    → MatchBool b (AskSomething lines) (AskNothing lines) → AskNothing lines
asks_nothing true lines is so = absurd (cc)
asks_nothing false lines is so = so

pub nothing_if_cached : (P : Type 0) (o : Opening) (b : BackingSuper) (s : Survey) → o ≡ Cached b s
    → (IsCached o → P) → P
nothing_if_cached P o b s is so = subst (λ (x : Opening). IsCached x → P) is so tt

-- ---- how it ends

never_usage : (e : OpenError) → status_of (open_stop e) ≡ statuses.Usage → ⊥
never_usage (errors.Super d why) is = absurd (let no : statuses.Superblock ≡ statuses.Usage = is in
    cc)
never_usage (errors.Fault d) is = absurd (let no : statuses.Device ≡ statuses.Usage = is in cc)
never_usage errors.Memory is = absurd (let no : statuses.Memory ≡ statuses.Usage = is in cc)
never_usage e is = absurd (let no : statuses.Image ≡ statuses.Usage = is in cc)

never_source : (e : OpenError) → status_of (open_stop e) ≡ statuses.Source → ⊥
never_source (errors.Super d why) is = absurd
    (let no : statuses.Superblock ≡ statuses.Source = is in cc)
never_source (errors.Fault d) is = absurd (let no : statuses.Device ≡ statuses.Source = is in cc)
never_source errors.Memory is = absurd (let no : statuses.Memory ≡ statuses.Source = is in cc)
never_source e is = absurd (let no : statuses.Image ≡ statuses.Source = is in cc)

never_sink : (e : OpenError) → status_of (open_stop e) ≡ statuses.Sink → ⊥
never_sink (errors.Super d why) is = absurd (let no : statuses.Superblock ≡ statuses.Sink = is in
    cc)
never_sink (errors.Fault d) is = absurd (let no : statuses.Device ≡ statuses.Sink = is in cc)
never_sink errors.Memory is = absurd (let no : statuses.Memory ≡ statuses.Sink = is in cc)
never_sink e is = absurd (let no : statuses.Image ≡ statuses.Sink = is in cc)

not_refusal : (x : Status) → x ≡ statuses.Done ⊎ x ≡ statuses.Device ⊎ x ≡ statuses.Memory
    → IsRefusal x → ⊥
not_refusal x (inl is) (inl r) = absurd (let no : statuses.Done ≡ statuses.Usage = sym is ∙ r in cc)
not_refusal x (inl is) (inr (inl r)) = absurd
    (let no : statuses.Done ≡ statuses.Trace = sym is ∙ r in cc)
not_refusal x (inl is) (inr (inr (inl r))) =
    absurd (let no : statuses.Done ≡ statuses.Superblock = sym is ∙ r in cc)
not_refusal x (inl is) (inr (inr (inr r))) =
    absurd (let no : statuses.Done ≡ statuses.Image = sym is ∙ r in cc)
not_refusal x (inr (inl is)) (inl r) = absurd
    (let no : statuses.Device ≡ statuses.Usage = sym is ∙ r in cc)
not_refusal x (inr (inl is)) (inr (inl r)) =
    absurd (let no : statuses.Device ≡ statuses.Trace = sym is ∙ r in cc)
not_refusal x (inr (inl is)) (inr (inr (inl r))) =
    absurd (let no : statuses.Device ≡ statuses.Superblock = sym is ∙ r in cc)
not_refusal x (inr (inl is)) (inr (inr (inr r))) =
    absurd (let no : statuses.Device ≡ statuses.Image = sym is ∙ r in cc)
not_refusal x (inr (inr is)) (inl r) = absurd
    (let no : statuses.Memory ≡ statuses.Usage = sym is ∙ r in cc)
not_refusal x (inr (inr is)) (inr (inl r)) =
    absurd (let no : statuses.Memory ≡ statuses.Trace = sym is ∙ r in cc)
not_refusal x (inr (inr is)) (inr (inr (inl r))) =
    absurd (let no : statuses.Memory ≡ statuses.Superblock = sym is ∙ r in cc)
not_refusal x (inr (inr is)) (inr (inr (inr r))) =
    absurd (let no : statuses.Memory ≡ statuses.Image = sym is ∙ r in cc)

module _ {C B : Type 0} (cache_facts : C → DiskFacts) (facts : B → DiskFacts) (b : BackingSuper)
    (s : Survey) (cache cache' : C) (backing backing' : B) (status : Status) (old new : StreamFacts)
    (ends : EndsOpening cache_facts facts b s cache cache' backing backing' status old new) where
  abbrev d : DiskFacts
  d = cache_facts cache

  abbrev d' : DiskFacts
  d' = cache_facts cache'

  pub not_used : status ≡ statuses.Usage → ⊥
  not_used two = elim ends [
    | inl done ↦ absurd (let no : statuses.Done ≡ statuses.Usage = sym done.0 ∙ two in cc)
    | inr failed ↦ never_usage failed.0 (sym failed.2 ∙ two)
  ]

  pub not_source : status ≡ statuses.Source → ⊥
  not_source seven = elim ends [
    | inl done ↦ absurd (let no : statuses.Done ≡ statuses.Source = sym done.0 ∙ seven in cc)
    | inr failed ↦ never_source failed.0 (sym failed.2 ∙ seven)
  ]

  pub not_sink : status ≡ statuses.Sink → ⊥
  not_sink eight = elim ends [
    | inl done ↦ absurd (let no : statuses.Done ≡ statuses.Sink = sym done.0 ∙ eight in cc)
    | inr failed ↦ never_sink failed.0 (sym failed.2 ∙ eight)
  ]

  as_before : (e : OpenError) → IsUnwritten cache_facts facts s cache backing
      (left_with e cache' backing') → AreSame d d' (facts backing) (facts backing')
  as_before e is = (
    same_kept d d' is.kept,
    subst (λ (x : B). IsSameDevice (facts backing) (facts x)) (sym is.backing_same)
        (same_self (facts backing)),
  )

  stop_same : (e : OpenError)
      → IsIdleStop cache_facts facts s cache backing (left_with e cache' backing') e
      → IsRefusal (status_of (open_stop e)) → AreSame d d' (facts backing) (facts backing')
  stop_same (errors.Fault device.Cache) stop refused =
      absurd (not_refusal statuses.Device (inr (inl refl)) refused)
  stop_same (errors.Fault device.Backing) stop refused =
      absurd (not_refusal statuses.Device (inr (inl refl)) refused)
  stop_same errors.Memory stop refused =
      absurd (not_refusal statuses.Memory (inr (inr refl)) refused)
  stop_same (errors.JournalEnd seq) stop refused = as_before (errors.JournalEnd seq) stop.1
  stop_same e stop refused = as_before e stop.1

  pub unwritten : IsRefusal status → AreSame d d' (facts backing) (facts backing')
  unwritten refused = elim ends [
    | inl done ↦ absurd (not_refusal status (inl done.0) refused)
    | inr failed ↦ stop_same failed.0 failed.1 (subst IsRefusal failed.2 refused)
  ]

  stop_rose : (e : OpenError)
      → IsIdleStop cache_facts facts s cache backing (left_with e cache' backing') e
      → status_of (open_stop e) ≡ statuses.Device
      → OneHasRisen d d' (facts backing) (facts backing')
  stop_rose (errors.Fault device.Cache) stop six = inl (next_risen d.faults d'.faults stop.0)
  stop_rose (errors.Fault device.Backing) stop six =
      inr (next_risen (facts backing).faults (facts backing').faults stop.1.faults)
  stop_rose (errors.Super d why) stop six = absurd
      (let no : statuses.Superblock ≡ statuses.Device = six in cc)
  stop_rose errors.Memory stop six = absurd (let no : statuses.Memory ≡ statuses.Device = six in cc)
  stop_rose e stop six = absurd (let no : statuses.Image ≡ statuses.Device = six in cc)

  pub rose : status ≡ statuses.Device → OneHasRisen d d' (facts backing) (facts backing')
  rose six = elim ends [
    | inl done ↦ absurd (let no : statuses.Done ≡ statuses.Device = sym done.0 ∙ six in cc)
    | inr failed ↦ stop_rose failed.0 failed.1 (sym failed.2 ∙ six)
  ]

-- ---- of the devices that were handed in

module _ {C B : Type 0} (cache_facts : C → DiskFacts) (facts : B → DiskFacts) (b : BackingSuper)
    (s : Survey) (before tested left : C) (backing tested_backing backing' : B) (status : Status)
    (old new : StreamFacts)
    (is : IsTested b s (cache_facts before) (cache_facts tested) (facts backing)
    (facts tested_backing))
    (ends : EndsOpening cache_facts facts b s tested left tested_backing backing' status old new)
  where
    abbrev cache : DiskFacts
    cache = cache_facts before

    abbrev tested_cache : DiskFacts
    tested_cache = cache_facts tested

    abbrev cache' : DiskFacts
    cache' = cache_facts left

    pub all_unwritten : IsRefusal status → AreSame cache cache' (facts backing) (facts backing')
    all_unwritten refused =
        let then = unwritten cache_facts facts b s tested left tested_backing backing' status old
        new ends refused in (
          same_again cache tested_cache cache' is.cache_same then.0,
          same_again (facts backing) (facts tested_backing) (facts backing') is.backing_same then.1,
        )

    pub all_rose : status ≡ statuses.Device → OneHasRisen cache cache' (facts backing)
        (facts backing')
    all_rose six = elim (rose cache_facts facts b s tested left tested_backing backing' status old
        new ends six) [
          | inl risen ↦ inl (subst (λ n. HasRisen n cache'.faults) is.quiet.0 risen)
          | inr risen ↦ inr (subst (λ n. HasRisen n (facts backing').faults) is.quiet.1 risen)
        ]

    pub shows : LeavesThePair tested_cache cache' (facts tested_backing) (facts backing')
        → OfHeld (ShowsOn cache' (facts backing')) cache (facts backing)
    shows leaves = held_before (ShowsOn cache' (facts backing')) cache tested_cache (facts backing)
        (facts tested_backing) is.cache_same.sectors is.cache_same.holds is.backing_same.sectors
        is.backing_same.holds
        (leaves (still_is tested_cache is.still.0) (still_is (facts tested_backing) is.still.1))

    -- a device that asks for no cache has no such pair
    pub asks_none : AsksForNone (facts backing) → ⊥
    asks_none asks = asks_the_same cache tested_cache (facts backing) (facts tested_backing) asks
        is.backing_same b (reads_before (facts backing) (facts tested_backing)
        is.backing_same.sectors
        is.backing_same.holds b is.reads) is.asks

    -- what is answered
    module _ (never_rose : OneHasRisen cache cache' (facts backing) (facts backing') → ⊥) where
      read_held : OfHeld (IsReadOf s) cache (facts backing)
      read_held = held_before (IsReadOf s) cache tested_cache (facts backing) (facts tested_backing)
          is.cache_same.sectors is.cache_same.holds is.backing_same.sectors is.backing_same.holds
          is.read

      told_of : (P : Image → Type 0) (o : Option Image) (image : Image) → o ≡ Some image → IfTold o
          P
          → P image
      told_of P o image eq p = subst (λ (x : Option Image). IfTold x P) eq p

      same_told : (x y : Option Image) (c : Image) → x ≡ Some c → BothTold SameImage x y → y ≡ Some
          c
      same_told None y c eq both = absurd (cc)
      same_told (Some x) None c eq both = absurd both
      same_told (Some x) (Some y) c eq both =
          let one : y ≡ x = (λ i. λ s. both s i) in let two : x ≡ c = cc in
          ap (λ (z : Image). Some z) (one ∙ two)

      module _ (c0 b0 : Image) (tells : cache.holds ≡ Some c0)
          (told : (facts backing).holds ≡ Some b0)
        where
          abbrev pair : Pair
          pair = pair_of cache (facts backing) c0 b0

          of_pair : (P : Pair → Type 0) → OfHeld P cache (facts backing) → P pair
          of_pair P so = told_of (λ x. P (pair_of cache (facts backing) c0 x)) (facts backing).holds
              b0 told
              (told_of (λ x. IfTold (facts backing).holds
              (λ y. P (pair_of cache (facts backing) x y)))
              cache.holds c0 tells so)

          h : IsReadOf s pair
          h = of_pair (IsReadOf s) read_held

          refused_none : (e : OpenError) → IsFirst pair e → ⊥
          refused_none e first = let can = of_pair CanBeOpened is.can in
              never_both pair can.0 can.1 can.2 e first

          not_another : OfRead s tested_cache (λ p h. ⊥) → ⊥
          not_another so = told_of (λ image. (p : Pair) → IsReadOf s p → p.cache ≡ image → ⊥)
              tested_cache.holds c0 (same_told cache.holds tested_cache.holds c0 tells
              is.cache_same.holds)
              so pair h refl

          odd : IsOdd s.journal → NeedsFirst pair
          odd is_odd = (h.view, h.is_view, needs_first s pair h is_odd)

          -- there was no memory, or the newest entry is one behind which none can come
          abbrev Stops : Type 0
          Stops = (status ≡ statuses.Memory) ⊎ ((status ≡ statuses.Image) × NeedsFirst pair)

          failed : (e : OpenError)
              → IsIdleStop cache_facts facts s tested tested_backing (left_with e left backing') e
              → status ≡ status_of (open_stop e) → Stops
          failed (errors.Fault device.Cache) stop at = absurd (never_rose (inl
              (subst (λ n. HasRisen n cache'.faults) is.quiet.0
              (next_risen tested_cache.faults cache'.faults stop.0))))
          failed (errors.Fault device.Backing) stop at = absurd (never_rose (inr
              (subst (λ n. HasRisen n (facts backing').faults) is.quiet.1
              (next_risen (facts tested_backing).faults (facts backing').faults stop.1.faults))))
          failed errors.Memory stop at = inl at
          failed (errors.JournalEnd seq) stop at = elim stop.0 [
            | inl is_odd ↦ inr (at, odd is_odd.0)
            | inr another ↦ absurd (not_another another)
          ]
          failed e stop at = absurd (not_another stop.0)

          answered : (begun : Type 0) (lines : List Line) → AskNothing lines
              → EndsAnswering pair lines begun status old new
          answered begun lines nothing = elim ends [
            | inl done ↦ inr (inr (inl (nothing, (refused_none, inl (done.0, done.1)))))
            | inr stopped ↦ (elim (failed stopped.0 stopped.1 stopped.2) [
              | inl memory ↦ inl memory
              | inr odd ↦ inr (inr (inl (nothing, (refused_none, inr odd))))
            ])
          ]

          -- where something was to be read it wasn't opened
          unopened : (begun : Type 0) (lines : List Line) → AskToKeep lines
              → EndsUnopened cache_facts facts b s tested left tested_backing backing' status old
              new
              → EndsAnswering pair lines begun status old new
          unopened begun lines reads stopped = elim (failed stopped.0 stopped.1 stopped.2) [
            | inl memory ↦ inl memory
            | inr odd ↦ inr (inr (inr (reads, (refused_none, inr odd))))
          ]

    pub answers : (begun : Type 0) (source rest : StreamFacts) (lines : List Line)
        → IsWhole source rest lines → AskNothing lines
        → AnswersPair source rest cache cache' (facts backing) (facts backing') begun status old new
    answers begun source rest lines whole nothing = λ spelled quiet still.
        of_both (λ p. (ServesAlone p → ⊥) → EndsAnswering p spelled.2.0 begun status old new) cache
        (facts backing) (λ c0 b0 tells told never. answered still c0 b0 tells told begun spelled.2.0
        (subst AskNothing (same_lines source rest lines whole spelled) nothing))

    pub unopened_answers : (begun : Type 0) (source rest : StreamFacts) (lines : List Line)
        → IsWhole source rest lines → AskToKeep lines
        → EndsUnopened cache_facts facts b s tested left tested_backing backing' status old new
        → AnswersPair source rest cache cache' (facts backing) (facts backing') begun status old new
    unopened_answers begun source rest lines whole reads stopped = λ spelled quiet still.
        of_both (λ p. (ServesAlone p → ⊥) → EndsAnswering p spelled.2.0 begun status old new) cache
        (facts backing) (λ c0 b0 tells told never. unopened still c0 b0 tells told begun spelled.2.0
        (subst AskToKeep (same_lines source rest lines whole spelled) reads) stopped)

-- where a run began the pair has no refusal
pub begun_answers : (begun : Type 0) (b : BackingSuper) (s : Survey)
    (c0 c1 c2 b0 b1 b2 : DiskFacts)
    → IsTested b s c0 c1 b0 b1 → begun → (source rest : StreamFacts)
    (lines : List Line) → IsWhole source rest lines → AskToKeep lines → (status : Status)
    (old new : StreamFacts)
    → AnswersPair source rest c0 c2 b0 b2 begun status old new
begun_answers begun b s c0 c1 c2 b0 b1 b2 is has source rest lines
    whole reads status old new = λ spelled quiet still.
    held_map CanBeOpened
    (λ p. (ServesAlone p → ⊥) → EndsAnswering p spelled.2.0 begun status old new) c0 b0
    (λ p can never. inr (inr (inr (
      subst AskToKeep (same_lines source rest lines whole spelled) reads,
      ((λ e first. never_both p can.0 can.1 can.2 e first), inl has),
    )))) is.can
