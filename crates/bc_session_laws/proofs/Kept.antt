-- What is left of both devices, from what the run's events leave.
use Rattle.std.proofs.Common.{◌≡◌, ◌≢◌, ◌⊎◌, inl, inr, ℕ, ◌+◌, ◌<◌, ◌≤◌, Bool, true, false, List, [], ◌∷◌, ◌&&◌, Option, Some, None, refl, sym, ap, ◌∙◌, subst, arith, if◌then◌else◌}
use Rattle.std.specs.Prelude.{◌==◌, nat_lt, reverse}
use Rattle.std.proofs.lemmas.Bool.{cases_lt, le-ltb, lt-ltb}
use Rattle.std.proofs.lemmas.List.{append-nil}
use Rattle.bc_session.specs.bc_cached.Laws.{parts_in}
use Rattle.bc_session.specs.bc_cached.declared.run.Ready.{Ready}
use Rattle.bc_recoverable.specs.bc_chosen.Parts.{ArePartsOf, Parts}
use Rattle.bc_disk.specs.Device.{Among, Content, MayLeave}
use Rattle.bc_disk.specs.Disk.{Allows, DiskFacts, Overwritten}
use Rattle.bc_session.specs.bc_entered.Laws.{IsSameImage}
use Rattle.bc_events.specs.Columns.{entries_of}
use Rattle.bc_events.specs.Laws.{HaveWorkers}
use Rattle.bc_events.specs.Run as core
use Rattle.bc_events.specs.Run.{State, history_of}
use Rattle.bc_events.specs.declared.event.Event.{Event}
use Rattle.bc_plain_laws.specs.bc_hand.Seats.{View}
use Rattle.bc_image.specs.Pair.{Pair}
use Rattle.bc_image.specs.Reading as pairs
use Rattle.bc_image.specs.Shown.{shown_by}
use Rattle.bc_image.proofs.Supers.{backing_read}
use Rattle.bc_image.proofs.Unique.{one_backing, one_view}
use Rattle.bc_jset.specs.Entries.{FoundEntry}
use Rattle.bc_session.specs.bc_loaded.declared.loading.Loaded.{Loaded}
use Rattle.bc_recoverable.specs.bc_machine.Standing.{oldest_first, replay_is, replay_runs}
use Rattle.bc_recoverable.specs.bc_machine.World.{IsBackingOf, IsCourseOf, IsOrigin, Origin, World, behind, image_of, opening, replay, seen_from}
use Rattle.bc_recoverable.specs.bc_machine.declared.part.BackingPart.{BackingPart}
use Rattle.bc_recoverable.specs.bc_machine.declared.part.CorePart.{CorePart}
use Rattle.bc_meta.specs.Layout.{Layout}
use Rattle.bc_crash.specs.Laws.{IsClosed}
use Rattle.bc_dirty_laws.specs.Dirty.{IsNoneDirty}
use Rattle.bc_model.specs.History.{Allowed, IsLegal, now}
use Rattle.bc_model.specs.Pattern.{zeros}
use Rattle.bc_model.specs.Sector.{Image, Value, unless}
use Rattle.bc_model.specs.declared.history.Entry.{Entry}
use Rattle.bc_model.proofs.Cases.{by_test}
use Rattle.bc_session.specs.bc_open.Left.{SaysState}
use Rattle.bc_session.proofs.of_bc_open.States.{Later, everywhere, later_of, told_of}
use Rattle.bc_pair.specs.Found.{pair_of}
use Rattle.bc_parts.specs.Seat.{PartsView, Run}
use Rattle.bc_pending.specs.Entries.{keys_in}
use Rattle.bc_pending.specs.Pieces.{ArePending}
use Rattle.bc_plain_laws.proofs.Devices.{all_values, before_at, data_at, told_leaves}
use Rattle.bc_plain_laws.proofs.Entries.{entries_run}
use Rattle.bc_plain_laws.proofs.Following.{ahead_events, offset_events}
use Rattle.bc_plain_laws.proofs.Opened.{workers_of}
use Rattle.bc_recoverable.specs.bc_ranges.Laws.{frame_of}
use Rattle.bc_recover.specs.Read.{IsReadOf}
use Rattle.bc_recoverable.specs.Made.{AreMade}
use Rattle.bc_recoverable.specs.Closed.{IsEnded, ShowsNow}
use Rattle.bc_recoverable.specs.Runs.{IsKept, IsRunFrom, Recovers}
use Rattle.bc_recoverable.proofs.Ended.{law_ended}
use Rattle.bc_recoverable.proofs.Runs.{law_runs}
use Rattle.bc_session.specs.bc_regrow.Tree.{IsTreeOf}
use Rattle.bc_replay.specs.declared.held.Survey.{Survey}
use Rattle.bc_session.specs.Open.{ready_of}
use Rattle.bc_sight.proofs.Held.{run_held}
use Rattle.bc_recoverable.specs.bc_sound.Laws.{IsLeftOf, view_with}
use Rattle.bc_session.specs.bc_started.Laws.{AreUntorn}
use Rattle.bc_session.specs.bc_started.Start.{HasStarted}
use Rattle.bc_state.specs.Laws.{IsSamePair}
use Rattle.bc_state.specs.State.{IsCached, super_in, view_in, with_sector}
use Rattle.bc_state.proofs.State.{law_state}
use Rattle.bc_super.specs.Writing.{IsBackingSector}
use Rattle.bc_super.specs.declared.backing.BackingSuper.{BackingSuper}
use Rattle.bc_super.specs.declared.state.BackingState.{BackingState}
use Rattle.bc_super.specs.declared.state.BackingState.TheVariants as states
use Rattle.bc_session_laws.specs.Events.{HasGone, left_by}
use Rattle.bc_session_laws.specs.Finished.{IsNow}
use Rattle.bc_session_laws.specs.Laws.{HasKept, IsFrom, IsOpenedOn, IsRecoverable, LawKept}
use Rattle.bc_session_laws.proofs.Course.{course_behind, oldest_log, origin_ahead, origin_behind, untorn_first}

and_both : (a b : Bool) → (a && b) ≡ true → (a ≡ true) × (b ≡ true)
and_both true true on = (refl, refl)
and_both true false on = absurd (cc)
and_both false b on = absurd (cc)

tells : (told : Bool) (c : Content) (holds : Option Image) (may : Image → Type 0) → told ≡ true
    → Allows (if told then Some c else None) holds may → (held : Image) × (holds ≡ Some held)
tells false c holds may is allows = absurd (cc)
tells true c None may is allows = absurd allows
tells true c (Some held) may is allows = (held, refl)

module _ {C B : Type 0} (cache_facts : C → DiskFacts) (backing_facts : B → DiskFacts) where
  module _ (s : Survey) (b : BackingSuper) (cache : C) (backing : B) (c d : Image)
      (v : pairs.View) (layout : Layout) (loaded : Loaded) (parts : PartsView (CorePart C B))
      (seat : View cache_facts backing_facts)
      (opened : IsOpenedOn cache_facts backing_facts s b cache backing c d v layout loaded parts
      seat) (next_seq : ℕ) (o : Origin)
      (from : IsFrom cache_facts backing_facts s b cache backing c d v layout loaded parts seat
      opened next_seq o) where
    abbrev p : Pair
    p = pair_of (cache_facts cache) (backing_facts backing) c d

    abbrev ready : Ready C B
    ready = ready_of loaded cache opened.over.part

    abbrev h : HasStarted cache_facts backing_facts s.supers.geometry s.journal ready parts seat
    h = opened.over.started

    abbrev x : Parts
    x = parts_in ready opened.over.is_loaded.are.leaves.pending

    abbrev first : World
    first = opening cache_facts backing_facts parts.run.start

    -- ---- what was read

    pub super_is : v.backing ≡ b
    super_is = one_backing p v.backing b opened.hold.view.backing (backing_read
        (backing_facts backing) p b opened.hold.told refl opened.hold.view.backing.0
        opened.hold.reads)

    abbrev r : IsReadOf s p
    r = opened.hold.read

    read_here : ArePartsOf r.view.geometry r.view.reading x
    read_here = record {
      buckets = opened.over.is_loaded.are.known p r;
      reserves = opened.over.is_loaded.are.spare p r;
      tree = told_of (λ i. (q : Pair) → (k : IsReadOf s q) → q.cache ≡ i
          → IsTreeOf k.view.geometry k.view.reading.nodes loaded.tree)
          (cache_facts cache).holds c opened.hold.tells opened.over.is_loaded.are.grown p r refl;
      pending = subst (λ (es : List FoundEntry). ArePending loaded.tree.leaves (keys_in es)
          opened.over.is_loaded.are.leaves.pending) (sym r.entries)
          opened.over.is_loaded.are.leaves.keys;
    }

    read : ArePartsOf v.geometry v.reading x
    read = subst (λ (w : pairs.View). ArePartsOf w.geometry w.reading x)
        (one_view p r.view v r.is_view opened.hold.view) read_here

    -- ---- the opening

    pub at_first : IsOrigin first o
    at_first = subst (λ (q : Run (CorePart C B)).
        IsOrigin (opening cache_facts backing_facts q.start) o) h.works.run
        (origin_ahead (opening cache_facts backing_facts seat.run.start) seat.seen o from.origin)

    workers : HaveWorkers o.opening
    workers i k low high same = workers_of true 0 (λ t. zeros) (λ t. zeros) i k low high
        (sym (at_first.worker i) ∙ same ∙ at_first.worker k)

    -- what the backing device held as the run began: its superblock says so
    abbrev bytes : Value
    bytes = opened.over.state.0

    began : Later (Overwritten 8 (bytes ∷ [])) d (backing_facts opened.over.between).holds
    began = later_of (Overwritten 8 (bytes ∷ [])) (backing_facts backing).holds
        (backing_facts opened.over.between).holds d opened.hold.told opened.over.state.2.holds

    abbrev offset : ℕ
    offset = v.backing.data_offset

    behind_super : 16 ≤ offset
    behind_super = let low = opened.hold.reads.2.usable.data_offset.0 in
        let same = ap (λ (z : BackingSuper). z.data_offset) super_is in omega (arith, low, same)

    module _ (events : List Event) (left : C) (rest : BackingPart B)
        (gone : HasGone cache_facts backing_facts parts events left rest)
        (untorn : AreUntorn o (left_by cache_facts backing_facts parts events).log)
        (made : AreMade (frame_of p v) o (left_by cache_facts backing_facts parts events).log) where
      abbrev pub y : World
      y = left_by cache_facts backing_facts parts events

      pub at_end : IsOrigin y o
      at_end = origin_behind first events o at_first

      pub course : IsCourseOf o y.log
      course = course_behind {C = C} {B = B} cache_facts backing_facts first events o gone.run
          at_first (untorn_first first events o refl untorn) untorn

      ran : IsRunFrom p v layout x o y.log
      ran = record {
        view = opened.hold.view;
        sound = opened.hold.sound;
        divided = opened.divided;
        read = read;
        opened = from.opened;
        starts = from.origin.sound;
        workers = workers;
        course = course;
        made = made;
      }

      kept : IsKept p v o y.log
      kept = law_runs p v layout x o y.log ran

      -- ---- the history

      abbrev H : List Entry
      H = history_of o.opening (replay o y.log)

      history : H ≡ reverse (entries_of events)
      history = ap (λ (st : State). history_of o.opening st) (replay_is o y.log)
          ∙ entries_run o.opening (core.start o.opening o.parts o.next_seq) (oldest_first y.log)
          (replay_runs o y.log course)
          ∙ append-nil (reverse (entries_of (oldest_first y.log)))
          ∙ ap (λ (es : List Event). reverse (entries_of es)) (oldest_log first events)

      -- ---- the devices

      told : (y.cache.told ≡ true) × (y.backing.told ≡ true)
      told = and_both y.cache.told y.backing.told at_end.told

      offset_is : y.offset ≡ offset
      offset_is = offset_events first events
          ∙ ap (λ (ps : List (CorePart C B)). (opening cache_facts backing_facts ps).offset) h.start
          ∙ ap (λ (q : BackingPart B). q.offset) h.made.backing
          ∙ opened.over.is_part.offset
          ∙ ap (λ (z : BackingSuper). z.data_offset) (sym super_is)

      ahead_is : y.ahead ≡ began.image
      ahead_is = ahead_events first events
          ∙ ap (λ (ps : List (CorePart C B)). (opening cache_facts backing_facts ps).ahead) h.start
          ∙ ap (λ (q : BackingPart B). image_of (backing_facts q.disk).holds) h.made.backing
          ∙ ap (λ (z : B). image_of (backing_facts z).holds) opened.over.is_part.disk_is
          ∙ ap image_of began.is

      abbrev flow_cache : Content
      flow_cache = (replay o y.log).machine.whole.flow.cache

      abbrev flow_backing : Content
      flow_backing = (replay o y.log).machine.whole.flow.backing

      module _ (image other : Image) (may : (cache_facts left).may_leave image)
          (can : (backing_facts rest.disk).may_leave other) where
        cache_left : MayLeave flow_cache image
        cache_left t = subst (Among (image t))
            (sym ((run_held cache_facts backing_facts parts.run.start events o at_end
            course).leaves t))
            (told_leaves y.cache.told y.held (cache_facts left).holds (cache_facts left).may_leave
            told.0 gone.cache_is.stands.content image may t)

        backing_of : IsBackingOf {C = C} {B = B} cache_facts backing_facts rest (seen_from o y)
        backing_of = gone.backing_is (seen_from o y)
            (inr (o, record { is = refl; origin = at_end; course = course }))

        among : (t : ℕ) → Among (other t) (all_values y.offset y.ahead flow_backing.leaves t)
        among = told_leaves y.backing.told (behind y.offset y.ahead flow_backing)
            (backing_facts rest.disk).holds (backing_facts rest.disk).may_leave told.1
            backing_of.stands.content other can

        data_left : (t : ℕ) → Among (other (offset + t)) (flow_backing.leaves t)
        data_left t = subst (λ n. Among (other (n + t)) (flow_backing.leaves t)) offset_is
            (data_at y.offset y.ahead other flow_backing.leaves among t)

        -- before the data stands what stood there as the run began
        front : (t : ℕ) → t < offset → other t ≡ began.image t
        front t low = before_at y.offset y.ahead other flow_backing.leaves among t
            (let same = offset_is in omega (arith, low, same))
            ∙ ap (λ (i : Image). i t) ahead_is

        -- the same with the superblock that was read
        abbrev mixed : Image
        mixed = λ t. if nat_lt t offset then d t else other t

        abbrev mixed_pair : Pair
        mixed_pair = record p { cache = image; backing = mixed }

        is_left : IsLeftOf p offset (replay o y.log).machine mixed_pair
        is_left = record {
          cache = cache_left;
          backing = λ t. subst (λ (low : Bool).
              Among (if low then d (offset + t) else other (offset + t)) (flow_backing.leaves t))
              (sym (le-ltb (offset + t) offset (omega arith))) (data_left t);
          front = λ t low. ap (λ (q : Bool). if q then d t else other t) (lt-ltb t offset low);
          cache_sectors = refl;
          backing_sectors = refl;
        }

        recovers : Recovers p v H mixed_pair
        recovers = kept.left mixed_pair is_left

        -- It may say another state, and so the same pair.
        module _ (state : BackingState) (cached : IsCached state) (said : Value)
            (sector : IsBackingSector said (super_in state b)) where
          marked : IsSamePair mixed_pair (view_with v recovers.reading)
              (with_sector mixed_pair said) (view_in state (view_with v recovers.reading))
          marked = law_state mixed_pair (view_with v recovers.reading) state said cached
              recovers.view recovers.sound
              (subst (λ (z : BackingSuper). IsBackingSector said (super_in state z))
              (sym super_is) sector)

          recoverable_as : (last : Image) → ((t : ℕ) → (if t == 8 then said else mixed t) ≡ last t)
              → IsRecoverable p v H (record p { cache = image; backing = last })
          recoverable_as last same = subst (λ (i : Image).
              IsRecoverable p v H (record p { cache = image; backing = i }))
              (λ i. λ t. same t i) (record {
                later = view_in state (view_with v recovers.reading);
                geometry = refl;
                view = marked.view;
                sound = marked.sound;
                shows = λ t. subst (λ (z : Value). Allowed (shown_by p v) H t z)
                    (sym (marked.shows t)) (recovers.shows t);
              })

        in_eight : (t : ℕ) → t ≡ 8 → bytes ≡ other t
        in_eight t is = sym (front t (let high = behind_super in omega (arith, is, high))
            ∙ began.related t ∙ by_test 8 t
            (λ (q : Bool). unless (if q then Some bytes else None) (d t) ≡ bytes)
            (λ same. refl) (λ ne. absurd (ne (sym is))))

        before : (t : ℕ) → t ≢ 8 → t < offset → d t ≡ other t
        before t ne low = sym (front t low ∙ began.related t ∙ by_test 8 t
            (λ (q : Bool). unless (if q then Some bytes else None) (d t) ≡ d t)
            (λ is. absurd (ne (sym is))) (λ no. refl))

        elsewhere : (t : ℕ) → t ≢ 8 → (t < offset) ⊎ (offset ≤ t) → mixed t ≡ other t
        elsewhere t ne (inl low) = ap (λ (q : Bool). if q then d t else other t)
            (lt-ltb t offset low) ∙ before t ne low
        elsewhere t ne (inr high) = ap (λ (q : Bool). if q then d t else other t)
            (le-ltb t offset high)

        same_at : (t : ℕ) → (if t == 8 then bytes else mixed t) ≡ other t
        same_at t = by_test t 8 (λ (q : Bool). (if q then bytes else mixed t) ≡ other t)
            (in_eight t) (λ ne. elsewhere t ne (cases_lt t offset))

        recoverable : IsRecoverable p v H (record p { cache = image; backing = other })
        recoverable = recoverable_as states.Dirty tt bytes opened.over.state.1 other same_at

        -- the sector of the superblock has what was said last
        said_once : (May : BackingState → Type 0) (last : Image) (says : SaysState May b other last)
            (t : ℕ) → (if t == 8 then says.bytes else mixed t) ≡ last t
        said_once May last says t = by_test t 8
            (λ (q : Bool). (if q then says.bytes else mixed t) ≡ last t)
            (λ is. sym (says.same t ∙ by_test t 8
            (λ (q : Bool). (if q then says.bytes else other t) ≡ says.bytes)
            (λ same. refl) (λ ne. absurd (ne is))))
            (λ ne. elsewhere t ne (cases_lt t offset) ∙ sym (says.same t ∙ by_test t 8
            (λ (q : Bool). (if q then says.bytes else other t) ≡ other t)
            (λ is. absurd (ne is)) (λ no. refl)))

        -- the state was written once more
        recoverable_says : (May : BackingState → Type 0) (last : Image)
            → IsSameImage other last ⊎ SaysState May b other last
            → IsRecoverable p v H (record p { cache = image; backing = last })
        recoverable_says May last (inl same) = subst (λ (i : Image).
            IsRecoverable p v H (record p { cache = image; backing = i }))
            (sym (everywhere other last same)) recoverable
        recoverable_says May last (inr says) = recoverable_as says.state says.cached says.bytes
            says.sector last (said_once May last says)

        -- ---- where each insertion is durable

        module _ (closed : IsClosed (replay o y.log).machine.whole.flow) where
          ended : IsEnded p v o y.log
          ended = law_ended p v layout x o y.log ran closed

          shows : ShowsNow p v H mixed_pair
          shows = ended.left mixed_pair is_left

          now_as : (state : BackingState) → IsCached state → (said : Value)
              → IsBackingSector said (super_in state b) → (last : Image)
              → ((t : ℕ) → (if t == 8 then said else mixed t) ≡ last t)
              → IsNow p v H (record p { cache = image; backing = last })
          now_as state cached said sector last same =
              let marked = law_state mixed_pair (view_with v shows.reading) state said cached
              shows.view shows.sound
              (subst (λ (z : BackingSuper). IsBackingSector said (super_in state z))
              (sym super_is) sector) in
              subst (λ (i : Image). IsNow p v H (record p { cache = image; backing = i }))
              (λ i. λ t. same t i) (record {
                later = view_in state (view_with v shows.reading);
                geometry = refl;
                view = marked.view;
                sound = marked.sound;
                shows = λ t. marked.shows t ∙ shows.shows t;
              })

          now_says : (May : BackingState → Type 0) (last : Image)
              → IsSameImage other last ⊎ SaysState May b other last
              → IsNow p v H (record p { cache = image; backing = last })
          now_says May last (inl same) = subst (λ (i : Image).
              IsNow p v H (record p { cache = image; backing = i }))
              (sym (everywhere other last same))
              (now_as states.Dirty tt bytes opened.over.state.1 other same_at)
          now_says May last (inr says) = now_as says.state says.cached says.bytes says.sector last
              (said_once May last says)

          -- behind the superblock nothing else was written
          same_data : (May : BackingState → Type 0) (last : Image) (t : ℕ)
              → IsSameImage other last ⊎ SaysState May b other last
              → last (offset + t) ≡ mixed (offset + t)
          same_data May last t (inl same) = ap (λ (i : Image). i (offset + t))
              (everywhere other last same)
              ∙ sym (ap (λ (q : Bool). if q then d (offset + t) else other (offset + t))
              (le-ltb (offset + t) offset (omega arith)))
          same_data May last t (inr says) = says.same (offset + t)
              ∙ by_test (offset + t) 8
              (λ (q : Bool). (if q then says.bytes else other (offset + t)) ≡ other (offset + t))
              (λ is. absurd (let high = behind_super in omega (arith, is, high))) (λ no. refl)
              ∙ sym (ap (λ (q : Bool). if q then d (offset + t) else other (offset + t))
              (le-ltb (offset + t) offset (omega arith)))

          backed : IsNoneDirty o (replay o y.log) → (May : BackingState → Type 0) (last : Image)
              → IsSameImage other last ⊎ SaysState May b other last → (t : ℕ)
              → last (offset + t) ≡ now (shown_by p v) H t
          backed none May last says t =
              same_data May last t says ∙ ended.backed none mixed_pair is_left t

      pub says_kept : (image other last : Image) → (cache_facts left).may_leave image
          → (backing_facts rest.disk).may_leave other → (May : BackingState → Type 0)
          → IsSameImage other last ⊎ SaysState May b other last
          → IsRecoverable p v (reverse (entries_of events))
          (record p { cache = image; backing = last })
      says_kept image other last may can May says = subst (λ (es : List Entry).
          IsRecoverable p v es (record p { cache = image; backing = last })) history
          (recoverable_says image other may can May last says)

      -- the same where each insertion is durable
      pub says_now : IsClosed (replay o y.log).machine.whole.flow → (image other last : Image)
          → (cache_facts left).may_leave image → (backing_facts rest.disk).may_leave other
          → (May : BackingState → Type 0) → IsSameImage other last ⊎ SaysState May b other last
          → IsNow p v (reverse (entries_of events)) (record p { cache = image; backing = last })
      says_now closed image other last may can May says = subst (λ (es : List Entry).
          IsNow p v es (record p { cache = image; backing = last })) history
          (now_says image other may can closed May last says)

      pub says_backed : IsClosed (replay o y.log).machine.whole.flow
          → IsNoneDirty o (replay o y.log) → (image other last : Image)
          → (cache_facts left).may_leave image → (backing_facts rest.disk).may_leave other
          → (May : BackingState → Type 0) → IsSameImage other last ⊎ SaysState May b other last
          → (t : ℕ) → last (offset + t) ≡ now (shown_by p v) (reverse (entries_of events)) t
      says_backed closed none image other last may can May says t = subst (λ (es : List Entry).
          last (offset + t) ≡ now (shown_by p v) es t) history
          (backed image other may can closed none May last says t)

      -- both devices tell what they hold
      pub rest_told : (held : Image) × ((backing_facts rest.disk).holds ≡ Some held)
      rest_told = tells y.backing.told (behind y.offset y.ahead flow_backing)
          (backing_facts rest.disk).holds (backing_facts rest.disk).may_leave told.1
          (gone.backing_is (seen_from o y)
          (inr (o, record { is = refl; origin = at_end; course = course }))).stands.content

      pub has_kept : HasKept cache_facts backing_facts s b cache backing c d v layout loaded parts
          seat events left rest.disk
      has_kept = record {
        legal = subst (IsLegal (shown_by p v)) history kept.legal;
        leaves = λ image other may can. subst (λ (es : List Entry).
            IsRecoverable p v es (record p { cache = image; backing = other })) history
            (recoverable image other may can);
      }

  pub law_kept : LawKept {C = C} {B = B} cache_facts backing_facts
  law_kept s b cache backing c d v layout loaded parts seat opened next_seq o from events left rest
      gone untorn made =
      has_kept s b cache backing c d v layout loaded parts seat opened next_seq o from events left
      rest gone untorn made
