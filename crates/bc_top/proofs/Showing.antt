-- What a run that changes no value shows of a sound pair, and what it leaves of it.
use Rattle.std.proofs.Common.{◌≡◌, ◌⊎◌, inl, inr, ℕ, suc, Bool, true, false, List, [], ◌∷◌, ◌++◌, Option, Some, None, Ok, Err, append_assoc, refl, sym, ap, ◌∙◌, subst}
use Rattle.std.specs.Prelude.{All, MatchBool, OnOk, Result, length, map, nat_le, option_to_list, reverse}
use Rattle.std.proofs.lemmas.List.{reverse-append}
use Rattle.bc_book.specs.Pass.{events_in}
use Rattle.bc_sound_reads.specs.bc_cached_serve.Deeds.{AreKeeping, IsKeeping}
use Rattle.bc_sound_reads.specs.bc_cached_serve.Run.{HasServedBy}
use Rattle.bc_sound_reads.specs.bc_cached_serve.Served.{AreAnswered, HaveServed}
use Rattle.bc_sound_reads.specs.bc_cached_serve.declared.unsound.Unsound.{Unsound}
use Rattle.bc_sound_reads.specs.bc_cached_serve.declared.whole_run.Outcome.{Outcome}
use Rattle.bc_disk.specs.Disk.{DiskFacts, IfTold, IsHonest}
use Rattle.bc_session_laws.specs.bc_begun.Begin.{first_seq}
use Rattle.bc_session_laws.specs.bc_entered.Laws.{ShowsTheSame}
use Rattle.bc_events.specs.Columns.{entries_of, entry_by}
use Rattle.bc_events.specs.declared.event.Deed.{Deed}
use Rattle.bc_events.specs.declared.event.Deed.TheVariants as deed
use Rattle.bc_events.specs.declared.event.Event.{Event}
use Rattle.bc_events.specs.declared.event.Failure.{Failure}
use Rattle.bc_events.specs.declared.event.Failure.TheVariants as failure
use Rattle.bc_facts.proofs.Made.{is_layout, made}
use Rattle.bc_session_laws.specs.bc_hand.Seats.{View, by}
use Rattle.bc_image.specs.Pair.{Pair}
use Rattle.bc_image.specs.Reading as pairs
use Rattle.bc_image.specs.Reading.{IsView}
use Rattle.bc_image.specs.Shown.{shown_by}
use Rattle.bc_image.specs.Sound.{HasSoundParts}
use Rattle.bc_session_laws.specs.bc_machine.World.{Origin}
use Rattle.bc_session_laws.specs.bc_machine.declared.part.CorePart.{CorePart}
use Rattle.bc_model.specs.History.{AllowedFrom, IsLegal, Silent, floor, gives, may_give, now}
use Rattle.bc_model.specs.Sector.{Image, Value, unless}
use Rattle.bc_model.specs.declared.history.Entry.{Entry}
use Rattle.bc_model.specs.declared.history.Entry.TheVariants as entry
use Rattle.bc_model.proofs.Orders.{legal_agrees}
use Rattle.bc_session_laws.proofs.of_bc_open.States.{told_of}
use Rattle.bc_pair.specs.Found.{pair_of}
use Rattle.bc_parts.specs.Seat.{PartsView}
use Rattle.bc_recover.specs.Read.{IsReadOf}
use Rattle.bc_session_laws.specs.bc_recoverable.Made.{brings}
use Rattle.bc_replay.specs.Causes.{OfHeld}
use Rattle.bc_replay.specs.declared.held.Survey.{Survey}
use Rattle.bc_replay.proofs.Pairs.{of_both}
use Rattle.bc_script.specs.Expected.{AllAnswered, answers_of}
use Rattle.bc_script.specs.Proper.{IsLine}
use Rattle.bc_script.specs.Served.{Served}
use Rattle.bc_script.specs.declared.answer.Answer.{Answer}
use Rattle.bc_script.specs.declared.line.Line.{Line}
use Rattle.bc_script.proofs.Marks.{of_first, one_by_one}
use Rattle.bc_script.proofs.Outcomes.{outcome_from}
use Rattle.bc_sound_reads.specs.bc_serve.Causes.{entries_by}
use Rattle.bc_session_laws.specs.bc_session.Close.{IsBarrierOf, Outcome as Barrier}
use Rattle.bc_session_laws.specs.bc_session.Laws.{HoldSound}
use Rattle.bc_session_laws.specs.bc_session.Open.{IsRunOver}
use Rattle.bc_session_laws.specs.bc_session.declared.closing.CloseError.TheVariants as closings
use Rattle.bc_session_laws.proofs.of_bc_session.Seen.{law_session}
use Rattle.bc_session_laws.specs.Events.{BringNothing, OnlyReads}
use Rattle.bc_session_laws.specs.Laws.{HasKept, IsOpenedOn, IsRecoverable}
use Rattle.bc_session_laws.proofs.Closed.{law_closed}
use Rattle.bc_session_laws.proofs.Made.{law_made}
use Rattle.bc_sound_reads.proofs.Whole.{law_not_refused}
use Rattle.bc_super.specs.Reading.{ReadsSuper}
use Rattle.bc_super.specs.Super.{data_sectors}
use Rattle.bc_super.specs.declared.backing.BackingSuper.{BackingSuper}
use Rattle.bc_top.specs.Cached.{HasRunFrom, IsSeenFrom, KeepsThePair, ServesSound, TearsNone, stopped_at}

-- ---- histories that give no value

silent_gives : (e : Entry) (s : ℕ) → may_give e s ≡ None → gives e s ≡ None
silent_gives (entry.Write worker line first values) s is = is
silent_gives (entry.Tried first values) s is = refl
silent_gives e s is = refl

-- where none gives the sector anything it has what it had
now_silent : (opening : Image) (es : List Entry) (s : ℕ) → Silent s es → now opening es s ≡ opening
    s
now_silent opening [] s quiet = refl
now_silent opening (e ∷ es) s quiet =
    ap (λ (o : Option Value). unless o (now opening es s)) (silent_gives e s quiet.0)
    ∙ now_silent opening es s quiet.1

by_case : {P Q R : Type 0} (b : Bool) → MatchBool b P Q → (P → R) → (Q → R) → R
by_case true h f g = f h
by_case false h f g = g h

given_silent : {P : Type 0} (e : Entry) (s : ℕ) (v : Value) → may_give e s ≡ None
    → (may_give e s ≡ Some v) ⊎ P → P
given_silent e s v none (inl gave) = absurd (let no : None ≡ Some v = sym none ∙ gave in cc)
given_silent e s v none (inr old) = old

allowed_silent : (opening : Image) (f : ℕ) (es : List Entry) (s : ℕ) (v : Value) → Silent s es
    → AllowedFrom f opening es s v → v ≡ opening s
allowed_silent opening f [] s v quiet may = may
allowed_silent opening f (e ∷ es) s v quiet may = by_case (nat_le f (length es)) may
    (λ either. allowed_silent opening f es s v quiet.1 (given_silent e s v quiet.0 either))
    (λ is. is ∙ now_silent opening (e ∷ es) s quiet)

silent_both : (s : ℕ) (xs ys : List Entry) → Silent s xs → Silent s ys → Silent s (xs ++ ys)
silent_both s [] ys one two = two
silent_both s (x ∷ xs) ys one two = (one.0, silent_both s xs ys one.1 two)

silent_back : (s : ℕ) (es : List Entry) → Silent s es → Silent s (reverse es)
silent_back s [] quiet = tt
silent_back s (e ∷ es) quiet = subst (Silent s) (sym (reverse-append (e ∷ []) es))
    (silent_both s (reverse es) (e ∷ []) (silent_back s es quiet.1) (quiet.0, tt))

-- ---- deeds that change no value

fault_silent : (x : Failure) (s : ℕ) → IsKeeping (deed.DeviceFault x)
    → Silent s (entries_by (deed.DeviceFault x ∷ []))
fault_silent (failure.Read which) s is = tt
fault_silent (failure.Barrier which) s is = tt
fault_silent x s is = absurd is

deed_silent : (d : Deed) (s : ℕ) → IsKeeping d → Silent s (entries_by (d ∷ []))
deed_silent (deed.Claim first count how) s is = tt
deed_silent (deed.Look leaf) s is = tt
deed_silent (deed.CacheRead at first values) s is = tt
deed_silent (deed.BackingRead first values) s is = tt
deed_silent (deed.DeviceFault x) s is = fault_silent x s is
deed_silent (deed.Answer of first values) s is = (refl, tt)
deed_silent deed.Release s is = tt
deed_silent (deed.FlushFrom of) s is = (refl, tt)
deed_silent deed.BackingBarrier s is = tt
deed_silent (deed.FlushDone of) s is = (refl, tt)
deed_silent d s is = absurd is

entries_both : (xs ys : List Deed) → entries_by (xs ++ ys) ≡ entries_by xs ++ entries_by ys
entries_both [] ys = refl
entries_both (x ∷ xs) ys =
    ap (λ (l : List Entry). option_to_list (entry_by x) ++ l) (entries_both xs ys)
    ∙ sym (append_assoc (option_to_list (entry_by x)) (entries_by xs) (entries_by ys))

all_silent : (ds : List Deed) (s : ℕ) → AreKeeping ds → Silent s (entries_by ds)
all_silent [] s are = tt
all_silent (d ∷ ds) s are = subst (Silent s) (sym (entries_both (d ∷ []) ds))
    (silent_both s (entries_by (d ∷ [])) (entries_by ds) (deed_silent d s are.0)
    (all_silent ds s are.1))

fault_brings : (x : Failure) → IsKeeping (deed.DeviceFault x) → brings (deed.DeviceFault x) ≡ false
fault_brings (failure.Read which) is = refl
fault_brings (failure.Barrier which) is = refl
fault_brings x is = absurd is

deed_brings : (d : Deed) → IsKeeping d → brings d ≡ false
deed_brings (deed.Claim first count how) is = refl
deed_brings (deed.Look leaf) is = refl
deed_brings (deed.CacheRead at first values) is = refl
deed_brings (deed.BackingRead first values) is = refl
deed_brings (deed.DeviceFault x) is = fault_brings x is
deed_brings (deed.Answer of first values) is = refl
deed_brings deed.Release is = refl
deed_brings (deed.FlushFrom of) is = refl
deed_brings deed.BackingBarrier is = refl
deed_brings (deed.FlushDone of) is = refl
deed_brings d is = absurd is

none_brings : (i : ℕ) (ds : List Deed) → AreKeeping ds → BringNothing (map (by i) ds)
none_brings i [] are = tt
none_brings i (d ∷ ds) are = (deed_brings d are.0, none_brings i ds are.1)

bring_both : (xs ys : List Event) → BringNothing xs → BringNothing ys → BringNothing (xs ++ ys)
bring_both [] ys one two = two
bring_both (x ∷ xs) ys one two = (one.0, bring_both xs ys one.1 two)

-- ---- the deeds of opening and closing

-- what a closing does brings nothing, and is no entry of the history
abbrev IsIdle : List Deed → Type 0
IsIdle ds = (entries_by ds ≡ []) × BringNothing (map (by 0) ds)

idle_is : (ds es : List Deed) → ds ≡ es → IsIdle es → IsIdle ds
idle_is ds es is idle = subst IsIdle (sym is) idle

closing_idle : (o : Barrier) (ds : List Deed) (seen : List Event) → IsBarrierOf o ds seen → IsIdle
    ds
closing_idle (Ok u) ds seen is = idle_is ds _ is.0 (refl, (refl, tt))
closing_idle (Err closings.Fault) ds seen is = idle_is ds _ is (refl, (refl, tt))
closing_idle (Err (closings.Halted d)) ds seen is = either is.0
  where
    either : (ds ≡ []) ⊎ (ds ≡ deed.BackingBarrier ∷ []) → IsIdle ds
    either (inl none) = idle_is ds [] none (refl, tt)
    either (inr made) = idle_is ds _ made (refl, (refl, tt))
closing_idle (Err closings.Memory) ds seen is = idle_is ds [] is (refl, tt)

-- ---- a run that changes no value

module _ {C B : Type 0} (cache_facts : C → DiskFacts) (facts : B → DiskFacts)
    (honest : (e : B) → IsHonest (facts e)) where
  -- answers to fewer lines aren't answers to all
  too_few : (p : PartsView (CorePart C B)) (size number : ℕ) (before others : List Line) (l : Line)
      (answers : List Answer) (v w : View cache_facts facts)
      → AreAnswered cache_facts facts p size number before answers v w
      → AllAnswered size (before ++ l ∷ others) answers → ⊥
  too_few p size number [] others l [] v w are all = all
  too_few p size number [] others l (a ∷ answers) v w are all = absurd are
  too_few p size number (x ∷ before) others l [] v w are all = absurd are
  too_few p size number (x ∷ before) others l (a ∷ answers) v w (u, first, rest) all =
      too_few p size (suc number) before others l answers u w rest all.1

  -- what lines are answered is what was shown
  answers_shown : (p : PartsView (CorePart C B)) (size : ℕ) (result : Result (Unit {0}) Unsound)
      (lines : List Line) (answers : List Answer) (v w : View cache_facts facts)
      (entries : List Entry) → All IsLine lines
      → HaveServed cache_facts facts p size lines answers result v w
      → OnOk result (Served size lines answers entries) → (image : Image)
      → IsLegal image (reverse entries) → AllAnswered size lines answers
      → answers ≡ answers_of size lines image
  answers_shown p size (Ok u) lines answers v w entries are served serves image legal all =
      outcome_from size 1 lines answers entries image
      (one_by_one size 1 lines answers entries (of_first lines are) serves)
      ((legal_agrees image entries).1 legal) all
  answers_shown p size (Err stop) lines answers v w entries are served serves image legal all =
      absurd (too_few p size 1 served.before served.others served.refused answers v served.at
      served.answered.by_line
      (subst (λ (ls : List Line). AllAnswered size ls answers) served.lines_are all))

  on_served : (result : Result (Unit {0}) Unsound) {P : Type 0} → OnOk result P
      → stopped_at result ≡ None → P
  on_served (Ok u) h none = h
  on_served (Err stop) h none = absurd (cc)

  module _ (b : BackingSuper) (s : Survey) (cache : C) (backing : B) (lines : List Line)
      (are_lines : All IsLine lines) (r : Outcome C B)
      (run : HasRunFrom cache_facts facts b s cache backing lines r) where
    abbrev over : IsRunOver cache_facts facts s b run.read backing run.loaded run.over.parts
        run.over.seat
    over = run.over.over

    abbrev events : List Event
    events = events_in r.closed.pass

    abbrev size : ℕ
    size = data_sectors (facts backing).sectors b

    abbrev lines_by : HasServedBy cache_facts facts run.over.parts size lines r run.over.seat
        run.over.on.before
    lines_by = run.over.on.lines_by

    abbrev closed_by : List Deed
    closed_by = run.over.on.closed.made.deeds

    closing : IsIdle closed_by
    closing = closing_idle run.over.on.closed.barrier closed_by run.over.on.closed.last.seen
        run.over.on.closed.made.is

    silent : (t : ℕ) → Silent t (reverse (entries_of events))
    silent t = silent_back t (entries_of events) (subst (Silent t) (sym run.over.entries)
        (all_silent lines_by.deeds t lines_by.keeping))

    only : OnlyReads cache_facts facts run.over.seat events
    only = record {
      more = map (by 16) lines_by.deeds ++ map (by 0) closed_by;
      is = run.over.on.told ∙ append_assoc run.over.seat.seen (map (by 16) lines_by.deeds)
          (map (by 0) closed_by);
      nothing = bring_both (map (by 16) lines_by.deeds) (map (by 0) closed_by)
          (none_brings 16 lines_by.deeds lines_by.keeping) closing.1;
    }

    run_is : run.over.on.before.run ≡ run.over.parts.run
    run_is = lines_by.run ∙ over.started.works.run

    pub run_served : stopped_at r.served ≡ None
        → Served size lines r.answers.items (entries_of events)
    run_served none = on_served r.served run.over.serves none

    -- ---- over a sound pair

    module _ (c d : Image) (tells : (cache_facts run.read).holds ≡ Some c)
        (told : (facts backing).holds ≡ Some d) (reads : ReadsSuper (facts backing) b)
        (read : OfHeld (IsReadOf s) (cache_facts run.read) (facts backing)) where
      abbrev p : Pair
      p = pair_of (cache_facts run.read) (facts backing) c d

      of_pair : IsReadOf s p
      of_pair = told_of (λ x. IsReadOf s (pair_of (cache_facts run.read) (facts backing) c x))
          (facts backing).holds d told
          (told_of (λ x. IfTold (facts backing).holds
          (λ y. IsReadOf s (pair_of (cache_facts run.read) (facts backing) x y)))
          (cache_facts run.read).holds c tells read)

      module _ (v : pairs.View) (view : IsView p v) (sound : HasSoundParts p v) where
        abbrev hold : HoldSound cache_facts facts s b run.read backing c d v
        hold = record {
          tells = tells;
          told = told;
          reads = reads;
          read = of_pair;
          view = view;
          sound = sound;
        }

        some : (o : Origin)
            × IsSeenFrom cache_facts facts b s cache backing lines r run p v o
        some =
            let x = law_session cache_facts facts s b run.read backing c d v (made v.geometry)
            run.loaded run.over.parts run.over.seat hold (is_layout v.geometry) over in (
              x.0,
              record {
                layout = made v.geometry;
                divided = is_layout v.geometry;
                next_seq = first_seq run.loaded.journal;
                started = x.1;
              },
            )

        module _ (o : Origin) (seen : IsSeenFrom cache_facts facts b s cache backing lines r run p v
            o)
            (untorn : TearsNone cache_facts facts b s cache backing lines r run o) where
          abbrev opened : IsOpenedOn cache_facts facts s b run.read backing c d v seen.layout
              run.loaded
              run.over.parts run.over.seat
          opened = record { hold = hold; divided = seen.divided; over = over }

          kept : HasKept cache_facts facts s b run.read backing c d v seen.layout run.loaded
              run.over.parts run.over.seat events r.closed.cache r.closed.backing
          kept = law_closed cache_facts facts honest s b run.read backing c d v seen.layout
              run.loaded run.over.parts run.over.seat opened seen.next_seq o seen.started
              run.over.on.before run.dirty r.closed run_is run.over.on.closed untorn
              (law_made cache_facts facts s b run.read backing c d v seen.layout run.loaded
              run.over.parts run.over.seat opened seen.next_seq o seen.started events only)

          shows_the_same : (left : Pair) → IsRecoverable p v (reverse (entries_of events)) left
              → ShowsTheSame p v left
          shows_the_same left is = record {
            later = is.later;
            geometry = is.geometry;
            view = is.view;
            sound = is.sound;
            shows = λ t. allowed_silent (shown_by p v) (floor (reverse (entries_of events)) t)
                (reverse (entries_of events)) t (shown_by left is.later t) (silent t) (is.shows t);
          }

          keeps : KeepsThePair cache_facts facts b s cache backing lines r run p v
          keeps = record {
            legal = kept.legal;
            allowed = kept.leaves;
            same = λ image other may can. shows_the_same
                (record p { cache = image; backing = other })
                (kept.leaves image other may can);
            answers = answers_shown run.over.parts size r.served lines r.answers.items run.over.seat
                run.over.on.before (entries_of events) are_lines lines_by.served run.over.serves
                (shown_by p v) kept.legal;
            found = law_not_refused cache_facts facts s b run.dirty run.read backing c d v
                seen.layout run.loaded lines r are_lines hold seen.divided run.over seen.next_seq o
                seen.started untorn;
          }

    -- so it does over the devices of which the parts were read
    pub serves_sound : ReadsSuper (facts backing) b
        → OfHeld (IsReadOf s) (cache_facts run.read) (facts backing)
        → OfHeld (ServesSound cache_facts facts b s cache backing lines r run)
        (cache_facts run.read) (facts backing)
    serves_sound reads read = of_both
        (ServesSound cache_facts facts b s cache backing lines r run) (cache_facts run.read)
        (facts backing) (λ c d tells told v view sound. (
          some c d tells told reads read v view sound,
          keeps c d tells told reads read v view sound,
        ))
