-- From what the end of a run says to what it promises.
use Rattle.std.proofs.Common.{◌≡◌, inl, inr, ℕ, ◌+◌, ◌≤◌, Bool, true, false, List, [], ◌∷◌, reverse, Option, Some, None, append-nil, refl, sym, ap, ◌∙◌, subst}
use Rattle.std.specs.Prelude.{is_some, ◌&&◌}
use Rattle.std.proofs.lemmas.Bool.{and_parts}
use Rattle.bc_model.specs.Sector.{Value, Image}
use Rattle.bc_model.specs.History.{now, IsLegal, Allowed}
use Rattle.bc_disk.specs.Device.{Content, Among, MayLeave}
use Rattle.bc_disk.specs.Disk.{DiskFacts, IfTold}
use Rattle.bc_disk.specs.declared.disk.Device.{Device}
use Rattle.bc_flight.specs.Flight.{InFlight}
use Rattle.bc_parts.specs.Machine.{IsRun}
use Rattle.bc_events.specs.Run as core
use Rattle.bc_events.specs.Run.{history_of}
use Rattle.bc_events.specs.Columns.{entries_of, halt_of}
use Rattle.bc_events.proofs.Plain as plain_law
use Rattle.bc_events.proofs.Names.{law_workers}
use Rattle.bc_events.specs.declared.event.Event.{Event}
use Rattle.bc_hand.specs.bc_machine.declared.part.BackingPart.{BackingPart}
use Rattle.bc_hand.specs.bc_machine.declared.part.CorePart.{CorePart}
use Rattle.bc_hand.specs.bc_machine.declared.part.CorePart.TheVariants as part
use Rattle.bc_hand.specs.bc_machine.Plain.{no_parts}
use Rattle.bc_hand.specs.bc_machine.World.{World, behind, data_of, is_told, is_some_image, image_of, cache_among, are_plain, data_among, opening, IsBackingOf, IsBacking}
use Rattle.bc_hand.specs.Seats.{core as machine}
use Rattle.bc_plain_laws.specs.Promises.{Survives, LeavesLastWrites, IsOutside, IsUntouched}
use Rattle.bc_plain_laws.specs.Laws.{HasHistory, EndsFirmly, IsPlainRun, last, data_offset, data_size, LawHistory, LawLegal, LawSurvives, LawStable, LawOutside, Promises, LawPromises}
use Rattle.bc_plain_laws.proofs.Following.{told_events, opening_events, offset_events, ahead_events, now_events, follows}
use Rattle.bc_plain_laws.proofs.Entries.{entries_run}
use Rattle.bc_plain_laws.proofs.Halts.{halted_run}
use Rattle.bc_plain_laws.proofs.Opened.{pair_of, workers_of}
use Rattle.bc_plain_laws.proofs.Outside.{IsBounded, bounded_run, bounded_opened}
use Rattle.bc_plain_laws.proofs.Devices.{told_holds, told_leaves, map_told, all_values, data_at, before_at, behind_at}

if_told : (o : Option Image) (P : Image → Type 0) → (is_some_image o ≡ true → P (image_of o))
    → IfTold o P
if_told None P h = tt
if_told (Some image) P h = h refl

module _ {C B : Type 0} (cache_facts : C → DiskFacts) (backing_facts : B → DiskFacts)
    (ps : List (CorePart C B)) (es : List Event) (h : IsPlainRun cache_facts backing_facts ps es)
    (on : is_some_image (data_among cache_facts backing_facts ps).device.holds ≡ true) where
  abbrev first : World
  first = opening cache_facts backing_facts ps

  abbrev w : core.Opening
  w = first.opening

  abbrev offset : ℕ
  offset = data_offset cache_facts backing_facts ps

  abbrev size : ℕ
  size = data_size cache_facts backing_facts ps

  abbrev held : Image
  held = image_of (data_among cache_facts backing_facts ps).device.holds

  abbrev shown : Image
  shown = λ s. held (offset + s)

  -- what the cache device held, if there is one
  abbrev cached : Image
  cached = image_of (cache_among cache_facts backing_facts ps).holds

  abbrev plain : Bool
  plain = are_plain cache_facts backing_facts ps

  abbrev end : World
  end = last cache_facts backing_facts ps es

  abbrev st : core.State
  st = core.run w first.now es

  told : is_told first ≡ true
  told = ap (λ b. b && first.backing.told) (no_cache ps h.plain) ∙ on
    where
      no_cache : (qs : List (CorePart C B)) → are_plain cache_facts backing_facts qs ≡ true
          → is_some_image (cache_among cache_facts backing_facts qs).holds ≡ true
      no_cache [] is = refl
      no_cache (part.Cache c ∷ qs) is = absurd (cc)
      no_cache (q ∷ qs) is = no_cache qs is

  course : core.IsRun w first.now es
  course = follows cache_facts backing_facts first es told h.plain h.course

  now_is : end.now ≡ st
  now_is = now_events first es

  -- ---- the history

  history : history_of w st ≡ reverse (entries_of es)
  history = entries_run w first.now es course ∙ append-nil (reverse (entries_of es))

  halted : st.machine.whole.flow.halted ≡ is_some (halt_of es)
  halted = halted_run w first.now es None h.plain refl course

  pub has_history : HasHistory end es
  has_history = record {
    history = ap (λ (o : core.Opening). history_of o end.now) (opening_events first es)
        ∙ ap (λ (x : core.State). history_of w x) now_is ∙ history;
    halted = ap (λ (x : core.State). x.machine.whole.flow.halted) now_is ∙ halted;
  }

  pub legal : IsLegal shown (reverse (entries_of es))
  legal = subst (IsLegal shown) history (plain_law.law_plain_now w no_parts 0 es h.plain
      (pair_of plain size cached shown) course)

  allowed : (b : Image) → MayLeave st.machine.whole.flow.backing b → (s : ℕ)
      → Allowed shown (reverse (entries_of es)) s (b s)
  allowed b left s = subst (λ H. Allowed shown H s (b s)) history
      (((law_workers w no_parts 0 es shown (workers_of plain size cached shown) course).allowed s (b s)).1
      (plain_law.law_plain_crash w no_parts 0 es h.plain
      (pair_of plain size cached shown) course b left s))

  stable : EndsFirmly es → (b : Image) → MayLeave st.machine.whole.flow.backing b → (s : ℕ)
      → b s ≡ now shown (reverse (entries_of es)) s
  stable firm b left s =
      plain_law.law_plain_stable w no_parts 0 firm.before firm.seat h.plain
      (pair_of plain size cached shown)
      (subst (core.IsRun w first.now) firm.is course)
      (subst (λ l. (core.run w first.now l).machine.whole.flow.halted ≡ false) firm.is
      (halted ∙ ap (λ (o : Option Device). is_some o) firm.running))
      b (subst (λ l. MayLeave (core.run w first.now l).machine.whole.flow.backing b) firm.is left) s
      ∙ ap (λ l. now shown (history_of w (core.run w first.now l)) s) (sym firm.is)
      ∙ ap (λ H. now shown H s) history

  bounded : IsBounded w.machine.flow st.machine.whole.flow
  bounded = bounded_run w first.now es h.plain (bounded_opened w.machine.flow) course

  -- ---- the device

  module _ (backing : BackingPart B)
      (stands : IsBacking {C = C} cache_facts backing_facts backing end) where
    abbrev after_ : DiskFacts
    after_ = backing_facts backing.disk

    base : IsBackingOf {C = C} cache_facts backing_facts backing end
    base = stands end (inl refl)

    abbrev content : Content
    content = behind offset held st.machine.whole.flow.backing

    told_end : end.backing.told ≡ true
    told_end = (and_parts end.cache.told end.backing.told (told_events first es ∙ told)).1

    same : behind end.offset end.ahead (data_of end).backing ≡ content
    same = ap (λ o. behind o end.ahead (data_of end).backing) (offset_events first es)
        ∙ ap (λ (a : Image). behind offset a (data_of end).backing) (ahead_events first es)
        ∙ ap (λ (x : core.State). behind offset held x.machine.whole.flow.backing) now_is

    left_of : (left : Image) → after_.may_leave left → MayLeave content left
    left_of left can = subst (λ c. MayLeave c left) same (told_leaves end.backing.told
        (behind end.offset end.ahead (data_of end).backing) after_.holds after_.may_leave told_end
        base.stands.content left can)

    held_of : IfTold after_.holds (λ new. (t : ℕ) → Among (new t) (content.reads t))
    held_of = subst (λ c. IfTold after_.holds (λ new. (t : ℕ) → Among (new t) (c.reads t))) same
        (told_holds end.backing.told (behind end.offset end.ahead (data_of end).backing)
        after_.holds after_.may_leave told_end base.stands.content)

    data_left : (left : Image) → after_.may_leave left
        → MayLeave st.machine.whole.flow.backing (λ s. left (offset + s))
    data_left left can =
        data_at offset held left st.machine.whole.flow.backing.leaves (left_of left can)

    pub survives : Survives offset held (entries_of es) after_
    survives = (legal, λ left can s. allowed (λ s. left (offset + s)) (data_left left can) s)

    pub is_stable : EndsFirmly es → LeavesLastWrites offset held (entries_of es) after_
    is_stable firm left can s = stable firm (λ s. left (offset + s)) (data_left left can) s

    outside : (image : Image) (values : ℕ → List Value)
        → ((t : ℕ) → Among (image t) (all_values offset held values t))
        → ((s : ℕ) → size ≤ s → values s ≡ held (offset + s) ∷ []) → (t : ℕ)
        → IsOutside offset size t → image t ≡ held t
    outside image values among one t at = elim at [
      | inl low ↦ before_at offset held image values among t low
      | inr high ↦ behind_at offset held image values among size held one t high
    ]

    pub untouched : IsUntouched offset size held after_
    untouched = record {
      reads = map_told after_.holds _ _ (λ new among.
          outside new st.machine.whole.flow.backing.reads among
          (λ s high. (bounded.behind s high).0)) held_of;
      leaves = λ left can. outside left st.machine.whole.flow.backing.leaves (left_of left can)
          (λ s high. (bounded.behind s high).1);
    }

module _ {C B : Type 0} (cache_facts : C → DiskFacts) (backing_facts : B → DiskFacts) where
  -- the parts of a run over this device alone
  abbrev begins_on : InFlight → BackingPart B → List (CorePart C B)
  begins_on flight backing = part.Absent ∷ part.Flight flight ∷ part.Absent ∷ part.Absent
      ∷ part.Absent ∷ part.Backing backing ∷ []

  abbrev holds_of : List (CorePart C B) → Option Image
  holds_of ps = (data_among cache_facts backing_facts ps).device.holds

  pub law_history : LawHistory cache_facts backing_facts
  law_history ps es h = if_told (holds_of ps) _
      (λ on. has_history cache_facts backing_facts ps es h on)

  pub law_legal : LawLegal cache_facts backing_facts
  law_legal ps es h = if_told (holds_of ps) _ (λ on. legal cache_facts backing_facts ps es h on)

  pub law_survives : LawSurvives cache_facts backing_facts
  law_survives ps es h = if_told (holds_of ps) _
      (λ on backing stands. survives cache_facts backing_facts ps es h on backing stands)

  pub law_stable : LawStable cache_facts backing_facts
  law_stable ps es h = if_told (holds_of ps) _
      (λ on backing stands firm. is_stable cache_facts backing_facts ps es h on backing stands firm)

  pub law_outside : LawOutside cache_facts backing_facts
  law_outside ps es h = if_told (holds_of ps) _
      (λ on backing stands. untouched cache_facts backing_facts ps es h on backing stands)

  -- ---- all of it

  all_of : (backing left : BackingPart B) (ps : List (CorePart C B)) (es : List Event)
      → (flight : InFlight) → ps ≡ begins_on flight backing
      → IsRun (machine cache_facts backing_facts) (opening cache_facts backing_facts ps) es
      → IsBacking {C = C} cache_facts backing_facts left (last cache_facts backing_facts ps es)
      → is_some_image (backing_facts backing.disk).holds ≡ true
      → Promises {C = C} cache_facts backing_facts backing es
      (image_of (backing_facts backing.disk).holds) (backing_facts left.disk)
  all_of backing left ps es flight is course stands on =
      let start : List (CorePart C B) = begins_on flight backing in
      let run : IsPlainRun cache_facts backing_facts start es = record {
        plain = refl;
        course = subst (λ (l : List (CorePart C B)). IsRun (machine cache_facts backing_facts)
            (opening cache_facts backing_facts l) es) is course;
      } in
      let end_stands = subst (λ (l : List (CorePart C B)).
      IsBacking {C = C} cache_facts backing_facts left (last cache_facts backing_facts l es)) is
      stands in
      record {
        survives = survives cache_facts backing_facts start es run on left end_stands;
        stable = is_stable cache_facts backing_facts start es run on left end_stands;
        outside = untouched cache_facts backing_facts start es run on left end_stands;
      }

  pub law_promises : LawPromises cache_facts backing_facts
  law_promises backing left ps es begins course stands =
      if_told (backing_facts backing.disk).holds _
      (λ on. all_of backing left ps es begins.0 begins.1 course stands on)
