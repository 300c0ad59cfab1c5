-- What is left of both devices behind a closing.
use Rattle.std.proofs.Common.{◌≡◌, ℕ, Bool, true, false, List, ◌∷◌, [], Ok, Err, sym, ◌∙◌, subst}
use Rattle.std.specs.Prelude.{OnErr, OnOk, fold, reverse}
use Rattle.bc_disk.specs.Disk.{DiskFacts, IsHonest, Overwritten, Torn}
use Rattle.bc_events.specs.Columns.{entries_of}
use Rattle.bc_events.specs.declared.event.Event.{Event}
use Rattle.bc_plain_laws.specs.bc_hand.Seats.{View, core}
use Rattle.bc_image.specs.Pair.{Pair}
use Rattle.bc_image.specs.Reading as pairs
use Rattle.bc_session.specs.bc_loaded.declared.loading.Loaded.{Loaded}
use Rattle.bc_recoverable.specs.bc_machine.World.{IsBacking, IsCache, Origin, after, opening}
use Rattle.bc_recoverable.specs.bc_machine.declared.part.CorePart.{CorePart}
use Rattle.bc_meta.specs.Layout.{Layout}
use Rattle.bc_model.specs.Sector.{Image, Value}
use Rattle.bc_session.proofs.of_bc_open.States.{Later, later_of, over_torn, told_of, torn_says}
use Rattle.bc_pair.specs.Found.{pair_of}
use Rattle.bc_parts.specs.Machine.{IsRun}
use Rattle.bc_parts.specs.Seat.{PartsView, Run}
use Rattle.bc_recoverable.specs.bc_ranges.Laws.{frame_of}
use Rattle.bc_recoverable.specs.Made.{AreMade}
use Rattle.bc_replay.specs.declared.held.Survey.{Survey}
use Rattle.bc_session.specs.Close.{HasClosed, IsLastState, Outcome}
use Rattle.bc_session.specs.declared.closing.Closed.{Closed}
use Rattle.bc_session.specs.bc_started.Laws.{AreUntorn}
use Rattle.bc_state.specs.State.{super_in}
use Rattle.bc_super.specs.Writing.{IsBackingSector, IsBackingStored, IsBackingTorn}
use Rattle.bc_super.specs.declared.backing.BackingSuper.{BackingSuper}
use Rattle.bc_super.specs.declared.state.BackingState.{BackingState}
use Rattle.bc_super.specs.declared.state.BackingState.TheVariants as states
use Rattle.bc_session_laws.specs.Events.{HasGone, left_by}
use Rattle.bc_session_laws.specs.Laws.{HasKept, IsFrom, IsOpenedOn, IsRecoverable, LawClosed}
use Rattle.bc_session_laws.proofs.Kept.{has_kept, rest_told, says_kept}

module _ {C B : Type 0} (cache_facts : C → DiskFacts) (backing_facts : B → DiskFacts)
    (honest : (e : B) → IsHonest (backing_facts e)) where
  module _ (s : Survey) (b : BackingSuper) (cache : C) (backing : B) (c d : Image)
      (v : pairs.View) (layout : Layout) (loaded : Loaded) (parts : PartsView (CorePart C B))
      (seat : View cache_facts backing_facts)
      (opened : IsOpenedOn cache_facts backing_facts s b cache backing c d v layout loaded parts
      seat) (next_seq : ℕ) (o : Origin)
      (from : IsFrom cache_facts backing_facts s b cache backing c d v layout loaded parts seat
      opened next_seq o) (last : View cache_facts backing_facts) (dirty : Bool) (r : Closed C B)
      (run_is : last.run ≡ parts.run)
      (closed : HasClosed cache_facts backing_facts b dirty last r) where
    abbrev p : Pair
    p = pair_of (cache_facts cache) (backing_facts backing) c d

    abbrev events : List Event
    events = closed.last.seen

    same_run : closed.last.run ≡ parts.run
    same_run = closed.made.done.same.run ∙ run_is

    gone : HasGone cache_facts backing_facts parts events r.cache closed.between
    gone = record {
      run = subst (λ (q : Run (CorePart C B)). IsRun (core cache_facts backing_facts)
          (opening cache_facts backing_facts q.start) events) same_run closed.seat.seat.run;
      cache_is = subst (λ (q : Run (CorePart C B)). IsCache {C = C} {B = B} cache_facts
          backing_facts r.cache (fold after (opening cache_facts backing_facts q.start) events))
          same_run closed.cache;
      backing_is = subst (λ (q : Run (CorePart C B)). IsBacking {C = C} {B = B} cache_facts
          backing_facts closed.between
          (fold after (opening cache_facts backing_facts q.start) events)) same_run
          closed.backing;
    }

    module _ (untorn : AreUntorn o (left_by cache_facts backing_facts parts events).log)
        (made : AreMade (frame_of p v) o (left_by cache_facts backing_facts parts events).log) where
      abbrev mid : DiskFacts
      mid = backing_facts closed.between.disk

      abbrev Leaves : B → Type 0
      Leaves e = (image other : Image) → (cache_facts r.cache).may_leave image
          → (backing_facts e).may_leave other
          → IsRecoverable p v (reverse (entries_of events))
          (record p { cache = image; backing = other })

      before : HasKept cache_facts backing_facts s b cache backing c d v layout loaded parts seat
          events r.cache closed.between.disk
      before = has_kept cache_facts backing_facts s b cache backing c d v layout loaded parts seat
          opened next_seq o from events r.cache closed.between gone untorn made

      -- the sector of the superblock was written, or not
      torn_kept : (bytes : Value) → IsBackingSector bytes (super_in states.Clean b)
          → (image was other : Image) → (cache_facts r.cache).may_leave image → mid.may_leave was
          → Torn 8 (bytes ∷ []) was other → IsRecoverable p v (reverse (entries_of events))
          (record p { cache = image; backing = other })
      torn_kept bytes sector image was other may can torn =
          says_kept cache_facts backing_facts s b cache backing c d v layout loaded parts seat
          opened next_seq o from events r.cache closed.between gone untorn made image was other may
          can (λ (state : BackingState). Unit {0})
          (torn_says (λ (state : BackingState). Unit {0}) b states.Clean tt tt bytes sector was
          other torn)

      stored : IsBackingStored (super_in states.Clean b) mid (backing_facts r.backing)
          → Leaves r.backing
      stored (bytes, sector, is) image other may can =
          let held = rest_told cache_facts backing_facts s b cache backing c d v layout loaded parts
          seat opened next_seq o from events r.cache closed.between gone untorn made in
          let new : Later (Overwritten 8 (bytes ∷ [])) held.0 (backing_facts r.backing).holds =
          later_of (Overwritten 8 (bytes ∷ [])) mid.holds (backing_facts r.backing).holds held.0
          held.1 is.holds in
          let left = told_of (λ (i : Image). (image : Image) → (backing_facts r.backing).may_leave
          image → (t : ℕ) → image t ≡ i t) (backing_facts r.backing).holds new.image new.is
          is.leaves other can in
          torn_kept bytes sector image held.0 other may
          (told_of mid.may_leave mid.holds held.0 held.1 (honest closed.between.disk).possible)
          (over_torn 8 (bytes ∷ []) held.0 other (λ t. left t ∙ new.related t))

      failed : IsBackingTorn (super_in states.Clean b) mid (backing_facts r.backing)
          → Leaves r.backing
      failed (bytes, sector, is) image other may can =
          let was = is.leaves.adds other can in
          torn_kept bytes sector image was.0 other may was.1 was.2

      said : (x : Outcome)
          → OnOk x (IsBackingStored (super_in states.Clean b) mid (backing_facts r.backing))
          → OnErr x (IsBackingTorn (super_in states.Clean b) mid (backing_facts r.backing))
          → Leaves r.backing
      said (Ok u) ok err = stored ok
      said (Err why) ok err = failed err

      go : (barrier : Outcome) (dirty : Bool)
          → IsLastState backing_facts b dirty barrier r.result closed.between.disk r.backing
          → Leaves r.backing
      go (Err why) dirty is = subst Leaves (sym is.1) before.leaves
      go (Ok u) true is = subst Leaves (sym is.1) before.leaves
      go (Ok u) false is = said r.result is.ok is.failed

      pub has_closed : HasKept cache_facts backing_facts s b cache backing c d v layout loaded parts
          seat events r.cache r.backing
      has_closed = record {
        legal = before.legal;
        leaves = go closed.barrier dirty closed.state;
      }

  pub law_closed : LawClosed {C = C} {B = B} cache_facts backing_facts
  law_closed s b cache backing c d v layout loaded parts seat opened next_seq o from last dirty r
      run_is closed untorn made =
      subst (λ (es : List Event). HasKept cache_facts backing_facts s b cache backing c d v layout
      loaded parts seat es r.cache r.backing) (sym closed.events)
      (has_closed s b cache backing c d v layout loaded parts seat opened next_seq o from last dirty
      r run_is closed
      (subst (λ (es : List Event). AreUntorn o (left_by cache_facts backing_facts parts es).log)
      closed.events untorn)
      (subst (λ (es : List Event). AreMade
      (frame_of (pair_of (cache_facts cache) (backing_facts backing) c d) v) o
      (left_by cache_facts backing_facts parts es).log) closed.events made))
