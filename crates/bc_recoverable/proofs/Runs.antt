-- What a run leaves, from the laws on runs of events.
use Rattle.std.proofs.Common.{◌≡◌, ℕ, List, ◌∷◌, [], refl, sym, subst}
use Rattle.bc_chosen.specs.Parts.{Parts, choices_of}
use Rattle.bc_chosen.proofs.Parts.{law_chosen}
use Rattle.bc_events.specs.Run as core
use Rattle.bc_events.specs.Run.{State, history_of, machine_events}
use Rattle.bc_events.specs.declared.event.Event.{Event}
use Rattle.bc_events.proofs.Machine.{law_machine, law_now}
use Rattle.bc_events.proofs.Names.{law_workers}
use Rattle.bc_facts.specs.Layout.{IsLayoutOf}
use Rattle.bc_facts.specs.Torn.{NoTornRecord}
use Rattle.bc_image.specs.Pair.{Pair}
use Rattle.bc_image.specs.Reading.{View}
use Rattle.bc_image.specs.Shown.{shown_by}
use Rattle.bc_known.specs.Acts as known
use Rattle.bc_known.specs.Run as machine
use Rattle.bc_dirty_laws.specs.bc_machine.Standing.{oldest_first, replay_is, replay_runs}
use Rattle.bc_dirty_laws.specs.bc_machine.World.{IsCourseOf, IsUntorn, Origin, replay}
use Rattle.bc_meta.specs.Layout.{Layout}
use Rattle.bc_model.specs.History.{Allowed, IsLegal}
use Rattle.bc_model.specs.Sector.{Image}
use Rattle.bc_opening.specs.Choices.{Choices}
use Rattle.bc_opening.specs.Opening.{IsOpenedAs}
use Rattle.bc_opening_runs.proofs.Law as shown
use Rattle.bc_reopened.specs.bc_ranges.Laws.{frame_of}
use Rattle.bc_reopened.specs.bc_ranges.Made.{AreWellMade}
use Rattle.bc_reopened.proofs.of_bc_ranges.Law.{run_new}
use Rattle.bc_reopened.proofs.Law.{law_opened}
use Rattle.bc_reopened.specs.bc_sound.Laws.{IsLeftOf, IsSoundAgain, view_with}
use Rattle.bc_reopened.proofs.of_bc_sound.Events as sound
use Rattle.bc_recoverable.specs.Runs.{IsKept, IsRunFrom, LawRuns, Recovers}
use Rattle.bc_recoverable.proofs.Made.{all_made}

untorn_last : (o : Origin) (es : List Event) → IsCourseOf o es → IsUntorn o (replay o es)
untorn_last o [] on = on
untorn_last o (e ∷ es) on = on.1

module _ (p : Pair) (v : View) (layout : Layout) (x : Parts) (o : Origin) (es : List Event)
    (h : IsRunFrom p v layout x o es) where
  abbrev pub first : State
  first = core.start o.opening o.parts o.next_seq

  abbrev pub run : List Event
  run = oldest_first es

  abbrev pub end : State
  end = core.run o.opening first run

  abbrev pub acts : List known.Event
  acts = machine_events o.opening first run

  abbrev pub choices : Choices
  choices = choices_of v.geometry v.reading x

  pub opens : IsOpenedAs p v layout choices o.opening.machine o.parts
  opens = record {
    view = h.view;
    parts = h.sound;
    is_layout = h.divided;
    opening = h.opened;
    sound = h.starts;
  }

  pub course : core.IsRun o.opening first run
  course = replay_runs o es h.course

  pub well_made : AreWellMade (frame_of p v) o.opening.machine first.machine acts
  well_made = all_made (frame_of p v) o es h.course h.made

  pub laid : IsLayoutOf v.geometry o.opening.machine.layout
  laid = subst (IsLayoutOf v.geometry) (sym h.opened.layout_is) h.divided

  abbrev pub NoTorn : known.State → Type 0
  NoTorn st = NoTornRecord v.geometry o.opening.machine.store.image st.whole.store.places

  pub untorn : NoTorn end.machine
  untorn = subst (λ (st : State). NoTorn st.machine) (replay_is o es)
      (untorn_last o es h.course v.geometry laid)

  pub last : end.machine ≡ machine.run o.opening.machine first.machine acts
  last = (law_machine o.opening first run course).last

  module _ (left : Pair) (is : IsLeftOf p v.backing.data_offset end.machine left) where
    pub again : IsSoundAgain left v
    again = (sound.law_events p v o.opening o.parts o.next_seq run (record {
      opening = law_opened p v layout choices o.opening.machine o.parts
          (opens, law_chosen p v x h.view h.sound h.read);
      course = course;
      made = well_made;
      no_torn = untorn;
    }) left is).0

    abbrev pub later : View
    later = view_with v again.0

    pub here : IsLeftOf p v.backing.data_offset
        (machine.run o.opening.machine first.machine acts) left
    here = subst (λ (st : known.State). IsLeftOf p v.backing.data_offset st left) last is

    by_seats : (s : ℕ)
        → Allowed (shown_by p v) end.machine.whole.flow.history s (shown_by left later s)
    by_seats s = subst (λ (st : known.State).
        Allowed (shown_by p v) st.whole.flow.history s (shown_by left later s)) (sym last)
        (shown.law_shown p v layout choices o.opening.machine o.parts opens o.next_seq acts (record {
          course = (law_machine o.opening first run course).course;
          keys = λ key i. (run_new (frame_of p v) o.opening.machine first.machine acts well_made key
              i).lies.ptrs;
          no_torn = subst NoTorn last untorn;
        }) left later refl (record {
          view = again.1;
          cache = here.cache;
          backing = here.backing;
        }) s)

    recovers : Recovers p v (history_of o.opening end) left
    recovers = record {
      reading = again.0;
      view = again.1;
      sound = again.2;
      shows = λ s. ((law_workers o.opening o.parts o.next_seq run (shown_by p v) h.workers
          course).allowed s (shown_by left later s)).1 (by_seats s);
    }

  pub kept : IsKept p v o es
  kept = record {
    legal = subst (λ (i : Image). IsLegal i (history_of o.opening (replay o es)))
        (λ i. λ s. h.opened.devices.image s i)
        (subst (λ (st : State). IsLegal o.opening.machine.flow.image (history_of o.opening st))
        (sym (replay_is o es)) (law_now o.opening o.parts o.next_seq run h.starts course));
    left = λ left is. subst (λ (st : State). Recovers p v (history_of o.opening st) left)
        (sym (replay_is o es)) (recovers left (subst (λ (st : State).
        IsLeftOf p v.backing.data_offset st.machine left) (replay_is o es) is));
  }

pub law_runs : LawRuns
law_runs = kept
