-- Runs of events are runs of the machine.
use Rattle.std.proofs.Common.{subst, ℕ, List, sym}
use Rattle.bc_model.specs.Sector.{Image}
use Rattle.bc_disk.specs.Device.{MayLeave}
use Rattle.bc_disk.specs.declared.geometry.Geometry.{Geometry}
use Rattle.bc_leaves.specs.Parts as parts
use Rattle.bc_facts.specs.Torn.{NoTornRecord}
use Rattle.bc_image.specs.Reading.{Reading}
use Rattle.bc_known.specs.Acts as known
use Rattle.bc_events.specs.Run.{Opening, start, run, machine_events}
use Rattle.bc_events.specs.declared.event.Event.{Event}
use Rattle.bc_events.proofs.Machine.{law_machine}
use Rattle.bc_events.proofs.Names.{law_workers}
use Rattle.bc_shows.specs.On.{IsRunOn}
use Rattle.bc_shows.specs.Laws.{Shows, value_of}
use Rattle.bc_shows.specs.Events.{AreEventsOn, LawEvents}
use Rattle.bc_shows.proofs.Law.{law_shows}

module _ (g : Geometry) (w : Opening) (x : parts.State) (next_seq : ℕ) (es : List Event) (ran : AreEventsOn g w x next_seq es) where
  run_on : IsRunOn g w.machine x next_seq (machine_events w (start w x next_seq) es)
  run_on =
      let m = law_machine w (start w x next_seq) es ran.course in
      record {
        machine = ran.machine;
        sound = ran.sound;
        course = m.course;
        old_keys = ran.old_keys;
        keys = ran.keys;
        no_torn = subst (λ (s : known.State). NoTornRecord g w.machine.store.image s.whole.store.places) m.last ran.no_torn;
      }

  shows : (c b : Image) → MayLeave (run w (start w x next_seq) es).machine.whole.flow.cache c → MayLeave (run w (start w x next_seq) es).machine.whole.flow.backing b
      → (r : Reading) × Shows g w.machine (run w (start w x next_seq) es).machine c b r
  shows c b =
      let m = law_machine w (start w x next_seq) es ran.course in
      subst (λ (s : known.State). MayLeave s.whole.flow.cache c → MayLeave s.whole.flow.backing b → (r : Reading) × Shows g w.machine s c b r) (sym m.last)
      (law_shows g w.machine x next_seq (machine_events w (start w x next_seq) es) run_on c b)

pub law_events : LawEvents
law_events g w x next_seq es ran c b left =
    let k = shows g w x next_seq es ran c b left.0 left.1 in (
      k.0,
      record {
        shows = k.1;
        workers = λ apart s. ((law_workers w x next_seq es w.machine.flow.image apart ran.course).allowed s (value_of g k.0 c b s)).1 (k.1.allowed s);
      },
    )
