-- Runs of events are runs of the machine.
use Rattle.std.proofs.Common.{subst}
use Rattle.bc_facts.specs.Torn.{NoTornRecord}
use Rattle.bc_known.specs.Acts as known
use Rattle.bc_events.specs.Run.{machine_events, start}
use Rattle.bc_events.proofs.Machine.{law_machine}
use Rattle.bc_sound.specs.Laws.{IsLeftOf}
use Rattle.bc_sound.specs.Events.{LawEvents}
use Rattle.bc_sound.proofs.Law.{law_sound}

pub law_events : LawEvents
law_events p v w x next_seq es ran left is =
    let m = law_machine w (start w x next_seq) es ran.course in
    law_sound p v w.machine x next_seq (machine_events w (start w x next_seq) es) (record {
      opening = ran.opening;
      course = m.course;
      made = ran.made;
      no_torn = subst (λ (s : known.State). NoTornRecord v.geometry w.machine.store.image s.whole.store.places) m.last ran.no_torn;
    }) left (subst (λ (s : known.State). IsLeftOf p v.backing.data_offset s left) m.last is)
