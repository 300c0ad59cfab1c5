-- Lists of events of a machine, and the states that they leave.
use Rattle.std.specs.Prelude.{ℕ, ◌+◌, ◌==◌, List, [], ◌∷◌, fold, filter}
use Rattle.bc_parts.specs.declared.machine.Machine.{Ghosts}
use Rattle.bc_parts.specs.Course.{IsCourse}

module _ {Z P E B T : Type 0} (m : Ghosts Z P E B T) where
  -- the state that these events leave, in a run that began with these parts
  abbrev pub state_after : List P → List E → m.State
  state_after start es = fold m.after (m.opening start) es

  -- each event is enabled in the state that those before it leave
  abbrev pub IsRun : m.State → List E → Type 0
  IsRun x es = IsCourse m.enabled m.after x es

  -- these values stand for the state, as those of the parts from the number k on
  abbrev pub StandFrom : m.State → ℕ → List P → Type 0
  StandFrom x k [] = Unit {0}
  StandFrom x k (p ∷ ps) = m.stands k p x × StandFrom x (k + 1) ps

  -- the events that were committed with this number, in order
  abbrev pub events_by : ℕ → List E → List E
  events_by n es = filter (λ e. m.number e == n) es
