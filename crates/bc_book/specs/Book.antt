-- What a book is seen as.
use Rattle.std.specs.Prelude.{ℕ, List}
use Rattle.bc_events.specs.declared.event.Event.{Event}

pub record BookView : Type 0 where
  pub events : List Event
  -- how many more events it has room for
  pub room : ℕ
