-- What a seat of any machine knows, and what it has done.
use Rattle.std.specs.Prelude.{◌≡◌, ℕ, ◌+◌, ◌<◌, Bool, false, List, [], ◌∷◌, ◌++◌, length, fold, All, None}
use Rattle.bc_parts.specs.declared.machine.Machine.{Ghosts}
use Rattle.bc_parts.specs.Machine.{state_after, IsRun, events_by}
use Rattle.bc_parts.specs.Seat.{SeatView, Holds}
use Rattle.bc_parts.specs.Later.{IsForeign}

module _ {Z P E B T : Type 0} (m : Ghosts Z P E B T) where
  -- the state that the seat has seen, and which of the events are its own
  abbrev pub state_seen : SeatView P E T → m.State
  state_seen v = state_after m v.run.start v.seen

  abbrev pub own_events : SeatView P E T → List E
  own_events v = events_by m v.first v.seen

  -- a seat with a number, of a run
  pub record IsSeat (v : SeatView P E T) : Type 0 where
    pub live : v.first < v.end
    pub run : IsRun m (m.opening v.run.start) v.seen

  -- ---- facts

  -- no event of this class makes the fact false
  abbrev pub Steady : (E → Type 0) → (m.State → Type 0) → Type 0
  Steady These F = (x : m.State) (e : E) → m.enabled x e → These e → F x → F (m.after x e)

  -- no event at all does
  abbrev pub Lasting : (m.State → Type 0) → Type 0
  Lasting F = (x : m.State) (e : E) → m.enabled x e → F x → F (m.after x e)

  -- an event of another seat, which changes no part that this one holds
  abbrev pub Foreign : SeatView P E T → E → Type 0
  Foreign v e = IsForeign m (length v.run.start) v.first v.end v.parts e

  -- others can have led the run to this state since the seat looked last
  pub record Since (v : SeatView P E T) (x : m.State) : Type 0 where
    pub others : List E
    pub is : x ≡ fold m.after (state_seen v) others
    pub follow : IsRun m (state_seen v) others
    pub foreign : All (Foreign v) others

  -- ---- what a seat has done

  -- the list that it has seen went on, and of its numbers but the first by nothing
  pub record Grown (v w : SeatView P E T) : Type 0 where
    pub more : List E
    pub seen : w.seen ≡ v.seen ++ more
    pub rest : (n : ℕ) → v.first < n → n < v.end → events_by m n w.seen ≡ events_by m n v.seen

  -- the same seat of the same run
  pub record Same (v w : SeatView P E T) : Type 0 where
    pub run : w.run ≡ v.run
    pub first : w.first ≡ v.first
    pub end : w.end ≡ v.end

  -- it has only waited
  pub record Waited (v w : SeatView P E T) : Type 0 where
    pub same : Same v w
    pub promises : w.promises ≡ v.promises
    pub own : own_events w ≡ own_events v
    pub since : Since v (state_seen w)
    pub grown : Grown v w
    -- it forgot no stop that it was told of
    pub heard : w.heard ≡ None → v.heard ≡ None

  -- it committed this event, behind some events of others, and nothing else
  pub record Committed (v : SeatView P E T) (e : E) (w : SeatView P E T) : Type 0 where
    pub same : Same v w
    pub promises : w.promises + 1 ≡ v.promises
    pub own : own_events w ≡ own_events v ++ e ∷ []
    pub before : m.State
    pub since : Since v before
    pub may : m.enabled before e
    pub state : state_seen w ≡ m.after before e
    pub grown : Grown v w
    -- it was told of the stop that the events have made then
    pub heard : w.heard ≡ m.stop w.seen

  -- it holds what it held, and that stands still, but for these parts
  pub record Kept (v w : SeatView P E T) (changed : ℕ → Bool) : Type 0 where
    pub seat : IsSeat w
    pub same : Same v w
    pub parts : w.parts ≡ v.parts
    pub rest : (k : ℕ) (p : P) → Holds v.parts k → changed k ≡ false
        → m.stands k p (state_seen v) → m.stands k p (state_seen w)

  -- the run went on, and of that these events are its own, in order
  pub record Went (v : SeatView P E T) (es : List E) (w : SeatView P E T) : Type 0 where
    pub same : Same v w
    pub own : own_events w ≡ own_events v ++ es
    pub all : List E
    pub is : state_seen w ≡ fold m.after (state_seen v) all
    pub follow : IsRun m (state_seen v) all
    pub grown : Grown v w
