-- The entry of an opening can be written, whatever the pair holds, and puts nothing into the history.
use Rattle.std.specs.Prelude.{◌≡◌, ℕ, false, []}
use Rattle.bc_leaves.specs.Parts as parts
use Rattle.bc_whole.specs.State as whole
use Rattle.bc_known.specs.Laws.{IsSound}
use Rattle.bc_known.specs.Run as machine
use Rattle.bc_events.specs.Run.{Opening, by, start, history_of, IsRun, run}
use Rattle.bc_first_entry.specs.Entry.{Entering, FirstEntry, CanFirst, by_first, entering, entering_acts, first_deeds, EachStopped}

-- the acts are a run of the machine by itself
abbrev pub LawEnters : Type 0
LawEnters = (w : whole.Opening) (x : parts.State) (next_seq : ℕ) (p : Entering) → IsSound w x
    → CanFirst w x p → machine.IsRun w (machine.start w x next_seq) (by 0 (entering_acts p))

-- an opening with a cache, and an entry that fits
pub record IsReady (w : Opening) (x : parts.State) (p : FirstEntry) : Type 0 where
  pub sound : IsSound w.machine x
  pub cached : w.machine.flow.plain ≡ false
  pub can : CanFirst w.machine x (entering p)

abbrev pub LawFirst : Type 0
LawFirst = (w : Opening) (x : parts.State) (next_seq : ℕ) (p : FirstEntry) → IsReady w x p
    → IsRun w (start w x next_seq) (by_first (first_deeds w p))

abbrev pub LawStopped : Type 0
LawStopped = (w : Opening) (x : parts.State) (next_seq : ℕ) (p : FirstEntry) → IsReady w x p
    → EachStopped w p (λ ds. IsRun w (start w x next_seq) (by_first ds))

-- So each image that a crash leaves of it is allowed to show what was opened alone.
abbrev pub LawQuiet : Type 0
LawQuiet = (w : Opening) (x : parts.State) (next_seq : ℕ) (p : FirstEntry)
    → let st = start w x next_seq in
    (history_of w (run w st (by_first (first_deeds w p))) ≡ [])
    × EachStopped w p (λ ds. history_of w (run w st (by_first ds)) ≡ [])
