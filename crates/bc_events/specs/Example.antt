-- A plain run, so that the laws speak of something: a forced write of one sector, acknowledged, and a
-- flush behind it.
use Rattle.std.specs.Prelude.{◌≡◌, ℕ, ◌+◌, true, List, [], ◌∷◌, Some}
use Rattle.bc_model.specs.declared.history.Entry.TheVariants.{Write, Durable as DurableEntry, FlushFrom as FlushFromEntry, FlushDone as FlushDoneEntry}
use Rattle.bc_data.specs.Laws.{IsPair}
use Rattle.bc_data.specs.Example.{plain_pair, one_value}
use Rattle.bc_flight.specs.declared.claim.Share.TheVariants.{Exclusive}
use Rattle.bc_meta.specs.Layout.{Layout}
use Rattle.bc_meta.specs.Laws as meta
use Rattle.bc_leaves.specs.Parts as parts
use Rattle.bc_events.specs.declared.event.LineNumber.{LineNumber}
use Rattle.bc_events.specs.declared.event.Deed.{Deed}
use Rattle.bc_events.specs.declared.event.Deed.TheVariants.{Claim, BackingWrite, BackingBarrier, Durable, Release, LineFrom, LineDone, FlushFrom, FlushDone}
use Rattle.bc_events.specs.declared.event.Event.{Event}
use Rattle.bc_events.specs.Run.{Opening, start, IsEnabled, IsRun, run, history_of}

-- a pair whose cache device isn't used, and however it is laid out; seat 1 is of worker 7
abbrev pub unused_cache : Layout → ℕ → meta.Opening → Opening
unused_cache layout before store = record {
  machine = record { flow = plain_pair; layout = layout; before = before; store = store };
  worker = λ i. 6 + i;
}

abbrev pub line : ℕ → LineNumber
line n = record { worker = 7; line = n }

abbrev pub by_seat_1 : List Deed → List Event
by_seat_1 [] = []
by_seat_1 (d ∷ ds) = record { seat = 1; deed = d } ∷ by_seat_1 ds

-- a write behind a claim, which is the seat's alone
abbrev pub written : List Deed
written = LineFrom (line 3) ∷ Claim 0 1 Exclusive
    ∷ BackingWrite 0 (Some (line 3)) (one_value ∷ []) ∷ []

abbrev pub deeds : List Deed
deeds = LineFrom (line 3) ∷ Claim 0 1 Exclusive
    ∷ BackingWrite 0 (Some (line 3)) (one_value ∷ []) ∷ BackingBarrier ∷ Durable (line 3) 0 1
    ∷ Release ∷ LineDone (line 3) ∷ FlushFrom (line 4) ∷ BackingBarrier ∷ FlushDone (line 4) ∷ []

pub record IsExample (w : Opening) (x : parts.State) (next_seq : ℕ) : Type 0 where
  pub plain : w.machine.flow.plain ≡ true
  pub sound : IsPair w.machine.flow
  pub course : IsRun w (start w x next_seq) (by_seat_1 deeds)
  pub history : history_of w (run w (start w x next_seq) (by_seat_1 deeds)) ≡ FlushDoneEntry 7 4
      ∷ FlushFromEntry 7 4 ∷ DurableEntry 7 3 0 1 ∷ Write 7 3 0 (one_value ∷ []) ∷ []

abbrev pub LawPlainRuns : Type 0
LawPlainRuns = (layout : Layout) (before : ℕ) (store : meta.Opening) (x : parts.State) (n : ℕ)
    → IsExample (unused_cache layout before store) x n

-- without the barrier the write isn't acknowledged
abbrev pub LawPlainTooth : Type 0
LawPlainTooth = (layout : Layout) (before : ℕ) (store : meta.Opening) (x : parts.State) (n : ℕ)
    → (let w = unused_cache layout before store in
    IsEnabled w (run w (start w x n) (by_seat_1 written))
    (record { seat = 1; deed = Durable (line 3) 0 1 })) → ⊥
