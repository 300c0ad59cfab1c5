-- What a seat notes of its own events: its claim, what it read under it, its last write and its open
-- flush. Other seats change nothing of it, but that a barrier of theirs makes durable what it wrote;
-- of that a seat knows nothing.
use Rattle.std.specs.Prelude.{◌≡◌, ℕ, Bool, true, false, List, length, fold, Option, Some, None}
use Rattle.bc_model.specs.Sector.{Value, at_run}
use Rattle.bc_flight.specs.declared.claim.Share.{Share}
use Rattle.bc_data.specs.Seats.{Seat, no_seat, nothing, noted}
use Rattle.bc_data.specs.Data as flow
use Rattle.bc_events.specs.Acts.{is_exclusive}
use Rattle.bc_events.specs.declared.event.LineNumber.{LineNumber}
use Rattle.bc_events.specs.declared.event.Failure.{Failure}
use Rattle.bc_events.specs.declared.event.Failure.TheVariants as failure
use Rattle.bc_events.specs.declared.event.Deed.{Deed}
use Rattle.bc_events.specs.declared.event.Deed.TheVariants as deed
use Rattle.bc_events.specs.declared.event.Event.{Event}
use Rattle.bc_machine.specs.Frame.{Range, range_of}
use Rattle.bc_machine.specs.World.{World, data_of}

-- a write under the claim, and whether no barrier of the backing device has to come for it
pub record LastWrite : Type 0 where
  pub line : ℕ
  pub first : ℕ
  pub count : ℕ
  pub firm : Bool

-- a flush, with the same
pub record OpenFlush : Type 0 where
  pub going : Bool
  pub line : ℕ
  pub firm : Bool

pub record Note : Type 0 where
  pub range : Range
  pub wrote : Bool
  pub looked : Bool
  -- what was read from the backing device since the last look
  pub read : ℕ → Option Value
  pub last : LastWrite
  pub flush : OpenFlush

abbrev pub note_in : Seat → Note
note_in x = record {
  range = range_of x.claim;
  wrote = x.claim.wrote;
  looked = x.claim.looked;
  read = x.claim.from_backing;
  last = record {
    line = x.last.line;
    first = x.last.first;
    count = x.last.count;
    firm = x.last.firm;
  };
  flush = record { going = x.flush.going; line = x.flush.line; firm = x.flush.firm };
}

abbrev pub note_of : World → ℕ → Note
note_of x i = note_in ((data_of x).seats i)

-- ---- what a deed makes of it

abbrev pub no_range : Range
no_range = record { first = 0; count = 0; exclusive = false }

-- under a claim that nothing was done with
abbrev pub with_range : Range → Bool → Note → Note
with_range range looked o = record o { range = range; wrote = false; looked = looked; read = nothing }

-- a write that stands in the history, or was tried
abbrev pub with_try : Note → Note
with_try o = record o { wrote = true; looked = false; read = nothing }

abbrev pub with_write : ℕ → ℕ → List Value → Bool → Note → Note
with_write line first values firm o = record (with_try o) {
  last = record { line = line; first = first; count = length values; firm = firm };
}

abbrev pub with_barrier : Note → Note
with_barrier o = record o {
  last = record o.last { firm = true };
  flush = record o.flush { firm = true };
}

abbrev pub after_failure : Note → Failure → Note
after_failure o (failure.BackingWrite first (Some of) values) = with_try o
after_failure o x = o

-- a plain run has no leaf to look at, so that a claim is a look
abbrev pub note_after : Bool → Note → Deed → Note
note_after plain o (deed.Claim first count how) =
    with_range (record { first = first; count = count; exclusive = is_exclusive how }) plain o
note_after plain o deed.Release = with_range no_range false o
note_after plain o (deed.Look leaf) = record o { looked = true; read = nothing }
note_after plain o (deed.BackingRead first values) =
    record o { read = λ s. noted (at_run first values s) (o.read s) }
note_after plain o (deed.BackingWrite first (Some of) values) =
    with_write of.line first values false o
note_after plain o deed.BackingBarrier = with_barrier o
note_after plain o (deed.InsertWrite leaf keys of first values) =
    with_write of.line first values true o
note_after plain o (deed.FlushFrom of) =
    record o { flush = record { going = true; line = of.line; firm = false } }
note_after plain o (deed.FlushDone of) = record o { flush = record o.flush { going = false } }
note_after plain o (deed.DeviceFault x) = after_failure o x
note_after plain o d = o

-- ---- what a seat's own events make of it

abbrev pub no_note : Note
no_note = note_in no_seat

abbrev pub note_by : Bool → List Event → Note
note_by plain es = fold (λ o e. note_after plain o e.deed) no_note es

-- ---- what others make of it

pub record IsFirmer (a b : Note) : Type 0 where
  pub range : b.range ≡ a.range
  pub wrote : b.wrote ≡ a.wrote
  pub looked : b.looked ≡ a.looked
  pub read : (s : ℕ) → b.read s ≡ a.read s
  pub last : (b.last.line ≡ a.last.line) × (b.last.first ≡ a.last.first)
      × (b.last.count ≡ a.last.count) × (a.last.firm ≡ true → b.last.firm ≡ true)
  pub flush : (b.flush.going ≡ a.flush.going) × (b.flush.line ≡ a.flush.line)
      × (a.flush.firm ≡ true → b.flush.firm ≡ true)
