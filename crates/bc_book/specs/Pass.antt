-- Which events a pass keeps.
use Rattle.std.specs.Prelude.{ℕ, List, map, slice_get, Option, Some, None}
use Rattle.bc_model.specs.Sector.{Value}
use Rattle.bc_model.specs.declared.history.Entry.{Entry}
use Rattle.bc_model.specs.declared.history.Entry.TheVariants as entry
use Rattle.bc_events.specs.declared.event.LineNumber.{LineNumber}
use Rattle.bc_events.specs.declared.event.Written.TheVariants as written
use Rattle.bc_events.specs.declared.event.Failure.TheVariants as failure
use Rattle.bc_events.specs.declared.event.Deed.{Deed}
use Rattle.bc_events.specs.declared.event.Deed.TheVariants as deed
use Rattle.bc_events.specs.declared.event.Event.{Event}
use Rattle.bc_book.specs.declared.pass.Reading.{Reading}
use Rattle.bc_book.specs.declared.pass.Insertion.{Insertion}
use Rattle.bc_book.specs.declared.pass.Record.{Record}
use Rattle.bc_book.specs.declared.pass.Record.TheVariants as records
use Rattle.bc_book.specs.declared.pass.Pass.{Pass}

-- the lists in which a record names a place
pub record Kept : Type 0 where
  pub entries : List Entry
  pub beside : List (List Value)
  pub readings : List Reading
  pub insertions : List Insertion
  pub others : List Deed

abbrev pub kept_of : Pass → Kept
kept_of p = record {
  entries = p.entries.items;
  beside = p.beside.items;
  readings = p.readings.items;
  insertions = p.insertions.items;
  others = p.others.items;
}

abbrev pub line : ℕ → ℕ → LineNumber
line worker number = record { worker = worker; line = number }

-- what the item at a place tells: each place that a pass has is there
abbrev pub deed_at : {A : Type 0} → (A → Deed) → Option A → Deed
deed_at f None = deed.Release
deed_at f (Some x) = f x

-- the deed that an entry tells
abbrev pub deed_of_entry : Entry → Deed
deed_of_entry (entry.Write worker number first values) =
    deed.BackingWrite first (Some (line worker number)) values
deed_of_entry (entry.Read worker number first values) =
    deed.Answer (line worker number) first values
deed_of_entry (entry.FlushFrom worker number) = deed.FlushFrom (line worker number)
deed_of_entry (entry.FlushDone worker number) = deed.FlushDone (line worker number)
deed_of_entry (entry.Durable worker number first count) =
    deed.Durable (line worker number) first count
deed_of_entry x = deed.Release

-- the line's write that failed, of which an entry has the values
abbrev pub fault_of_entry : LineNumber → Entry → Deed
fault_of_entry of (entry.Tried first values) =
    deed.DeviceFault (failure.BackingWrite first (Some of) values)
fault_of_entry of x = deed.Release

-- the keys of a line's write, of which an entry has the values
abbrev pub insert_of_entry : Insertion → Entry → Deed
insert_of_entry i (entry.Write worker number first values) =
    deed.InsertWrite i.leaf i.keys (line worker number) first values
insert_of_entry i x = deed.Release

abbrev pub insert_of : List Entry → Insertion → Deed
insert_of entries i = deed_at (insert_of_entry i) (slice_get entries i.entry)

abbrev pub read_of : ℕ → Reading → Deed
read_of at x = deed.CacheRead at x.first x.values

abbrev pub event_by : ℕ → Deed → Event
event_by seat d = record { seat = seat; deed = d }

-- the event that a record tells, beside these lists
abbrev pub event_of : Kept → Record → Event
event_of ks (records.Claim seat first count share) = event_by seat (deed.Claim first count share)
event_of ks (records.Release seat) = event_by seat deed.Release
event_of ks (records.Look seat leaf) = event_by seat (deed.Look leaf)
event_of ks (records.Pin full seat at count) = event_by seat (deed.Pin at count full)
event_of ks (records.Entry seat place) =
    event_by seat (deed_at deed_of_entry (slice_get ks.entries place))
event_of ks (records.LineFault seat of place) =
    event_by seat (deed_at (fault_of_entry of) (slice_get ks.entries place))
event_of ks (records.Insertion seat place) =
    event_by seat (deed_at (insert_of ks.entries) (slice_get ks.insertions place))
event_of ks (records.CacheRead seat at place) =
    event_by seat (deed_at (read_of at) (slice_get ks.readings place))
event_of ks (records.CacheWrite seat at place) =
    event_by seat (deed_at (deed.CacheWrite at written.Data) (slice_get ks.beside place))
event_of ks (records.CacheBarrier seat) = event_by seat deed.CacheBarrier
event_of ks (records.BackingRead seat first place) =
    event_by seat (deed_at (deed.BackingRead first) (slice_get ks.beside place))
event_of ks (records.BackingCopy seat first place) =
    event_by seat (deed_at (deed.BackingWrite first None) (slice_get ks.beside place))
event_of ks (records.BackingBarrier seat) = event_by seat deed.BackingBarrier
event_of ks (records.LineFrom seat of) = event_by seat (deed.LineFrom of)
event_of ks (records.LineDone seat of) = event_by seat (deed.LineDone of)
event_of ks (records.Other seat place) = event_by seat (deed_at (λ d. d) (slice_get ks.others place))

-- the events of which these are the records
abbrev pub events_by : Kept → List Record → List Event
events_by ks rs = map (event_of ks) rs

abbrev pub events_in : Pass → List Event
events_in p = events_by (kept_of p) p.records.items
