-- What it is to take an event apart so that it can be filed again.
use Rattle.std.specs.Prelude.{◌≡◌, ℕ, ◌+◌, ◌≤◌, List, [], ◌∷◌, ◌++◌, length, slice_get}
use Rattle.std.specs.Prelude.{Option, Some, None, vec_capacity}
use Rattle.bc_model.specs.declared.history.Entry.{Entry}
use Rattle.bc_model.specs.Sector.{Value}
use Rattle.bc_events.specs.declared.event.LineNumber.{LineNumber}
use Rattle.bc_events.specs.declared.event.Failure.TheVariants as failure
use Rattle.bc_events.specs.declared.event.Deed.{Deed}
use Rattle.bc_events.specs.declared.event.Deed.TheVariants as deed
use Rattle.bc_events.specs.declared.event.Event.{Event}
use Rattle.bc_events.specs.Columns.{entry_by, entries_of}
use Rattle.bc_book.specs.declared.pass.Pass.{Pass}
use Rattle.bc_book.specs.declared.pass.Record.{Record}
use Rattle.bc_book.specs.declared.filed.Places.{Places}
use Rattle.bc_book.specs.declared.filed.Aside.{Aside}
use Rattle.bc_book.specs.declared.filed.Aside.TheVariants as aside
use Rattle.bc_book.specs.declared.filed.Filed.{Filed}
use Rattle.bc_book.specs.Pass.{Kept, kept_of, event_of, events_by, events_in}

-- what a list has at a place stays there
abbrev pub Stays : {A : Type 0} → List A → List A → Type 0
Stays {A = A} xs ys = (k : ℕ) (x : A) → slice_get xs k ≡ Some x → slice_get ys k ≡ Some x

-- the lists that these may grow into
pub record GrowsTo (ks more : Kept) : Type 0 where
  pub entries : Stays ks.entries more.entries
  pub beside : Stays ks.beside more.beside
  pub readings : Stays ks.readings more.readings
  pub insertions : Stays ks.insertions more.insertions
  pub others : Stays ks.others more.others

-- the next places of these lists
pub record EndAt (ks : Kept) (p : Places) : Type 0 where
  pub entries : length ks.entries ≡ p.entries
  pub beside : length ks.beside ≡ p.beside
  pub readings : length ks.readings ≡ p.readings
  pub insertions : length ks.insertions ≡ p.insertions
  pub others : length ks.others ≡ p.others

-- the lists with what an event puts there
abbrev pub with_entry : Kept → Option Entry → Kept
with_entry ks None = ks
with_entry ks (Some x) = record ks { entries = ks.entries ++ x ∷ [] }

abbrev pub with_aside : Kept → Aside → Kept
with_aside ks aside.Nothing = ks
with_aside ks (aside.Values x) = record ks { beside = ks.beside ++ x ∷ [] }
with_aside ks (aside.Reading x) = record ks { readings = ks.readings ++ x ∷ [] }
with_aside ks (aside.Insertion x) = record ks { insertions = ks.insertions ++ x ∷ [] }
with_aside ks (aside.Deed x) = record ks { others = ks.others ++ x ∷ [] }

abbrev pub kept_after : Kept → Filed → Kept
kept_after ks t = with_aside (with_entry ks t.entry) t.aside

-- a record that tells its event alone
abbrev pub alone : Record → Filed
alone r = record { «record» = r; entry = None; aside = aside.Nothing }

abbrev pub failed_write : ℕ → Option LineNumber → List Value → Deed
failed_write first of values = deed.DeviceFault (failure.BackingWrite first of values)

-- at these places the record tells the event, whatever is put behind it
pub record IsFiled (p : Places) (t : Filed) (e : Event) : Type 0 where
  pub entry : t.entry ≡ entry_by e.deed
  pub tells : (ks more : Kept) → EndAt ks p
      → GrowsTo (kept_after ks t) more → event_of more t.record ≡ e

-- the second pass has this event more: what it is taken apart into
abbrev pub HasFiled : Pass → Pass → Event → Type 0
HasFiled p q e = (at : Places) × (t : Filed) × EndAt (kept_of p) at
    × IsFiled at t e × (kept_of q ≡ kept_after (kept_of p) t)
    × (q.records.items ≡ p.records.items ++ t.record ∷ [])

-- the history is that of the events, and these stay whatever is put behind them
pub record IsKept (p : Pass) : Type 0 where
  pub entries : p.entries.items ≡ entries_of (events_in p)
  pub stay : (more : Kept) → GrowsTo (kept_of p) more
      → events_by more p.records.items ≡ events_in p

-- room for so many events more
pub record HasRoom (p : Pass) (room : ℕ) : Type 0 where
  pub entries : length p.entries.items + room ≤ vec_capacity p.entries
  pub records : length p.records.items + room ≤ vec_capacity p.records
  pub beside : length p.beside.items + room ≤ vec_capacity p.beside
  pub readings : length p.readings.items + room ≤ vec_capacity p.readings
  pub insertions : length p.insertions.items + room ≤ vec_capacity p.insertions
  pub others : length p.others.items + room ≤ vec_capacity p.others
