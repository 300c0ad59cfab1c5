-- What a run of events with a cache has to show: a write through the cache that was acknowledged as
-- forced.
use Rattle.std.specs.Prelude.{◌≡◌, ◌≢◌, ℕ, false, List, [], ◌∷◌, length, Some, None}
use Rattle.bc_model.specs.Sector.{Value}
use Rattle.bc_model.specs.declared.history.Entry.TheVariants as entry
use Rattle.bc_books.specs.Index.{Dirty, Pointer}
use Rattle.bc_books.specs.Laws.{IsLiveDirty}
use Rattle.bc_crash.specs.Laws.{IsClosed}
use Rattle.bc_meta.specs.Facts.{In}
use Rattle.bc_leaves.specs.Parts as parts
use Rattle.bc_whole.specs.Example.{HasChain}
use Rattle.bc_known.specs.Laws.{IsSound}
use Rattle.bc_events.specs.declared.event.LineNumber.{LineNumber}
use Rattle.bc_events.specs.declared.event.Deed.TheVariants as deed
use Rattle.bc_events.specs.declared.event.Event.{Event}
use Rattle.bc_events.specs.Laws.{IsTornApart, HaveWorkers}
use Rattle.bc_events.specs.Run.{Opening, State, start, IsRun, run, history_of}

-- A sector that had no key was written for a line, its dirty key is durable, and that was said.
pub record HasWritten (w : Opening) (st : State) (es : List Event) : Type 0 where
  pub seat : ℕ
  pub of : LineNumber
  pub sector : ℕ
  pub values : List Value
  pub some : values ≢ []
  pub said : In (record { seat = seat; deed = deed.Durable of sector (length values) }) es
  pub history : history_of w st ≡ entry.Durable of.worker of.line sector (length values)
      ∷ entry.Write of.worker of.line sector values ∷ []
  pub bare : w.machine.flow.books.index sector ≡ None
  pub pointer : Pointer
  pub durable : (let books = st.machine.whole.flow.books in
      books.index.at books.journal.durable sector ≡ Some pointer)
  pub dirty : pointer.kind ≡ Dirty
  -- so the bucket in which its data lies may not be raised
  pub live : IsLiveDirty w.machine.flow.books st.machine.whole.flow.books
      (w.machine.flow.books.bucket pointer.place)

-- Another root is durable, and no change goes on.
pub record HasRoot (w : Opening) (st : State) : Type 0 where
  pub root : st.machine.whole.store.places.records.newest.root ≢ w.machine.store.newest.root
  pub over : st.machine.whole.parts.change ≡ parts.NoChange

pub record IsExample (w : Opening) (x : parts.State) (next_seq : ℕ) (es : List Event) : Type 0 where
  pub cached : w.machine.flow.plain ≡ false
  pub sound : IsSound w.machine x
  pub course : IsRun w (start w x next_seq) es
  pub written : HasWritten w (run w (start w x next_seq) es) es
  pub chain : HasChain w.machine (run w (start w x next_seq) es).machine.whole
  pub root : HasRoot w (run w (start w x next_seq) es)
  -- the premises of the law on crashes, and of those on a closing
  pub chance : IsTornApart w (run w (start w x next_seq) es)
  pub closed : IsClosed (run w (start w x next_seq) es).machine.whole.flow
  -- and of the law on histories by workers
  pub workers : HaveWorkers w

abbrev pub HasExample : Type 0
HasExample = (w : Opening) × (x : parts.State) × (next_seq : ℕ)
    × ((es : List Event) × IsExample w x next_seq es)
