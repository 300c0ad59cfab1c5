-- What an example of a run has to show in which each act is one that a seat may know of.
use Rattle.std.specs.Prelude.{◌≡◌, ◌≢◌, ℕ, true, List, [], ◌∷◌, ◌++◌, Some, None}
use Rattle.bc_model.specs.Sector.{Value}
use Rattle.bc_key.specs.declared.key.Key.{Key}
use Rattle.bc_books.specs.Index.{Dirty, Pointer}
use Rattle.bc_books.specs.Index as books
use Rattle.bc_data.specs.Data as flow
use Rattle.bc_meta.specs.Facts.{In}
use Rattle.bc_meta.specs.Places.{NoChance}
use Rattle.bc_leaves.specs.Parts as parts
use Rattle.bc_whole.specs.State.{Opening, Write}
use Rattle.bc_whole.specs.Example.{HasAnswered, HasChain, HasTree}
use Rattle.bc_known.specs.Acts.{State, Keyed, FailCache, CacheBarrier, Event}
use Rattle.bc_known.specs.Run.{IsRun, run, start}
use Rattle.bc_known.specs.Laws.{IsSound}

-- an opening that is sound, and whose buckets lie as a seat counts on it
abbrev pub HasOpening : Type 0
HasOpening = (w : Opening) × (x : parts.State) × IsSound w x

-- one of these events is a write through the cache of this sector
pub record IsWritten (es : List Event) (s : ℕ) : Type 0 where
  pub seat : ℕ
  pub line : ℕ
  pub leaf : ℕ
  pub slot : ℕ
  pub keys : List books.Key
  pub values : List Value
  pub stored : List Key
  pub some : values ≢ []
  pub event : In (record {
    seat = seat;
    act = Keyed (flow.InsertWrite line leaf keys s values) slot stored;
  }) es

-- A sector that had no key was written, and its dirty key is durable.
pub record HasData (w : Opening) (st : State) (es : List Event) : Type 0 where
  pub sector : ℕ
  pub written : IsWritten es sector
  pub bare : w.flow.books.index sector ≡ None
  pub pointer : Pointer
  pub durable : st.whole.flow.books.index.at st.whole.flow.books.journal.durable sector
      ≡ Some pointer
  pub dirty : pointer.kind ≡ Dirty

-- A write of the cache device failed, which halted the run, and then a barrier came late.
pub record HasFault (w : Opening) (st : State) (es : List Event) : Type 0 where
  pub before : List Event
  pub seat : ℕ
  pub write : Write
  pub values : List Value
  pub late : ℕ
  pub last : es ≡ before ++ (record { seat = seat; act = FailCache write values }
      ∷ record { seat = late; act = CacheBarrier } ∷ [])
  pub running : (run w st before).whole.flow.halted ≢ true
  pub halted : (run w st es).whole.flow.halted ≡ true
  pub its_last : (run w st es).whole.flow.late late ≡ true

-- new nodes get the seqs from this on
pub record IsExample (w : Opening) (x : parts.State) (next_seq : ℕ) (es : List Event) : Type 0 where
  pub sound : IsSound w x
  pub course : IsRun w (start w x next_seq) es
  pub stored : HasData w (run w (start w x next_seq) es) es
  pub answered : HasAnswered (run w (start w x next_seq) es).whole
  pub chain : HasChain w (run w (start w x next_seq) es).whole
  pub tree : HasTree w (run w (start w x next_seq) es).whole
  pub fault : HasFault w (start w x next_seq) es
  -- the premise of the law on crashes
  pub chance : NoChance w.layout w.store.image (run w (start w x next_seq) es).whole.store.places

abbrev pub HasExample : Type 0
HasExample = (w : Opening) × (x : parts.State) × (next_seq : ℕ)
    × ((es : List Event) × IsExample w x next_seq es)
