-- What an example of a run has to show, so that the laws speak of something.
use Rattle.std.specs.Prelude.{◌≡◌, ◌≢◌, ℕ, true, false, List, [], ◌∷◌, ◌++◌, length, Some, None}
use Rattle.bc_model.specs.Sector.{Value}
use Rattle.bc_model.specs.declared.history.Entry.TheVariants.{Durable}
use Rattle.bc_key.specs.declared.key.Key.{Key}
use Rattle.bc_books.specs.Index.{Dirty, Pointer}
use Rattle.bc_books.specs.Index as books
use Rattle.bc_data.specs.Data as flow
use Rattle.bc_meta.specs.Facts.{In}
use Rattle.bc_meta.specs.Places.{NoChance}
use Rattle.bc_leaves.specs.Parts as parts
use Rattle.bc_whole.specs.State.{Opening, State, Keyed, FailCache, CacheBarrier, Event}
use Rattle.bc_whole.specs.State as whole
use Rattle.bc_whole.specs.Together.{gen_at}
use Rattle.bc_whole.specs.Run.{IsRun, run, start}
use Rattle.bc_whole.specs.Laws.{IsSound}

-- one of these events is a write through the cache of this sector
pub record IsWritten (es : List Event) (s : ℕ) : Type 0 where
  pub seat : ℕ
  pub line : ℕ
  pub leaf : ℕ
  pub slot : ℕ
  pub keys : List books.Key
  pub values : List Value
  pub stored : List Key
  pub some : values ≢ []
  pub event : In (record {
    seat = seat;
    act = Keyed (flow.InsertWrite line leaf keys s values) slot stored;
  }) es

-- A sector that had no key was written, and its dirty key is durable.
pub record HasData (w : Opening) (st : State) (es : List Event) : Type 0 where
  pub sector : ℕ
  pub written : IsWritten es sector
  pub bare : w.flow.books.index sector ≡ None
  pub pointer : Pointer
  pub durable : st.flow.books.index.at st.flow.books.journal.durable sector ≡ Some pointer
  pub dirty : pointer.kind ≡ Dirty

-- a forced write was acknowledged
pub record HasAnswered (st : State) : Type 0 where
  pub seat : ℕ
  pub line : ℕ
  pub first : ℕ
  pub count : ℕ
  pub done : In (Durable seat line first count) st.flow.history

-- Another chain is durable and ready, and a bucket has another generation in it.
pub record HasChain (w : Opening) (st : State) : Type 0 where
  pub ready : st.store.ready_chain ≡ 1
  pub durable : st.store.durable_chain ≡ 1
  pub bucket : ℕ
  pub raised : gen_at (st.store.gens 1) bucket ≢ gen_at w.store.gens bucket

-- Another root is durable, no change goes on, and a leaf that the run wrote has a further set.
pub record HasTree (w : Opening) (st : State) : Type 0 where
  pub root : st.store.places.records.newest.root ≢ w.store.newest.root
  pub over : st.parts.change ≡ parts.NoChange
  pub slot : ℕ
  pub free : (st.parts.leaves slot).role ≡ parts.Free
  pub ours : (st.parts.leaves slot).loaded ≡ false
  pub sets : length (st.store.places.records.nodes (st.parts.leaves slot).bucket).sets ≡ 2

-- A write of the cache device failed, which halted the run, and then a barrier came late.
pub record HasFault (w : Opening) (x : parts.State) (es : List Event) : Type 0 where
  pub before : List Event
  pub seat : ℕ
  pub write : whole.Write
  pub values : List Value
  pub late : ℕ
  pub last : es ≡ before ++ (record { seat = seat; act = FailCache write values }
      ∷ record { seat = late; act = CacheBarrier } ∷ [])
  pub running : (run w (start w x) before).flow.halted ≢ true
  pub halted : (run w (start w x) es).flow.halted ≡ true
  pub its_last : (run w (start w x) es).flow.late late ≡ true

pub record IsExample (w : Opening) (x : parts.State) (es : List Event) : Type 0 where
  pub sound : IsSound w x
  pub course : IsRun w (start w x) es
  pub stored : HasData w (run w (start w x) es) es
  pub answered : HasAnswered (run w (start w x) es)
  pub chain : HasChain w (run w (start w x) es)
  pub tree : HasTree w (run w (start w x) es)
  pub fault : HasFault w x es
  -- the premise of the law on crashes
  pub chance : NoChance w.layout w.store.image (run w (start w x) es).store.places

abbrev pub HasExample : Type 0
HasExample = (w : Opening) × (x : parts.State) × ((es : List Event) × IsExample w x es)
