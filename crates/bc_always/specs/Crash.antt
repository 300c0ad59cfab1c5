-- What a crash leaves behind a closing.
use Rattle.std.specs.Prelude.{◌≡◌, ℕ, true, Some}
use Rattle.bc_model.specs.Sector.{Value, Image}
use Rattle.bc_model.specs.History.{now}
use Rattle.bc_books.specs.Index.{Clean, Pointer, latest}
use Rattle.bc_books.specs.Versions.{is_stale}
use Rattle.bc_books.specs.Books.{Books}
use Rattle.bc_data.specs.Data as flow
use Rattle.bc_data.specs.After.{IsCourse, course}
use Rattle.bc_data.specs.Example.{pair}
use Rattle.bc_crash.specs.Laws.{IsClosed}
use Rattle.bc_crash.specs.Teeth.{closing}
use Rattle.bc_meta.specs.Keys.{Ref, last_ref}
use Rattle.bc_whole.specs.Together.{gen_from}
use Rattle.bc_whole.specs.Laws.{Reads, keys_in, shown}
use Rattle.bc_events.specs.Run.{Opening, State}
use Rattle.bc_events.specs.Laws.{Always, IsTornApart, MayBeLeft}

-- what a reader finds of both images
abbrev pub Reading : Opening → State → (c b : Image) → Type 0
Reading w st c b = Reads w.machine st.machine.whole c b

-- the value that it shows of a sector
abbrev pub shown_in : (w : Opening) (st : State) (c b : Image) → Reading w st c b → ℕ → Value
shown_in w st c b r s =
    shown w.machine.flow.books.bucket (gen_from w.machine.before r.chain.gens)
    (keys_in w.machine st.machine.whole c r.newest r.older) c b s

-- the value of the last write of a sector
abbrev pub written_last : Opening → State → ℕ → Value
written_last w st s = now w.machine.flow.image st.machine.whole.flow.history s

-- There is a reading, and each one has P.
abbrev pub IsReadSo : (w : Opening) (st : State) (c b : Image) → (Reading w st c b → Type 0)
    → Type 0
IsReadSo w st c b P = Reading w st c b × ((r : Reading w st c b) → P r)

-- Whatever a crash leaves behind a closing is read so: nothing halted the run, each key is durable,
-- and so is what the backing device has. The run of `bc_events_example::laws::example_exists` ends
-- so, and no torn record matches by chance there.
abbrev pub BehindClosing : ((w : Opening) (st : State) (c b : Image) → Reading w st c b → Type 0)
    → Type 0
BehindClosing P = Always (λ w st. IsTornApart w st → IsClosed st.machine.whole.flow → (c b : Image)
    → MayBeLeft st c b → IsReadSo w st c b (P w st c b))

-- it shows the last write of each sector
abbrev pub LawClosed : Type 0
LawClosed = BehindClosing (λ w st c b r. (s : ℕ) → shown_in w st c b r s ≡ written_last w st s)

-- no sector's last key is dirty and as new as its bucket
abbrev pub HasNoDirty : (w : Opening) (st : State) (c b : Image) → Reading w st c b → Type 0
HasNoDirty w st c b r = (s : ℕ) (key : Ref)
    → last_ref (keys_in w.machine st.machine.whole c r.newest r.older) s ≡ Some key
    → key.dirty ≡ true → is_stale (gen_from w.machine.before r.chain.gens
    (w.machine.flow.books.bucket key.place)) key.generation ≡ true

-- then the backing device has it without the cache
abbrev pub LawClean : Type 0
LawClean = BehindClosing (λ w st c b r. HasNoDirty w st c b r → (s : ℕ)
    → b s ≡ written_last w st s)

-- no sector's last key in memory is dirty
abbrev pub AreClean : Books → Type 0
AreClean k = (s : ℕ) (r : Pointer) → latest k.index s ≡ Some r → r.kind ≡ Clean

-- Then too: a closing without dirty keys leaves a backing device that needs no cache. This a seat
-- can tell before any crash.
abbrev pub LawCleanInMemory : Type 0
LawCleanInMemory = Always (λ w st. IsClosed st.machine.whole.flow
    → AreClean st.machine.whole.flow.books → (c b : Image) → MayBeLeft st c b → (s : ℕ)
    → b s ≡ written_last w st s)

-- a run of the data that ends so
abbrev pub closed_state : flow.State
closed_state = course pair (flow.start pair) closing

-- Two sectors are written, written back and cleaned, and another is filled and dropped.
pub record LawClosesClean : Type 0 where
  pub run : IsCourse pair (flow.start pair) closing
  pub closed : IsClosed closed_state
  pub clean : AreClean closed_state.books
  pub some : latest closed_state.books.index 0
      ≡ Some (record { kind = Clean; place = 0; version = 300 })
