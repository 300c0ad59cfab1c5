-- Why a write counts by its entry: runs of the data alone, with what a crash leaves of them. The
-- pair is the small one of `bc_data::laws::law_runs`, which is sound, with devices full of zeros.
use Rattle.std.specs.Prelude.{◌≡◌, ℕ, true, List, [], ◌∷◌, ◌++◌}
use Rattle.bc_model.specs.Sector.{Value, Image}
use Rattle.bc_model.specs.History.{now}
use Rattle.bc_disk.specs.Device.{MayLeave}
use Rattle.bc_books.specs.Index.{Dirty}
use Rattle.bc_books.specs.Shelves.{Plain}
use Rattle.bc_books.specs.Books.{Take, Shut, Seal}
use Rattle.bc_books.specs.Laws.{Snapshot, durable_snapshot, sealed_snapshot}
use Rattle.bc_books.specs.Example.{key}
use Rattle.bc_data.specs.Data.{State, Event, Data, Act, MakeClaim, CacheWrite, InsertWrite, PinPlaces, Shelve, start}
use Rattle.bc_data.specs.After.{IsCourse, course}
use Rattle.bc_data.specs.Laws.{shown}
use Rattle.bc_data.specs.Example.{pair, zero_value, one_value, three_value, by, placing, writing, sealing, flushing}
use Rattle.bc_crash.specs.Laws.{IsReady, Finds, IsSafe}

-- whatever a crash leaves of both devices, and whichever entry is found as the newest one
abbrev pub EachCrash : State → (Snapshot → (c b : Image) → Type 0) → Type 0
EachCrash st P = (shot : Snapshot) (c b : Image) → Finds st shot → MayLeave st.cache c
    → MayLeave st.backing b → P shot c b

-- it shows this value of a sector
abbrev pub EachShows : State → ℕ → Value → Type 0
EachShows st s v = EachCrash st (λ shot c b.
    shown pair.books.bucket (st.books.index.at shot.count) shot.version c b s ≡ v)

-- ---- a write that is cut

-- two values are placed in the cache and keyed, and no entry has their keys; and behind an entry
abbrev pub cut_run : List Event
cut_run = by (placing ++ writing)

abbrev pub cut_state : State
cut_state = course pair (start pair) cut_run

abbrev pub entered_run : List Event
entered_run = by (placing ++ (writing ++ sealing))

abbrev pub entered_state : State
entered_state = course pair (start pair) entered_run

-- A crash may leave the value on the cache device.
pub record MayHave (st : State) (place : ℕ) (v : Value) : Type 0 where
  pub cache : Image
  pub left : MayLeave st.cache cache
  pub there : cache place ≡ v

-- A write that a crash cuts before its entry: each read finds the new value, which may lie on the
-- cache device, and yet each crash shows the old one, which is allowed. Behind the entry each crash
-- shows the new one.
pub record LawCut : Type 0 where
  pub run : IsCourse pair (start pair) cut_run
  pub last : now pair.image cut_state.history 0 ≡ one_value
  pub there : MayHave cut_state 0 one_value
  pub before : EachShows cut_state 0 zero_value
  pub safe : EachCrash cut_state (λ shot c b. (s : ℕ) → IsSafe pair cut_state shot c b s)
  pub entered : IsCourse pair (start pair) entered_run
  pub behind : EachShows entered_state 0 one_value

-- ---- readers that find the wrong entry

-- with this entry as the newest one a crash may leave the devices so that the sector isn't safe
pub record CanLoseBy (st : State) (shot : Snapshot) (s : ℕ) : Type 0 where
  pub cache : Image
  pub backing : Image
  pub left_cache : MayLeave st.cache cache
  pub left_backing : MayLeave st.backing backing
  pub lost : IsSafe pair st shot cache backing s → ⊥

-- two sectors are written, their entry is durable, and a flush is done
abbrev pub flushed_run : List Event
flushed_run = by (placing ++ (writing ++ (sealing ++ flushing)))

abbrev pub flushed_state : State
flushed_state = course pair (start pair) flushed_run

-- A reader that passes over the last entry, and finds what was durable before the run: it shows the
-- value before a write that a flush covers.
pub record LawTeethDropped : Type 0 where
  pub run : IsCourse pair (start pair) flushed_run
  pub wrong : CanLoseBy flushed_state (durable_snapshot (start pair).books) 0

-- then the first of them is written again, to another place, and an entry is sealed with its key
abbrev pub rewriting : List Act
rewriting = Shelve (Shut 0) ∷ Shelve (Take 1 Plain 2) ∷ PinPlaces 2 1
    ∷ CacheWrite Data 2 (three_value ∷ []) ∷ MakeClaim 0 1 true
    ∷ InsertWrite 8 0 (key 0 1 Dirty 2 ∷ []) 0 (three_value ∷ []) ∷ Shelve Seal ∷ []

abbrev pub sealed_run : List Event
sealed_run = by (placing ++ (writing ++ (sealing ++ (flushing ++ rewriting))))

abbrev pub sealed_state : State
sealed_state = course pair (start pair) sealed_run

-- A reader that finds the sealed entry before a barrier came behind its seal: its key points to
-- where the data may not be yet, and what is shown is neither what the flush covers nor what was
-- written since.
pub record LawTeethEarly : Type 0 where
  pub run : IsCourse pair (start pair) sealed_run
  pub early : IsReady sealed_state.stage → ⊥
  pub wrong : CanLoseBy sealed_state (sealed_snapshot sealed_state.books) 0
