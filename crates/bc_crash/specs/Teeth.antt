-- What goes wrong where one condition of an act is left out: runs after which the law on crashes is
-- broken.
use Rattle.std.specs.Prelude.{◌≡◌, ◌≢◌, ℕ, true, false, List, [], ◌∷◌, ◌++◌, Some}
use Rattle.bc_model.specs.Sector.{Image}
use Rattle.bc_disk.specs.Device.{MayLeave}
use Rattle.bc_books.specs.Index.{Clean, Dirty}
use Rattle.bc_books.specs.Laws.{durable_snapshot}
use Rattle.bc_books.specs.Books.{Seal, Sealed}
use Rattle.bc_books.specs.After as books
use Rattle.bc_books.specs.Example.{small, key}
use Rattle.bc_data.specs.Seats.{Covers}
use Rattle.bc_data.specs.Data.{State, Event, Look, CacheRead, Around, Copy, CleanKeys, Answer, BeginFlush, EndFlush, Act, MakeClaim, Learn, BackingWrite, BackingBarrier, Insert, Shelve, Say, claim_of, index_of, start}
use Rattle.bc_data.specs.After.{after, IsCourse, course}
use Rattle.bc_data.specs.Example.{pair, one_value, two_value, three_value, by, placing, writing, sealing, flushing, first_part, filling, dropping}
use Rattle.bc_crash.specs.Laws.{IsSafe, IsClosed}

-- a crash may leave both devices so that the sector isn't safe
pub record CanLose (st : State) (s : ℕ) : Type 0 where
  pub cache : Image
  pub backing : Image
  pub left_cache : MayLeave st.cache cache
  pub left_backing : MayLeave st.backing backing
  pub lost : IsSafe pair st (durable_snapshot st.books) cache backing s → ⊥

-- two sectors are written, and copied to the backing device
abbrev pub copying : List Act
copying = MakeClaim 0 2 false ∷ Learn (Look 0)
    ∷ Learn (CacheRead 0 (one_value ∷ two_value ∷ []))
    ∷ Say (Answer 7 0 (one_value ∷ two_value ∷ [])) ∷ Learn (Look 0)
    ∷ BackingWrite Copy 0 (one_value ∷ two_value ∷ []) ∷ []

abbrev pub clean_run : List Event
clean_run = by (placing ++ (writing ++ (sealing ++ (flushing ++ copying))))

abbrev pub clean_state : State
clean_state = course pair (start pair) clean_run

abbrev pub cleaned_state : State
cleaned_state =
    course pair (after pair clean_state 1 (Insert CleanKeys 0 (key 0 2 Clean 0 ∷ []))) (by sealing)

-- Keys that become clean before a barrier came behind the copies: a crash leaves a live clean key
-- and a backing device without its value.
pub record LawTeethClean : Type 0 where
  pub run : IsCourse pair (start pair) clean_run
  pub covers : Covers (claim_of clean_state 1) 0
  pub copied : (claim_of clean_state 1).back 0 ≡ true
  pub dirty : index_of clean_state 0 ≡ Some (record { kind = Dirty; place = 0; version = 300 })
  pub later : IsCourse pair (after pair clean_state 1 (Insert CleanKeys 0 (key 0 2 Clean 0 ∷ [])))
      (by sealing)
  pub wrong : CanLose cleaned_state 0

-- a third sector is filled, which is durable, and dropped, which isn't
abbrev pub bypass_run : List Event
bypass_run = by (first_part ++ (filling ++ (sealing ++ dropping)))

abbrev pub bypass_state : State
bypass_state = course pair (start pair) bypass_run

abbrev pub bypassed_state : State
bypassed_state = after pair bypass_state 1 (BackingWrite (Around 9) 2 (three_value ∷ []))

-- A write around the cache before its drop is durable: a crash leaves a live clean key with an old
-- value.
pub record LawTeethBypass : Type 0 where
  pub run : IsCourse pair (start pair) bypass_run
  pub some : (three_value ∷ []) ≢ []
  pub exclusive : (claim_of bypass_state 1).exclusive ≡ true
  pub first_write : (claim_of bypass_state 1).wrote ≡ false
  pub covers : Covers (claim_of bypass_state 1) 2
  pub gone : (claim_of bypass_state 1).gone 2 ≡ true
  pub wrong : CanLose bypassed_state 2

-- two sectors are written, and a flush begins
abbrev pub flush_run : List Event
flush_run = by (placing ++ (writing ++ (Say (BeginFlush 6) ∷ BackingBarrier ∷ [])))

abbrev pub flush_state : State
flush_state = course pair (start pair) flush_run

abbrev pub flushed_state : State
flushed_state = after pair flush_state 1 (Say (EndFlush 6))

-- A flush that ends with a barrier of the backing device alone: a crash leaves no key, and the
-- backing device has the value before the write.
pub record LawTeethFlush : Type 0 where
  pub run : IsCourse pair (start pair) flush_run
  pub going : (flush_state.seats 1).flush.going ≡ true
  pub its_line : (flush_state.seats 1).flush.line ≡ 6
  pub firm : (flush_state.seats 1).flush.firm ≡ true
  pub wrong : CanLose flushed_state 0

-- two sectors are written, and an entry is sealed
abbrev pub entry_run : List Event
entry_run = by (placing ++ (writing ++ (Shelve Seal ∷ [])))

-- it is taken as durable, and a flush is done
abbrev pub entry_flush : List Act
entry_flush = Say (BeginFlush 6) ∷ BackingBarrier ∷ Say (EndFlush 6) ∷ []

abbrev pub early_state : State
early_state = after pair (course pair (start pair) entry_run) 1 (Shelve Sealed)

abbrev pub entry_state : State
entry_state = course pair early_state (by entry_flush)

-- An entry that is durable before a barrier came behind what its keys point to: a crash shows the
-- value before a write that a flush covers.
pub record LawTeethEntry : Type 0 where
  pub run : IsCourse pair (start pair) entry_run
  pub steps : books.IsRun small (course pair (start pair) entry_run).books (Sealed ∷ [])
  pub later : IsCourse pair early_state (by entry_flush)
  pub wrong : CanLose entry_state 0

-- a run that ends closed
abbrev pub closing : List Event
closing = by (first_part ++ (filling ++ (dropping ++ sealing)))

pub record LawCloses : Type 0 where
  pub run : IsCourse pair (start pair) closing
  pub closed : IsClosed (course pair (start pair) closing)
