-- A run in which every act is done: data is written, made clean, moved, dropped and written around
-- the cache, candidates settle and are killed, the bucket of the data is raised, and faults come.
use Rattle.std.specs.Prelude.{◌≡◌, true, false, List, [], ◌∷◌, ◌++◌, Some, None, if◌then◌else◌, ◌==◌, nat_le}
use Rattle.bc_model.specs.Sector.{Value}
use Rattle.bc_model.specs.declared.history.Entry.TheVariants.{Write, Read, FlushFrom, FlushDone, Durable, Tried}
use Rattle.bc_books.specs.Index.{Clean, Dirty}
use Rattle.bc_books.specs.Shelves.{Priorities, Moving, Tree, Plain}
use Rattle.bc_books.specs.Books.{Regroup, Take, Shut, LetGo, BeginNode, MakeNode, DropNode, Raise, MakeReady, ReadyChain, Seal, SealChain, Sealed, Begin, Walk, End, Drop}
use Rattle.bc_books.specs.Example.{small, key, gap, new_version}
use Rattle.bc_data.specs.Data.{Opening, State, Event, Look, CacheRead, BackingRead, Data, Metadata, JournalEntry, Around, Copy, DropKeys, CleanKeys, MoveKeys, StaleKeys, Answer, BeginFlush, EndFlush, Acknowledge, CacheFault, BackingFault, BarrierFault, ReadFault, Act, MakeClaim, Release, Learn, CacheWrite, CacheBarrier, BackingWrite, BackingBarrier, InsertWrite, Insert, NoteCandidate, Settle, PinPlaces, UnpinPlaces, UnpinDead, Shelve, Say, Fail, start}
use Rattle.bc_data.specs.After.{IsCourse, course}
use Rattle.bc_data.specs.Laws.{IsPair}

-- the books' small opening, with devices full of zeros
abbrev pub pair : Opening
pair = record {
  books = small;
  plain = false;
  cache = λ t. [];
  backing = λ s. [];
  image = λ s. [];
}

abbrev pub zero_value : Value
zero_value = []

abbrev pub one_value : Value
one_value = 1 ∷ []

abbrev pub two_value : Value
two_value = 2 ∷ []

abbrev pub three_value : Value
three_value = 3 ∷ []

-- by seat 1
abbrev pub by : List Act → List Event
by [] = []
by (a ∷ rest) = record { seat = 1; act = a } ∷ by rest

-- an entry becomes durable
abbrev pub sealing : List Act
sealing = Shelve Seal ∷ CacheBarrier ∷ CacheWrite JournalEntry 9 (zero_value ∷ []) ∷ CacheBarrier
    ∷ Shelve Sealed ∷ []

-- two values are placed
abbrev pub placing : List Act
placing = Shelve (Take 1 Plain 0) ∷ PinPlaces 0 2
    ∷ CacheWrite Data 0 (one_value ∷ two_value ∷ []) ∷ []

-- and keyed: the write
abbrev pub writing : List Act
writing = MakeClaim 0 2 true
    ∷ InsertWrite 5 0 (key 0 2 Dirty 0 ∷ []) 0 (one_value ∷ two_value ∷ []) ∷ []

-- it is acknowledged as durable, and a flush is done
abbrev pub flushing : List Act
flushing = Say (Acknowledge 5 0 2) ∷ Release ∷ Say (BeginFlush 6) ∷ BackingBarrier
    ∷ Say (EndFlush 6) ∷ []

-- it is written back, and its keys become clean
abbrev pub cleaning : List Act
cleaning = MakeClaim 0 2 false ∷ Learn (Look 0)
    ∷ Learn (CacheRead 0 (one_value ∷ two_value ∷ []))
    ∷ Say (Answer 7 0 (one_value ∷ two_value ∷ [])) ∷ Learn (Look 0)
    ∷ BackingWrite Copy 0 (one_value ∷ two_value ∷ []) ∷ BackingBarrier
    ∷ Insert CleanKeys 0 (key 0 2 Clean 0 ∷ []) ∷ Release ∷ Shelve (Shut 0)
    ∷ Shelve (Take 1 Plain 2) ∷ PinPlaces 2 1 ∷ []

-- the third sector is read, and filled by a candidate
abbrev pub filling : List Act
filling = MakeClaim 2 1 false ∷ Learn (Look 0) ∷ Learn (BackingRead 2 (zero_value ∷ []))
    ∷ CacheWrite Data 2 (zero_value ∷ []) ∷ NoteCandidate 7 2 1 2
    ∷ Say (Answer 8 2 (zero_value ∷ [])) ∷ Release ∷ BackingBarrier
    ∷ Settle 7 0 (key 2 1 Clean 2 ∷ []) ∷ Shelve (Take 1 Plain 8) ∷ PinPlaces 8 1
    ∷ CacheWrite Data 8 (three_value ∷ []) ∷ []

-- it is dropped
abbrev pub dropping : List Act
dropping = MakeClaim 2 1 true ∷ Insert DropKeys 0 (gap 2 1 ∷ []) ∷ []

-- and written around the cache, and kept as a candidate
abbrev pub bypassing : List Act
bypassing = BackingWrite (Around 9) 2 (three_value ∷ []) ∷ NoteCandidate 8 2 1 8 ∷ Release ∷ []

-- which is killed
abbrev pub killing : List Act
killing = MakeClaim 2 1 true ∷ UnpinDead 8 ∷ Release ∷ Shelve (Take 1 Moving 5) ∷ PinPlaces 5 1
    ∷ []

-- the first sector is moved
abbrev pub moving : List Act
moving = MakeClaim 0 1 false ∷ Learn (Look 0) ∷ Learn (CacheRead 0 (one_value ∷ []))
    ∷ CacheWrite Data 5 (one_value ∷ []) ∷ Insert MoveKeys 0 (key 0 1 Clean 5 ∷ []) ∷ Release
    ∷ UnpinPlaces 5 1 ∷ Shelve (LetGo 1 5 false) ∷ []

-- a new leaf takes sectors of the old one during a round, and bucket 0 is raised
abbrev pub collecting : List Act
collecting = Shelve (Take 1 Tree 4) ∷ CacheWrite Metadata 4 (zero_value ∷ [])
    ∷ Shelve (BeginNode 1 4) ∷ Shelve Begin ∷ Shelve (Walk 0) ∷ Shelve (MakeNode 1 4)
    ∷ Shelve (DropNode 3)
    ∷ Shelve (Regroup (λ s. if nat_le 2 s then 2 else 1) (λ l. 5) (nat_le 2) 5) ∷ Shelve End
    ∷ Shelve (Raise 0) ∷ []

-- its new generation is durable, and it is on a list again
abbrev pub chaining : List Act
chaining = Shelve (Take 1 Priorities 6) ∷ CacheWrite Metadata 6 (zero_value ∷ [])
    ∷ Shelve (SealChain 1 new_version (λ b. b == 6)) ∷ CacheBarrier
    ∷ CacheWrite JournalEntry 9 (zero_value ∷ []) ∷ CacheBarrier ∷ Shelve Sealed
    ∷ Shelve (ReadyChain (λ b. true)) ∷ Shelve (MakeReady 0 (Some Plain)) ∷ []

-- the second sector's key is past, a round is given up, and a read fails
abbrev pub forgetting : List Act
forgetting = Insert StaleKeys 1 (gap 1 1 ∷ []) ∷ Shelve Begin ∷ Shelve Drop ∷ Fail ReadFault
    ∷ []

-- a write around the cache fails
abbrev pub failing : List Act
failing = MakeClaim 2 1 true ∷ Learn (Look 2)
    ∷ Fail (BackingFault (Around 10) 2 (one_value ∷ [])) ∷ []

-- the one call of each other seat that may come late
abbrev pub late : List Event
late = record { seat = 2; act = Fail BarrierFault }
    ∷ record { seat = 3; act = Fail (CacheFault Metadata 9 (zero_value ∷ [])) }
    ∷ record { seat = 4; act = BackingBarrier } ∷ []

abbrev pub first_part : List Act
first_part = placing ++ (writing ++ (sealing ++ (flushing ++ cleaning)))

abbrev pub second_part : List Act
second_part = filling ++ (dropping ++ (sealing ++ bypassing))

abbrev pub third_part : List Act
third_part =
    killing ++ (moving ++ (sealing ++ (collecting ++ (chaining ++ (forgetting ++ failing)))))

abbrev pub whole : List Event
whole = by (first_part ++ (second_part ++ third_part)) ++ late

abbrev pub last_state : State
last_state = course pair (start pair) whole

pub record LawRuns : Type 0 where
  pub sound : IsPair pair
  pub run : IsCourse pair (start pair) whole
  pub moved : last_state.books.index.at 6 0
      ≡ Some (record { kind = Clean; place = 5; version = 300 })
  pub forgotten : last_state.books.index.at 6 1 ≡ None
  pub raised : last_state.books.generations.durable 0 ≡ 301
  pub halted : last_state.halted ≡ true
  pub history : last_state.history ≡ Tried 2 (one_value ∷ []) ∷ Write 1 9 2 (three_value ∷ [])
      ∷ Read 1 8 2 (zero_value ∷ []) ∷ Read 1 7 0 (one_value ∷ two_value ∷ []) ∷ FlushDone 1 6
      ∷ FlushFrom 1 6 ∷ Durable 1 5 0 2 ∷ Write 1 5 0 (one_value ∷ two_value ∷ []) ∷ []

-- the same devices, used without the cache
abbrev pub plain_pair : Opening
plain_pair = record {
  books = small;
  plain = true;
  cache = λ t. [];
  backing = λ s. [];
  image = λ s. [];
}

-- a forced write
abbrev pub plain_run : List Act
plain_run = MakeClaim 0 1 true ∷ BackingWrite (Around 3) 0 (one_value ∷ []) ∷ BackingBarrier
    ∷ Say (Acknowledge 3 0 1) ∷ Release ∷ []

pub record LawPlain : Type 0 where
  pub sound : IsPair plain_pair
  pub run : IsCourse plain_pair (start plain_pair) (by plain_run)
  pub history : (course plain_pair (start plain_pair) (by plain_run)).history
      ≡ Durable 1 3 0 1 ∷ Write 1 3 0 (one_value ∷ []) ∷ []
