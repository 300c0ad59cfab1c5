-- What goes wrong where one condition of an act is left out: runs after which the law on answers is
-- broken.
use Rattle.std.specs.Prelude.{◌≡◌, ℕ, true, false, List, [], ◌∷◌, ◌++◌, Some, None, ◌==◌}
use Rattle.bc_model.specs.History.{IsLegal}
use Rattle.bc_books.specs.Index.{Clean, Pointer}
use Rattle.bc_books.specs.Shelves.{Priorities, Moving, Plain}
use Rattle.bc_books.specs.Books.{Take, Raise, MakeReady, ReadyChain, SealChain, Sealed, Begin, Walk, End}
use Rattle.bc_books.specs.Example.{key, gap, new_version}
use Rattle.bc_data.specs.Seats.{Covers}
use Rattle.bc_data.specs.Data.{State, Event, Look, CacheRead, Data, JournalEntry, Around, DropKeys, MoveKeys, Answer, Act, MakeClaim, Learn, CacheWrite, CacheBarrier, BackingWrite, Insert, PinPlaces, Shelve, Say, claim_of, index_of, start}
use Rattle.bc_data.specs.Enabled.{IsPlacedAt}
use Rattle.bc_data.specs.After.{after, IsCourse, course}
use Rattle.bc_data.specs.Example.{pair, zero_value, one_value, by, sealing, first_part}

abbrev pub clean_at : ℕ → Pointer
clean_at place = record { kind = Clean; place = place; version = 300 }

-- behind the first part of the example, seat 1 looks at the first sector
abbrev pub looking : List Act
looking = MakeClaim 0 1 false ∷ Learn (Look 0) ∷ []

-- its bucket is raised, and is on a list again
abbrev pub raising : List Act
raising = Shelve Begin ∷ Shelve (Walk 0) ∷ Shelve End ∷ Shelve (Raise 0)
    ∷ Shelve (Take 1 Priorities 6) ∷ Shelve (SealChain 1 new_version (λ b. b == 6))
    ∷ CacheBarrier ∷ CacheWrite JournalEntry 9 (zero_value ∷ []) ∷ CacheBarrier ∷ Shelve Sealed
    ∷ Shelve (ReadyChain (λ b. true)) ∷ Shelve (MakeReady 0 (Some Plain)) ∷ []

-- seat 2 writes there, and seat 1 reads
abbrev pub crossing : List Event
crossing = record { seat = 2; act = Shelve (Take 2 Plain 0) }
    ∷ record { seat = 2; act = PinPlaces 0 1 }
    ∷ record { seat = 2; act = CacheWrite Data 0 (zero_value ∷ []) }
    ∷ record { seat = 1; act = Learn (CacheRead 0 (zero_value ∷ [])) }
    ∷ []

abbrev pub answer_run : List Event
answer_run = by (first_part ++ (sealing ++ (looking ++ raising))) ++ crossing

abbrev pub answer_state : State
answer_state = course pair (start pair) answer_run

-- An answer that doesn't test the version of its bucket: it gives what was written there since.
pub record LawTeethAnswer : Type 0 where
  pub run : IsCourse pair (start pair) answer_run
  pub looked : (claim_of answer_state 1).looked ≡ true
  pub covers : Covers (claim_of answer_state 1) 0
  pub seen : (claim_of answer_state 1).sight 0 ≡ Some (clean_at 0)
  pub read : (claim_of answer_state 1).from_cache 0 ≡ Some zero_value
  pub raised : answer_state.books.generations.version 0 ≡ 301
  pub wrong : IsLegal pair.image
      (after pair answer_state 1 (Say (Answer 7 0 (zero_value ∷ [])))).history → ⊥

-- a place is taken for moved data
abbrev pub taking : List Act
taking = Shelve (Take 1 Moving 5) ∷ PinPlaces 5 1 ∷ []

-- a seat with an exclusive claim begins to move a sector, and drops its key
abbrev pub undoing : List Act
undoing = MakeClaim 0 1 true ∷ Learn (Look 0) ∷ Learn (CacheRead 0 (one_value ∷ []))
    ∷ CacheWrite Data 5 (one_value ∷ []) ∷ Insert DropKeys 0 (gap 0 1 ∷ []) ∷ []

abbrev pub move_run : List Event
move_run = by (first_part ++ (taking ++ undoing))

abbrev pub move_state : State
move_state = course pair (start pair) move_run

abbrev pub moved_state : State
moved_state = after pair move_state 1 (Insert MoveKeys 0 (key 0 1 Clean 5 ∷ []))

-- it writes around the cache, and reads
abbrev pub reading : List Act
reading = BackingWrite (Around 9) 0 (zero_value ∷ []) ∷ Learn (Look 0)
    ∷ Learn (CacheRead 0 (one_value ∷ [])) ∷ Say (Answer 7 0 (one_value ∷ [])) ∷ []

-- A move that doesn't ask whether its key is still the one that was seen: it brings back a key that
-- was dropped, and what is written around the cache is hidden.
pub record LawTeethMove : Type 0 where
  pub run : IsCourse pair (start pair) move_run
  pub looked : (claim_of move_state 1).looked ≡ true
  pub covers : Covers (claim_of move_state 1) 0
  pub seen : (claim_of move_state 1).sight 0 ≡ Some (clean_at 0)
  pub live : move_state.books.generations.version 0 ≡ 300
  pub read : (claim_of move_state 1).from_cache 0 ≡ Some one_value
  pub placed : IsPlacedAt pair move_state 1 (clean_at 5) one_value
  pub changed : index_of move_state 0 ≡ None
  pub later : IsCourse pair moved_state (by (sealing ++ reading))
  pub wrong : IsLegal pair.image (course pair moved_state (by (sealing ++ reading))).history → ⊥
