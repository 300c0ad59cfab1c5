-- A run in which each step is taken: data is written, made clean, moved and dropped, a node comes
-- and goes in the middle of a round, and the bucket of the data is raised and taken again.
use Rattle.std.specs.Prelude.{◌≡◌, ℕ, true, false, List, [], ◌∷◌, ◌++◌, Option, Some, None, if◌then◌else◌, ◌==◌, ◌||◌, nat_le}
use Rattle.bc_books.specs.Index.{Kind, Clean, Dirty, Key}
use Rattle.bc_books.specs.Shelves.{Purpose, Priorities, Moving, Tree, Plain, Open}
use Rattle.bc_books.specs.Marks.{Unmarked, Metadata}
use Rattle.bc_books.specs.Books.{Setup, Books, Step, Put, Regroup, Take, Shut, LetGo, Pin, Unpin, Keep, BeginNode, MakeNode, DropNode, Raise, MakeReady, ReadyChain, Seal, SealChain, Sealed, Begin, Walk, End, Drop, opened, IsSound}
use Rattle.bc_books.specs.After.{IsRun, fold}

-- bucket 0 has places 0 and 1, and each bucket from 2 on the place of its number. Bucket 3 is a
-- node's, bucket 7 the chain's, and those from 9 on the journal's
abbrev pub small_list : ℕ → Option Purpose
small_list b =
    if (b == 0) || ((b == 2) || (b == 8)) then Some Plain
    else (if b == 4 then Some Tree
    else (if b == 5 then Some Moving
    else (if b == 6 then Some Priorities
    else None)))

abbrev pub small : Setup
small = record {
  bucket = λ t. if nat_le 2 t then t else 0;
  size = 4;
  sets = 1;
  fixed = λ b. nat_le 9 b;
  index = λ s. None;
  leaf = λ s. 0;
  version = λ b. 300;
  last_gc = λ b. 300;
  mark = λ b. if nat_le 9 b || ((b == 3) || (b == 7)) then Metadata else Unmarked;
  listed = small_list;
  node = λ b. b == 3;
  chain = λ b. b == 7;
}

abbrev pub key : (first count : ℕ) → Kind → (place : ℕ) → Key
key first count kind place =
    record { first = first; count = count; kind = Some kind; place = place; version = 300 }

-- a key without a pointer
abbrev pub gap : (first count : ℕ) → Key
gap first count = record { first = first; count = count; kind = None; place = 0; version = 0 }

-- two sectors are written
abbrev pub writing : List Step
writing = Take 1 Plain 0 ∷ Pin 1 0 2 ∷ Put 0 (key 0 2 Dirty 0 ∷ []) ∷ Seal ∷ Sealed ∷ []

-- they are written back, and the third one is filled
abbrev pub filling : List Step
filling = Put 0 (key 0 2 Clean 0 ∷ []) ∷ Shut 0 ∷ Take 1 Plain 2 ∷ Pin 1 2 1 ∷ Keep 7 2 1
    ∷ Put 0 (key 2 1 Clean 2 ∷ []) ∷ []

-- the first one is moved, the second one is dropped, and a place is taken for nothing
abbrev pub moving : List Step
moving = Take 1 Moving 5 ∷ Pin 1 5 1 ∷ Put 0 (key 0 1 Clean 5 ∷ []) ∷ LetGo 1 5 false
    ∷ Put 0 (gap 1 1 ∷ []) ∷ Take 1 Plain 8 ∷ Pin 1 8 1 ∷ Unpin 8 1 ∷ Seal ∷ Sealed ∷ []

abbrev pub before : List Step
before = writing ++ (filling ++ moving)

-- a new leaf takes the place of the old one during a round, at whose end nothing forbids that
-- bucket 0 is raised
abbrev pub collecting : List Step
collecting = Take 1 Tree 4 ∷ BeginNode 1 4 ∷ Begin ∷ Walk 0 ∷ MakeNode 1 4 ∷ DropNode 3
    ∷ Regroup (λ s. 1) (λ l. 5) (λ s. true) 5 ∷ End ∷ Raise 0 ∷ []

abbrev pub new_version : ℕ → ℕ
new_version b = if b == 0 then 301 else 300

-- its new generation is durable, and it is taken again
abbrev pub reusing : List Step
reusing = Take 1 Priorities 6 ∷ SealChain 1 new_version (λ b. b == 6) ∷ Sealed
    ∷ ReadyChain (λ b. true) ∷ MakeReady 0 (Some Plain) ∷ Begin ∷ Drop ∷ Take 1 Plain 0 ∷ Pin 1 0 1
    ∷ []

abbrev pub whole : List Step
whole = before ++ (collecting ++ reusing)

abbrev pub last : Books
last = fold small (opened small) whole

pub record LawRuns : Type 0 where
  pub sound : IsSound small
  pub run : IsRun small (opened small) whole
  pub written : last.index.at 1 0 ≡ Some (record { kind = Dirty; place = 0; version = 300 })
  pub moved : last.index.at last.index.count 0 ≡ Some (record { kind = Clean; place = 5; version = 300 })
  pub dropped : last.index.at last.index.count 1 ≡ None
  pub filled : last.index.at last.index.count 2 ≡ Some (record { kind = Clean; place = 2; version = 300 })
  pub raised : last.generations.durable 0 ≡ 301
  pub again : last.shelf 0 ≡ Open
  pub new_node : last.node 4 ≡ true
  pub old_node : last.node 3 ≡ false
  pub ready : last.chains.ready ≡ 1
