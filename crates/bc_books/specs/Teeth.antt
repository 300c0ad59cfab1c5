-- What goes wrong where one condition of a step is left out: runs after which a law above is
-- broken.
use Rattle.std.specs.Prelude.{◌≡◌, ℕ, ◌<◌, ◌≤◌, true, false, List, [], ◌∷◌, Some, None, if◌then◌else◌, ◌==◌}
use Rattle.bc_books.specs.Index.{Kind, Clean, Dirty, Pointer, Key, latest, inserted}
use Rattle.bc_books.specs.Shelves.{Priorities, Plain, Loose, Listed, Raised, Fresh, IsPinned, IsForData}
use Rattle.bc_books.specs.Books.{Setup, Books, Step, Put, Take, Shut, Pin, Raise, MakeReady, ReadyChain, Seal, SealChain, Sealed, Begin, Walk, End, opened, IsSound}
use Rattle.bc_books.specs.Enabled.{IsUnpinned, IsNobodys, IsNear, CanRaise}
use Rattle.bc_books.specs.After.{after, IsRun, fold}
use Rattle.bc_books.specs.Laws.{durable_snapshot, sealed_snapshot, memory_snapshot, IsLive, IsLiveDirty, IsInWindow}
use Rattle.bc_books.specs.Example.{small, key}

-- where a sector points that has its data in place 0
abbrev pub at_zero : Kind → ℕ → Pointer
at_zero kind version = record { kind = kind; place = 0; version = version }

-- two dirty sectors in bucket 0, which is shut
abbrev pub dirty_run : List Step
dirty_run = Take 1 Plain 0 ∷ Pin 1 0 2 ∷ Put 0 (key 0 2 Dirty 0 ∷ []) ∷ Shut 0 ∷ Seal ∷ Sealed ∷ []

abbrev pub dirty_books : Books
dirty_books = fold small (opened small) dirty_run

-- A raise that doesn't ask for the mark: live dirty data is lost.
pub record LawTeethMark : Type 0 where
  pub run : IsRun small (opened small) dirty_run
  pub loose : dirty_books.shelf 0 ≡ Loose
  pub unpinned : IsUnpinned small.bucket dirty_books.owner 0
  pub not_held : IsNobodys (dirty_books.shelf 0)
  pub near : IsNear dirty_books.generations 0
  pub lost : IsLiveDirty small dirty_books 0

-- the same keys elsewhere, which are not durable yet
abbrev pub moved_run : List Step
moved_run = Take 1 Plain 0 ∷ Pin 1 0 1 ∷ Put 0 (key 0 1 Dirty 0 ∷ []) ∷ Shut 0 ∷ Seal ∷ Sealed
    ∷ Take 1 Plain 2 ∷ Pin 1 2 1 ∷ Put 0 (key 0 1 Dirty 2 ∷ []) ∷ Begin ∷ Walk 0 ∷ []

abbrev pub moved_books : Books
moved_books = fold small (opened small) moved_run

-- An end that doesn't wait until the journal is durable up to what the walk saw: what a crash
-- leaves has dirty data in a bucket that may be raised.
pub record LawTeethFirm : Type 0 where
  pub run : IsRun small (opened small) moved_run
  pub going : moved_books.round.going ≡ true
  pub walked : (s : ℕ) → s < small.size → moved_books.round.walked s ≡ true
  pub can_raise : CanRaise small (after small moved_books End) 0
  pub lost : moved_books.index.at moved_books.journal.durable 0 ≡ Some (at_zero Dirty 300)

abbrev pub begun_books : Books
begun_books = after small dirty_books Begin

-- An end before each leaf was walked: live dirty data is in a bucket that may be raised.
pub record LawTeethWalked : Type 0 where
  pub run : IsRun small (opened small) dirty_run
  pub begin : dirty_books.round.going ≡ false
  pub firm : begun_books.round.upto ≤ begun_books.journal.durable
  pub can_raise : CanRaise small (after small begun_books End) 0
  pub lost : IsLiveDirty small (after small begun_books End) 0

-- keys that come behind the walk
abbrev pub late_run : List Step
late_run = Begin ∷ Walk 0 ∷ Take 1 Plain 0 ∷ Pin 1 0 2 ∷ Put 0 (key 0 2 Dirty 0 ∷ []) ∷ Shut 0
    ∷ Seal ∷ Sealed ∷ []

abbrev pub late_books : Books
late_books = fold small (opened small) late_run

-- the same, with no bucket noted as touched
abbrev pub forgotten : Books → Books
forgotten k = record k { round = record k.round { touched = λ b. false } }

-- An end that lowers the marks of touched buckets: live dirty data is in a bucket that may be
-- raised.
pub record LawTeethTouched : Type 0 where
  pub run : IsRun small (opened small) late_run
  pub going : late_books.round.going ≡ true
  pub walked : (s : ℕ) → s < small.size → late_books.round.walked s ≡ true
  pub firm : late_books.round.upto ≤ late_books.journal.durable
  pub touched : late_books.round.touched 0 ≡ true
  pub can_raise : CanRaise small (after small (forgotten late_books) End) 0
  pub lost : IsLiveDirty small (after small (forgotten late_books) End) 0

-- clean data in bucket 0, which was collected and raised
abbrev pub raised_run : List Step
raised_run =
    Take 1 Plain 0 ∷ Pin 1 0 2 ∷ Put 0 (key 0 2 Dirty 0 ∷ []) ∷ Put 0 (key 0 2 Clean 0 ∷ [])
    ∷ Shut 0 ∷ Seal ∷ Sealed
    ∷ Begin ∷ Walk 0 ∷ End ∷ Raise 0 ∷ []

abbrev pub raised_books : Books
raised_books = fold small (opened small) raised_run

-- it goes to a list though no durable entry names its generation
abbrev pub early_books : Books
early_books = fold small (after small raised_books (MakeReady 0 (Some Plain))) (Take 1 Plain 0
    ∷ Pin 1 0 1 ∷ [])

-- A raised bucket that is written before its generation is durable: a seat writes where a live key
-- of a crash points.
pub record LawTeethReady : Type 0 where
  pub run : IsRun small (opened small) raised_run
  pub raised : raised_books.shelf 0 ≡ Raised
  pub taken : IsRun small (after small raised_books (MakeReady 0 (Some Plain))) (Take 1 Plain 0
      ∷ Pin 1 0 1 ∷ [])
  pub pinned : IsPinned (early_books.owner 0)
  pub live : IsLive small early_books (durable_snapshot early_books) 0 (at_zero Clean 300)

-- two dirty sectors in an open bucket
abbrev pub open_run : List Step
open_run = Take 1 Plain 0 ∷ Pin 1 0 2 ∷ Put 0 (key 0 2 Dirty 0 ∷ []) ∷ []

abbrev pub open_books : Books
open_books = fold small (opened small) open_run

-- A pin of a place that was pinned before: a seat writes where a live key points.
pub record LawTeethPin : Type 0 where
  pub run : IsRun small (opened small) open_run
  pub for_data : IsForData 1 (open_books.shelf 0)
  pub pinned : IsPinned ((after small open_books (Pin 1 0 1)).owner 0)
  pub live : IsLive small open_books (memory_snapshot open_books) 0 (at_zero Dirty 300)

-- bucket 0 had its oldest key 96 generations ago
abbrev pub old : Setup
old = record small {
  index = λ s. if s == 0 then Some (at_zero Clean 204) else None;
  last_gc = λ b. 204;
}

-- the bucket is taken, shut, and raised
abbrev pub old_run : List Step
old_run = Take 1 Plain 0 ∷ Shut 0 ∷ []

abbrev pub old_books : Books
old_books = fold old (opened old) old_run

-- A raise past the window: a stale key isn't 0 to 96 generations behind.
pub record LawTeethNear : Type 0 where
  pub sound : IsSound old
  pub run : IsRun old (opened old) old_run
  pub loose : old_books.shelf 0 ≡ Loose
  pub far : IsInWindow ((after old old_books (Raise 0)).generations.version 0) (at_zero Clean 204)
      → ⊥

-- an entry with a new chain is sealed
abbrev pub chain_run : List Step
chain_run = Take 1 Priorities 6 ∷ SealChain 1 (λ b. 300) (λ b. b == 6) ∷ []

abbrev pub chain_books : Books
chain_books = fold small (opened small) chain_run

-- A pin in a bucket that is held for a chain: a seat writes where a crash may find the chain.
pub record LawTeethPurpose : Type 0 where
  pub run : IsRun small (opened small) chain_run
  pub fresh : chain_books.owner 6 ≡ Fresh
  pub of_chain : chain_books.chains.of 6 ≡ Some (sealed_snapshot chain_books).chain
  pub pinned : IsPinned ((after small chain_books (Pin 1 6 1)).owner 6)

abbrev pub hasty_books : Books
hasty_books = after small chain_books (ReadyChain (λ b. true))

-- A chain that is made ready before its entry is durable: a bucket of the chain that a crash finds
-- is
-- on a list.
pub record LawTeethChain : Type 0 where
  pub run : IsRun small (opened small) chain_run
  pub of_chain : chain_books.chains.of 7 ≡ Some (durable_snapshot chain_books).chain
  pub same : (durable_snapshot hasty_books).chain ≡ (durable_snapshot chain_books).chain
  pub listed : hasty_books.shelf 7 ≡ Listed Priorities

-- a key to a place of a bucket on a list
abbrev pub bare_books : Books
bare_books = after small (opened small) (Put 0 (key 0 1 Dirty 2 ∷ []))

-- and then a chain in that bucket
abbrev pub over_run : List Step
over_run = Take 1 Priorities 2 ∷ SealChain 1 (λ b. 300) (λ b. b == 2) ∷ []

abbrev pub over_books : Books
over_books = fold small bare_books over_run

-- A key to a place that isn't pinned: a chain is written over live dirty data.
pub record LawTeethPut : Type 0 where
  pub not_pinned : (opened small).owner 2 ≡ Fresh
  pub run : IsRun small bare_books over_run
  pub of_chain : over_books.chains.of 2 ≡ Some (sealed_snapshot over_books).chain
  pub live : IsLive small over_books (memory_snapshot over_books) 0
      (record { kind = Dirty; place = 2; version = 300 })

abbrev pub pinned_run : List Step
pinned_run = Take 1 Plain 0 ∷ Pin 1 0 1 ∷ []

abbrev pub stale_key : Key
stale_key = record { first = 0; count = 1; kind = Some Dirty; place = 0; version = 299 }

-- A key with another version than its bucket's: what was written is stale at once.
pub record LawTeethVersion : Type 0 where
  pub run : IsRun small (opened small) pinned_run
  pub written : latest (inserted 0 (stale_key ∷ []) (fold small (opened small) pinned_run).index) 0
      ≡ Some (at_zero Dirty 299)
  pub lost : IsInWindow ((fold small (opened small) pinned_run).generations.version 0)
      (at_zero Dirty 299) → ⊥
