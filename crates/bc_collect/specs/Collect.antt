-- What a round makes of marks, over every run from a sound opening.
use Rattle.std.specs.Prelude.{◌≡◌, ◌≢◌, ◌⊎◌, ℕ, ◌+◌, ◌<◌, false, List, [], ◌∷◌, ◌++◌, Some}
use Rattle.bc_books.specs.Index.{Pointer, latest}
use Rattle.bc_books.specs.Shelves.{Purpose, Loose, Listed, Raised, Open, IsHeldBy}
use Rattle.bc_books.specs.Books.{Setup, Books, Step, Put, Regroup, Take, Pin, Keep, BeginNode, MakeNode, DropNode, Raise, MakeReady, ReadyChain, Begin, End, Drop, opened, IsSound}
use Rattle.bc_books.specs.Enabled.{IsUnpinned, IsReclaimable, CanRaise}
use Rattle.bc_books.specs.After.{after, IsRun, fold}
use Rattle.bc_books.specs.Invariant.{IsMetadata}
use Rattle.bc_books.specs.Laws.{IsLiveDirty}

-- steps of the journal, walks, the ends of pins and holds, and new leaves without keys to count:
-- what may happen beside a round that nobody disturbs
abbrev pub IsQuiet : Step → Type 0
IsQuiet (Put leaf keys) = ⊥
IsQuiet (Regroup leaf changed counts last) = (s : ℕ) → counts s ≡ false
IsQuiet (Take i p b) = ⊥
IsQuiet (Pin i place count) = ⊥
IsQuiet (Keep c place count) = ⊥
IsQuiet (BeginNode i b) = ⊥
IsQuiet (MakeNode i b) = ⊥
IsQuiet (DropNode b) = ⊥
IsQuiet (Raise b) = ⊥
IsQuiet (MakeReady b room) = ⊥
IsQuiet (ReadyChain room) = ⊥
IsQuiet Begin = ⊥
IsQuiet End = ⊥
IsQuiet Drop = ⊥
IsQuiet x = Unit {0}

abbrev pub AllQuiet : List Step → Type 0
AllQuiet [] = Unit {0}
AllQuiet (x ∷ xs) = IsQuiet x × AllQuiet xs

-- no key of the index in memory points into the bucket from 96 or more generations back
abbrev pub IsYoung : Setup → Books → ℕ → Type 0
IsYoung w k b = (s : ℕ) (r : Pointer) → latest k.index s ≡ Some r → w.bucket r.place ≡ b
    → k.generations.version b < r.version + 96

-- a use that the plain walk finds: live dirty data, metadata, or an open bucket
abbrev pub IsUsed : Setup → Books → ℕ → Type 0
IsUsed w k b = IsLiveDirty w k b ⊎ (IsMetadata w.fixed k.node k.chains b ⊎ (k.shelf b ≡ Open))

-- it is on no list and not raised, unpinned, held by no seat, and young
pub record IsIdle (w : Setup) (k : Books) (b : ℕ) : Type 0 where
  pub no_list : (p : Purpose) → k.shelf b ≢ Listed p
  pub not_raised : k.shelf b ≢ Raised
  pub not_held : (i : ℕ) → IsHeldBy i (k.shelf b) → ⊥
  pub unpinned : IsUnpinned w.bucket k.owner b
  pub young : IsYoung w k b

-- a bucket is reclaimable where no use forbids it, and nowhere else
pub record IsComplete (w : Setup) (k : Books) (b : ℕ) : Type 0 where
  pub unused : IsReclaimable w k b → IsUsed w k b → ⊥
  pub all : (IsUsed w k b → ⊥) → IsReclaimable w k b

abbrev pub IsCollected : Setup → Books → Type 0
IsCollected w k = (b : ℕ) → IsIdle w k b → IsComplete w k b

-- a round, and what comes before and behind it
abbrev pub with_round : (before inside later : List Step) → List Step
with_round before inside later = before ++ (Begin ∷ (inside ++ (End ∷ later)))

-- collection is complete: after a round that nobody disturbed, and while nothing else happens
abbrev pub LawCollect : Type 0
LawCollect = (w : Setup) (before inside later : List Step) → IsSound w
    → IsRun w (opened w) (with_round before inside later) → AllQuiet inside → AllQuiet later
    → IsCollected w (fold w (opened w) (with_round before inside later))

-- of each state on the way
abbrev pub Throughout : Setup → Books → List Step → (Books → Type 0) → Type 0
Throughout w k [] P = P k
Throughout w k (x ∷ xs) P = P k × Throughout w (after w k x) xs P

-- the round that was begun goes on
abbrev pub IsOneRound : List Step → Type 0
IsOneRound [] = Unit {0}
IsOneRound (x ∷ xs) = (x ≢ Begin) × IsOneRound xs

-- on no list, nobody's, unpinned, without live dirty data, no metadata, and young: so a request
-- that asks for a bucket can have it
pub record CanBeHad (w : Setup) (b : ℕ) (k : Books) : Type 0 where
  pub loose : k.shelf b ≡ Loose
  pub unpinned : IsUnpinned w.bucket k.owner b
  pub no_dirty : IsLiveDirty w k b → ⊥
  pub no_metadata : IsMetadata w.fixed k.node k.chains b → ⊥
  pub young : IsYoung w k b

-- a round that may end now, from k on, during which the bucket could be had all the time and nobody
-- touched it
pub record CouldBeHad (w : Setup) (k : Books) (inside : List Step) (b : ℕ) : Type 0 where
  pub one_round : IsOneRound inside
  pub had : Throughout w (after w k Begin) inside (CanBeHad w b)
  pub untouched : (fold w (after w k Begin) inside).round.touched b ≡ false

-- whatever others do meanwhile, such a bucket may be raised at the round's end
abbrev pub LawHad : Type 0
LawHad = (w : Setup) (before inside : List Step) (b : ℕ) → IsSound w
    → IsRun w (opened w) (with_round before inside [])
    → CouldBeHad w (fold w (opened w) before) inside b
    → CanRaise w (fold w (opened w) (with_round before inside [])) b
