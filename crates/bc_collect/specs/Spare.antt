-- How many buckets stay without use: in whatever a crash leaves, and for a next chain.
use Rattle.std.specs.Prelude.{◌≡◌, ◌≢◌, ◌⊎◌, ℕ, true, false, List, [], ◌∷◌, Some}
use Rattle.bc_books.specs.Index.{Pointer}
use Rattle.bc_books.specs.Shelves.{Priorities, Tree, Shelf, Listed, Held}
use Rattle.bc_books.specs.Chains.{Many}
use Rattle.bc_books.specs.Books.{Setup, Books, Step, LetGo, ReadyChain, opened, IsSound}
use Rattle.bc_books.specs.After.{after, IsRun, fold}
use Rattle.bc_books.specs.Laws.{Snapshot, IsLive, MayLeave, Always}

-- no metadata of this snapshot, not held for a node that a tree there may have, and without a live
-- key
pub record HasNoUse (w : Setup) (k : Books) (shot : Snapshot) (b : ℕ) : Type 0 where
  pub not_fixed : w.fixed b ≡ false
  pub no_node : k.node b ≡ false
  pub no_new_node : (i : ℕ) → k.shelf b ≢ Held i Tree
  pub no_chain : k.chains.of b ≢ Some shot.chain
  pub no_key : (s : ℕ) (r : Pointer) → IsLive w k shot s r → w.bucket r.place ≢ b

-- whatever a crash leaves has as many buckets without use as a next chain asks for
abbrev pub LawSpare : Type 0
LawSpare = Always (λ w k. (shot : Snapshot) → MayLeave k shot → Many w.sets (HasNoUse w k shot))

-- on the list priorities, or taken from it for a chain
abbrev pub IsForChain : Shelf → Type 0
IsForChain x = (x ≡ Listed Priorities) ⊎ ((i : ℕ) × (x ≡ Held i Priorities))

-- the list priorities refuses what goes back to it only where it has as many buckets as a chain
-- asks for
abbrev pub IsRoomy : Setup → Books → Step → Type 0
IsRoomy w k (LetGo i b room) = (room ≡ true)
    ⊎ Many w.sets (λ c. (after w k (LetGo i b room)).shelf c ≡ Listed Priorities)
IsRoomy w k (ReadyChain room) = ((b : ℕ) → room b ≡ true)
    ⊎ Many w.sets (λ c. (after w k (ReadyChain room)).shelf c ≡ Listed Priorities)
IsRoomy w k x = Unit {0}

abbrev pub AllRoomy : Setup → Books → List Step → Type 0
AllRoomy w k [] = Unit {0}
AllRoomy w k (x ∷ xs) = IsRoomy w k x × AllRoomy w (after w k x) xs

-- there are as many buckets for chains as one asks for: where no seat holds any, they are on the
-- list, and a next chain can be written
abbrev pub LawReserve : Type 0
LawReserve = (w : Setup) (xs : List Step) → IsSound w → IsRun w (opened w) xs
    → AllRoomy w (opened w) xs → Many w.sets (λ b. IsForChain ((fold w (opened w) xs).shelf b))
