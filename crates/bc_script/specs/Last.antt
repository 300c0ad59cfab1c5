-- The runs that are printed, and the one that goes on.
use Rattle.std.specs.Prelude.{◌≡◌, ◌⊎◌, ℕ, ◌+◌, ◌≤◌, true, List, ◌++◌, length, replicate}
use Rattle.bc_model.specs.Sector.{Value}
use Rattle.bc_script.specs.declared.seen.Seen.{Seen}
use Rattle.bc_script.specs.declared.last.Last.{Last}
use Rattle.bc_script.specs.Runs.{AreSeen, is_joined, runs_text}

-- more than one sector is of a run that goes on
abbrev pub IsLast : Last → Type 0
IsLast last = (last.count ≤ 1) ⊎ (is_joined last.seen last.seen ≡ true)

-- whatever comes behind these sectors, it is printed behind the text with the last run
abbrev pub Prints : List Seen → Last → List ℕ → Type 0
Prints xs last text = (rest : List Seen)
    → runs_text (xs ++ rest) ≡ text ++ runs_text (replicate last.count last.seen ++ rest)

-- the sectors from the first on, which have these values, came too
pub record Goes (first : ℕ) (values : List Value) (old new : Last) (before after : List ℕ) : Type 0 where
  pub last : IsLast new
  pub few : new.count ≤ old.count + length values
  pub prints : (xs : List Seen) → Prints xs old before
      → (ys : List Seen) × AreSeen first values ys × Prints (xs ++ ys) new after
