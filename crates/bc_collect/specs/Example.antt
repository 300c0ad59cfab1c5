-- A run that the laws on collection and on room speak of.
use Rattle.std.specs.Prelude.{List, [], ◌∷◌}
use Rattle.bc_books.specs.Books.{Step, Walk, opened}
use Rattle.bc_books.specs.Enabled.{IsReclaimable}
use Rattle.bc_books.specs.After.{IsRun, fold}
use Rattle.bc_books.specs.Example.{small, before, whole}
use Rattle.bc_collect.specs.Collect.{AllQuiet, IsIdle, CouldBeHad, with_round}
use Rattle.bc_collect.specs.Spare.{AllRoomy}

-- a round that nobody disturbs
abbrev pub undisturbed : List Step
undisturbed = with_round before (Walk 0 ∷ []) []

-- it is one that the laws on collection speak of: bucket 0 could be had all the time, and is
-- reclaimable at its end
pub record LawCollects : Type 0 where
  pub run : IsRun small (opened small) undisturbed
  pub quiet : AllQuiet (Walk 0 ∷ [])
  pub idle : IsIdle small (fold small (opened small) undisturbed) 0
  pub reclaimable : IsReclaimable small (fold small (opened small) undisturbed) 0
  pub had : CouldBeHad small (fold small (opened small) before) (Walk 0 ∷ []) 0

-- in the run of all steps the list priorities has room for what goes back
abbrev pub LawRoomy : Type 0
LawRoomy = AllRoomy small (opened small) whole
