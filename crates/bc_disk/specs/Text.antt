-- What a source and a sink in memory are to their callers.
use Rattle.std.specs.Prelude.{ℕ, List, Some}
use Rattle.bc_disk.specs.Stream.{StreamFacts}
use Rattle.bc_disk.specs.Tally.{Tally}

-- a source: what it has left
pub record Left : Type 0 where
  pub left : List ℕ
  pub calls : Tally

-- a sink: what it has taken, and how much it takes in all
pub record Taken : Type 0 where
  pub taken : List ℕ
  pub room : ℕ
  pub calls : Tally
  -- how often it took nothing of a piece that isn't empty
  pub stops : ℕ

abbrev pub facts_of_left : Left → StreamFacts
facts_of_left s = record { text = Some s.left; faults = s.calls.faults; stops = 0 }

abbrev pub facts_of_taken : Taken → StreamFacts
facts_of_taken s = record { text = Some s.taken; faults = s.calls.faults; stops = s.stops }
