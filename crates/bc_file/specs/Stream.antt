-- What a source or a sink over a file tells.
use Rattle.std.specs.Prelude.{ℕ, None}
use Rattle.bc_disk.specs.Stream.{StreamFacts}
use Rattle.bc_file.specs.declared.counts.Counts.{Counts}

-- its bytes aren't told
abbrev pub untold : Counts → StreamFacts
untold c = record { text = None; faults = c.faults; stops = 0 }

-- the calls of a sink, and how often it took nothing of a piece that isn't empty
pub record SinkCounts : Type 0 where
  pub counts : Counts
  pub stops : ℕ

abbrev pub untold_sink : SinkCounts → StreamFacts
untold_sink s = record { text = None; faults = s.counts.faults; stops = s.stops }
