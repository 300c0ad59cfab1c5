use Rattle.std.proofs.Common.{refl, [], List, Option, Some, None}
use Rattle.std.specs.Fmt.{digits}
use Rattle.clap.specs.Words.{Row, Text, subcommand_of}
use Rattle.clap.proofs.OnLiterals.{clap_on_literals}
use Rattle.bc_words.specs.Program.{program}
use Rattle.bc_words.specs.Example.{serve_words}
use Rattle.bc_words.proofs.laws.serve_example.Goals as goal

abbrev rows_in : Option (Text × List Row) → List Row
rows_in None = []
rows_in (Some p) = p.1

pub returns-clause-spelled : goal.returns-clause-spelled
unfolding clap_on_literals digits
returns-clause-spelled c = (
  rows_in (subcommand_of program serve_words),
  record { faultless = refl; entered = refl },
  record { mode = refl; cutoff = refl; slots = refl },
)
