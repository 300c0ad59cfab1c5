use Rattle.std.proofs.Common.{refl, [], List, Option, Some, None}
use Rattle.std.specs.Fmt.{digits}
use Rattle.clap.specs.Words.{Row, Text, subcommand_of}
use Rattle.clap.proofs.OnLiterals.{clap_on_literals}
use Rattle.bc_words.specs.Program.{program}
use Rattle.bc_words.specs.Example.{check_words}
use Rattle.bc_words.proofs.laws.check_example.Goals as goal

abbrev rows_in : Option (Text × List Row) → List Row
rows_in None = []
rows_in (Some p) = p.1

pub returns : goal.returns
unfolding clap_on_literals digits
returns c = (
  rows_in (subcommand_of program check_words),
  record { faultless = refl; entered = refl },
  ((λ given. refl), (λ same. refl)),
)
