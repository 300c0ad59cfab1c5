use Rattle.std.proofs.Common.{refl, arith, replicate, ◌++◌, ◌∷◌, [], List, Option, Some, None}
use Rattle.hex.proofs.OnLiterals.{hex_on_literals}
use Rattle.std.specs.Fmt.{digits}
use Rattle.clap.specs.Words.{Row, Text, subcommand_of}
use Rattle.clap.proofs.OnLiterals.{clap_on_literals}
use Rattle.bc_words.specs.Program.{program}
use Rattle.bc_words.specs.Example.{format_words}
use Rattle.bc_words.proofs.Uuids.{are_bytes}
use Rattle.bc_words.proofs.laws.format_example.Goals as goal

pub returns-clause-range : goal.returns-clause-range
returns-clause-range c = record {
  is_set = record { whole = refl; bytes = are_bytes (replicate 15 0 ++ 1 ∷ []) refl };
  not_zero = λ e. cc;
  is_cuuid = record { whole = refl; bytes = are_bytes (replicate 15 16 ++ 171 ∷ []) refl };
  is_buuid = record { whole = refl; bytes = are_bytes (replicate 16 255) refl };
  is_block = record { power = (0, refl); within = record { low = omega arith; high = omega arith } };
  is_bucket = record { power = (6, refl); within = record { low = omega arith; high = omega arith } };
  is_offset = record { low = omega arith; high = omega arith };
}

abbrev rows_in : Option (Text × List Row) → List Row
rows_in None = []
rows_in (Some p) = p.1

pub returns-clause-spelled : goal.returns-clause-spelled
unfolding clap_on_literals hex_on_literals digits
returns-clause-spelled c = (
  rows_in (subcommand_of program format_words),
  record { faultless = refl; entered = refl },
  record { says_set = refl; says_cuuid = refl; says_buuid = refl; says_block = refl; says_bucket = refl; says_mode = refl; says_offset = refl },
)
