use Rattle.std.proofs.Common.{refl}
use Rattle.bc_jset.proofs.ExampleEntries.{first_found, second_found, two_entries, gap_is_found}
use Rattle.bc_jset.proofs.laws.example_entries.Goals as goal

pub returns-clause-two : goal.returns-clause-two
returns-clause-two c = (first_found, second_found, two_entries, refl, refl, refl, refl)

pub returns-clause-gap : goal.returns-clause-gap
returns-clause-gap c = gap_is_found
