use Rattle.std.proofs.Common.{refl}
use Rattle.bc_jset.proofs.ExampleEntries.{first_entry, second_entry}
use Rattle.bc_journal.proofs.Example.{example_holds}
use Rattle.bc_journal.proofs.laws.example.Goals as goal

pub returns : goal.returns
returns c = (first_entry, second_entry, example_holds, refl, refl)
