use Rattle.std.proofs.Common.{refl}
use Rattle.bc_jset.proofs.Example.{example_entry, example_is_entry}
use Rattle.bc_jset.proofs.laws.example.Goals as goal

pub returns : goal.returns
returns c = (example_entry, example_is_entry, refl, refl, refl)
