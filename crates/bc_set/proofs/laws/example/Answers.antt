use Rattle.std.proofs.Common.{refl}
use Rattle.bc_set.proofs.Example.{example_set, example_is_set}
use Rattle.bc_set.proofs.laws.example.Goals as goal

pub returns : goal.returns
returns c = (example_set, example_is_set, refl, refl)
