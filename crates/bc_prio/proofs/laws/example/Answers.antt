use Rattle.std.proofs.Common.{refl}
use Rattle.bc_prio.proofs.Example.{example_gens, example_chain}
use Rattle.bc_prio.proofs.laws.example.Goals as goal

pub returns : goal.returns
returns c = (example_gens, example_chain, refl, refl)
