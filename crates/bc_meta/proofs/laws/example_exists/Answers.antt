use Rattle.bc_meta.proofs.Example as example
use Rattle.bc_meta.proofs.laws.example_exists.Goals as goal

pub returns : goal.returns
returns c = example.has_example
