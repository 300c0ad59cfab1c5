use Rattle.bc_model.specs.declared.history.Entry.TheVariants.{Write}
use Rattle.bc_model.proofs.Floors.{adds, floor_write}
use Rattle.bc_model.proofs.laws.write_adds.Goals as goal

pub returns : goal.returns
returns c = λ opening worker line first values H s v h. adds opening (Write worker line first values) H s v (floor_write worker line first values H s) h
