use Rattle.bc_model.specs.declared.history.Entry.TheVariants.{Tried}
use Rattle.bc_model.proofs.Floors.{adds, floor_tried}
use Rattle.bc_model.proofs.laws.tried_adds.Goals as goal

pub returns : goal.returns
returns c = λ opening first values H s v h. adds opening (Tried first values) H s v (floor_tried first values H s) h
