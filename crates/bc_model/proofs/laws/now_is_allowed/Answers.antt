use Rattle.std.proofs.Common.{refl}
use Rattle.bc_model.specs.History.{now, floor}
use Rattle.bc_model.proofs.Grown.{allowed_now}
use Rattle.bc_model.proofs.laws.now_is_allowed.Goals as goal

pub returns : goal.returns
returns c = λ opening H s. allowed_now opening (floor H s) H s (now opening H s) refl
