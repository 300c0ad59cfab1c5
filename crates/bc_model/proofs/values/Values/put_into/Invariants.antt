use Rattle.std.proofs.Common.{◌≡◌, take}
use Rattle.bc_model.specs.Sector.{sectors}
use Rattle.bc_model.proofs.values.Values.put_into.Given as goal

abbrev pub invariant-loop-i : goal.invariant-loop-i
invariant-loop-i l = sectors l.i l.into ≡ take l.i l.self
