use Rattle.bc_super.proofs.Geometries.{one_geometry}
use Rattle.bc_super.proofs.division.one_geometry.Goals as goal

pub returns : goal.returns
returns c = one_geometry
