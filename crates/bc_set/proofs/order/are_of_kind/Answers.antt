use Rattle.bc_set.proofs.order.are_of_kind.Goals as goal

pub returns-in-Extents : goal.returns-in-Extents
returns-in-Extents c = rw c.in-Extents.is c.are_extents.ensures
