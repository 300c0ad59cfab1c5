use Rattle.std.proofs.Common.{refl}
use Rattle.bc_tree.specs.contracts.spine.Spine.{the_view}
use Rattle.bc_tree.proofs.Coming.{got_room, node_of}
use Rattle.bc_tree.proofs.spine.Spine.make_room_above.Goals as goal

pub returns-clause-tree : goal.returns-clause-tree
returns-clause-tree c =
    rw (← c.self.view_is)
    (got_room (the_view c.self.inside) (the_view (record c.self.inside { root = c.reserve.new.self })) c.reserve.new.self refl (node_of c.self.inside.root c.reserve.new.self c.reserve.ensures.node c.reserve.ensures.children))
