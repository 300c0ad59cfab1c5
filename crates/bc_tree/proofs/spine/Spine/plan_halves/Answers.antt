use Rattle.std.proofs.Common.{refl}
use Rattle.bc_tree.proofs.Halving.{fits_halves, halved_is}
use Rattle.bc_tree.proofs.Same.{same_tree}
use Rattle.bc_tree.proofs.spine.Spine.plan_halves.Goals as goal

pub halved-requires-clause-can : goal.halved-requires-clause-can
halved-requires-clause-can c = (c.requires.can.node, c.requires.can.can)

pub returns-clause-fits : goal.returns-clause-fits
returns-clause-fits c =
    let is = c.in_ok-group.ensures in
    fits_halves c.args.self.now c.make_room_for_two.new.self c.args.new.leaves c.args.new.first c.args.new.second c.args.place.now c.args.come.now c.args.to.now c.args.seq is.0 c.in_ok-group.group.bottom c.in_ok-group.group.top c.in_ok-group.group.beside
    c.root.ensures.spine c.requires.can is.1 is.2 c.make_room_for_two.ensures.tree c.make_room_for_two.ensures.spare c.in_ok-make_room_for_two.ensures.below c.in_ok-make_room_for_two.ensures.root

pub returns-clause-plan : goal.returns-clause-plan
returns-clause-plan c =
    let is = c.in_ok-group.ensures in
    record {
      leaves_are = refl;
      first_is = refl;
      second_is = refl;
      above = record { place_is = refl; node = is.0; there = is.1; above = is.2; count = halved_is c.args.self.now is.0 c.args.place.now.node c.args.place.now.child c.args.come.now c.args.to.now c.args.seq c.in_ok-group.group.bottom c.in_ok-group.group.top c.in_ok-group.group.beside c.root.ensures.spine is.2 };
    }

pub returns-in_err-group-clause-tree : goal.returns-in_err-group-clause-tree
returns-in_err-group-clause-tree c = same_tree c.args.self.now
