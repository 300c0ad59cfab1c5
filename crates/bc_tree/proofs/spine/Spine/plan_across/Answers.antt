use Rattle.std.proofs.Common.{◌+◌, refl}
use Rattle.bc_tree.proofs.Acrossing.{across_counted, fits_across, is_at}
use Rattle.bc_tree.proofs.Same.{same_tree}
use Rattle.bc_tree.proofs.spine.Spine.plan_across.Goals as goal

pub joined_across-requires : goal.joined_across-requires
joined_across-requires c = let can = c.requires.can in record { can = (can.0, can.1, can.2.can, can.3) }

pub returns-clause-fits : goal.returns-clause-fits
returns-clause-fits c =
    let s = c.args.self.now in
    let place = c.args.place.now in
    let key = c.args.key.now in
    let can = c.requires.can in
    let is = c.in_ok-group.ensures in
    let group = c.in_ok-group.group in
    fits_across s c.make_room_for_two.new.self c.args.new.leaves c.args.new.first c.args.new.second can.0 can.1 place key c.args.to.now c.args.seq group.bottom group.top group.beside c.root.ensures.spine can.2
    (is_at s place.node key is.0 is.1 can.0 can.1 c.args.to.now c.args.seq group.bottom group.top group.beside is.2 can.2.can.there can.2.can.behind is.3) c.make_room_for_two.ensures.tree c.make_room_for_two.ensures.spare c.in_ok-make_room_for_two.ensures.root

pub returns-clause-plan : goal.returns-clause-plan
returns-clause-plan c =
    let is = c.in_ok-group.ensures in
    let group = c.in_ok-group.group in
    record {
      leaves_are = refl;
      first_is = refl;
      second_is = refl;
      above = record {
        place_is = refl;
        left = is.0;
        right = is.1;
        there = is.2.there;
        behind = is.2.behind;
        above = is.3;
        count = across_counted c.args.self.now is.0 is.1 c.args.place.now.node c.args.key.now c.args.to.now c.args.seq group.bottom group.top group.beside is.3;
      };
    }

pub returns-in_err-group-clause-tree : goal.returns-in_err-group-clause-tree
returns-in_err-group-clause-tree c = same_tree c.args.self.now
