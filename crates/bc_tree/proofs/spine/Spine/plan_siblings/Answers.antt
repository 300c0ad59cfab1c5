use Rattle.std.proofs.Common.{◌≡◌, ℕ, ◌+◌, arith, refl}
use Rattle.std.proofs.lemmas.Option.{slice_get_within}
use Rattle.bc_tree.specs.Spine.{bottom}
use Rattle.bc_tree.proofs.Counts.{moved_is}
use Rattle.bc_tree.proofs.Fits.{fits_after}
use Rattle.bc_tree.proofs.Same.{same_tree}
use Rattle.bc_tree.proofs.spine.Spine.plan_siblings.Goals as goal

-- with nothing beside
moved_up : {n m : ℕ} → n ≡ m → n + 0 ≡ m
moved_up is = omega (arith, is)

pub above-requires-clause-node : goal.above-requires-clause-node
above-requires-clause-node c = (c.requires.can.node, c.requires.can.there, c.requires.can.can, c.requires.places c.requires.can.node c.requires.can.there)

pub make_room-requires : goal.make_room-requires
make_room-requires c = let s = c.args.self.now in slice_get_within (bottom s.root s.below) c.args.place.now.node c.requires.can.node c.requires.can.there

pub returns-clause-fits : goal.returns-clause-fits
returns-clause-fits c =
    let above = c.in_ok-above.ensures in
    fits_after c.args.self.now c.make_room.new.self c.args.new.leaves c.args.new.first c.args.new.second c.args.place.now c.args.gone c.args.come.now c.args.to.now c.args.seq above.0 c.in_ok-above.above.bottom c.in_ok-above.above.top
    c.root.ensures.spine c.requires.can c.requires.few above.1 above.2 c.make_room.ensures.tree c.make_room.ensures.spare c.in_ok-make_room.ensures.room

pub returns-clause-plan : goal.returns-clause-plan
returns-clause-plan c =
    let above = c.in_ok-above.ensures in
    record { leaves_are = refl; first_is = refl; second_is = refl; above = record { place_is = refl; node = above.0; there = above.1; above = above.2; beside_is = refl; moved = moved_up (moved_is c.args.self.now above.0 c.args.place.now.node c.args.place.now.child c.args.gone c.args.come.now c.args.to.now c.args.seq c.in_ok-above.above.bottom c.in_ok-above.above.top c.root.ensures.spine above.2) } }

pub returns-in_err-above-clause-tree : goal.returns-in_err-above-clause-tree
returns-in_err-above-clause-tree c = same_tree c.args.self.now
