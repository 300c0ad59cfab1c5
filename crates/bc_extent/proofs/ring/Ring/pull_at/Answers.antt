use Rattle.std.proofs.Common.{◌∙◌, arith}
use Rattle.bc_extent.proofs.Turns.{insert_last, moved_back}
use Rattle.bc_extent.proofs.ring.Ring.pull_at.Goals as goal

pub returns-then-place : goal.returns-then-place
returns-then-place c =
    let moved = c.move_down in
    moved.ensures.moved ∙ insert_last c.args.self.now 512 c.args.slot moved.ensures.length.0

pub returns : goal.returns
returns c =
    let moved = c.move_up-out in
    let back = c.push_back in
    moved_back c.args.self.now moved.new.self back.new.self c.args.place c.args.slot c.empty.result back.result moved.result (omega (arith, moved.ensures.length.1, c.requires)) moved.ensures.moved back.ensures
