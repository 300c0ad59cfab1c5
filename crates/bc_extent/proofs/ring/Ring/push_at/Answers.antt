use Rattle.std.proofs.Common.{sym, ◌∙◌, arith}
use Rattle.bc_extent.proofs.Turns.{insert_last, moved_front}
use Rattle.bc_extent.proofs.ring.Ring.push_at.Goals as goal

pub returns-then-place : goal.returns-then-place
returns-then-place c =
    let moved = c.move_up in
    sym (insert_last moved.new.self 512 moved.result moved.ensures.length.1) ∙ moved.ensures.moved

pub returns : goal.returns
returns c =
    let moved = c.move_down in
    let last = c.push_front-last in
    moved_front c.args.self.now last.new.self moved.new.self c.args.place c.args.slot c.empty.result last.result moved.result (omega (arith, moved.ensures.length.0, c.requires)) last.ensures moved.ensures.moved
