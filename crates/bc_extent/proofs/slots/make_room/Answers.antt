use Rattle.std.proofs.Common.{◌∙◌, ap, arith}
use Rattle.bc_extent.specs.Slot.{keys_in}
use Rattle.bc_extent.proofs.Kept.{one_more}
use Rattle.bc_extent.proofs.slots.make_room.Goals as goal

pub loop-tails-preserved : goal.loop-tails-preserved
loop-tails-preserved c =
    let keeps = c.loop-tails.invariant in
    record {
      same = λ fronts. ap (keys_in fronts) c.push_reserved.ensures.items ∙ one_more fronts c.loop-tails.tails.items ∙ keeps.same fronts;
      few = omega (arith, c.push_reserved.ensures.len, c.loop-tails-test.true, c.len.ensures, c.push_reserved.new.self.ok.0, c.loop-tails.tails.ok.0);
      room = omega (arith, c.push_reserved.ensures.capacity, keeps.room);
    }
