use Rattle.std.proofs.Common.{refl, ap}
use Rattle.bc_append.proofs.of_bc_hand.Knowing.{m}
use Rattle.bc_append.specs.bc_hand.declared.hand.Hand.{Hand}
use Rattle.bc_seats.proofs.Between.{waited_both}
use Rattle.bc_turn.proofs.parts.take_part.Goals as goal

pub returns-clause-waited : goal.returns-clause-waited
returns-clause-waited g c = waited_both (m g.C.Disk.facts g.B.Disk.facts) c.args.seat.now
    c.borrow_leaves-leaves.new.seat c.return_leaves.new.seat
    c.borrow_leaves-leaves.ensures.still c.borrow_leaves-leaves.ensures.waited
    c.return_leaves.ensures.waited

pub returns-clause-has : goal.returns-clause-has
returns-clause-has g c = record {
  hand = record { part = c.args.part; cache = c.borrow_leaves-leaves.result.0 };
  is = ap (λ (h : Hand _ _). h.leaves) c.return_leaves.ensures.hand;
  part_is = refl;
}
