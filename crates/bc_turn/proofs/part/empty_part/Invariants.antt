use Rattle.bc_turn.proofs.Emptying.{IsEmptiedTo}
use Rattle.bc_turn.proofs.part.empty_part.Given as goal

abbrev pub invariant-loop-slot : goal.invariant-loop-slot
invariant-loop-slot g l = IsEmptiedTo g.C.Disk.facts g.B.Disk.facts l.parts l.part l.count l.low
    l.slot-end l.slot l.initial.seat l.initial.hand l.seat l.hand
