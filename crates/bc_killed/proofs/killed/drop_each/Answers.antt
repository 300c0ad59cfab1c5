use Rattle.std.proofs.Common.{◌++◌, ◌∷◌, [], None, refl, ap, ◌∙◌, arith, not}
use Rattle.bc_candidate.proofs.Between.{all_both}
use Rattle.bc_candidate.proofs.Seeing.{all_waited}
use Rattle.bc_candidate.proofs.of_bc_deed.May.{did_nothing}
use Rattle.bc_candidate.proofs.of_bc_deed.Sequence.{done_first}
use Rattle.bc_candidate.specs.bc_hand.Seats.{world}
use Rattle.bc_killed.proofs.Clearing.{cleared_then, dropped_more, flight_stands, none_dropped, none_stands, same_rest, some_dropped}
use Rattle.bc_killed.proofs.killed.drop_each.Goals as goal

pub loop-init : goal.loop-init
loop-init g c =
    let cf = g.C.Disk.facts in
    let bf = g.B.Disk.facts in
    let v = c.args.seat.now in
    let nothing = did_nothing cf bf v c.requires.works.seat in
    let few = c.requires.flight.2 in (
      c.requires.works,
      (c.requires.flight.0, c.requires.flight.1, omega (arith, few)),
      c.requires.buckets,
      refl,
      omega arith,
      ([], done_first cf bf None v v nothing),
      all_waited cf bf v v c.requires.works.seat nothing.is,
    )

pub returns-then-is_none-clause-cleared : goal.returns-then-is_none-clause-cleared
returns-then-is_none-clause-cleared g c = cleared_then g.C.Disk.facts g.B.Disk.facts
    c.loop.invariant.5.0 c.args.seat.now c.loop.seat c.drop_dead.new.seat c.loop.invariant.5.1
    c.loop.invariant.6
    (none_dropped g.C.Disk.facts g.B.Disk.facts c.drop_dead.result c.loop.seat c.drop_dead.new.seat
    (c.is_none.ensures ∙ ap not c.if-is_none.true) c.drop_dead.ensures.done)

pub returns-then-is_none-clause-buckets : goal.returns-then-is_none-clause-buckets
returns-then-is_none-clause-buckets g c =
    let l = c.loop in
    let part = c.drop_dead.ensures.buckets l.invariant.1.0 l.invariant.1.1 l.invariant.2.0
    l.invariant.2.1 in (part.0, part.1)

pub loop-preserved : goal.loop-preserved
loop-preserved g c =
    let cf = g.C.Disk.facts in
    let bf = g.B.Disk.facts in
    let l = c.loop in
    let w = c.drop_dead.new.seat in
    let f = l.invariant.1.0 in
    let left = c.drop_dead.ensures.flight f l.invariant.1.1 in
    let one = some_dropped cf bf c.drop_dead.result f left.0 l.seat w
    (c.is_none.ensures ∙ ap not c.if-is_none.false) c.drop_dead.ensures.done left.2 in
    let part = c.drop_dead.ensures.buckets f l.invariant.1.1 l.invariant.2.0 l.invariant.2.1 in
    let few = l.invariant.1.2 in
    let less = one.3 in
    let spent = one.1.is.promises in
    let had = l.invariant.4 in (
      c.drop_dead.ensures.works,
      (left.0, left.1, omega (arith, few, less)),
      (part.0, part.1),
      same_rest c.args.hand.now l.hand c.drop_dead.new.hand l.invariant.3 c.drop_dead.ensures.rest,
      omega (arith, spent, had),
      (
        l.invariant.5.0 ++ one.0 ∷ [],
        dropped_more cf bf l.invariant.5.0 one.0 c.args.seat.now l.seat w l.invariant.5.1 one.1,
      ),
      all_both cf bf c.args.seat.now l.seat w l.invariant.6 one.2,
    )

pub returns-clause-cleared : goal.returns-clause-cleared
returns-clause-cleared g c =
    let few = c.loop.invariant.1.2 in
    let end = c.loop-test.false in record {
      numbers = c.loop.invariant.5.0;
      done = c.loop.invariant.5.1;
      none = none_stands c.loop.invariant.1.0 (world g.C.Disk.facts g.B.Disk.facts c.loop.seat)
          (flight_stands g.C.Disk.facts g.B.Disk.facts c.loop.hand
          (world g.C.Disk.facts g.B.Disk.facts c.loop.seat) c.loop.invariant.1.0
          c.loop.invariant.1.1
          c.loop.invariant.0.stand) (omega (arith, few, end));
      keeps = c.loop.invariant.6;
    }
