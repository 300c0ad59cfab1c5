use Rattle.std.proofs.Common.{None, subst, arith}
use Rattle.bc_fetch.proofs.of_bc_deed.May.{did_nothing}
use Rattle.bc_fetch.proofs.of_bc_deed.Sequence.{done_one}
use Rattle.bc_fetch.specs.Fetch.{HasStoppedAt}
use Rattle.bc_fetch.specs.bc_hand.Seats.{world}
use Rattle.bc_fetch.specs.declared.error.LeafError.{LeafError}
use Rattle.bc_dirty.proofs.Walking.{clean_all, clean_missing, missing_read, some_told, under_way, walked_none, walked_on}
use Rattle.bc_dirty.proofs.walk.walk.Goals as goal

pub loop-first-init : goal.loop-first-init
loop-first-init g c = record {
  works = c.requires.works;
  all = c.requires.all;
  left = omega arith;
  walked = walked_none g.C.Disk.facts g.B.Disk.facts c.args.seat.now c.args.seat.now
      (done_one g.C.Disk.facts g.B.Disk.facts None c.args.seat.now c.args.seat.now
      (did_nothing g.C.Disk.facts g.B.Disk.facts c.args.seat.now c.requires.works.seat));
  clean = λ o is course s lt. absurd (omega (arith, lt));
  size_is = c.requires.size;
}

pub returns-then-leaf-clause-walked : goal.returns-then-leaf-clause-walked
returns-then-leaf-clause-walked g c = walked_on g.C.Disk.facts g.B.Disk.facts c.args.seat.now
    c.loop-first.seat c.see_leaf.new.seat c.loop-first.invariant.walked c.in-Ok.ensures.ok

pub returns-then-leaf-clause-told : goal.returns-then-leaf-clause-told
returns-then-leaf-clause-told g c = some_told c.loop-first.first c.in-Ok.leaf
    (world g.C.Disk.facts g.B.Disk.facts c.see_leaf.new.seat) c.if-leaf.true c.in-Ok.ensures.told

pub loop-first-preserved : goal.loop-first-preserved
loop-first-preserved g c = under_way g.C.Disk.facts g.B.Disk.facts c.args.parts.now
    c.args.seat.now c.loop-first.seat c.see_leaf.new.seat c.loop-first.first c.args.size
    c.in-Ok.leaf c.loop-first.invariant c.see_leaf.ensures.works c.see_leaf.ensures.left
    c.in-Ok.ensures.ok c.if-leaf.false c.in-Ok.ensures.told

pub returns-in-Err-Missing-clause-walked : goal.returns-in-Err-Missing-clause-walked
returns-in-Err-Missing-clause-walked g c = walked_on g.C.Disk.facts g.B.Disk.facts
    c.args.seat.now c.loop-first.seat c.see_leaf.new.seat c.loop-first.invariant.walked
    (missing_read g.C.Disk.facts g.B.Disk.facts c.loop-first.seat c.see_leaf.new.seat
    c.loop-first.first (subst (λ (e : LeafError). HasStoppedAt g.C.Disk.facts g.B.Disk.facts c.loop-first.first 1 e
    c.loop-first.seat c.see_leaf.new.seat) c.in-Err-Missing.field-0-is
    c.in-Err-Missing.ensures.stopped))

pub returns-in-Err-Missing-clause-told : goal.returns-in-Err-Missing-clause-told
returns-in-Err-Missing-clause-told g c = clean_missing g.C.Disk.facts g.B.Disk.facts
    c.loop-first.seat c.see_leaf.new.seat c.loop-first.first c.loop-first.invariant.all
    c.see_leaf.ensures.works.seat (subst (λ (e : LeafError). HasStoppedAt g.C.Disk.facts g.B.Disk.facts c.loop-first.first 1 e
    c.loop-first.seat c.see_leaf.new.seat) c.in-Err-Missing.field-0-is
    c.in-Err-Missing.ensures.stopped) c.loop-first.invariant.clean

pub returns-clause-told : goal.returns-clause-told
returns-clause-told g c = clean_all g.C.Disk.facts g.B.Disk.facts c.loop-first.seat
    c.loop-first.first c.args.size c.loop-first.invariant.size_is c.loop-first-test.false
    c.loop-first.invariant.clean
