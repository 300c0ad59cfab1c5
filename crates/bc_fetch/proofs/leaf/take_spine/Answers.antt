use Rattle.std.proofs.Common.{inl, inr, None, Some, Bool, ap, ◌∙◌, subst, arith}
use Rattle.std.specs.Prelude.{Contains, if◌then◌else◌}
use Rattle.bc_fetch.proofs.Ways.{waited_done}
use Rattle.bc_inner.specs.Inner.{Inner}
use Rattle.bc_sight.specs.bc_hand.Seats.{world}
use Rattle.bc_sight.specs.bc_machine.Standing.{has_spine}
use Rattle.bc_sight.specs.bc_machine.declared.part.SpinePart.{SpinePart}
use Rattle.bc_tree.specs.Spine.{IsSpine as IsTree}
use Rattle.std.proofs.lemmas.Bool.{le-ltb}
use Rattle.bc_sight.proofs.of_bc_hand.Between.{did_between}
use Rattle.bc_sight.proofs.of_bc_deed.May.{did_nothing}
use Rattle.bc_fetch.proofs.leaf.take_spine.Goals as goal

pub returns-then-end-first-clause-waited : goal.returns-then-end-first-clause-waited
returns-then-end-first-clause-waited g c = (did_between g.C.Disk.facts g.B.Disk.facts None
    c.args.seat.now c.borrow_spine-spine.new.seat c.borrow_spine-spine.new.seat
    c.return_spine.new.seat c.borrow_spine-spine.ensures.still c.borrow_spine-spine.ensures.waited
    (did_nothing g.C.Disk.facts g.B.Disk.facts c.borrow_spine-spine.new.seat
    c.borrow_spine-spine.ensures.lent.seat) c.return_spine.ensures.waited
    c.return_spine.ensures.seen c.return_spine.ensures.heard c.return_spine.ensures.works.seat).is

pub returns-then-missing-clause-waited : goal.returns-then-missing-clause-waited
returns-then-missing-clause-waited g c = (did_between g.C.Disk.facts g.B.Disk.facts None
    c.args.seat.now c.borrow_spine-spine.new.seat c.borrow_spine-spine.new.seat
    c.return_spine-2.new.seat c.borrow_spine-spine.ensures.still
    c.borrow_spine-spine.ensures.waited
    (did_nothing g.C.Disk.facts g.B.Disk.facts c.borrow_spine-spine.new.seat
    c.borrow_spine-spine.ensures.lent.seat) c.return_spine-2.ensures.waited
    c.return_spine-2.ensures.seen c.return_spine-2.ensures.heard
    c.return_spine-2.ensures.works.seat).is

pub returns-else-missing-clause-waited : goal.returns-else-missing-clause-waited
returns-else-missing-clause-waited g c = (did_between g.C.Disk.facts g.B.Disk.facts None
    c.args.seat.now c.borrow_spine-spine.new.seat c.borrow_spine-spine.new.seat
    c.return_spine-2.new.seat c.borrow_spine-spine.ensures.still
    c.borrow_spine-spine.ensures.waited
    (did_nothing g.C.Disk.facts g.B.Disk.facts c.borrow_spine-spine.new.seat
    c.borrow_spine-spine.ensures.lent.seat) c.return_spine-2.ensures.waited
    c.return_spine-2.ensures.seen c.return_spine-2.ensures.heard
    c.return_spine-2.ensures.works.seat).is

pub returns-else-missing-clause-some : goal.returns-else-missing-clause-some
returns-else-missing-clause-some g c = (
  record {
    part = c.borrow_spine-spine.result.0;
    is = ap (λ h. h.spine) c.return_spine-2.ensures.hand
        ∙ ap (λ (b : Bool). if b then None else Some c.borrow_spine-spine.result.0)
        (le-ltb _ _ c.if-missing.false);
    range_in = subst (λ (s : SpinePart). Contains s.spine.leaves c.find-range.result) c.get-2.ensures
        c.find-range.ensures.held;
  },
  c.find-range.ensures.spans.0,
  (let few = c.if-missing.false in let same = c.from.ensures in omega (arith, few, same)),
)

pub returns-then-end-first-clause-missing : goal.returns-then-end-first-clause-missing
returns-then-end-first-clause-missing g c = record {
  at = c.borrow_spine-spine.new.seat;
  way = waited_done g.C.Disk.facts g.B.Disk.facts c.args.seat.now c.borrow_spine-spine.new.seat
      c.borrow_spine-spine.ensures.lent.seat c.borrow_spine-spine.ensures.waited;
  spine = c.borrow_spine-spine.result.0.spine;
  tree = has_spine c.borrow_spine-spine.result.0
      (world g.C.Disk.facts g.B.Disk.facts c.borrow_spine-spine.new.seat)
      c.borrow_spine-spine.ensures.lent.stand.spine;
  shape = subst (λ (s : SpinePart).
      IsTree s.spine.geometry s.spine.root s.spine.below s.spine.leaves) c.get.ensures
      c.root.ensures.spine;
  ends = inl (omega (
    arith,
    c.if-end-first.true,
    c.end.ensures,
    ap (λ (n : Inner). n.end) c.root.ensures.root,
    ap (λ (s : SpinePart). s.spine.root.end) c.get.ensures,
  ));
  then = waited_done g.C.Disk.facts g.B.Disk.facts c.borrow_spine-spine.new.seat
      c.return_spine.new.seat c.return_spine.ensures.works.seat c.return_spine.ensures.waited;
}

pub returns-then-missing-clause-missing : goal.returns-then-missing-clause-missing
returns-then-missing-clause-missing g c = record {
  at = c.borrow_spine-spine.new.seat;
  way = waited_done g.C.Disk.facts g.B.Disk.facts c.args.seat.now c.borrow_spine-spine.new.seat
      c.borrow_spine-spine.ensures.lent.seat c.borrow_spine-spine.ensures.waited;
  spine = c.borrow_spine-spine.result.0.spine;
  tree = has_spine c.borrow_spine-spine.result.0
      (world g.C.Disk.facts g.B.Disk.facts c.borrow_spine-spine.new.seat)
      c.borrow_spine-spine.ensures.lent.stand.spine;
  shape = subst (λ (s : SpinePart).
      IsTree s.spine.geometry s.spine.root s.spine.below s.spine.leaves) c.get.ensures
      c.root.ensures.spine;
  ends = inr (
    c.find-range.result,
    subst (λ (s : SpinePart). Contains s.spine.leaves c.find-range.result) c.get-2.ensures
        c.find-range.ensures.held,
    c.find-range.ensures.spans,
    (let short = c.if-missing.true in let same = c.from.ensures in omega (arith, short, same)),
  );
  then = waited_done g.C.Disk.facts g.B.Disk.facts c.borrow_spine-spine.new.seat
      c.return_spine-2.new.seat c.return_spine-2.ensures.works.seat c.return_spine-2.ensures.waited;
}
