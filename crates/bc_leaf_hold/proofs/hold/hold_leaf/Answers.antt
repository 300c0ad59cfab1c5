use Rattle.std.proofs.Common.{true, false, refl, sym, ◌∙◌}
use Rattle.bc_leaf_hold.proofs.Holding.{set_in, taken_by, works_held}
use Rattle.bc_leaf_hold.proofs.hold.hold_leaf.Goals as goal

pub hold-requires : goal.hold-requires
hold-requires g c = taken_by c.args.hand.now c.args.slot false c.requires c.in-Some.leaves
    (sym c.take.ensures.value ∙ c.in-Some.is)

pub returns-clause-held : goal.returns-clause-held
returns-clause-held g c = set_in c.args.hand.now c.args.slot true c.in-Some.leaves
    c.hold.new.self (sym c.take.ensures.value ∙ c.in-Some.is) c.hold.ensures

pub returns-clause-works : goal.returns-clause-works
returns-clause-works g c parts v works = works_held g.C.Disk.facts g.B.Disk.facts
    c.args.hand.now _ c.args.slot true
    (set_in c.args.hand.now c.args.slot true c.in-Some.leaves c.hold.new.self
    (sym c.take.ensures.value ∙ c.in-Some.is) c.hold.ensures) parts v works refl
