use Rattle.std.proofs.Common.{true, false, sym, ◌∙◌}
use Rattle.bc_leaf_hold.proofs.Holding.{set_in, taken_by, works_free}
use Rattle.bc_leaf_hold.proofs.hold.let_go_leaf.Goals as goal

pub let_go-requires : goal.let_go-requires
let_go-requires g c = taken_by c.args.hand.now c.args.slot true c.requires.leaf c.in-Some.leaves
    (sym c.take.ensures.value ∙ c.in-Some.is)

pub returns-clause-held : goal.returns-clause-held
returns-clause-held g c = set_in c.args.hand.now c.args.slot false c.in-Some.leaves
    c.let_go.new.self (sym c.take.ensures.value ∙ c.in-Some.is) c.let_go.ensures

pub returns-clause-works : goal.returns-clause-works
returns-clause-works g c parts v works = works_free g.C.Disk.facts g.B.Disk.facts
    c.args.hand.now _ c.args.slot false
    (set_in c.args.hand.now c.args.slot false c.in-Some.leaves c.let_go.new.self
    (sym c.take.ensures.value ∙ c.in-Some.is) c.let_go.ensures) parts v works c.requires.rest
