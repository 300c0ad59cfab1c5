use Rattle.std.proofs.Common.{◌≡◌, ◌≤◌, inl, inr, Some, length, ap, arith}
use Rattle.std.specs.Prelude.{slice_get}
use Rattle.std.proofs.lemmas.Option.{slice_get_within}
use Rattle.bc_inner.specs.Inner.{Inner}
use Rattle.bc_tree.specs.Across.{IsAcrossPlan}
use Rattle.bc_tree.specs.Merge.{IsMadeJoin, IsMergePlan}
use Rattle.bc_tree.specs.Plan.{above_count, moves}
use Rattle.bc_tree.specs.Spine.{bottom}
use Rattle.bc_tree.specs.declared.plan.Plan.{Plan}
use Rattle.bc_tree.proofs.Coming.{same_there}
use Rattle.bc_tree.proofs.Crossings.{inside_counted, inside_here, over_counted, over_here}
use Rattle.bc_tree.proofs.Moves.{if_ok}
use Rattle.bc_tree.proofs.spine.Spine.join_here.Goals as goal

pub node-requires : goal.node-requires
node-requires c = let s = c.args.self.now in slice_get_within (bottom s.root s.below) c.args.place.now.node c.requires.stands.parent c.requires.stands.node

pub join_to-requires-clause-next : goal.join_to-requires-clause-next
join_to-requires-clause-next c =
    (inside_here c.args.self.now c.args.place.now c.requires.can.0 c.node.result.now c.args.next c.args.first.end (length c.args.to.now) c.end.result c.requires.can.1 c.node.ensures c.end.ensures c.if-next-end.true c.requires.can.2).1

pub join_to-requires-clause-places : goal.join_to-requires-clause-places
join_to-requires-clause-places c node there =
    let s = c.args.self.now in
    let here = inside_here s c.args.place.now c.requires.can.0 c.node.result.now c.args.next c.args.first.end (length c.args.to.now) c.end.result c.requires.can.1 c.node.ensures c.end.ensures c.if-next-end.true c.requires.can.2 in
    let same = same_there s c.args.place.now.node node c.node.result.now there c.node.ensures in
    omega (arith, here.2, ap (λ (n : Inner). moves s n 5) same)

pub returns-then-next-end-clause-plan : goal.returns-then-next-end-clause-plan
returns-then-next-end-clause-plan c =
    let s = c.args.self.now in
    let place = c.args.place.now in
    let first = c.args.first in
    let node = c.node.result.now in
    let here = inside_here s place c.requires.can.0 node c.args.next first.end (length c.args.to.now) c.end.result c.requires.can.1 c.node.ensures c.end.ensures c.if-next-end.true c.requires.can.2 in
    if_ok c.join_to.result (IsMergePlan s place first c.args.to.now c.args.seq) (λ (plan : Plan). (n : Inner) × (slice_get (bottom s.root s.below) place.node ≡ Some n) × IsMadeJoin s place n c.args.next first c.args.to.now c.args.seq plan)
    (λ plan is. (node, c.node.ensures, inl (here.0, is))) c.join_to.ensures.plan

pub returns-then-next-end-clause-count : goal.returns-then-next-end-clause-count
returns-then-next-end-clause-count c =
    let s = c.args.self.now in
    let place = c.args.place.now in
    let first = c.args.first in
    let node = c.node.result.now in
    let here = inside_here s place c.requires.can.0 node c.args.next first.end (length c.args.to.now) c.end.result c.requires.can.1 c.node.ensures c.end.ensures c.if-next-end.true c.requires.can.2 in
    if_ok c.join_to.result (IsMergePlan s place first c.args.to.now c.args.seq) (λ (plan : Plan). above_count plan ≡ length c.args.to.now)
    (λ plan is. inside_counted s place node first c.args.to.now c.args.seq (length c.args.to.now) plan c.node.ensures here.2 is) c.join_to.ensures.plan

pub across_to-requires : goal.across_to-requires
across_to-requires c =
    let here = over_here c.args.self.now c.args.place.now c.requires.can.0 c.node.result.now c.args.next c.args.first.end (length c.args.to.now) c.end.result c.requires.can.1 c.node.ensures c.end.ensures c.if-next-end.false c.requires.can.2 in
    record { next = (c.node.result.now, here.1.0, here.1.1, here.1.2) }

pub returns-clause-plan : goal.returns-clause-plan
returns-clause-plan c =
    let s = c.args.self.now in
    let place = c.args.place.now in
    let first = c.args.first in
    let node = c.node.result.now in
    let here = over_here s place c.requires.can.0 node c.args.next first.end (length c.args.to.now) c.end.result c.requires.can.1 c.node.ensures c.end.ensures c.if-next-end.false c.requires.can.2 in
    if_ok c.across_to.result (IsAcrossPlan s place first c.args.to.now c.args.seq) (λ (plan : Plan). (n : Inner) × (slice_get (bottom s.root s.below) place.node ≡ Some n) × IsMadeJoin s place n c.args.next first c.args.to.now c.args.seq plan)
    (λ plan is. (node, c.node.ensures, inr (here.0, is))) c.across_to.ensures.plan

pub returns-clause-count : goal.returns-clause-count
returns-clause-count c =
    let s = c.args.self.now in
    let place = c.args.place.now in
    let first = c.args.first in
    let node = c.node.result.now in
    let here = over_here s place c.requires.can.0 node c.args.next first.end (length c.args.to.now) c.end.result c.requires.can.1 c.node.ensures c.end.ensures c.if-next-end.false c.requires.can.2 in
    if_ok c.across_to.result (IsAcrossPlan s place first c.args.to.now c.args.seq) (λ (plan : Plan). above_count plan ≡ length c.args.to.now)
    (λ plan is. over_counted s place node here.1.0 first c.args.to.now c.args.seq (length c.args.to.now) plan here.1.1.there here.1.1.behind here.1.2 is) c.across_to.ensures.plan
