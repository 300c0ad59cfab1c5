use Rattle.std.proofs.Common.{◌≡◌, true, false, inl, inr, Some, length, sym, subst, ◌∙◌, arith}
use Rattle.std.specs.Prelude.{slice_get}
use Rattle.std.proofs.lemmas.Option.{slice_get_within}
use Rattle.bc_disk.specs.declared.geometry.Geometry.{Geometry}
use Rattle.bc_inner.specs.Inner.{Inner}
use Rattle.bc_tree.specs.Plan.{above_count}
use Rattle.bc_tree.specs.Split.{IsHalvesPlan, IsMadeSplit, IsSplitPlan}
use Rattle.bc_tree.specs.Spine.{IsProper, bottom}
use Rattle.bc_tree.specs.declared.plan.Plan.{Plan}
use Rattle.bc_tree.proofs.Halving.{fits_at, full_places, room_places, split_counted}
use Rattle.bc_tree.proofs.Moves.{if_ok, proper_at}
use Rattle.bc_tree.proofs.spine.Spine.split_here.Goals as goal

pub node-requires : goal.node-requires
node-requires c = let s = c.args.self.now in slice_get_within (bottom s.root s.below) c.args.place.now.node c.requires.stands.parent c.requires.stands.node

pub fits_node-requires-clause-proper : goal.fits_node-requires-clause-proper
fits_node-requires-clause-proper c =
    let s = c.args.self.now in
    subst (λ (g : Geometry). IsProper g c.node.result.now) (sym c.geometry.ensures) (proper_at s c.args.place.now.node c.node.result.now c.root.ensures.spine c.node.ensures)

pub split_to-requires-clause-fits : goal.split_to-requires-clause-fits
split_to-requires-clause-fits c node there =
    let s = c.args.self.now in
    fits_at s c.args.place.now.node c.geometry.result.now c.node.result.now node c.fits_node.result true c.node.ensures there c.geometry.ensures c.fits_node.ensures c.if-fits_node.true

pub split_to-requires-clause-places : goal.split_to-requires-clause-places
split_to-requires-clause-places c node there =
    let s = c.args.self.now in
    let fits = fits_at s c.args.place.now.node c.geometry.result.now c.node.result.now node c.fits_node.result true c.node.ensures there c.geometry.ensures c.fits_node.ensures c.if-fits_node.true in
    omega (arith, room_places s node (length c.args.to.now) fits (c.requires.places node there))

pub returns-then-fits_node-clause-plan : goal.returns-then-fits_node-clause-plan
returns-then-fits_node-clause-plan c =
    let s = c.args.self.now in
    let place = c.args.place.now in
    let low = c.args.two.low in
    let high = c.args.two.high in
    let node = c.node.result.now in
    let fits = fits_at s place.node c.geometry.result.now node node c.fits_node.result true c.node.ensures c.node.ensures c.geometry.ensures c.fits_node.ensures c.if-fits_node.true in
    if_ok c.split_to.result (IsSplitPlan s place low high c.args.to.now c.args.seq) (λ (plan : Plan). (n : Inner) × (slice_get (bottom s.root s.below) place.node ≡ Some n) × IsMadeSplit s place n low high c.args.to.now c.args.seq plan)
    (λ plan is. (node, c.node.ensures, inl (fits, is))) c.split_to.ensures.plan

pub returns-then-fits_node-clause-count : goal.returns-then-fits_node-clause-count
returns-then-fits_node-clause-count c =
    let s = c.args.self.now in
    let place = c.args.place.now in
    let low = c.args.two.low in
    let high = c.args.two.high in
    let node = c.node.result.now in
    let fits = fits_at s place.node c.geometry.result.now node node c.fits_node.result true c.node.ensures c.node.ensures c.geometry.ensures c.fits_node.ensures c.if-fits_node.true in
    let places = room_places s node (length c.args.to.now) fits (c.requires.places node c.node.ensures) in
    if_ok c.split_to.result (IsSplitPlan s place low high c.args.to.now c.args.seq) (λ (plan : Plan). above_count plan ≡ length c.args.to.now)
    (λ plan is. split_counted s place node low high c.args.to.now c.args.seq (length c.args.to.now) plan c.node.ensures places is) c.split_to.ensures.plan

pub halve_to-requires-clause-fits : goal.halve_to-requires-clause-fits
halve_to-requires-clause-fits c =
    let s = c.args.self.now in
    let node = c.node.result.now in
    let full = fits_at s c.args.place.now.node c.geometry.result.now node node c.fits_node.result false c.node.ensures c.node.ensures c.geometry.ensures c.fits_node.ensures c.if-fits_node.false in
    (full_places s node (length c.args.to.now) full (c.requires.places node c.node.ensures)).1

pub halve_to-requires-clause-places : goal.halve_to-requires-clause-places
halve_to-requires-clause-places c =
    let s = c.args.self.now in
    let node = c.node.result.now in
    let full = fits_at s c.args.place.now.node c.geometry.result.now node node c.fits_node.result false c.node.ensures c.node.ensures c.geometry.ensures c.fits_node.ensures c.if-fits_node.false in
    (full_places s node (length c.args.to.now) full (c.requires.places node c.node.ensures)).0

pub returns-clause-plan : goal.returns-clause-plan
returns-clause-plan c =
    let s = c.args.self.now in
    let place = c.args.place.now in
    let low = c.args.two.low in
    let high = c.args.two.high in
    let node = c.node.result.now in
    let full = fits_at s place.node c.geometry.result.now node node c.fits_node.result false c.node.ensures c.node.ensures c.geometry.ensures c.fits_node.ensures c.if-fits_node.false in
    if_ok c.halve_to.result (IsHalvesPlan s place low high c.args.to.now c.args.seq) (λ (plan : Plan). (n : Inner) × (slice_get (bottom s.root s.below) place.node ≡ Some n) × IsMadeSplit s place n low high c.args.to.now c.args.seq plan)
    (λ plan is. (node, c.node.ensures, inr (full, is))) c.halve_to.ensures.plan

pub returns-clause-count : goal.returns-clause-count
returns-clause-count c =
    let s = c.args.self.now in
    let place = c.args.place.now in
    let low = c.args.two.low in
    let high = c.args.two.high in
    let node = c.node.result.now in
    let full = fits_at s place.node c.geometry.result.now node node c.fits_node.result false c.node.ensures c.node.ensures c.geometry.ensures c.fits_node.ensures c.if-fits_node.false in
    let places = (full_places s node (length c.args.to.now) full (c.requires.places node c.node.ensures)).0 in
    if_ok c.halve_to.result (IsHalvesPlan s place low high c.args.to.now c.args.seq) (λ (plan : Plan). above_count plan ≡ length c.args.to.now)
    (λ plan is. is.above.count ∙ sym places) c.halve_to.ensures.plan
