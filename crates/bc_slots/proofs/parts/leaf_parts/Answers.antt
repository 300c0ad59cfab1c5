use Rattle.std.proofs.Common.{ℕ, List, sym, subst, arith}
use Rattle.bc_slots.specs.Filling.{AreCounts}
use Rattle.bc_slots.proofs.Made.{prepared, room_for_four}
use Rattle.bc_slots.proofs.parts.leaf_parts.Goals as goal

pub empty_parts-requires : goal.empty_parts-requires
empty_parts-requires g c =
    let are = subst (λ (xs : List ℕ). AreCounts c.args.pending.now c.args.count xs) (sym c.deref.ensures.value) c.in_ok-counts.ensures in
    let each = c.requires.keys.each in
    room_for_four c.args.pending.now c.args.count c.deref.result.now are (omega (arith, each, c.if-leaves.false))

pub fill-requires-clause-prepared : goal.fill-requires-clause-prepared
fill-requires-clause-prepared g c =
    let are = subst (λ (xs : List ℕ). AreCounts c.args.pending.now c.args.count xs) (sym c.deref.ensures.value) c.in_ok-counts.ensures in
    prepared c.args.g.now c.args.pending.now c.args.count c.deref.result.now c.in_ok-parts.parts.items are c.in_ok-parts.ensures
