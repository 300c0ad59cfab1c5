use Rattle.std.proofs.Common.{◌≤◌, length, ap, sym, ◌∙◌, subst, arith}
use Rattle.std.specs.Prelude.{is_some}
use Rattle.bc_leaf_plan.proofs.Roomed.{kinds_roomed, works_roomed}
use Rattle.bc_leaf_plan.specs.declared.refused.Refused.TheVariants as no
use Rattle.bc_new_nodes.proofs.of_bc_place.Keeping.{keeps_both}
use Rattle.bc_new_nodes.specs.bc_hand.Seats.{HasNoneBehindLeaves, View, kinds}
use Rattle.bc_new_nodes.specs.bc_hand.declared.hand.Hand.{Hand}
use Rattle.bc_new_nodes.specs.bc_held_all.All.{AreHeld}
use Rattle.bc_new_nodes.specs.bc_machine.World.{cache_among}
use Rattle.bc_replaced.proofs.Asking.{divided_now, none_behind_now, points_now}
use Rattle.bc_replaced.proofs.Making.{may_make}
use Rattle.bc_replaced.proofs.Replacing.{for_has, given_up, no_plan_at, plan_at, replaced, roomed_at, stopped_in}
use Rattle.bc_replaced.specs.Made.{HasNotMade, KeepsEnough}
use Rattle.bc_replaced.specs.Replaced.{IsGivenUp}
use Rattle.bc_replaced.specs.declared.error.MakeError.{MakeError}
use Rattle.bc_replaced.proofs.replace.replace_in.Goals as goal

pub tree_in-requires : goal.tree_in-requires
tree_in-requires g c = (c.requires.leaf.leaf.spine, c.requires.leaf.leaf.is_spine)

pub plan_for-requires-clause-at : goal.plan_for-requires-clause-at
plan_for-requires-clause-at g c =
    let h = c.args.hand.now in
    let parts = length c.args.parts.now.run.start in
    let slot = c.args.slot in
    let way = c.args.way in
    let bs = c.args.buckets.now in
    let at = c.requires.leaf.leaf in
    let tree = c.tree_in.ensures at.spine at.is_spine in
    for_has h parts slot way bs c.requires.leaf tree

pub give_up-requires-clause-works : goal.give_up-requires-clause-works
give_up-requires-clause-works g c =
    let cf = g.C.Disk.facts in
    let bf = g.B.Disk.facts in
    let h = c.args.hand.now in
    let parts = length c.args.parts.now.run.start in
    let slot = c.args.slot in
    let way = c.args.way in
    let bs = c.args.buckets.now in
    let at = c.requires.leaf.leaf in
    let tree = c.tree_in.ensures at.spine at.is_spine in
    let mid = c.plan_for.new.hand in
    let not = no_plan_at h parts slot way at c.args.sectors c.part_count.result c.part_count.ensures
    bs mid c.in-Err.why (c.in-Err.ensures.err (for_has h parts slot way bs c.requires.leaf tree)) in
    works_roomed cf bf c.args.parts.now c.args.seat.now h c.requires.works at.spine at.is_spine
    not.roomed.spine not.roomed.tree mid not.roomed.hand

pub give_up-requires-clause-promise : goal.give_up-requires-clause-promise
give_up-requires-clause-promise g c =
    let had = c.requires.promise in omega (arith, had)

pub give_up-requires-clause-spine : goal.give_up-requires-clause-spine
give_up-requires-clause-spine g c =
    let cf = g.C.Disk.facts in
    let bf = g.B.Disk.facts in
    let h = c.args.hand.now in
    let parts = length c.args.parts.now.run.start in
    let slot = c.args.slot in
    let way = c.args.way in
    let bs = c.args.buckets.now in
    let at = c.requires.leaf.leaf in
    let tree = c.tree_in.ensures at.spine at.is_spine in
    let mid = c.plan_for.new.hand in
    let not = no_plan_at h parts slot way at c.args.sectors c.part_count.result c.part_count.ensures
    bs mid c.in-Err.why (c.in-Err.ensures.err (for_has h parts slot way bs c.requires.leaf tree)) in
    ap (λ (x : Hand _ _). is_some x.spine) not.roomed.hand

pub give_up-requires-clause-behind : goal.give_up-requires-clause-behind
give_up-requires-clause-behind g c =
    let cf = g.C.Disk.facts in
    let bf = g.B.Disk.facts in
    let h = c.args.hand.now in
    let parts = length c.args.parts.now.run.start in
    let slot = c.args.slot in
    let way = c.args.way in
    let bs = c.args.buckets.now in
    let at = c.requires.leaf.leaf in
    let tree = c.tree_in.ensures at.spine at.is_spine in
    let mid = c.plan_for.new.hand in
    let not = no_plan_at h parts slot way at c.args.sectors c.part_count.result c.part_count.ensures
    bs mid c.in-Err.why (c.in-Err.ensures.err (for_has h parts slot way bs c.requires.leaf tree)) in
    none_behind_now cf bf c.args.parts.now c.args.seat.now h c.requires.works parts slot way at mid
    not.roomed c.requires.behind

pub returns-in-Err-clause-kinds : goal.returns-in-Err-clause-kinds
returns-in-Err-clause-kinds g c =
    let cf = g.C.Disk.facts in
    let bf = g.B.Disk.facts in
    let h = c.args.hand.now in
    let parts = length c.args.parts.now.run.start in
    let slot = c.args.slot in
    let way = c.args.way in
    let bs = c.args.buckets.now in
    let at = c.requires.leaf.leaf in
    let tree = c.tree_in.ensures at.spine at.is_spine in
    let mid = c.plan_for.new.hand in
    let not = no_plan_at h parts slot way at c.args.sectors c.part_count.result c.part_count.ensures
    bs mid c.in-Err.why (c.in-Err.ensures.err (for_has h parts slot way bs c.requires.leaf tree)) in
    ap (λ (x : Hand _ _). kinds x) c.give_up.ensures.same
    ∙ kinds_roomed cf bf c.args.parts.now c.args.seat.now h c.requires.works at.spine at.is_spine
    not.roomed.spine not.roomed.tree mid not.roomed.hand

pub returns-in-Err-clause-err : goal.returns-in-Err-clause-err
returns-in-Err-clause-err g c has =
    let cf = g.C.Disk.facts in
    let bf = g.B.Disk.facts in
    let h = c.args.hand.now in
    let parts = length c.args.parts.now.run.start in
    let slot = c.args.slot in
    let way = c.args.way in
    let bs = c.args.buckets.now in
    let at = has.leaf in
    let tree = c.tree_in.ensures at.spine at.is_spine in
    let mid = c.plan_for.new.hand in
    let not = no_plan_at h parts slot way at c.args.sectors c.part_count.result c.part_count.ensures
    bs mid c.in-Err.why (c.in-Err.ensures.err (for_has h parts slot way bs has tree)) in
    given_up h parts slot way at cf bf (cache_among cf bf c.args.parts.now.run.start).sectors
    c.args.sectors c.args.before bs c.give_up.new.hand
    (roomed_at h parts slot way at mid c.give_up.new.hand c.give_up.ensures.same not.roomed)
    c.in-Err.why c.give_up.result c.args.seat.now c.give_up.new.seat not.why_not
    c.give_up.ensures.given_up

pub make-requires-clause-works : goal.make-requires-clause-works
make-requires-clause-works g c =
    let cf = g.C.Disk.facts in
    let bf = g.B.Disk.facts in
    let h = c.args.hand.now in
    let parts = length c.args.parts.now.run.start in
    let slot = c.args.slot in
    let way = c.args.way in
    let bs = c.args.buckets.now in
    let at = c.requires.leaf.leaf in
    let tree = c.tree_in.ensures at.spine at.is_spine in
    let mid = c.plan_for.new.hand in
    let p = c.in-Ok.plan in
    let plan = plan_at h parts slot way at c.args.sectors c.part_count.result c.part_count.ensures
    bs mid p (c.in-Ok.ensures.ok (for_has h parts slot way bs c.requires.leaf tree)) in
    works_roomed cf bf c.args.parts.now c.args.seat.now h c.requires.works at.spine at.is_spine
    plan.roomed.spine plan.roomed.tree mid plan.roomed.hand

pub make-requires-clause-behind : goal.make-requires-clause-behind
make-requires-clause-behind g c =
    let cf = g.C.Disk.facts in
    let bf = g.B.Disk.facts in
    let h = c.args.hand.now in
    let parts = length c.args.parts.now.run.start in
    let slot = c.args.slot in
    let way = c.args.way in
    let bs = c.args.buckets.now in
    let at = c.requires.leaf.leaf in
    let tree = c.tree_in.ensures at.spine at.is_spine in
    let mid = c.plan_for.new.hand in
    let p = c.in-Ok.plan in
    let plan = plan_at h parts slot way at c.args.sectors c.part_count.result c.part_count.ensures
    bs mid p (c.in-Ok.ensures.ok (for_has h parts slot way bs c.requires.leaf tree)) in
    none_behind_now cf bf c.args.parts.now c.args.seat.now h c.requires.works parts slot way at mid
    plan.roomed c.requires.behind

pub make-requires-clause-may : goal.make-requires-clause-may
make-requires-clause-may g c =
    let cf = g.C.Disk.facts in
    let bf = g.B.Disk.facts in
    let h = c.args.hand.now in
    let parts = length c.args.parts.now.run.start in
    let slot = c.args.slot in
    let way = c.args.way in
    let bs = c.args.buckets.now in
    let at = c.requires.leaf.leaf in
    let tree = c.tree_in.ensures at.spine at.is_spine in
    let mid = c.plan_for.new.hand in
    let p = c.in-Ok.plan in
    let plan = plan_at h parts slot way at c.args.sectors c.part_count.result c.part_count.ensures
    bs mid p (c.in-Ok.ensures.ok (for_has h parts slot way bs c.requires.leaf tree)) in
    may_make h parts slot way at tree c.args.sectors
    (cache_among cf bf c.args.parts.now.run.start).sectors c.requires.within bs
    c.requires.leaf.purposes c.requires.leaf.numbered mid p plan

pub make-requires-clause-divided : goal.make-requires-clause-divided
make-requires-clause-divided g c =
    let cf = g.C.Disk.facts in
    let bf = g.B.Disk.facts in
    let h = c.args.hand.now in
    let parts = length c.args.parts.now.run.start in
    let slot = c.args.slot in
    let way = c.args.way in
    let bs = c.args.buckets.now in
    let at = c.requires.leaf.leaf in
    let tree = c.tree_in.ensures at.spine at.is_spine in
    let mid = c.plan_for.new.hand in
    let p = c.in-Ok.plan in
    let plan = plan_at h parts slot way at c.args.sectors c.part_count.result c.part_count.ensures
    bs mid p (c.in-Ok.ensures.ok (for_has h parts slot way bs c.requires.leaf tree)) in
    divided_now cf bf c.args.parts.now c.args.seat.now h c.requires.works parts slot way at mid
    plan.roomed

pub make-requires-clause-points : goal.make-requires-clause-points
make-requires-clause-points g c =
    let cf = g.C.Disk.facts in
    let bf = g.B.Disk.facts in
    let h = c.args.hand.now in
    let parts = length c.args.parts.now.run.start in
    let slot = c.args.slot in
    let way = c.args.way in
    let bs = c.args.buckets.now in
    let at = c.requires.leaf.leaf in
    let tree = c.tree_in.ensures at.spine at.is_spine in
    let mid = c.plan_for.new.hand in
    let p = c.in-Ok.plan in
    let plan = plan_at h parts slot way at c.args.sectors c.part_count.result c.part_count.ensures
    bs mid p (c.in-Ok.ensures.ok (for_has h parts slot way bs c.requires.leaf tree)) in
    points_now cf bf c.args.parts.now c.args.seat.now h c.requires.works parts slot way at
    c.args.sectors bs mid p tree c.requires.are plan

pub returns-in-Ok-make-clause-kinds : goal.returns-in-Ok-make-clause-kinds
returns-in-Ok-make-clause-kinds g c =
    let cf = g.C.Disk.facts in
    let bf = g.B.Disk.facts in
    let h = c.args.hand.now in
    let parts = length c.args.parts.now.run.start in
    let slot = c.args.slot in
    let way = c.args.way in
    let bs = c.args.buckets.now in
    let at = c.requires.leaf.leaf in
    let tree = c.tree_in.ensures at.spine at.is_spine in
    let mid = c.plan_for.new.hand in
    let p = c.in-Ok.plan in
    let plan = plan_at h parts slot way at c.args.sectors c.part_count.result c.part_count.ensures
    bs mid p (c.in-Ok.ensures.ok (for_has h parts slot way bs c.requires.leaf tree)) in
    c.make.ensures.kinds
    ∙ kinds_roomed cf bf c.args.parts.now c.args.seat.now h c.requires.works at.spine at.is_spine
    plan.roomed.spine plan.roomed.tree mid plan.roomed.hand

pub returns-in-Err-make-clause-kinds : goal.returns-in-Err-make-clause-kinds
returns-in-Err-make-clause-kinds g c =
    let cf = g.C.Disk.facts in
    let bf = g.B.Disk.facts in
    let h = c.args.hand.now in
    let parts = length c.args.parts.now.run.start in
    let slot = c.args.slot in
    let way = c.args.way in
    let bs = c.args.buckets.now in
    let at = c.requires.leaf.leaf in
    let tree = c.tree_in.ensures at.spine at.is_spine in
    let mid = c.plan_for.new.hand in
    let p = c.in-Ok.plan in
    let plan = plan_at h parts slot way at c.args.sectors c.part_count.result c.part_count.ensures
    bs mid p (c.in-Ok.ensures.ok (for_has h parts slot way bs c.requires.leaf tree)) in
    c.make.ensures.kinds
    ∙ kinds_roomed cf bf c.args.parts.now c.args.seat.now h c.requires.works at.spine at.is_spine
    plan.roomed.spine plan.roomed.tree mid plan.roomed.hand

pub returns-in-Ok-make-clause-ok : goal.returns-in-Ok-make-clause-ok
returns-in-Ok-make-clause-ok g c has =
    let cf = g.C.Disk.facts in
    let bf = g.B.Disk.facts in
    let h = c.args.hand.now in
    let parts = length c.args.parts.now.run.start in
    let slot = c.args.slot in
    let way = c.args.way in
    let bs = c.args.buckets.now in
    let at = has.leaf in
    let tree = c.tree_in.ensures at.spine at.is_spine in
    let mid = c.plan_for.new.hand in
    let p = c.in-Ok.plan in
    let plan = plan_at h parts slot way at c.args.sectors c.part_count.result c.part_count.ensures
    bs mid p (c.in-Ok.ensures.ok (for_has h parts slot way bs has tree)) in
    let v = c.args.seat.now in
    let w = c.make.new.seat in
    let last = c.make.new.hand in
    replaced h parts slot way at cf bf c.args.before c.args.sectors mid last bs p v w plan
    c.in-Ok-make.ensures.ok

pub returns-in-Err-make-clause-err : goal.returns-in-Err-make-clause-err
returns-in-Err-make-clause-err g c has =
    let cf = g.C.Disk.facts in
    let bf = g.B.Disk.facts in
    let h = c.args.hand.now in
    let parts = length c.args.parts.now.run.start in
    let slot = c.args.slot in
    let way = c.args.way in
    let bs = c.args.buckets.now in
    let at = has.leaf in
    let tree = c.tree_in.ensures at.spine at.is_spine in
    let mid = c.plan_for.new.hand in
    let p = c.in-Ok.plan in
    let plan = plan_at h parts slot way at c.args.sectors c.part_count.result c.part_count.ensures
    bs mid p (c.in-Ok.ensures.ok (for_has h parts slot way bs has tree)) in
    let v = c.args.seat.now in
    let w = c.make.new.seat in
    let last = c.make.new.hand in
    stopped_in h parts slot way at cf bf c.args.before c.args.sectors mid last bs p v w plan
    (cache_among cf bf c.args.parts.now.run.start).sectors c.in-Err-make.error
    c.in-Err-make.ensures.err

pub give_up-requires-in-Err-Memory-clause-promise
    : goal.give_up-requires-in-Err-Memory-clause-promise
give_up-requires-in-Err-Memory-clause-promise g c =
    let kept : c.args.seat.now.promises ≤ c.make.new.seat.promises = subst (λ (e : MakeError).
    KeepsEnough e c.args.seat.now.promises c.make.new.seat.promises) c.in-Err-Memory.field-0-is
    c.in-Err-Memory.ensures.kept in
    let had = c.requires.promise in
    omega (arith, had, kept)

pub give_up-requires-in-Err-Memory-clause-spine : goal.give_up-requires-in-Err-Memory-clause-spine
give_up-requires-in-Err-Memory-clause-spine g c =
    let cf = g.C.Disk.facts in
    let bf = g.B.Disk.facts in
    let h = c.args.hand.now in
    let parts = length c.args.parts.now.run.start in
    let slot = c.args.slot in
    let way = c.args.way in
    let bs = c.args.buckets.now in
    let at = c.requires.leaf.leaf in
    let tree = c.tree_in.ensures at.spine at.is_spine in
    let mid = c.plan_for.new.hand in
    let p = c.in-Ok.plan in
    let plan = plan_at h parts slot way at c.args.sectors c.part_count.result c.part_count.ensures
    bs mid p (c.in-Ok.ensures.ok (for_has h parts slot way bs c.requires.leaf tree)) in
    let v = c.args.seat.now in
    let w = c.make.new.seat in
    let last = c.make.new.hand in
    let sectors = (cache_among cf bf c.args.parts.now.run.start).sectors in
    let stays = subst (λ (e : MakeError).
    HasNotMade cf bf sectors parts c.args.before e mid last bs p v w) c.in-Err-Memory.field-0-is
    c.in-Err-Memory.ensures.err in
    ap (λ (y : Hand _ _). is_some y.spine) (stays.1 ∙ plan.roomed.hand)

pub give_up-requires-in-Err-Memory-clause-behind : goal.give_up-requires-in-Err-Memory-clause-behind
give_up-requires-in-Err-Memory-clause-behind g c =
    let cf = g.C.Disk.facts in
    let bf = g.B.Disk.facts in
    let h = c.args.hand.now in
    let parts = length c.args.parts.now.run.start in
    let slot = c.args.slot in
    let way = c.args.way in
    let bs = c.args.buckets.now in
    let at = c.requires.leaf.leaf in
    let tree = c.tree_in.ensures at.spine at.is_spine in
    let mid = c.plan_for.new.hand in
    let p = c.in-Ok.plan in
    let plan = plan_at h parts slot way at c.args.sectors c.part_count.result c.part_count.ensures
    bs mid p (c.in-Ok.ensures.ok (for_has h parts slot way bs c.requires.leaf tree)) in
    let v = c.args.seat.now in
    let w = c.make.new.seat in
    let last = c.make.new.hand in
    let sectors = (cache_among cf bf c.args.parts.now.run.start).sectors in
    let stays = subst (λ (e : MakeError).
    HasNotMade cf bf sectors parts c.args.before e mid last bs p v w) c.in-Err-Memory.field-0-is
    c.in-Err-Memory.ensures.err in
    subst (λ (y : Hand _ _). HasNoneBehindLeaves y) (sym stays.1)
    (none_behind_now cf bf c.args.parts.now v h c.requires.works parts slot way at mid plan.roomed
    c.requires.behind)

pub give_up-requires-in-Err-Memory-clause-before : goal.give_up-requires-in-Err-Memory-clause-before
give_up-requires-in-Err-Memory-clause-before g c =
    c.make.ensures.places.opening.before c.args.before c.requires.before

pub give_up-requires-in-Err-Memory-clause-are : goal.give_up-requires-in-Err-Memory-clause-are
give_up-requires-in-Err-Memory-clause-are g c =
    let cf = g.C.Disk.facts in
    let bf = g.B.Disk.facts in
    let h = c.args.hand.now in
    let parts = length c.args.parts.now.run.start in
    let slot = c.args.slot in
    let way = c.args.way in
    let bs = c.args.buckets.now in
    let at = c.requires.leaf.leaf in
    let tree = c.tree_in.ensures at.spine at.is_spine in
    let mid = c.plan_for.new.hand in
    let p = c.in-Ok.plan in
    let plan = plan_at h parts slot way at c.args.sectors c.part_count.result c.part_count.ensures
    bs mid p (c.in-Ok.ensures.ok (for_has h parts slot way bs c.requires.leaf tree)) in
    let v = c.args.seat.now in
    let w = c.make.new.seat in
    let last = c.make.new.hand in
    let sectors = (cache_among cf bf c.args.parts.now.run.start).sectors in
    let stays = subst (λ (e : MakeError).
    HasNotMade cf bf sectors parts c.args.before e mid last bs p v w) c.in-Err-Memory.field-0-is
    c.in-Err-Memory.ensures.err in
    subst (λ (y : View cf bf). AreHeld cf bf bs y) (sym stays.0) c.requires.are

pub returns-in-Err-Memory-clause-kinds : goal.returns-in-Err-Memory-clause-kinds
returns-in-Err-Memory-clause-kinds g c =
    let cf = g.C.Disk.facts in
    let bf = g.B.Disk.facts in
    let h = c.args.hand.now in
    let parts = length c.args.parts.now.run.start in
    let slot = c.args.slot in
    let way = c.args.way in
    let bs = c.args.buckets.now in
    let at = c.requires.leaf.leaf in
    let tree = c.tree_in.ensures at.spine at.is_spine in
    let mid = c.plan_for.new.hand in
    let p = c.in-Ok.plan in
    let plan = plan_at h parts slot way at c.args.sectors c.part_count.result c.part_count.ensures
    bs mid p (c.in-Ok.ensures.ok (for_has h parts slot way bs c.requires.leaf tree)) in
    ap (λ (y : Hand _ _). kinds y) c.give_up-in-Err-Memory.ensures.same ∙ c.make.ensures.kinds
    ∙ kinds_roomed cf bf c.args.parts.now c.args.seat.now h c.requires.works at.spine at.is_spine
    plan.roomed.spine plan.roomed.tree mid plan.roomed.hand

pub returns-in-Err-Memory-clause-err : goal.returns-in-Err-Memory-clause-err
returns-in-Err-Memory-clause-err g c has =
    let cf = g.C.Disk.facts in
    let bf = g.B.Disk.facts in
    let h = c.args.hand.now in
    let parts = length c.args.parts.now.run.start in
    let slot = c.args.slot in
    let way = c.args.way in
    let bs = c.args.buckets.now in
    let at = has.leaf in
    let tree = c.tree_in.ensures at.spine at.is_spine in
    let mid = c.plan_for.new.hand in
    let p = c.in-Ok.plan in
    let plan = plan_at h parts slot way at c.args.sectors c.part_count.result c.part_count.ensures
    bs mid p (c.in-Ok.ensures.ok (for_has h parts slot way bs has tree)) in
    let v = c.args.seat.now in
    let w = c.make.new.seat in
    let last = c.make.new.hand in
    let sectors = (cache_among cf bf c.args.parts.now.run.start).sectors in
    let stays = subst (λ (e : MakeError).
    HasNotMade cf bf sectors parts c.args.before e mid last bs p v w) c.in-Err-Memory.field-0-is
    c.in-Err-Memory.ensures.err in
    let gave = c.give_up-in-Err-Memory.new.hand in
    given_up h parts slot way at cf bf sectors c.args.sectors c.args.before bs gave
    (roomed_at h parts slot way at mid gave (c.give_up-in-Err-Memory.ensures.same ∙ stays.1)
    plan.roomed) no.Memory c.give_up-in-Err-Memory.result v c.give_up-in-Err-Memory.new.seat tt
    (subst (λ (y : View cf bf). IsGivenUp cf bf c.args.before no.Memory bs
    c.give_up-in-Err-Memory.result y c.give_up-in-Err-Memory.new.seat) stays.0
    c.give_up-in-Err-Memory.ensures.given_up)

pub returns-in-Err-Memory-clause-left : goal.returns-in-Err-Memory-clause-left
returns-in-Err-Memory-clause-left g c =
    let kept : c.args.seat.now.promises ≤ c.make.new.seat.promises = subst (λ (e : MakeError).
    KeepsEnough e c.args.seat.now.promises c.make.new.seat.promises) c.in-Err-Memory.field-0-is
    c.in-Err-Memory.ensures.kept in
    let giving = c.give_up-in-Err-Memory.ensures.left in
    omega (arith, kept, giving)

pub returns-in-Err-Memory-clause-places : goal.returns-in-Err-Memory-clause-places
returns-in-Err-Memory-clause-places g c =
    keeps_both g.C.Disk.facts g.B.Disk.facts c.args.seat.now c.make.new.seat
    c.give_up-in-Err-Memory.new.seat c.make.ensures.places c.give_up-in-Err-Memory.ensures.places
