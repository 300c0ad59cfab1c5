use Rattle.std.proofs.Common.{◌≡◌, true, sym, ap, ◌∙◌, subst}
use Rattle.std.specs.Prelude.{is_some, length}
use Rattle.bc_new_node.proofs.of_bc_held.Doing.{holds_spine, map_on_ok}
use Rattle.bc_new_node.proofs.of_bc_place.Keeping.{keeps_both as places_both}
use Rattle.bc_new_node.specs.bc_hand.declared.hand.Hand.{Hand}
use Rattle.bc_new_node.specs.bc_hand.Seats.{world}
use Rattle.bc_new_node.specs.bc_machine.World.{FromEach, cache_among}
use Rattle.bc_new_node.specs.bc_machine.declared.part.SpinePart.{SpinePart}
use Rattle.bc_new_nodes.proofs.Ended.{hand_behind, keeps_barrier, map_if_err, stopped_before, stopped_behind, wrote_all}
use Rattle.bc_new_nodes.proofs.Settled.{both_behind, had_before, ready_behind, stays_asked}
use Rattle.bc_new_nodes.proofs.Starts.{can_each}
use Rattle.bc_new_nodes.proofs.Stopped.{same_part}
use Rattle.bc_new_nodes.specs.Course.{AreThere, HasOnly}
use Rattle.bc_planned.specs.Nodes.{nodes_of}
use Rattle.bc_new_nodes.specs.Wrote.{HaveNotWritten, HaveWrittenAll, changed}
use Rattle.bc_tree.specs.Plan.{Fits}
use Rattle.bc_new_nodes.proofs.all.write_new_nodes.Goals as goal

pub write_each-requires-clause-can : goal.write_each-requires-clause-can
write_each-requires-clause-can g c = can_each g.C.Disk.facts g.B.Disk.facts c.args.parts.now
    c.args.seat.now c.args.hand.now c.note_change.new.hand c.requires.works
    (cache_among g.C.Disk.facts g.B.Disk.facts c.args.parts.now.run.start).sectors c.args.before
    c.args.plan.now c.args.buckets.now c.requires.may c.requires.divided c.requires.points c.requires.before
    c.requires.are c.in-Some-rooms_for.rooms.items c.in-Some-rooms_for.ensures.many
    c.in-Some-rooms_for.ensures.are c.note_change.ensures _ (c.deref.ensures.value ∙ c.in-Some.ensures)

pub returns-in-Err-clause-err : goal.returns-in-Err-clause-err
returns-in-Err-clause-err g c =
    let cf = g.C.Disk.facts in
    let bf = g.B.Disk.facts in
    let h = c.args.hand.now in
    let k = c.note_change.new.hand in
    let mid = c.write_each.new.hand in
    let u = c.args.seat.now in
    let v = c.write_each.new.seat in
    let bs = c.args.buckets.now in
    let p = c.args.plan.now in
    let q = c.write_each.new.plan in
    let sp = c.requires.may.spine in
    let note = c.note_change.ensures sp c.requires.may.in_hand in
    let has = ap (λ (x : Hand _ _). x.spine) note in
    let are = c.deref.ensures.value ∙ c.in-Some.ensures in
    let at : SpinePart = record sp { changing = true } in
    λ spine is. subst (λ (s : SpinePart). HaveNotWritten cf bf c.in-Err.error c.args.before bs p q s h
    mid u v) (same_part h.spine sp spine c.requires.may.in_hand is)
    (stopped_before cf bf c.args.before _ bs p q sp h k mid u are note c.in-Err.error v
    (c.in-Err.ensures.err at has))

pub returns-clause-ok : goal.returns-clause-ok
returns-clause-ok g c =
    let cf = g.C.Disk.facts in
    let bf = g.B.Disk.facts in
    let h = c.args.hand.now in
    let k = c.note_change.new.hand in
    let mid = c.write_each.new.hand in
    let u = c.args.seat.now in
    let v = c.write_each.new.seat in
    let bs = c.args.buckets.now in
    let p = c.args.plan.now in
    let q = c.write_each.new.plan in
    let sp = c.requires.may.spine in
    let note = c.note_change.ensures sp c.requires.may.in_hand in
    let has = ap (λ (x : Hand _ _). x.spine) note in
    let are = c.deref.ensures.value ∙ c.in-Some.ensures in
    let at : SpinePart = record sp { changing = true } in
    let d = c.in_default-write_each.ensures.ok at has in
    let new = c.cache_barrier.new.hand in
    let w = c.cache_barrier.new.seat in
    let rest = c.cache_barrier.ensures.rest in
    map_on_ok c.cache_barrier.result (λ did spine is.
    subst (λ (s : SpinePart). HaveWrittenAll cf bf c.args.before s.spine.geometry bs p q u w)
    (same_part h.spine sp spine c.requires.may.in_hand is) (record {
      between = v;
      wrote = wrote_all cf bf c.args.before _ bs p q sp h k new u are note mid v w d.wrote d.hand rest;
      settled = did;
    })) c.cache_barrier.ensures.ok

pub returns-clause-hand : goal.returns-clause-hand
returns-clause-hand g c =
    let cf = g.C.Disk.facts in
    let bf = g.B.Disk.facts in
    let h = c.args.hand.now in
    let k = c.note_change.new.hand in
    let mid = c.write_each.new.hand in
    let u = c.args.seat.now in
    let v = c.write_each.new.seat in
    let bs = c.args.buckets.now in
    let p = c.args.plan.now in
    let q = c.write_each.new.plan in
    let sp = c.requires.may.spine in
    let note = c.note_change.ensures sp c.requires.may.in_hand in
    let has = ap (λ (x : Hand _ _). x.spine) note in
    let are = c.deref.ensures.value ∙ c.in-Some.ensures in
    let at : SpinePart = record sp { changing = true } in
    let d = c.in_default-write_each.ensures.ok at has in
    let new = c.cache_barrier.new.hand in
    let w = c.cache_barrier.new.seat in
    let rest = c.cache_barrier.ensures.rest in
    map_on_ok c.cache_barrier.result (λ did spine is.
    subst (λ (s : SpinePart). new ≡ changed h s (length bs) new.cache)
    (same_part h.spine sp spine c.requires.may.in_hand is)
    (hand_behind cf bf c.args.before _ bs p q sp h k new u are note mid v w d.wrote d.hand rest))
    c.cache_barrier.ensures.ok

pub returns-clause-fits : goal.returns-clause-fits
returns-clause-fits g c =
    let cf = g.C.Disk.facts in
    let bf = g.B.Disk.facts in
    let h = c.args.hand.now in
    let k = c.note_change.new.hand in
    let mid = c.write_each.new.hand in
    let u = c.args.seat.now in
    let v = c.write_each.new.seat in
    let bs = c.args.buckets.now in
    let p = c.args.plan.now in
    let q = c.write_each.new.plan in
    let sp = c.requires.may.spine in
    let note = c.note_change.ensures sp c.requires.may.in_hand in
    let has = ap (λ (x : Hand _ _). x.spine) note in
    let are = c.deref.ensures.value ∙ c.in-Some.ensures in
    let at : SpinePart = record sp { changing = true } in
    let d = c.in_default-write_each.ensures.ok at has in
    let new = c.cache_barrier.new.hand in
    let w = c.cache_barrier.new.seat in
    let rest = c.cache_barrier.ensures.rest in
    map_on_ok c.cache_barrier.result (λ did spine is.
    subst (λ (s : SpinePart). Fits s.spine q)
    (same_part h.spine sp spine c.requires.may.in_hand is) d.fits) c.cache_barrier.ensures.ok

pub returns-clause-err : goal.returns-clause-err
returns-clause-err g c =
    let cf = g.C.Disk.facts in
    let bf = g.B.Disk.facts in
    let h = c.args.hand.now in
    let k = c.note_change.new.hand in
    let mid = c.write_each.new.hand in
    let u = c.args.seat.now in
    let v = c.write_each.new.seat in
    let bs = c.args.buckets.now in
    let p = c.args.plan.now in
    let q = c.write_each.new.plan in
    let sp = c.requires.may.spine in
    let note = c.note_change.ensures sp c.requires.may.in_hand in
    let has = ap (λ (x : Hand _ _). x.spine) note in
    let are = c.deref.ensures.value ∙ c.in-Some.ensures in
    let at : SpinePart = record sp { changing = true } in
    let d = c.in_default-write_each.ensures.ok at has in
    let new = c.cache_barrier.new.hand in
    let w = c.cache_barrier.new.seat in
    let rest = c.cache_barrier.ensures.rest in
    map_if_err c.cache_barrier.result (λ e f spine is.
    subst (λ (s : SpinePart). HaveNotWritten cf bf e c.args.before bs p q s h new u w)
    (same_part h.spine sp spine c.requires.may.in_hand is)
    (stopped_behind cf bf c.args.before _ bs p q sp h k new u are note mid v w d.wrote d.hand rest e
    f)) c.cache_barrier.ensures.err

pub returns-clause-held : goal.returns-clause-held
returns-clause-held g c =
    let cf = g.C.Disk.facts in
    let bf = g.B.Disk.facts in
    let h = c.args.hand.now in
    let k = c.note_change.new.hand in
    let mid = c.write_each.new.hand in
    let u = c.args.seat.now in
    let v = c.write_each.new.seat in
    let bs = c.args.buckets.now in
    let p = c.args.plan.now in
    let q = c.write_each.new.plan in
    let sp = c.requires.may.spine in
    let note = c.note_change.ensures sp c.requires.may.in_hand in
    let has = ap (λ (x : Hand _ _). x.spine) note in
    let are = c.deref.ensures.value ∙ c.in-Some.ensures in
    let at : SpinePart = record sp { changing = true } in
    let d = c.in_default-write_each.ensures.ok at has in
    let new = c.cache_barrier.new.hand in
    let w = c.cache_barrier.new.seat in
    let rest = c.cache_barrier.ensures.rest in
    let keeps = keeps_barrier cf bf v w c.write_each.ensures.works.seat c.cache_barrier.result
    c.cache_barrier.ensures.ok c.cache_barrier.ensures.err in
    λ a it. keeps.0 a (c.write_each.ensures.held a it)

pub returns-clause-places : goal.returns-clause-places
returns-clause-places g c =
    let cf = g.C.Disk.facts in
    let bf = g.B.Disk.facts in
    let h = c.args.hand.now in
    let k = c.note_change.new.hand in
    let mid = c.write_each.new.hand in
    let u = c.args.seat.now in
    let v = c.write_each.new.seat in
    let bs = c.args.buckets.now in
    let p = c.args.plan.now in
    let q = c.write_each.new.plan in
    let sp = c.requires.may.spine in
    let note = c.note_change.ensures sp c.requires.may.in_hand in
    let has = ap (λ (x : Hand _ _). x.spine) note in
    let are = c.deref.ensures.value ∙ c.in-Some.ensures in
    let at : SpinePart = record sp { changing = true } in
    let d = c.in_default-write_each.ensures.ok at has in
    let new = c.cache_barrier.new.hand in
    let w = c.cache_barrier.new.seat in
    let rest = c.cache_barrier.ensures.rest in
    let keeps = keeps_barrier cf bf v w c.write_each.ensures.works.seat c.cache_barrier.result
    c.cache_barrier.ensures.ok c.cache_barrier.ensures.err in
    places_both cf bf u v w c.write_each.ensures.places keeps.1

pub returns-clause-ready : goal.returns-clause-ready
returns-clause-ready g c =
    let cf = g.C.Disk.facts in
    let bf = g.B.Disk.facts in
    let h = c.args.hand.now in
    let k = c.note_change.new.hand in
    let mid = c.write_each.new.hand in
    let u = c.args.seat.now in
    let v = c.write_each.new.seat in
    let bs = c.args.buckets.now in
    let p = c.args.plan.now in
    let q = c.write_each.new.plan in
    let sp = c.requires.may.spine in
    let note = c.note_change.ensures sp c.requires.may.in_hand in
    let has = ap (λ (x : Hand _ _). x.spine) note in
    let are = c.deref.ensures.value ∙ c.in-Some.ensures in
    let at : SpinePart = record sp { changing = true } in
    let d = c.in_default-write_each.ensures.ok at has in
    let new = c.cache_barrier.new.hand in
    let w = c.cache_barrier.new.seat in
    let rest = c.cache_barrier.ensures.rest in
    let same = are ∙ sym d.nodes_are in
    map_on_ok c.cache_barrier.result (λ did.
    ready_behind cf bf v w c.write_each.ensures.works.seat
    (holds_spine cf bf c.args.parts.now v mid c.write_each.ensures.works
    (ap (λ (x : Hand _ _). is_some x.spine) d.hand))
    did c.args.before sp.spine.geometry p q bs
    (subst (λ ns. AreThere cf bf c.args.before sp.spine.geometry q ns bs v) same d.there)
    (subst (λ e. FromEach (world cf bf v) (HasOnly e (nodes_of q) bs)) (sym d.leaves)
    (subst (λ ns. FromEach (world cf bf v) (HasOnly p.leaves ns bs)) same d.only))
    d.divided (c.write_each.ensures.places.opening.before c.args.before c.requires.before)
    (λ b there. c.write_each.ensures.held b (c.requires.are.held b there))
    (both_behind cf bf c.args.before sp.spine.geometry _ bs p q u v d.wrote d.leaves c.requires.may.both)
    sp.spine d.fits d.points
    (λ m n its. had_before cf bf c.args.before sp.spine.geometry _ bs p q u v m n d.wrote its))
    c.cache_barrier.ensures.ok

pub returns-clause-same : goal.returns-clause-same
returns-clause-same g c =
    let cf = g.C.Disk.facts in
    let bf = g.B.Disk.facts in
    let h = c.args.hand.now in
    let k = c.note_change.new.hand in
    let mid = c.write_each.new.hand in
    let u = c.args.seat.now in
    let v = c.write_each.new.seat in
    let bs = c.args.buckets.now in
    let p = c.args.plan.now in
    let q = c.write_each.new.plan in
    let sp = c.requires.may.spine in
    let note = c.note_change.ensures sp c.requires.may.in_hand in
    let has = ap (λ (x : Hand _ _). x.spine) note in
    let are = c.deref.ensures.value ∙ c.in-Some.ensures in
    let at : SpinePart = record sp { changing = true } in
    let d = c.in_default-write_each.ensures.ok at has in
    let new = c.cache_barrier.new.hand in
    let w = c.cache_barrier.new.seat in
    let rest = c.cache_barrier.ensures.rest in
    map_on_ok c.cache_barrier.result (λ did.
    stays_asked cf bf c.args.before sp.spine.geometry _ bs p q u v d.wrote d.leaves)
    c.cache_barrier.ensures.ok
