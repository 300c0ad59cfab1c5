use Rattle.std.proofs.Common.{◌≡◌, ◌+◌, ◌-◌, ◌%◌, ◌≤◌, inl, inr, None, Some, sym, ap, ◌∙◌, subst, arith}
use Rattle.std.specs.Prelude.{slice_get}
use Rattle.bc_cache.specs.Slots.{IsOccupied, NodeCache}
use Rattle.bc_cache.specs.declared.slots.Cached.{Cached}
use Rattle.bc_sight.specs.bc_hand.declared.hand.Hand.{Hand}
use Rattle.bc_sight.specs.bc_machine.World.{cache_among}
use Rattle.bc_fetch.specs.Fetch.{HasPart, HasStoppedAt, HasTakenIn}
use Rattle.bc_fetch.specs.declared.error.LeafError.{LeafError}
use Rattle.bc_fetch.proofs.Ways.{fetched_left, fetched_way, leaf_for, occupied, of_given, part_given, rest_of, short_way, spine_leaves, stopped_left, stopped_way, taken_in, then_done, waited_done}
use Rattle.bc_fetch.proofs.leaf.leaf_at.Goals as goal
use Rattle.bc_fetch.proofs.leaf.leaf_at.Goals.{in-Ok-2, in-Err}

pub fetch-done-requires-clause-spine : goal.fetch-done-requires-clause-spine
fetch-done-requires-clause-spine g c = spine_leaves c.take_spine.new.hand c.take_leaves.new.hand
    c.in-Some.range c.take_leaves.ensures.hand c.in-Some.ensures.some.0

pub has_range-requires-clause-slot : goal.has_range-requires-clause-slot
has_range-requires-clause-slot g c = of_given c.fetch-done.new.hand c.give_spine.new.hand
    (λ (x : NodeCache). IsOccupied x.slots c.in-Ok.slot) c.give_spine.ensures.hand
    (occupied c.fetch-done.new.hand c.in-Ok.slot c.in-Some.range.number c.in-Ok.ensures.ok)

pub returns-in-Ok-clause-ok : goal.returns-in-Ok-clause-ok
returns-in-Ok-clause-ok g c = leaf_for c.fetch-done.new.hand c.give_spine.new.hand c.in-Ok.slot
    c.in-Some.range.number c.args.first c.args.count c.give_spine.ensures.hand c.in-Ok.ensures.ok
    (c.has_range.ensures.all c.if-has_range.true)
    (rest_of c.take_spine.new.hand c.take_leaves.new.hand c.fetch-done.new.hand
    c.give_spine.new.hand c.take_spine.ensures.hand c.take_leaves.ensures.hand
    c.fetch-done.ensures.hand c.give_spine.ensures.hand)

pub returns-in-Ok-clause-did : goal.returns-in-Ok-clause-did
returns-in-Ok-clause-did g c = fetched_way g.C.Disk.facts g.B.Disk.facts c.take_leaves.new.hand
    c.in-Some.range c.args.seat.now c.take_leaves.new.seat c.fetch-done.new.seat
    c.give_spine.new.seat
    (then_done g.C.Disk.facts g.B.Disk.facts c.args.seat.now c.take_spine.new.seat
    c.take_leaves.new.seat
    (waited_done g.C.Disk.facts g.B.Disk.facts c.args.seat.now c.take_spine.new.seat
    c.take_spine.ensures.works.seat c.take_spine.ensures.waited)
    (waited_done g.C.Disk.facts g.B.Disk.facts c.take_spine.new.seat c.take_leaves.new.seat
    c.take_leaves.ensures.works.seat c.take_leaves.ensures.waited))
    (waited_done g.C.Disk.facts g.B.Disk.facts c.fetch-done.new.seat c.give_spine.new.seat
    c.give_spine.ensures.works.seat c.give_spine.ensures.waited) c.in-Ok.ensures.did

pub returns-in-Ok-clause-left : goal.returns-in-Ok-clause-left
returns-in-Ok-clause-left g c =
    let a = c.take_spine.ensures.waited.promises in
    let b = c.take_leaves.ensures.waited.promises in
    let d = c.give_spine.ensures.waited.promises in
    let one = fetched_left g.C.Disk.facts g.B.Disk.facts c.take_leaves.new.hand
    c.in-Some.range c.take_leaves.new.seat c.fetch-done.new.seat c.in-Ok.ensures.did in omega (arith, a, b, d, one)

pub returns-in-Ok-clause-part : goal.returns-in-Ok-clause-part
returns-in-Ok-clause-part g c =
    subst (λ n. HasPart c.give_spine.new.hand (6 + c.in-Some.range.number % (n - 6)))
    c.part_count.ensures
    (part_given c.take_leaves.new.hand c.fetch-done.new.hand c.give_spine.new.hand
    (6 + c.in-Some.range.number % (c.part_count.result - 6)) c.take_leaves.ensures.has
    c.fetch-done.ensures.hand c.give_spine.ensures.hand)

pub returns-in-Ok-clause-slots : goal.returns-in-Ok-clause-slots
returns-in-Ok-clause-slots g c =
    subst (λ n. HasTakenIn g.C.Disk.facts g.B.Disk.facts (6 + c.in-Some.range.number % (n - 6))
    c.in-Some.range.number c.give_spine.new.hand c.args.seat.now) c.part_count.ensures
    (taken_in g.C.Disk.facts g.B.Disk.facts c.args.parts.now c.args.seat.now
    c.take_leaves.new.seat c.take_leaves.new.hand c.fetch-done.new.hand c.give_spine.new.hand
    (6 + c.in-Some.range.number % (c.part_count.result - 6)) c.in-Some.range.number c.in-Ok.slot
    (then_done g.C.Disk.facts g.B.Disk.facts c.args.seat.now c.take_spine.new.seat
    c.take_leaves.new.seat
    (waited_done g.C.Disk.facts g.B.Disk.facts c.args.seat.now c.take_spine.new.seat
    c.take_spine.ensures.works.seat c.take_spine.ensures.waited)
    (waited_done g.C.Disk.facts g.B.Disk.facts c.take_spine.new.seat c.take_leaves.new.seat
    c.take_leaves.ensures.works.seat c.take_leaves.ensures.waited)) c.take_leaves.ensures.works
    c.take_leaves.ensures.has c.in-Ok.ensures.slots c.give_spine.ensures.hand)

pub returns-clause-err : goal.returns-clause-err
returns-clause-err g c = c.give_leaves.ensures.hand
    ∙ ap (λ (h : Hand _ _). record h { leaves = None })
    (rest_of c.take_spine.new.hand c.take_leaves.new.hand c.fetch-done.new.hand
    c.give_spine.new.hand c.take_spine.ensures.hand c.take_leaves.ensures.hand
    c.fetch-done.ensures.hand c.give_spine.ensures.hand)

pub give_leaves-requires-clause-has : goal.give_leaves-requires-clause-has
give_leaves-requires-clause-has g c = part_given c.take_leaves.new.hand c.fetch-done.new.hand
    c.give_spine.new.hand _ c.take_leaves.ensures.has c.fetch-done.ensures.hand
    c.give_spine.ensures.hand

pub returns-clause-stopped : goal.returns-clause-stopped
returns-clause-stopped g c =
    let u = c.args.seat.now in
    let v = c.take_leaves.new.seat in
    let w = c.fetch-done.new.seat in
    let x = c.give_leaves.new.seat in
    let a = then_done g.C.Disk.facts g.B.Disk.facts u c.take_spine.new.seat v
    (waited_done g.C.Disk.facts g.B.Disk.facts u c.take_spine.new.seat
    c.take_spine.ensures.works.seat c.take_spine.ensures.waited)
    (waited_done g.C.Disk.facts g.B.Disk.facts c.take_spine.new.seat v
    c.take_leaves.ensures.works.seat c.take_leaves.ensures.waited) in
    let b = then_done g.C.Disk.facts g.B.Disk.facts w c.give_spine.new.seat x
    (waited_done g.C.Disk.facts g.B.Disk.facts w c.give_spine.new.seat
    c.give_spine.ensures.works.seat c.give_spine.ensures.waited)
    (waited_done g.C.Disk.facts g.B.Disk.facts c.give_spine.new.seat x
    c.give_leaves.ensures.works.seat c.give_leaves.ensures.waited) in
    let tree = spine_leaves c.take_spine.new.hand c.take_leaves.new.hand c.in-Some.range
    c.take_leaves.ensures.hand c.in-Some.ensures.some.0 in
    let part = subst (λ k. HasPart c.take_leaves.new.hand (6 + c.in-Some.range.number % (k - 6)))
    c.part_count.ensures c.take_leaves.ensures.has in
    elim c.match-done.branch [
      | in-Ok-2 n ↦ subst (λ (e : LeafError). HasStoppedAt g.C.Disk.facts g.B.Disk.facts
          c.args.first c.args.count e u x) (sym n.error-is)
          (inr (short_way g.C.Disk.facts g.B.Disk.facts c.take_leaves.new.hand c.in-Some.range
          u v w x a b c.args.parts.now c.take_leaves.ensures.works tree part c.args.first
          c.args.count n.in-Ok.slot c.fetch-done.new.hand c.fetch-done.ensures.hand
          c.fetch-done.ensures.works n.in-Ok.ensures.did
          (c.in-Some.ensures.some.1, c.in-Some.ensures.some.2)
          n.in-Ok.ensures.ok (λ fits. n.has_range.ensures.short n.if-has_range.false
          (of_given c.fetch-done.new.hand c.give_spine.new.hand (λ (k : NodeCache).
          (cached : Cached) × (slice_get k.slots n.in-Ok.slot ≡ Some (Some cached))
          × (cached.leaf.from ≤ c.args.first)
          × (c.args.first + c.args.count ≤ cached.leaf.end)) c.give_spine.ensures.hand (
            n.in-Ok.ensures.ok.0,
            n.in-Ok.ensures.ok.1,
            (n.in-Ok.ensures.ok.2.cached, n.in-Ok.ensures.ok.2.there, fits.0, fits.1),
          )))))
      | in-Err n ↦ subst (λ (e : LeafError). HasStoppedAt g.C.Disk.facts g.B.Disk.facts
          c.args.first c.args.count e u x) (sym n.error-is)
          (stopped_way g.C.Disk.facts g.B.Disk.facts c.take_leaves.new.hand c.in-Some.range u v w x
          a b c.args.parts.now c.take_leaves.ensures.works tree part c.args.first c.args.count
          n.in-Err.error n.in-Err.ensures.err)
    ]

pub returns-clause-left : goal.returns-clause-left
returns-clause-left g c =
    let v = c.take_leaves.new.seat in
    let w = c.fetch-done.new.seat in
    let a = c.take_spine.ensures.waited.promises in
    let b = c.take_leaves.ensures.waited.promises in
    let d = c.give_spine.ensures.waited.promises in
    let f = c.give_leaves.ensures.waited.promises in
    let one : v.promises ≤ w.promises + 1 = elim c.match-done.branch [
      | in-Ok-2 n ↦ fetched_left g.C.Disk.facts g.B.Disk.facts c.take_leaves.new.hand
          c.in-Some.range v w n.in-Ok.ensures.did
      | in-Err n ↦ stopped_left g.C.Disk.facts g.B.Disk.facts c.take_leaves.new.hand
          c.in-Some.range v w
          (cache_among g.C.Disk.facts g.B.Disk.facts c.args.parts.now.run.start).sectors
          n.in-Err.error n.in-Err.ensures.err
    ] in omega (arith, a, b, d, f, one)

pub returns-in_default-clause-stopped : goal.returns-in_default-clause-stopped
returns-in_default-clause-stopped g c = inl c.in_default.ensures.missing
