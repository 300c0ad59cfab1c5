use Rattle.std.proofs.Common.{◌≡◌, ℕ, ◌*◌, ◌+◌, ◌-◌, ◌<◌, List, [], ◌∷◌, length, Some, Vec, Global, sym, ap, ◌∙◌, subst, arith}
use Rattle.std.proofs.lemmas.List.{length-append}
use Rattle.std.specs.Prelude.{is_some, slice_index_or}
use Rattle.bc_new_node.proofs.of_bc_held.Doing.{holds_spine}
use Rattle.bc_new_node.proofs.of_bc_place.Keeping.{keeps_both as places_both}
use Rattle.bc_new_node.specs.Kind.{IsDividedBy}
use Rattle.bc_new_node.specs.Wrote.{HasFailedToWriteNew, HasWrittenNew, KeepsDraftsBut, write_by}
use Rattle.bc_new_node.specs.Kind.{IsWrittenNew}
use Rattle.bc_new_node.specs.bc_drafts.Draft.{HasNoLeaf}
use Rattle.bc_new_node.specs.bc_hand.Seats.{world}
use Rattle.bc_new_node.specs.bc_hand.declared.hand.Hand.{Hand}
use Rattle.bc_new_node.specs.bc_machine.World.{FromEach, cache_among, replay}
use Rattle.bc_new_node.specs.bc_machine.declared.part.SpinePart.{SpinePart}
use Rattle.bc_new_nodes.proofs.Same.{leaf_kind}
use Rattle.bc_new_nodes.proofs.SoFar.{IsSoFar, done_each, next_is, so_far_next}
use Rattle.bc_new_nodes.proofs.Stopped.{at_default, at_place, front_of, last_of, same_part, stopped}
use Rattle.bc_new_nodes.specs.Course.{AreRooms, HaveStoppedAt}
use Rattle.bc_plan.specs.declared.write.NewNode.TheVariants.{First}
use Rattle.bc_new_nodes.proofs.all.write_each.Goals as goal

pub unreachable-requires : goal.unreachable-requires
unreachable-requires g c =
    let l = c.loop-done in
    let can = c.requires.can in
    let so = l.invariant.7 can.spine can.in_hand in
    let none = c.in_default.ensures.cases.0 in
    let long = l.rooms.ok.0 in
    let rooms = so.rooms_many in
    let less = c.loop-done-test.true in
    let many = can.as_many in
    omega (arith, none, long, rooms, less, many)

pub write_new_node-requires-clause-room : goal.write_new_node-requires-clause-room
write_new_node-requires-clause-room g c =
    let cf = g.C.Disk.facts in
    let bf = g.B.Disk.facts in
    let l = c.loop-done in
    let can = c.requires.can in
    let s0 = can.spine in
    let so = l.invariant.7 s0 can.in_hand in
    let i = l.done in
    let nodes = c.args.nodes.now in
    let bs = c.args.buckets.now in
    let n = slice_index_or nodes i First in
    let b = c.index-buckets-done.result in
    let less = c.loop-done-test.true in
    let many = can.as_many in
    let inside : i < length bs = omega (arith, less, many) in
    let its_node = at_default nodes i First less in
    let its_bucket = at_place bs i b inside c.index-buckets-done.is in
    let sectors = (cache_among cf bf c.args.parts.now.run.start).sectors in
    let next = next_is cf bf c.args.before sectors s0 nodes bs i c.args.plan.now l.plan l.plan
    c.args.hand.now l.hand l.hand l.rooms.items l.rooms.items c.args.seat.now l.seat l.seat so n b
    its_node its_bucket in
    let at : SpinePart = record s0 { next_seq = s0.next_seq + i } in
    let has : l.hand.spine ≡ Some at = ap (λ (h : Hand _ _). h.spine) so.hand in
    λ spine is.
    last_of (λ (room : Vec ℕ Global). length room.items ≡ 512 * s0.spine.geometry.node_sectors)
    c.pop.new.self.items c.in-Some.room
    (subst (λ (xs : List (Vec ℕ Global)). AreRooms s0.spine.geometry xs) c.in-Some.ensures.items
    so.rooms_are)
    ∙ ap (λ (s : SpinePart). 512 * s.spine.geometry.node_sectors)
    (same_part l.hand.spine at spine has is)

pub write_new_node-requires-clause-may : goal.write_new_node-requires-clause-may
write_new_node-requires-clause-may g c =
    let cf = g.C.Disk.facts in
    let bf = g.B.Disk.facts in
    let l = c.loop-done in
    let can = c.requires.can in
    let s0 = can.spine in
    let so = l.invariant.7 s0 can.in_hand in
    let i = l.done in
    let nodes = c.args.nodes.now in
    let bs = c.args.buckets.now in
    let n = slice_index_or nodes i First in
    let b = c.index-buckets-done.result in
    let less = c.loop-done-test.true in
    let many = can.as_many in
    let inside : i < length bs = omega (arith, less, many) in
    let its_node = at_default nodes i First less in
    let its_bucket = at_place bs i b inside c.index-buckets-done.is in
    let sectors = (cache_among cf bf c.args.parts.now.run.start).sectors in
    let next = next_is cf bf c.args.before sectors s0 nodes bs i c.args.plan.now l.plan l.plan
    c.args.hand.now l.hand l.hand l.rooms.items l.rooms.items c.args.seat.now l.seat l.seat so n b
    its_node its_bucket in
    let at : SpinePart = record s0 { next_seq = s0.next_seq + i } in
    let has : l.hand.spine ≡ Some at = ap (λ (h : Hand _ _). h.spine) so.hand in
    let node = next.0.node_for in record {
      spine = at;
      in_hand = has;
      changing = can.changing;
      fits = so.fits;
      can = node.can;
      first = node.first;
      first_is = node.first_is;
      place = node.place;
      number = node.number;
      numbered = let most = can.numbered in omega (arith, most, inside);
      proper = node.proper;
      purpose = node.purpose;
    }

pub write_new_node-requires-clause-divided : goal.write_new_node-requires-clause-divided
write_new_node-requires-clause-divided g c =
    let cf = g.C.Disk.facts in
    let bf = g.B.Disk.facts in
    let l = c.loop-done in
    let can = c.requires.can in
    let s0 = can.spine in
    let so = l.invariant.7 s0 can.in_hand in
    let i = l.done in
    let nodes = c.args.nodes.now in
    let bs = c.args.buckets.now in
    let n = slice_index_or nodes i First in
    let b = c.index-buckets-done.result in
    let less = c.loop-done-test.true in
    let many = can.as_many in
    let inside : i < length bs = omega (arith, less, many) in
    let its_node = at_default nodes i First less in
    let its_bucket = at_place bs i b inside c.index-buckets-done.is in
    let sectors = (cache_among cf bf c.args.parts.now.run.start).sectors in
    let next = next_is cf bf c.args.before sectors s0 nodes bs i c.args.plan.now l.plan l.plan
    c.args.hand.now l.hand l.hand l.rooms.items l.rooms.items c.args.seat.now l.seat l.seat so n b
    its_node its_bucket in
    let at : SpinePart = record s0 { next_seq = s0.next_seq + i } in
    let has : l.hand.spine ≡ Some at = ap (λ (h : Hand _ _). h.spine) so.hand in
    λ spine is. subst (λ (s : SpinePart). FromEach (world cf bf l.seat)
    (IsDividedBy s.spine.geometry)) (same_part l.hand.spine at spine has is) so.divided

pub write_new_node-requires-clause-free : goal.write_new_node-requires-clause-free
write_new_node-requires-clause-free g c =
    let cf = g.C.Disk.facts in
    let bf = g.B.Disk.facts in
    let l = c.loop-done in
    let can = c.requires.can in
    let s0 = can.spine in
    let so = l.invariant.7 s0 can.in_hand in
    let i = l.done in
    let nodes = c.args.nodes.now in
    let bs = c.args.buckets.now in
    let n = slice_index_or nodes i First in
    let b = c.index-buckets-done.result in
    let less = c.loop-done-test.true in
    let many = can.as_many in
    let inside : i < length bs = omega (arith, less, many) in
    let its_node = at_default nodes i First less in
    let its_bucket = at_place bs i b inside c.index-buckets-done.is in
    let sectors = (cache_among cf bf c.args.parts.now.run.start).sectors in
    let next = next_is cf bf c.args.before sectors s0 nodes bs i c.args.plan.now l.plan l.plan
    c.args.hand.now l.hand l.hand l.rooms.items l.rooms.items c.args.seat.now l.seat l.seat so n b
    its_node its_bucket in
    let at : SpinePart = record s0 { next_seq = s0.next_seq + i } in
    let has : l.hand.spine ≡ Some at = ap (λ (h : Hand _ _). h.spine) so.hand in
    λ o is course. record {
      leaf = λ leaf its. subst (λ k. HasNoLeaf k o (replay o (world cf bf l.seat).log)) (sym c.slot_for-slot.ensures)
          (next.0.free (leaf_kind l.plan n leaf its) o is course);
      inner = λ m its. next.0.no_inner o is course;
    }

pub write_new_node-requires-clause-held : goal.write_new_node-requires-clause-held
write_new_node-requires-clause-held g c =
    let cf = g.C.Disk.facts in
    let bf = g.B.Disk.facts in
    let l = c.loop-done in
    let can = c.requires.can in
    let s0 = can.spine in
    let so = l.invariant.7 s0 can.in_hand in
    let i = l.done in
    let nodes = c.args.nodes.now in
    let bs = c.args.buckets.now in
    let n = slice_index_or nodes i First in
    let b = c.index-buckets-done.result in
    let less = c.loop-done-test.true in
    let many = can.as_many in
    let inside : i < length bs = omega (arith, less, many) in
    let its_node = at_default nodes i First less in
    let its_bucket = at_place bs i b inside c.index-buckets-done.is in
    let sectors = (cache_among cf bf c.args.parts.now.run.start).sectors in
    let next = next_is cf bf c.args.before sectors s0 nodes bs i c.args.plan.now l.plan l.plan
    c.args.hand.now l.hand l.hand l.rooms.items l.rooms.items c.args.seat.now l.seat l.seat so n b
    its_node its_bucket in
    let at : SpinePart = record s0 { next_seq = s0.next_seq + i } in
    let has : l.hand.spine ≡ Some at = ap (λ (h : Hand _ _). h.spine) so.hand in
    next.0.mine

pub write_new_node-requires-clause-vacant : goal.write_new_node-requires-clause-vacant
write_new_node-requires-clause-vacant g c =
    let cf = g.C.Disk.facts in
    let bf = g.B.Disk.facts in
    let l = c.loop-done in
    let can = c.requires.can in
    let s0 = can.spine in
    let so = l.invariant.7 s0 can.in_hand in
    let i = l.done in
    let nodes = c.args.nodes.now in
    let bs = c.args.buckets.now in
    let n = slice_index_or nodes i First in
    let b = c.index-buckets-done.result in
    let less = c.loop-done-test.true in
    let many = can.as_many in
    let inside : i < length bs = omega (arith, less, many) in
    let its_node = at_default nodes i First less in
    let its_bucket = at_place bs i b inside c.index-buckets-done.is in
    let sectors = (cache_among cf bf c.args.parts.now.run.start).sectors in
    let next = next_is cf bf c.args.before sectors s0 nodes bs i c.args.plan.now l.plan l.plan
    c.args.hand.now l.hand l.hand l.rooms.items l.rooms.items c.args.seat.now l.seat l.seat so n b
    its_node its_bucket in
    let at : SpinePart = record s0 { next_seq = s0.next_seq + i } in
    let has : l.hand.spine ≡ Some at = ap (λ (h : Hand _ _). h.spine) so.hand in
    next.0.vacant

pub returns-in-Err-clause-err : goal.returns-in-Err-clause-err
returns-in-Err-clause-err g c =
    let cf = g.C.Disk.facts in
    let bf = g.B.Disk.facts in
    let l = c.loop-done in
    let can = c.requires.can in
    let s0 = can.spine in
    let so = l.invariant.7 s0 can.in_hand in
    let i = l.done in
    let nodes = c.args.nodes.now in
    let bs = c.args.buckets.now in
    let n = slice_index_or nodes i First in
    let b = c.index-buckets-done.result in
    let less = c.loop-done-test.true in
    let many = can.as_many in
    let inside : i < length bs = omega (arith, less, many) in
    let its_node = at_default nodes i First less in
    let its_bucket = at_place bs i b inside c.index-buckets-done.is in
    let sectors = (cache_among cf bf c.args.parts.now.run.start).sectors in
    let next = next_is cf bf c.args.before sectors s0 nodes bs i c.args.plan.now l.plan l.plan
    c.args.hand.now l.hand l.hand l.rooms.items l.rooms.items c.args.seat.now l.seat l.seat so n b
    its_node its_bucket in
    let at : SpinePart = record s0 { next_seq = s0.next_seq + i } in
    let has : l.hand.spine ≡ Some at = ap (λ (h : Hand _ _). h.spine) so.hand in
    λ spine is.
    let e = c.in-Err.ensures in
    subst (λ (s : SpinePart). HaveStoppedAt cf bf c.in-Err.error c.args.before nodes bs
    c.args.plan.now c.write_new_node.new.plan s c.args.hand.now c.write_new_node.new.hand
    c.args.seat.now c.write_new_node.new.seat) (same_part c.args.hand.now.spine s0 spine can.in_hand is)
    (stopped cf bf c.args.before s0 nodes bs i c.args.plan.now l.plan c.write_new_node.new.plan
    c.args.hand.now l.hand c.write_new_node.new.hand c.args.seat.now l.seat
    c.write_new_node.new.seat n b its_node its_bucket inside so.wrote so.hand e.kept c.in-Err.error
    (subst (λ k. HasFailedToWriteNew cf bf c.in-Err.error c.args.before l.plan n k b at l.hand
    c.write_new_node.new.hand l.seat c.write_new_node.new.seat) c.slot_for-slot.ensures
    (e.err at has)))

pub returns-in-Err-clause-held : goal.returns-in-Err-clause-held
returns-in-Err-clause-held g c =
    λ a h. c.write_new_node.ensures.drafts.held a (c.loop-done.invariant.5 a h)

pub returns-in-Err-clause-places : goal.returns-in-Err-clause-places
returns-in-Err-clause-places g c =
    places_both g.C.Disk.facts g.B.Disk.facts c.args.seat.now c.loop-done.seat
    c.write_new_node.new.seat c.loop-done.invariant.6 c.write_new_node.ensures.places

pub loop-done-preserved : goal.loop-done-preserved
loop-done-preserved g c =
    let cf = g.C.Disk.facts in
    let bf = g.B.Disk.facts in
    let l = c.loop-done in
    let can = c.requires.can in
    let s0 = can.spine in
    let so = l.invariant.7 s0 can.in_hand in
    let i = l.done in
    let nodes = c.args.nodes.now in
    let bs = c.args.buckets.now in
    let n = slice_index_or nodes i First in
    let b = c.index-buckets-done.result in
    let less = c.loop-done-test.true in
    let many = can.as_many in
    let inside : i < length bs = omega (arith, less, many) in
    let its_node = at_default nodes i First less in
    let its_bucket = at_place bs i b inside c.index-buckets-done.is in
    let sectors = (cache_among cf bf c.args.parts.now.run.start).sectors in
    let next = next_is cf bf c.args.before sectors s0 nodes bs i c.args.plan.now l.plan l.plan
    c.args.hand.now l.hand l.hand l.rooms.items l.rooms.items c.args.seat.now l.seat l.seat so n b
    its_node its_bucket in
    let at : SpinePart = record s0 { next_seq = s0.next_seq + i } in
    let has : l.hand.spine ≡ Some at = ap (λ (h : Hand _ _). h.spine) so.hand in
    let w = c.write_new_node.new.seat in
    let e = c.in_default-write_new_node.ensures in
    let slot = c.slot_for-slot.ensures in
    let geometry = s0.spine.geometry in
    let holds = holds_spine cf bf c.args.parts.now l.seat l.hand l.invariant.1 (ap is_some has) in
    let items = c.in-Some.ensures.items in
    let left = l.invariant.3 in
    let spent = c.write_new_node.ensures.left in (
      omega (arith, less),
      c.write_new_node.ensures.works,
      c.write_new_node.ensures.kinds ∙ l.invariant.2,
      omega (arith, left, spent),
      c.write_new_node.ensures.places.opening.before c.args.before l.invariant.4,
      λ a h. c.write_new_node.ensures.drafts.held a (l.invariant.5 a h),
      places_both cf bf c.args.seat.now l.seat w l.invariant.6 c.write_new_node.ensures.places,
      λ spine is. subst (λ (s : SpinePart). IsSoFar cf bf c.args.before sectors s nodes bs (i + 1)
          c.args.plan.now c.write_new_node.new.plan c.args.hand.now c.write_new_node.new.hand
          c.pop.new.self.items c.args.seat.now w)
          (same_part c.args.hand.now.spine s0 spine can.in_hand is)
          (so_far_next cf bf c.args.before sectors s0 nodes bs i c.args.plan.now l.plan
          c.write_new_node.new.plan c.args.hand.now l.hand c.write_new_node.new.hand l.rooms.items
          c.pop.new.self.items c.args.seat.now l.seat w so n b its_node its_bucket
          l.invariant.1.seat holds can.once l.invariant.4
          (subst (λ k. HasWrittenNew cf bf write_by c.args.before geometry l.plan n k b l.seat w) slot
          (e.ok at has))
          (e.plan at has).0 (e.plan at has).1
          (subst (λ k. FromEach (world cf bf w) (IsWrittenNew geometry l.plan n k
          (b.bucket - c.args.before))) slot (e.knows at has))
          (subst (λ k. KeepsDraftsBut cf bf k (b.bucket - c.args.before) b l.seat w) slot
          c.write_new_node.ensures.drafts)
          e.number
          (front_of (λ (room : Vec ℕ Global). length room.items ≡ 512 * geometry.node_sectors)
          c.pop.new.self.items (c.in-Some.room ∷ [])
          (subst (λ (xs : List (Vec ℕ Global)). AreRooms geometry xs) items so.rooms_are))
          (sym (ap (λ (xs : List (Vec ℕ Global)). length xs) items
          ∙ length-append c.pop.new.self.items (c.in-Some.room ∷ [])))),
    )

pub returns-clause-ok : goal.returns-clause-ok
returns-clause-ok g c =
    let cf = g.C.Disk.facts in
    let bf = g.B.Disk.facts in
    let l = c.loop-done in
    let can = c.requires.can in
    let over = c.loop-done-test.false in
    let most = l.invariant.0 in
    λ spine is. done_each cf bf c.args.before
    (cache_among cf bf c.args.parts.now.run.start).sectors spine c.args.nodes.now c.args.buckets.now
    l.done c.args.plan.now l.plan c.args.hand.now l.hand l.rooms.items c.args.seat.now l.seat
    (let e : l.done ≡ length c.args.nodes.now = omega (arith, over, most) in e) can.as_many
    (l.invariant.7 spine is)
