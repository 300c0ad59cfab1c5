use Rattle.std.proofs.Common.{◌≡◌, ◌+◌, ◌-◌, ◌<◌, ℕ, [], Option, None, sym, ap, ◌∙◌, subst, arith}
use Rattle.std.specs.Prelude.{length, slice_get}
use Rattle.bc_append.proofs.of_bc_place.of_bc_deed.May.{did_nothing}
use Rattle.bc_append.proofs.of_bc_place.of_bc_deed.Sequence.{done_one}
use Rattle.bc_append.specs.bc_hand.declared.hand.Hand.{Hand}
use Rattle.bc_append.specs.bc_hand.Seats.{world}
use Rattle.bc_append.specs.bc_machine.World.{FromEach, cache_among}
use Rattle.bc_turn.specs.Need.{PartNeedsFrom}
use Rattle.bc_parts.specs.Seat.{Run}
use Rattle.bc_turn.specs.Empty.{HasEmptied}
use Rattle.bc_turn.specs.Part.{WaitsInSlot}
use Rattle.bc_turn.specs.declared.error.Why.{Why}
use Rattle.bc_turn.proofs.Emptying.{IsEmptiedTo, begins, due, empties, ends, failed_come, failed_part, failed_promises, failed_sets, left_come, left_hand, left_in, left_part, left_promises, left_sets, passes, rest_appended, then_nothing}
use Rattle.bc_turn.proofs.Hearing.{missed_answered}
use Rattle.bc_turn.proofs.Known.{law_known}
use Rattle.bc_turn.proofs.Still.{keeps_nothing}
use Rattle.bc_append.proofs.of_bc_place.Keeping.{keeps_both}
use Rattle.bc_turn.proofs.part.empty_part.Goals as goal

count_back : (n count : ℕ) → 6 < n → count ≡ n → count - 6 + 6 ≡ n
count_back n count some is = omega (arith, some, is)

count_less : (n m count : ℕ) → n ≡ m → count ≡ m → count - 6 ≡ n - 6
count_less n m count same is = omega (arith, same, is)

pub loop-slot-init : goal.loop-slot-init
loop-slot-init g c =
    let cf = g.C.Disk.facts in
    let bf = g.B.Disk.facts in
    let v = c.args.seat.now in
    let part = c.requires.part.1 in
    begins cf bf c.args.parts.now c.args.part (c.part_count.result - 6) c.args.low
    c.slots_in-slot-end.result v c.args.hand.now part.hand part.is part.part_is
    (sym (c.slots_in-slot-end.ensures part.hand part.is)) c.requires.works c.requires.come
    (done_one cf bf None v v (did_nothing cf bf v c.requires.works.seat))

pub due_in-requires-clause-slot : goal.due_in-requires-clause-slot
due_in-requires-clause-slot g c =
    let to = c.loop-slot.invariant in
    let many = to.many in
    let test = c.loop-slot-test.true in
    let six = c.requires.part.0 in
    let part = to.part_is in (
      to.leaves,
      to.is,
      omega (arith, many, test),
      omega (arith, six, part),
    )

pub loop-slot-preserved-in_default : goal.loop-slot-preserved-in_default
loop-slot-preserved-in_default g c =
    let to = c.loop-slot.invariant in
    passes g.C.Disk.facts g.B.Disk.facts c.args.parts.now c.args.part (c.part_count.result - 6)
    c.args.low c.slots_in-slot-end.result c.args.seat.now c.args.hand.now c.loop-slot.slot
    c.loop-slot.seat c.loop-slot.hand to
    (subst (λ n. WaitsInSlot (c.part_count.result - 6) (n - 6) c.args.low
    (slice_get to.leaves.cache.slots c.loop-slot.slot)) to.part_is
    (c.in_default.ensures to.leaves to.is))

pub returns-in_default-promise-clause-part : goal.returns-in_default-promise-clause-part
returns-in_default-promise-clause-part g c =
    let to = c.loop-slot.invariant in
    record {
      hand = to.leaves;
      is = ap (λ (h : Hand _ _). h.leaves) c.promise.ensures.hand ∙ to.is;
      part_is = to.part_is;
    }

pub returns-in_default-promise-clause-come : goal.returns-in_default-promise-clause-come
returns-in_default-promise-clause-come g c = (law_known g.C.Disk.facts g.B.Disk.facts).come
    c.loop-slot.seat c.promise.new.seat [] c.args.low c.promise.ensures.done
    c.loop-slot.invariant.come

pub returns-in_default-promise-clause-err : goal.returns-in_default-promise-clause-err
returns-in_default-promise-clause-err g c =
    let cf = g.C.Disk.facts in
    let bf = g.B.Disk.facts in
    missed_answered cf bf c.args.parts.now c.args.low c.or_halt.result c.args.seat.now
    c.promise.new.seat c.or_halt.ensures (then_nothing cf bf c.args.parts.now c.args.low
    c.args.seat.now c.loop-slot.seat c.promise.new.seat c.loop-slot.invariant.sets
    c.promise.ensures.done)

pub returns-in_default-promise-clause-keeps : goal.returns-in_default-promise-clause-keeps
returns-in_default-promise-clause-keeps g c =
    let cf = g.C.Disk.facts in
    let bf = g.B.Disk.facts in
    keeps_both cf bf c.args.seat.now c.loop-slot.seat c.promise.new.seat
    c.loop-slot.invariant.keeps
    (keeps_nothing cf bf c.loop-slot.seat c.promise.new.seat c.promise.ensures.done)

pub returns-in-Ok-Some-clause-keeps : goal.returns-in-Ok-Some-clause-keeps
returns-in-Ok-Some-clause-keeps g c =
    let cf = g.C.Disk.facts in
    let bf = g.B.Disk.facts in
    keeps_both cf bf c.args.seat.now c.loop-slot.seat c.empty_leaf.new.seat
    c.loop-slot.invariant.keeps (keeps_both cf bf c.loop-slot.seat c.promise.new.seat
    c.empty_leaf.new.seat
    (keeps_nothing cf bf c.loop-slot.seat c.promise.new.seat c.promise.ensures.done)
    c.empty_leaf.ensures.keeps)

pub returns-in-Err-clause-keeps : goal.returns-in-Err-clause-keeps
returns-in-Err-clause-keeps g c =
    let cf = g.C.Disk.facts in
    let bf = g.B.Disk.facts in
    keeps_both cf bf c.args.seat.now c.loop-slot.seat c.empty_leaf.new.seat
    c.loop-slot.invariant.keeps (keeps_both cf bf c.loop-slot.seat c.promise.new.seat
    c.empty_leaf.new.seat
    (keeps_nothing cf bf c.loop-slot.seat c.promise.new.seat c.promise.ensures.done)
    c.empty_leaf.ensures.keeps)

pub returns-in-Ok-Some-clause-hand : goal.returns-in-Ok-Some-clause-hand
returns-in-Ok-Some-clause-hand g c =
    let cf = g.C.Disk.facts in
    let bf = g.B.Disk.facts in
    let n = length c.args.parts.now.run.start in
    let sectors = (cache_among cf bf c.args.parts.now.run.start).sectors in
    let v = c.args.seat.now in
    let count = c.part_count.result - 6 in
    let slots = c.slots_in-slot-end.result in
    let to = c.loop-slot.invariant in
    let is = due cf bf c.args.parts.now c.args.part count c.args.low slots v c.args.hand.now n
    c.loop-slot.slot c.in-Some.leaf c.loop-slot.seat c.loop-slot.hand c.promise.new.hand to
    c.promise.ensures.hand (count_back n c.part_count.result c.requires.leaves.0 c.part_count.ensures)
    c.in-Some.ensures in
    left_hand cf bf c.args.parts.now c.args.part count c.args.low slots v c.args.hand.now n sectors
    c.loop-slot.slot c.in-Some.leaf c.in-Ok-Some.why c.loop-slot.seat c.promise.new.seat
    c.empty_leaf.new.seat c.loop-slot.hand c.promise.new.hand c.empty_leaf.new.hand to
    c.promise.ensures.hand c.promise.ensures.done is
    (subst (λ (o : Option Why). HasEmptied cf bf sectors n c.in-Some.leaf o c.promise.new.hand
    c.empty_leaf.new.hand c.promise.new.seat c.empty_leaf.new.seat c.loop-slot.slot is.pending)
    c.in-Ok-Some.field-0-is (c.in-Ok-Some.ensures.ok c.loop-slot.slot is.pending))

pub returns-in-Ok-Some-clause-part : goal.returns-in-Ok-Some-clause-part
returns-in-Ok-Some-clause-part g c =
    let cf = g.C.Disk.facts in
    let bf = g.B.Disk.facts in
    let n = length c.args.parts.now.run.start in
    let sectors = (cache_among cf bf c.args.parts.now.run.start).sectors in
    let v = c.args.seat.now in
    let count = c.part_count.result - 6 in
    let slots = c.slots_in-slot-end.result in
    let to = c.loop-slot.invariant in
    let is = due cf bf c.args.parts.now c.args.part count c.args.low slots v c.args.hand.now n
    c.loop-slot.slot c.in-Some.leaf c.loop-slot.seat c.loop-slot.hand c.promise.new.hand to
    c.promise.ensures.hand (count_back n c.part_count.result c.requires.leaves.0 c.part_count.ensures)
    c.in-Some.ensures in
    left_part cf bf c.args.parts.now c.args.part count c.args.low slots v c.args.hand.now n sectors
    c.loop-slot.slot c.in-Some.leaf c.in-Ok-Some.why c.loop-slot.seat c.promise.new.seat
    c.empty_leaf.new.seat c.loop-slot.hand c.promise.new.hand c.empty_leaf.new.hand to
    c.promise.ensures.hand c.promise.ensures.done is
    (subst (λ (o : Option Why). HasEmptied cf bf sectors n c.in-Some.leaf o c.promise.new.hand
    c.empty_leaf.new.hand c.promise.new.seat c.empty_leaf.new.seat c.loop-slot.slot is.pending)
    c.in-Ok-Some.field-0-is (c.in-Ok-Some.ensures.ok c.loop-slot.slot is.pending))

pub returns-in-Ok-Some-clause-come : goal.returns-in-Ok-Some-clause-come
returns-in-Ok-Some-clause-come g c =
    let cf = g.C.Disk.facts in
    let bf = g.B.Disk.facts in
    let n = length c.args.parts.now.run.start in
    let sectors = (cache_among cf bf c.args.parts.now.run.start).sectors in
    let v = c.args.seat.now in
    let count = c.part_count.result - 6 in
    let slots = c.slots_in-slot-end.result in
    let to = c.loop-slot.invariant in
    let is = due cf bf c.args.parts.now c.args.part count c.args.low slots v c.args.hand.now n
    c.loop-slot.slot c.in-Some.leaf c.loop-slot.seat c.loop-slot.hand c.promise.new.hand to
    c.promise.ensures.hand (count_back n c.part_count.result c.requires.leaves.0 c.part_count.ensures)
    c.in-Some.ensures in
    left_come cf bf c.args.parts.now c.args.part count c.args.low slots v c.args.hand.now n sectors
    c.loop-slot.slot c.in-Some.leaf c.in-Ok-Some.why c.loop-slot.seat c.promise.new.seat
    c.empty_leaf.new.seat c.loop-slot.hand c.promise.new.hand c.empty_leaf.new.hand to
    c.promise.ensures.hand c.promise.ensures.done is
    (subst (λ (o : Option Why). HasEmptied cf bf sectors n c.in-Some.leaf o c.promise.new.hand
    c.empty_leaf.new.hand c.promise.new.seat c.empty_leaf.new.seat c.loop-slot.slot is.pending)
    c.in-Ok-Some.field-0-is (c.in-Ok-Some.ensures.ok c.loop-slot.slot is.pending))

pub returns-in-Ok-Some-clause-ok : goal.returns-in-Ok-Some-clause-ok
returns-in-Ok-Some-clause-ok g c =
    let cf = g.C.Disk.facts in
    let bf = g.B.Disk.facts in
    let n = length c.args.parts.now.run.start in
    let sectors = (cache_among cf bf c.args.parts.now.run.start).sectors in
    let v = c.args.seat.now in
    let count = c.part_count.result - 6 in
    let slots = c.slots_in-slot-end.result in
    let to = c.loop-slot.invariant in
    let is = due cf bf c.args.parts.now c.args.part count c.args.low slots v c.args.hand.now n
    c.loop-slot.slot c.in-Some.leaf c.loop-slot.seat c.loop-slot.hand c.promise.new.hand to
    c.promise.ensures.hand (count_back n c.part_count.result c.requires.leaves.0 c.part_count.ensures)
    c.in-Some.ensures in
    left_sets cf bf c.args.parts.now c.args.part count c.args.low slots v c.args.hand.now n sectors
    c.loop-slot.slot c.in-Some.leaf c.in-Ok-Some.why c.loop-slot.seat c.promise.new.seat
    c.empty_leaf.new.seat c.loop-slot.hand c.promise.new.hand c.empty_leaf.new.hand to
    c.promise.ensures.hand c.promise.ensures.done is
    (subst (λ (o : Option Why). HasEmptied cf bf sectors n c.in-Some.leaf o c.promise.new.hand
    c.empty_leaf.new.hand c.promise.new.seat c.empty_leaf.new.seat c.loop-slot.slot is.pending)
    c.in-Ok-Some.field-0-is (c.in-Ok-Some.ensures.ok c.loop-slot.slot is.pending))

pub returns-in-Ok-Some-clause-most : goal.returns-in-Ok-Some-clause-most
returns-in-Ok-Some-clause-most g c =
    let cf = g.C.Disk.facts in
    let bf = g.B.Disk.facts in
    let n = length c.args.parts.now.run.start in
    let sectors = (cache_among cf bf c.args.parts.now.run.start).sectors in
    let v = c.args.seat.now in
    let count = c.part_count.result - 6 in
    let slots = c.slots_in-slot-end.result in
    let to = c.loop-slot.invariant in
    let is = due cf bf c.args.parts.now c.args.part count c.args.low slots v c.args.hand.now n
    c.loop-slot.slot c.in-Some.leaf c.loop-slot.seat c.loop-slot.hand c.promise.new.hand to
    c.promise.ensures.hand (count_back n c.part_count.result c.requires.leaves.0 c.part_count.ensures)
    c.in-Some.ensures in
    let same = left_promises cf bf c.args.parts.now c.args.part count c.args.low slots v c.args.hand.now n sectors
    c.loop-slot.slot c.in-Some.leaf c.in-Ok-Some.why c.loop-slot.seat c.promise.new.seat
    c.empty_leaf.new.seat c.loop-slot.hand c.promise.new.hand c.empty_leaf.new.hand to
    c.promise.ensures.hand c.promise.ensures.done is
    (subst (λ (o : Option Why). HasEmptied cf bf sectors n c.in-Some.leaf o c.promise.new.hand
    c.empty_leaf.new.hand c.promise.new.seat c.empty_leaf.new.seat c.loop-slot.slot is.pending)
    c.in-Ok-Some.field-0-is (c.in-Ok-Some.ensures.ok c.loop-slot.slot is.pending)) in
    let before = to.promises in
    let promised = c.in-Ok.ensures.ok in omega (arith, before, promised, same)

pub returns-in-Ok-Some-clause-left : goal.returns-in-Ok-Some-clause-left
returns-in-Ok-Some-clause-left g c =
    let cf = g.C.Disk.facts in
    let bf = g.B.Disk.facts in
    let n = length c.args.parts.now.run.start in
    let sectors = (cache_among cf bf c.args.parts.now.run.start).sectors in
    let v = c.args.seat.now in
    let count = c.part_count.result - 6 in
    let slots = c.slots_in-slot-end.result in
    let to = c.loop-slot.invariant in
    let is = due cf bf c.args.parts.now c.args.part count c.args.low slots v c.args.hand.now n
    c.loop-slot.slot c.in-Some.leaf c.loop-slot.seat c.loop-slot.hand c.promise.new.hand to
    c.promise.ensures.hand (count_back n c.part_count.result c.requires.leaves.0 c.part_count.ensures)
    c.in-Some.ensures in
    left_in cf bf c.args.parts.now c.args.part count c.args.low slots v c.args.hand.now n sectors
    c.loop-slot.slot c.in-Some.leaf c.in-Ok-Some.why c.loop-slot.seat c.promise.new.seat
    c.empty_leaf.new.seat c.loop-slot.hand c.promise.new.hand c.empty_leaf.new.hand to
    c.promise.ensures.hand c.promise.ensures.done is
    (subst (λ (o : Option Why). HasEmptied cf bf sectors n c.in-Some.leaf o c.promise.new.hand
    c.empty_leaf.new.hand c.promise.new.seat c.empty_leaf.new.seat c.loop-slot.slot is.pending)
    c.in-Ok-Some.field-0-is (c.in-Ok-Some.ensures.ok c.loop-slot.slot is.pending))

pub returns-in-Err-clause-part : goal.returns-in-Err-clause-part
returns-in-Err-clause-part g c = failed_part g.C.Disk.facts g.B.Disk.facts c.args.parts.now c.args.part
    (c.part_count.result - 6) c.args.low c.slots_in-slot-end.result c.args.seat.now
    c.args.hand.now c.loop-slot.slot c.in-Some.leaf c.in-Err.error c.loop-slot.seat
    c.promise.new.seat c.empty_leaf.new.seat c.loop-slot.hand c.promise.new.hand
    c.empty_leaf.new.hand c.loop-slot.invariant c.promise.ensures.hand c.promise.ensures.done
    c.in-Err.ensures.err c.empty_leaf.ensures.kinds

pub returns-in-Err-clause-come : goal.returns-in-Err-clause-come
returns-in-Err-clause-come g c = failed_come g.C.Disk.facts g.B.Disk.facts c.args.parts.now c.args.part
    (c.part_count.result - 6) c.args.low c.slots_in-slot-end.result c.args.seat.now
    c.args.hand.now c.loop-slot.slot c.in-Some.leaf c.in-Err.error c.loop-slot.seat
    c.promise.new.seat c.empty_leaf.new.seat c.loop-slot.hand c.promise.new.hand
    c.empty_leaf.new.hand c.loop-slot.invariant c.promise.ensures.hand c.promise.ensures.done
    c.in-Err.ensures.err

pub returns-in-Err-clause-most : goal.returns-in-Err-clause-most
returns-in-Err-clause-most g c =
    let few = failed_promises g.C.Disk.facts g.B.Disk.facts c.args.parts.now c.args.part
    (c.part_count.result - 6) c.args.low c.slots_in-slot-end.result c.args.seat.now
    c.args.hand.now c.loop-slot.slot c.in-Some.leaf c.in-Err.error c.loop-slot.seat
    c.promise.new.seat c.empty_leaf.new.seat c.loop-slot.hand c.promise.new.hand
    c.empty_leaf.new.hand c.loop-slot.invariant c.promise.ensures.hand c.promise.ensures.done
    c.in-Err.ensures.err in
    let before = c.loop-slot.invariant.promises in
    let promised = c.in-Ok.ensures.ok in omega (arith, few, before, promised)

pub returns-in-Err-clause-err : goal.returns-in-Err-clause-err
returns-in-Err-clause-err g c =
    let cf = g.C.Disk.facts in
    let bf = g.B.Disk.facts in
    let n = length c.args.parts.now.run.start in
    let count = c.part_count.result - 6 in
    let slots = c.slots_in-slot-end.result in
    let to = c.loop-slot.invariant in
    let is = due cf bf c.args.parts.now c.args.part count c.args.low slots c.args.seat.now
    c.args.hand.now n c.loop-slot.slot c.in-Some.leaf c.loop-slot.seat c.loop-slot.hand
    c.promise.new.hand to c.promise.ensures.hand
    (count_back n c.part_count.result c.requires.leaves.0 c.part_count.ensures)
    c.in-Some.ensures in
    failed_sets cf bf c.args.parts.now c.args.part count c.args.low slots c.args.seat.now
    c.args.hand.now c.loop-slot.slot c.in-Some.leaf c.in-Err.error c.loop-slot.seat
    c.promise.new.seat c.empty_leaf.new.seat c.loop-slot.hand c.promise.new.hand
    c.empty_leaf.new.hand to c.promise.ensures.hand c.promise.ensures.done
    c.in-Err.ensures.err c.promise.ensures.works is c.in-Err.ensures.memory

pub loop-slot-preserved : goal.loop-slot-preserved
loop-slot-preserved g c =
    let cf = g.C.Disk.facts in
    let bf = g.B.Disk.facts in
    let n = length c.args.parts.now.run.start in
    let sectors = (cache_among cf bf c.args.parts.now.run.start).sectors in
    let v = c.args.seat.now in
    let count = c.part_count.result - 6 in
    let slots = c.slots_in-slot-end.result in
    let to = c.loop-slot.invariant in
    let k = c.promise.new.hand in
    let is = due cf bf c.args.parts.now c.args.part count c.args.low slots v c.args.hand.now n
    c.loop-slot.slot c.in-Some.leaf c.loop-slot.seat c.loop-slot.hand k to
    c.promise.ensures.hand (count_back n c.part_count.result c.requires.leaves.0 c.part_count.ensures)
    c.in-Some.ensures in
    let e = subst (λ (o : Option Why). HasEmptied cf bf sectors n c.in-Some.leaf o k
    c.empty_leaf.new.hand c.promise.new.seat c.empty_leaf.new.seat c.loop-slot.slot is.pending)
    c.in-Ok-None.field-0-is (c.in-Ok-None.ensures.ok c.loop-slot.slot is.pending) in
    let none = ap (λ (h : Hand _ _). h.cache) c.promise.ensures.hand
    ∙ ap (λ (h : Hand _ _). h.cache) to.rest ∙ c.requires.alone.cache in
    let before = to.promises in
    let promised = c.in-Ok.ensures.ok in
    let left = e.0.did.is.promises in
    empties cf bf c.args.parts.now c.args.part count c.args.low slots v c.args.hand.now
    c.loop-slot.slot c.in-Some.leaf c.loop-slot.seat c.promise.new.seat c.empty_leaf.new.seat k
    c.empty_leaf.new.hand
    (subst (λ (h : Hand _ _). IsEmptiedTo cf bf c.args.parts.now c.args.part count c.args.low slots
    c.loop-slot.slot v c.args.hand.now c.loop-slot.seat h) (sym c.promise.ensures.hand) to)
    c.promise.ensures.done e.0 e.1 c.empty_leaf.ensures.works
    (rest_appended cf bf c.in-Some.leaf k c.empty_leaf.new.hand c.promise.new.seat
    c.empty_leaf.new.seat e.0 c.empty_leaf.ensures.kinds none)
    (omega (arith, before, promised, left)) c.promise.ensures.works is c.empty_leaf.ensures.keeps

pub returns-clause-knows : goal.returns-clause-knows
returns-clause-knows g c =
    let cf = g.C.Disk.facts in
    let bf = g.B.Disk.facts in
    let to = c.loop-slot.invariant in
    let test = c.loop-slot-test.false in
    let is = c.part_count.ensures in
    subst (λ n. FromEach (world cf bf c.loop-slot.seat) (PartNeedsFrom n (c.args.part - 6) c.args.low))
    (ap (λ n. n - 6) is)
    (ends cf bf c.args.parts.now c.args.part (c.part_count.result - 6) c.args.low
    c.slots_in-slot-end.result c.args.seat.now c.args.hand.now c.loop-slot.slot c.loop-slot.seat
    c.loop-slot.hand to (omega (arith, test))
    (count_less (length c.loop-slot.seat.run.start) (length c.args.parts.now.run.start)
    c.part_count.result (ap (λ (r : Run _). length r.start) to.works.run) is))
