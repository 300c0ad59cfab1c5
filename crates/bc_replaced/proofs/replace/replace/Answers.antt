use Rattle.std.proofs.Common.{inl, ◌+◌, List, length, refl, sym, ap, ◌∙◌, subst, arith}
use Rattle.std.specs.Prelude.{IfErr, OnOk, Result, is_some}
use Rattle.bc_alloc.specs.declared.purpose.NoBucket.{NoBucket}
use Rattle.bc_new_nodes.proofs.of_bc_place.Storing.{keeps_nothing}
use Rattle.bc_new_nodes.proofs.of_bc_place.Keeping.{keeps_both}
use Rattle.bc_new_nodes.specs.bc_hand.Seats.{HasNoneBehindLeaves}
use Rattle.bc_new_nodes.specs.bc_hand.declared.hand.Hand.{Hand}
use Rattle.bc_new_nodes.specs.bc_held.declared.held.HeldBucket.{HeldBucket}
use Rattle.bc_new_nodes.specs.bc_held_all.All.{AreHeld, HaveTaken, HaveTakenOr, wants_of}
use Rattle.bc_new_nodes.specs.bc_machine.World.{cache_among}
use Rattle.bc_replaced.proofs.Asking.{same_hand}
use Rattle.bc_replaced.proofs.Replacing.{all_replaced, has_buckets, has_slot, if_err, none_left, not_replaced, on_ok, roomed_now, same_roomed}
use Rattle.bc_replaced.proofs.Taking.{as_many, for_nodes, needs_few}
use Rattle.bc_replaced.specs.Given.{HasBucketsFor}
use Rattle.bc_replaced.specs.Replaced.{HasNotReplaced, HasNotReplacedIn, HasReplacedIn, HasTakenFor}
use Rattle.bc_replaced.proofs.replace.replace.Goals as goal

pub tree_in-requires : goal.tree_in-requires
tree_in-requires g c = (c.requires.leaf.spine, c.requires.leaf.is_spine)

pub needs_in-requires : goal.needs_in-requires
needs_in-requires g c =
    let h = c.args.hand.now in
    let parts = length c.args.parts.now.run.start in
    let slot = c.args.slot in
    let way = c.args.way in
    let at = c.requires.leaf in
    let tree = c.tree_in.ensures at.spine at.is_spine in
    has_slot h parts slot way at tree

pub returns-in_default-clause-err : goal.returns-in_default-clause-err
returns-in_default-clause-err g c =
    let h = c.args.hand.now in
    let parts = length c.args.parts.now.run.start in
    let slot = c.args.slot in
    let way = c.args.way in
    let at = c.requires.leaf in
    let tree = c.tree_in.ensures at.spine at.is_spine in
    record {
      at = at;
      roomed = roomed_now h parts slot way at;
      why_not = (
        refl {a = c.args.seat.now},
        c.in_default.ensures.none (has_slot h parts slot way at tree),
      );
    }

pub returns-in_default-clause-places : goal.returns-in_default-clause-places
returns-in_default-clause-places g c =
    keeps_nothing g.C.Disk.facts g.B.Disk.facts c.args.seat.now c.requires.works.seat

pub overflow_add-count : goal.overflow_add-count
overflow_add-count g c =
    let h = c.args.hand.now in
    let parts = length c.args.parts.now.run.start in
    let slot = c.args.slot in
    let way = c.args.way in
    let at = c.requires.leaf in
    let tree = c.tree_in.ensures at.spine at.is_spine in
    let n = c.in-Some.needs in
    let needed = c.in-Some.ensures.some (has_slot h parts slot way at tree) in
    let few = needs_few way at.spine.spine at.cached.leaf n needed in
    omega (arith, few)

pub numbers_left-requires : goal.numbers_left-requires
numbers_left-requires g c = (c.requires.leaf.spine, c.requires.leaf.is_spine)

pub returns-then-not-numbers_left-clause-err : goal.returns-then-not-numbers_left-clause-err
returns-then-not-numbers_left-clause-err g c =
    let h = c.args.hand.now in
    let parts = length c.args.parts.now.run.start in
    let slot = c.args.slot in
    let way = c.args.way in
    let at = c.requires.leaf in
    let tree = c.tree_in.ensures at.spine at.is_spine in
    let n = c.in-Some.needs in
    let needed = c.in-Some.ensures.some (has_slot h parts slot way at tree) in
    record {
      at = at;
      roomed = roomed_now h parts slot way at;
      why_not = (
        refl {a = c.args.seat.now},
        (
          n,
          needed,
          none_left c.numbers_left.result (at.spine.next_seq + (n.tree + n.moving))
              (c.numbers_left.ensures at.spine at.is_spine) c.if-not-numbers_left.true,
        ),
      );
    }

pub returns-then-not-numbers_left-clause-places : goal.returns-then-not-numbers_left-clause-places
returns-then-not-numbers_left-clause-places g c =
    keeps_nothing g.C.Disk.facts g.B.Disk.facts c.args.seat.now c.requires.works.seat

pub returns-in_default-with_capacity-clause-err : goal.returns-in_default-with_capacity-clause-err
returns-in_default-with_capacity-clause-err g c =
    let h = c.args.hand.now in
    let parts = length c.args.parts.now.run.start in
    let slot = c.args.slot in
    let way = c.args.way in
    let at = c.requires.leaf in
    record {
      at = at;
      roomed = roomed_now h parts slot way at;
      why_not = inl (refl {a = c.args.seat.now});
    }

pub returns-in_default-with_capacity-clause-places
    : goal.returns-in_default-with_capacity-clause-places
returns-in_default-with_capacity-clause-places g c =
    keeps_nothing g.C.Disk.facts g.B.Disk.facts c.args.seat.now c.requires.works.seat

pub take_buckets-requires-clause-promise : goal.take_buckets-requires-clause-promise
take_buckets-requires-clause-promise g c =
    let h = c.args.hand.now in
    let parts = length c.args.parts.now.run.start in
    let slot = c.args.slot in
    let way = c.args.way in
    let at = c.requires.leaf in
    let tree = c.tree_in.ensures at.spine at.is_spine in
    let n = c.in-Some.needs in
    let needed = c.in-Some.ensures.some (has_slot h parts slot way at tree) in
    let few = needs_few way at.spine.spine at.cached.leaf n needed in
    let had = c.requires.promise in
    omega (arith, few, had)

pub take_buckets-requires-clause-spine : goal.take_buckets-requires-clause-spine
take_buckets-requires-clause-spine g c =
    ap (λ o. is_some o) c.requires.leaf.is_spine

pub take_buckets-requires-clause-order : goal.take_buckets-requires-clause-order
take_buckets-requires-clause-order g c none =
    record {
      journal = c.requires.behind.journal;
      cache = c.requires.behind.cache;
      backing = c.requires.behind.backing;
    }

pub returns-in-Err-clause-err : goal.returns-in-Err-clause-err
returns-in-Err-clause-err g c =
    let cf = g.C.Disk.facts in
    let bf = g.B.Disk.facts in
    let h = c.args.hand.now in
    let parts = length c.args.parts.now.run.start in
    let slot = c.args.slot in
    let way = c.args.way in
    let at = c.requires.leaf in
    let tree = c.tree_in.ensures at.spine at.is_spine in
    let n = c.in-Some.needs in
    let needed = c.in-Some.ensures.some (has_slot h parts slot way at tree) in
    let v = c.args.seat.now in
    let u = c.take_buckets.new.seat in
    let k = c.take_buckets.new.hand in
    let same = same_hand h k c.requires.behind c.take_buckets.ensures.hand
    c.take_buckets.ensures.rest in
    record {
      at = at;
      roomed = same_roomed h parts slot way at k same;
      buckets = c.take_buckets.new.into.items;
      needs = n;
      needed = needed;
      far = inl c.in-Err.ensures.err;
    }

pub returns-in-Err-clause-left : goal.returns-in-Err-clause-left
returns-in-Err-clause-left g c =
    let h = c.args.hand.now in
    let parts = length c.args.parts.now.run.start in
    let slot = c.args.slot in
    let way = c.args.way in
    let at = c.requires.leaf in
    let tree = c.tree_in.ensures at.spine at.is_spine in
    let n = c.in-Some.needs in
    let needed = c.in-Some.ensures.some (has_slot h parts slot way at tree) in
    let few = needs_few way at.spine.spine at.cached.leaf n needed in
    let taking = c.take_buckets.ensures.left in
    omega (arith, few, taking)

pub returns-in-Ok-Err-clause-err : goal.returns-in-Ok-Err-clause-err
returns-in-Ok-Err-clause-err g c =
    let cf = g.C.Disk.facts in
    let bf = g.B.Disk.facts in
    let h = c.args.hand.now in
    let parts = length c.args.parts.now.run.start in
    let slot = c.args.slot in
    let way = c.args.way in
    let at = c.requires.leaf in
    let tree = c.tree_in.ensures at.spine at.is_spine in
    let n = c.in-Some.needs in
    let needed = c.in-Some.ensures.some (has_slot h parts slot way at tree) in
    let v = c.args.seat.now in
    let u = c.take_buckets.new.seat in
    let k = c.take_buckets.new.hand in
    let same = same_hand h k c.requires.behind c.take_buckets.ensures.hand
    c.take_buckets.ensures.rest in
    let none = subst (λ (r : Result (Unit {0}) NoBucket).
    HaveTakenOr cf bf c.args.before (wants_of n) r c.take_buckets.new.into.items v u)
    c.in-Ok-Err.field-0-is c.in-Ok-Err.ensures.ok in
    record {
      at = at;
      roomed = same_roomed h parts slot way at k same;
      why_not = (n, needed, none.1);
    }

pub returns-in-Ok-Err-clause-left : goal.returns-in-Ok-Err-clause-left
returns-in-Ok-Err-clause-left g c =
    let h = c.args.hand.now in
    let parts = length c.args.parts.now.run.start in
    let slot = c.args.slot in
    let way = c.args.way in
    let at = c.requires.leaf in
    let tree = c.tree_in.ensures at.spine at.is_spine in
    let n = c.in-Some.needs in
    let needed = c.in-Some.ensures.some (has_slot h parts slot way at tree) in
    let few = needs_few way at.spine.spine at.cached.leaf n needed in
    let taking = c.take_buckets.ensures.left in
    omega (arith, few, taking)

pub replace_in-requires-clause-promise : goal.replace_in-requires-clause-promise
replace_in-requires-clause-promise g c =
    let cf = g.C.Disk.facts in
    let bf = g.B.Disk.facts in
    let h = c.args.hand.now in
    let parts = length c.args.parts.now.run.start in
    let slot = c.args.slot in
    let way = c.args.way in
    let at = c.requires.leaf in
    let tree = c.tree_in.ensures at.spine at.is_spine in
    let n = c.in-Some.needs in
    let needed = c.in-Some.ensures.some (has_slot h parts slot way at tree) in
    let v = c.args.seat.now in
    let u = c.take_buckets.new.seat in
    let k = c.take_buckets.new.hand in
    let same = same_hand h k c.requires.behind c.take_buckets.ensures.hand
    c.take_buckets.ensures.rest in
    let bs = c.deref.result.now in
    let took = subst (λ (l : List HeldBucket). HaveTaken cf bf c.args.before (wants_of n) l v u)
    (sym c.deref.ensures.value) (subst (λ (r : Result (Unit {0}) NoBucket).
    HaveTakenOr cf bf c.args.before (wants_of n) r c.take_buckets.new.into.items v u)
    c.in-Ok-Ok.field-0-is c.in-Ok-Ok.ensures.ok) in
    let many = as_many cf bf c.args.before n bs v u took in
    let few = needs_few way at.spine.spine at.cached.leaf n needed in
    let had = c.requires.promise in
    let taking = c.take_buckets.ensures.left in
    omega (arith, few, had, taking, many)

pub replace_in-requires-clause-behind : goal.replace_in-requires-clause-behind
replace_in-requires-clause-behind g c =
    let cf = g.C.Disk.facts in
    let bf = g.B.Disk.facts in
    let h = c.args.hand.now in
    let parts = length c.args.parts.now.run.start in
    let slot = c.args.slot in
    let way = c.args.way in
    let at = c.requires.leaf in
    let tree = c.tree_in.ensures at.spine at.is_spine in
    let n = c.in-Some.needs in
    let needed = c.in-Some.ensures.some (has_slot h parts slot way at tree) in
    let v = c.args.seat.now in
    let u = c.take_buckets.new.seat in
    let k = c.take_buckets.new.hand in
    let same = same_hand h k c.requires.behind c.take_buckets.ensures.hand
    c.take_buckets.ensures.rest in
    subst (λ (x : Hand _ _). HasNoneBehindLeaves x) (sym same) c.requires.behind

pub replace_in-requires-clause-before : goal.replace_in-requires-clause-before
replace_in-requires-clause-before g c =
    c.take_buckets.ensures.places.opening.before c.args.before c.requires.before

pub replace_in-requires-clause-leaf : goal.replace_in-requires-clause-leaf
replace_in-requires-clause-leaf g c =
    let cf = g.C.Disk.facts in
    let bf = g.B.Disk.facts in
    let h = c.args.hand.now in
    let parts = length c.args.parts.now.run.start in
    let slot = c.args.slot in
    let way = c.args.way in
    let at = c.requires.leaf in
    let tree = c.tree_in.ensures at.spine at.is_spine in
    let n = c.in-Some.needs in
    let needed = c.in-Some.ensures.some (has_slot h parts slot way at tree) in
    let v = c.args.seat.now in
    let u = c.take_buckets.new.seat in
    let k = c.take_buckets.new.hand in
    let same = same_hand h k c.requires.behind c.take_buckets.ensures.hand
    c.take_buckets.ensures.rest in
    let bs = c.deref.result.now in
    let took = subst (λ (l : List HeldBucket). HaveTaken cf bf c.args.before (wants_of n) l v u)
    (sym c.deref.ensures.value) (subst (λ (r : Result (Unit {0}) NoBucket).
    HaveTakenOr cf bf c.args.before (wants_of n) r c.take_buckets.new.into.items v u)
    c.in-Ok-Ok.field-0-is c.in-Ok-Ok.ensures.ok) in
    let many = as_many cf bf c.args.before n bs v u took in
    let has = has_buckets h parts slot way at bs n needed many
    (for_nodes cf bf c.args.before n bs v u took)
    ((c.numbers_left.ensures at.spine at.is_spine).0 c.if-not-numbers_left.false) in
    subst (λ (x : Hand _ _). HasBucketsFor x parts way slot bs) (sym same) has

pub replace_in-requires-clause-are : goal.replace_in-requires-clause-are
replace_in-requires-clause-are g c =
    subst (λ (l : List HeldBucket). AreHeld g.C.Disk.facts g.B.Disk.facts l
    c.take_buckets.new.seat) (sym c.deref.ensures.value) c.in-Ok-Ok.ensures.are

pub returns-clause-kinds : goal.returns-clause-kinds
returns-clause-kinds g c =
    c.replace_in.ensures.kinds ∙ c.take_buckets.ensures.hand

pub returns-clause-ok : goal.returns-clause-ok
returns-clause-ok g c =
    let cf = g.C.Disk.facts in
    let bf = g.B.Disk.facts in
    let h = c.args.hand.now in
    let parts = length c.args.parts.now.run.start in
    let slot = c.args.slot in
    let way = c.args.way in
    let at = c.requires.leaf in
    let tree = c.tree_in.ensures at.spine at.is_spine in
    let n = c.in-Some.needs in
    let needed = c.in-Some.ensures.some (has_slot h parts slot way at tree) in
    let v = c.args.seat.now in
    let u = c.take_buckets.new.seat in
    let k = c.take_buckets.new.hand in
    let same = same_hand h k c.requires.behind c.take_buckets.ensures.hand
    c.take_buckets.ensures.rest in
    let bs = c.deref.result.now in
    let took = subst (λ (l : List HeldBucket). HaveTaken cf bf c.args.before (wants_of n) l v u)
    (sym c.deref.ensures.value) (subst (λ (r : Result (Unit {0}) NoBucket).
    HaveTakenOr cf bf c.args.before (wants_of n) r c.take_buckets.new.into.items v u)
    c.in-Ok-Ok.field-0-is c.in-Ok-Ok.ensures.ok) in
    let many = as_many cf bf c.args.before n bs v u took in
    let has = has_buckets h parts slot way at bs n needed many
    (for_nodes cf bf c.args.before n bs v u took)
    ((c.numbers_left.ensures at.spine at.is_spine).0 c.if-not-numbers_left.false) in
    let w = c.replace_in.new.seat in
    let last = c.replace_in.new.hand in
    let r = c.replace_in.result in
    let all : HasTakenFor cf bf c.args.before at bs v u =
    record { needs = n; needed = needed; took = took } in
    let its = subst (λ (x : Hand _ _). (had : HasBucketsFor x parts way slot bs)
    → OnOk r (HasReplacedIn cf bf c.args.before had.leaf bs last u w)) same
    c.replace_in.ensures.ok in
    on_ok r (all_replaced h parts slot way at cf bf 0 c.args.sectors c.args.before bs v u w all
    last) (its has)

pub returns-clause-err : goal.returns-clause-err
returns-clause-err g c =
    let cf = g.C.Disk.facts in
    let bf = g.B.Disk.facts in
    let h = c.args.hand.now in
    let parts = length c.args.parts.now.run.start in
    let slot = c.args.slot in
    let way = c.args.way in
    let at = c.requires.leaf in
    let tree = c.tree_in.ensures at.spine at.is_spine in
    let n = c.in-Some.needs in
    let needed = c.in-Some.ensures.some (has_slot h parts slot way at tree) in
    let v = c.args.seat.now in
    let u = c.take_buckets.new.seat in
    let k = c.take_buckets.new.hand in
    let same = same_hand h k c.requires.behind c.take_buckets.ensures.hand
    c.take_buckets.ensures.rest in
    let bs = c.deref.result.now in
    let took = subst (λ (l : List HeldBucket). HaveTaken cf bf c.args.before (wants_of n) l v u)
    (sym c.deref.ensures.value) (subst (λ (r : Result (Unit {0}) NoBucket).
    HaveTakenOr cf bf c.args.before (wants_of n) r c.take_buckets.new.into.items v u)
    c.in-Ok-Ok.field-0-is c.in-Ok-Ok.ensures.ok) in
    let many = as_many cf bf c.args.before n bs v u took in
    let has = has_buckets h parts slot way at bs n needed many
    (for_nodes cf bf c.args.before n bs v u took)
    ((c.numbers_left.ensures at.spine at.is_spine).0 c.if-not-numbers_left.false) in
    let w = c.replace_in.new.seat in
    let last = c.replace_in.new.hand in
    let r = c.replace_in.result in
    let all : HasTakenFor cf bf c.args.before at bs v u =
    record { needs = n; needed = needed; took = took } in
    let sectors = (cache_among cf bf c.args.parts.now.run.start).sectors in
    let its = subst (λ (x : Hand _ _). (had : HasBucketsFor x parts way slot bs)
    → IfErr r (λ e. HasNotReplacedIn cf bf sectors c.args.sectors c.args.before had.leaf bs e last u
    w)) same c.replace_in.ensures.err in
    if_err (λ e. HasNotReplacedIn cf bf sectors c.args.sectors c.args.before at bs e last u w)
    (λ e. HasNotReplaced cf bf sectors c.args.sectors parts c.args.before slot way e h last v w) r
    (not_replaced h parts slot way at cf bf sectors c.args.sectors c.args.before bs v u w all last)
    (its has)

pub returns-clause-left : goal.returns-clause-left
returns-clause-left g c =
    let cf = g.C.Disk.facts in
    let bf = g.B.Disk.facts in
    let h = c.args.hand.now in
    let parts = length c.args.parts.now.run.start in
    let slot = c.args.slot in
    let way = c.args.way in
    let at = c.requires.leaf in
    let tree = c.tree_in.ensures at.spine at.is_spine in
    let n = c.in-Some.needs in
    let needed = c.in-Some.ensures.some (has_slot h parts slot way at tree) in
    let v = c.args.seat.now in
    let u = c.take_buckets.new.seat in
    let k = c.take_buckets.new.hand in
    let same = same_hand h k c.requires.behind c.take_buckets.ensures.hand
    c.take_buckets.ensures.rest in
    let bs = c.deref.result.now in
    let took = subst (λ (l : List HeldBucket). HaveTaken cf bf c.args.before (wants_of n) l v u)
    (sym c.deref.ensures.value) (subst (λ (r : Result (Unit {0}) NoBucket).
    HaveTakenOr cf bf c.args.before (wants_of n) r c.take_buckets.new.into.items v u)
    c.in-Ok-Ok.field-0-is c.in-Ok-Ok.ensures.ok) in
    let many = as_many cf bf c.args.before n bs v u took in
    let few = needs_few way at.spine.spine at.cached.leaf n needed in
    let had = c.requires.promise in
    let taking = c.take_buckets.ensures.left in
    let making = c.replace_in.ensures.left in
    omega (arith, few, had, taking, making, many)

pub returns-clause-places : goal.returns-clause-places
returns-clause-places g c =
    keeps_both g.C.Disk.facts g.B.Disk.facts c.args.seat.now c.take_buckets.new.seat
    c.replace_in.new.seat c.take_buckets.ensures.places c.replace_in.ensures.places
