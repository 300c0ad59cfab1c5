use Rattle.std.proofs.Common.{Some, refl, subst}
use Rattle.bc_events.specs.declared.event.Deed.TheVariants as deed
use Rattle.bc_events.specs.declared.event.MarkForm.TheVariants as mark
use Rattle.bc_leaf_walk.proofs.Doing.{at_with, has_leaf, may_walk_it, same_leaf, works_waited, works_walked}
use Rattle.bc_leaf_walk.specs.Pieces.{HasCounted}
use Rattle.bc_mark.proofs.Doing.{buckets_changed}
use Rattle.bc_mark.proofs.of_bc_deed.May.{kept_as}
use Rattle.bc_mark.proofs.of_bc_place.Keeping.{keeps_deed, keeps_waited}
use Rattle.bc_mark.proofs.of_bc_place.Storing.{cached_by}
use Rattle.bc_node.specs.Leaf.{AreProperKeys, Leaf}
use Rattle.bc_leaf_walk.proofs.leaf.walk_in.Goals as goal

pub unreachable-requires-in_default-find : goal.unreachable-requires-in_default-find
unreachable-requires-in_default-find g c = c.in_default-find.ensures c.requires.can.0
    (has_leaf c.args.hand.now c.requires.can.0 c.args.leaf c.requires.can.1 c.in-Some.leaves
    c.in-Some.is)

pub commit-requires-clause-may : goal.commit-requires-clause-may
commit-requires-clause-may g c = may_walk_it g.C.Disk.facts g.B.Disk.facts c.args.parts.now
    c.args.seat.now (record c.args.hand.now { buckets = Some c.args.part.now }) c.args.part.now refl
    c.requires.works (cached_by g.C.Disk.facts g.B.Disk.facts c.args.parts.now c.args.seat.now
    c.requires.works.run c.requires.cached) c.args.leaf c.requires.can.2.going

pub returns-in-Err-clause-works : goal.returns-in-Err-clause-works
returns-in-Err-clause-works g c = works_waited g.C.Disk.facts g.B.Disk.facts c.args.parts.now
    c.args.seat.now (record c.args.hand.now { buckets = Some c.args.part.now }) c.args.part.now refl
    c.requires.works (cached_by g.C.Disk.facts g.B.Disk.facts c.args.parts.now c.args.seat.now
    c.requires.works.run c.requires.cached) c.commit.new.seat c.in-Err.ensures.err
    (kept_as g.C.Disk.facts g.B.Disk.facts c.args.seat.now c.commit.new.seat _ _ buckets_changed
    c.commit.ensures.kept)

pub returns-in-Err-clause-keeps : goal.returns-in-Err-clause-keeps
returns-in-Err-clause-keeps g c = keeps_waited g.C.Disk.facts g.B.Disk.facts c.args.seat.now
    c.commit.new.seat c.requires.works.seat c.in-Err.ensures.err.is

pub returns-clause-part : goal.returns-clause-part
returns-clause-part g c = λ slot at. subst (λ (l : Leaf). HasCounted c.args.before l c.args.part.now
    c.count_leaf.new.part) (same_leaf c.args.hand.now slot c.args.leaf at c.in-Some.leaves c.in-Some.is
    c.in-Some-find.slot c.in-Some-find.ensures c.leaf.result.now c.leaf.ensures)
    c.count_leaf.ensures.counted

pub returns-clause-works : goal.returns-clause-works
returns-clause-works g c =
    let slot = c.requires.can.0 in
    let at = c.requires.can.1 in
    let next = c.requires.can.2 in
    let same = same_leaf c.args.hand.now slot c.args.leaf at c.in-Some.leaves c.in-Some.is
    c.in-Some-find.slot c.in-Some-find.ensures c.leaf.result.now c.leaf.ensures in
    works_walked g.C.Disk.facts g.B.Disk.facts c.args.parts.now
    c.args.seat.now (record c.args.hand.now { buckets = Some c.args.part.now }) c.args.part.now refl
    c.requires.works (cached_by g.C.Disk.facts g.B.Disk.facts c.args.parts.now c.args.seat.now
    c.requires.works.run c.requires.cached) c.args.leaf slot
    (at_with c.args.hand.now (Some c.args.part.now) slot c.args.leaf at) c.ranges.leaf.fits next.going
    next.next next.more
    (subst (λ (l : Leaf). AreProperKeys l.from l.end l.keys) same c.count_leaf.ensures.proper)
    c.args.before c.requires.before c.commit.new.seat c.in_default-commit.ensures.ok
    c.count_leaf.new.part
    (subst (λ (l : Leaf). HasCounted c.args.before l c.args.part.now c.count_leaf.new.part) same
    c.count_leaf.ensures.counted)
    (kept_as g.C.Disk.facts g.B.Disk.facts c.args.seat.now c.commit.new.seat _ _ buckets_changed
    c.commit.ensures.kept)

pub returns-clause-keeps : goal.returns-clause-keeps
returns-clause-keeps g c = keeps_deed g.C.Disk.facts g.B.Disk.facts c.args.seat.now
    c.commit.new.seat (deed.Mark (mark.Walk c.args.leaf)) c.requires.works.seat refl
    c.in_default-commit.ensures.ok
