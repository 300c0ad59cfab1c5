use Rattle.std.proofs.Common.{◌+◌, ◌-◌, ◌%◌, ap, ◌∙◌, sym, subst, arith}
use Rattle.bc_fetch.specs.Fetch.{HasPart}
use Rattle.bc_fetch.specs.bc_hand.Seats.{note}
use Rattle.bc_fetch.specs.bc_hand.declared.hand.Hand.{Hand}
use Rattle.bc_reader.proofs.Finding.{leaf_moved, waited_done}
use Rattle.bc_reader.proofs.Looking.{buckets_only, over_same, part_moved, range_still, range_way, seen_at, stopped_in, waited_twice}
use Rattle.bc_reader.proofs.look.look_at.Goals as goal

pub look_in-found-requires-clause-both : goal.look_in-found-requires-clause-both
look_in-found-requires-clause-both g c = record {
  slot = c.in-Ok.ensures.ok.slot;
  cached = c.in-Ok.ensures.ok.cached;
  leaf = leaf_moved c.leaf_at.new.hand c.take_buckets.new.hand c.in-Ok.number c.args.first
      c.args.count c.in-Ok.ensures.ok.slot c.in-Ok.ensures.ok.cached
      (ap (λ (h : Hand _ _). h.leaves) c.take_buckets.ensures.hand) c.in-Ok.ensures.ok.has;
  buckets = c.take_buckets.ensures.has;
}

pub look_in-found-requires-clause-range : goal.look_in-found-requires-clause-range
look_in-found-requires-clause-range g c = over_same
    (note g.C.Disk.facts g.B.Disk.facts c.args.seat.now).range
    (note g.C.Disk.facts g.B.Disk.facts c.take_buckets.new.seat).range c.args.first c.args.count
    (range_way g.C.Disk.facts g.B.Disk.facts c.args.seat.now c.leaf_at.new.seat
    c.take_buckets.new.seat c.in-Ok.ensures.did c.take_buckets.ensures.works.seat
    c.take_buckets.ensures.waited) c.requires.range

pub give_leaves-requires-clause-has : goal.give_leaves-requires-clause-has
give_leaves-requires-clause-has g c =
    subst (λ n. HasPart c.look_in-found.new.hand (6 + c.in-Ok.number % (n - 6)))
    (sym c.part_count.ensures)
    (part_moved c.leaf_at.new.hand c.look_in-found.new.hand _
    (ap (λ (h : Hand _ _). h.leaves) c.look_in-found.ensures.hand.rest
    ∙ ap (λ (h : Hand _ _). h.leaves) c.take_buckets.ensures.hand) c.in-Ok.ensures.part)

pub give_buckets-requires-clause-has : goal.give_buckets-requires-clause-has
give_buckets-requires-clause-has g c = record {
  part = c.take_buckets.ensures.has.part;
  is = ap (λ (h : Hand _ _). h.buckets) c.give_leaves.ensures.hand
      ∙ ap (λ (h : Hand _ _). h.buckets) c.look_in-found.ensures.hand.rest
      ∙ c.take_buckets.ensures.has.is;
}

pub returns-in-Ok-found-clause-hand : goal.returns-in-Ok-found-clause-hand
returns-in-Ok-found-clause-hand g c = buckets_only c.leaf_at.new.hand c.take_buckets.new.hand
    c.look_in-found.new.hand c.give_leaves.new.hand c.in-Ok.ensures.ok.rest
    c.take_buckets.ensures.hand c.look_in-found.ensures.hand c.give_leaves.ensures.hand

pub returns-in-Ok-found-clause-claim : goal.returns-in-Ok-found-clause-claim
returns-in-Ok-found-clause-claim g c =
    range_still g.C.Disk.facts g.B.Disk.facts c.look_in-found.new.seat c.give_leaves.new.seat
    (waited_done g.C.Disk.facts g.B.Disk.facts c.look_in-found.new.seat c.give_leaves.new.seat
    c.give_leaves.ensures.works.seat c.give_leaves.ensures.waited)
    ∙ c.look_in-found.ensures.claim
    ∙ range_way g.C.Disk.facts g.B.Disk.facts c.args.seat.now c.leaf_at.new.seat
    c.take_buckets.new.seat c.in-Ok.ensures.did c.take_buckets.ensures.works.seat
    c.take_buckets.ensures.waited

pub returns-in-Ok-found-clause-ok : goal.returns-in-Ok-found-clause-ok
returns-in-Ok-found-clause-ok g c = (
  seen_at g.C.Disk.facts g.B.Disk.facts c.args.parts.now c.args.first c.args.count c.in-Ok.number
      c.args.seat.now c.leaf_at.new.seat c.take_buckets.new.seat c.look_in-found.new.seat
      c.give_leaves.new.seat c.look_in-found.new.hand c.give_leaves.new.hand c.in-Ok.ensures.did
      c.take_buckets.ensures.waited c.take_buckets.ensures.works.seat c.look_in-found.ensures.works
      c.in-Ok-found.seen c.in-Ok-found.ensures.ok.0 c.in-Ok-found.ensures.did
      c.in-Ok-found.ensures.knows c.give_leaves.ensures.waited c.give_leaves.ensures.works.seat
      (ap (λ (h : Hand _ _). h.buckets) c.give_leaves.ensures.hand),
  c.in-Ok-found.ensures.ok.1,
  (let all = c.in-Ok-found.ensures.ok.2 in let one = c.in-Ok.ensures.left in
      let a = c.take_buckets.ensures.waited.promises in
      let b = c.give_leaves.ensures.waited.promises in omega (arith, all, one, a, b)),
)

pub returns-in-Err-found-clause-claim : goal.returns-in-Err-found-clause-claim
returns-in-Err-found-clause-claim g c =
    range_still g.C.Disk.facts g.B.Disk.facts c.look_in-found.new.seat c.give_buckets.new.seat
    (waited_twice g.C.Disk.facts g.B.Disk.facts c.look_in-found.new.seat c.give_leaves.new.seat
    c.give_buckets.new.seat c.give_leaves.ensures.works.seat c.give_leaves.ensures.waited
    (waited_done g.C.Disk.facts g.B.Disk.facts c.give_leaves.new.seat c.give_buckets.new.seat
    c.give_buckets.ensures.works.seat c.give_buckets.ensures.waited))
    ∙ c.look_in-found.ensures.claim
    ∙ range_way g.C.Disk.facts g.B.Disk.facts c.args.seat.now c.leaf_at.new.seat
    c.take_buckets.new.seat c.in-Ok.ensures.did c.take_buckets.ensures.works.seat
    c.take_buckets.ensures.waited

pub returns-in-Err-found-clause-err : goal.returns-in-Err-found-clause-err
returns-in-Err-found-clause-err g c = stopped_in g.C.Disk.facts g.B.Disk.facts c.args.parts.now
    c.args.first c.args.count c.in-Ok.number c.args.seat.now c.leaf_at.new.seat
    c.take_buckets.new.seat c.look_in-found.new.seat c.give_buckets.new.seat
    c.look_in-found.new.hand c.give_buckets.new.hand c.in-Ok.ensures.did
    c.take_buckets.ensures.waited c.take_buckets.ensures.works.seat c.look_in-found.ensures.works
    c.in-Err-found.error c.in-Err-found.ensures.err
    (waited_twice g.C.Disk.facts g.B.Disk.facts c.look_in-found.new.seat c.give_leaves.new.seat
    c.give_buckets.new.seat c.give_leaves.ensures.works.seat c.give_leaves.ensures.waited
    (waited_done g.C.Disk.facts g.B.Disk.facts c.give_leaves.new.seat c.give_buckets.new.seat
    c.give_buckets.ensures.works.seat c.give_buckets.ensures.waited))
