use Rattle.std.proofs.Common.{subst, sym, arith}
use Rattle.bc_fetch.proofs.Ways.{waited_done}
use Rattle.bc_fetch.specs.bc_machine.World.{World}
use Rattle.bc_dirty.specs.Walk.{TellsFrom}
use Rattle.bc_dirty.proofs.Walking.{all_read, in_slot, no_deed, read_before, seen_leaf, tells_from}
use Rattle.bc_dirty.proofs.leaf.see_in.Goals as goal

pub seen_in-seen-requires : goal.seen_in-seen-requires
seen_in-seen-requires g c = record {
  there = let of = in_slot c.leaf_at.new.hand c.in-Ok.number c.args.first 1 c.in-Ok.ensures.ok in
      (of.0, of.1, (c.in-Ok.ensures.ok.slot, of.2));
}

pub returns-clause-ok : goal.returns-clause-ok
returns-clause-ok g c = read_before g.C.Disk.facts g.B.Disk.facts c.args.seat.now
    c.leaf_at.new.seat c.give_leaves.new.seat c.in-Ok.ensures.did
    (waited_done g.C.Disk.facts g.B.Disk.facts c.leaf_at.new.seat c.give_leaves.new.seat
    c.give_leaves.ensures.works.seat c.give_leaves.ensures.waited)

pub returns-clause-end : goal.returns-clause-end
returns-clause-end g c =
    let of = in_slot c.leaf_at.new.hand c.in-Ok.number c.args.first 1 c.in-Ok.ensures.ok in
    let is = seen_leaf c.leaf_at.new.hand c.in-Ok.number c.args.first 1 c.seen_in-seen.result
    c.in-Ok.ensures.ok (c.seen_in-seen.ensures c.in-Ok.ensures.ok.slot of) in
    let same = is.0 in
    let end = c.in-Ok.ensures.ok.has.end in omega (arith, same, end)

pub returns-clause-told : goal.returns-clause-told
returns-clause-told g c =
    let of = in_slot c.leaf_at.new.hand c.in-Ok.number c.args.first 1 c.in-Ok.ensures.ok in
    subst (λ (x : World). TellsFrom c.args.first c.seen_in-seen.result x)
    (sym (no_deed g.C.Disk.facts g.B.Disk.facts c.leaf_at.new.seat c.give_leaves.new.seat
    (all_read g.C.Disk.facts g.B.Disk.facts c.args.seat.now c.leaf_at.new.seat c.requires.all
    c.in-Ok.ensures.did)
    (waited_done g.C.Disk.facts g.B.Disk.facts c.leaf_at.new.seat c.give_leaves.new.seat
    c.give_leaves.ensures.works.seat c.give_leaves.ensures.waited)
    c.give_leaves.ensures.works.seat))
    (tells_from g.C.Disk.facts g.B.Disk.facts c.args.parts.now c.leaf_at.new.seat
    c.leaf_at.new.hand c.in-Ok.number c.args.first c.seen_in-seen.result c.leaf_at.ensures.works
    c.in-Ok.ensures.ok (c.seen_in-seen.ensures c.in-Ok.ensures.ok.slot of))
