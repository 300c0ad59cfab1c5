use Rattle.std.proofs.Common.{◌≡◌, ◌*◌, ◌/◌, length, ◌∙◌}
use Rattle.bc_cache.specs.Slots.{Misses, NodeCache, NoneCanGo}
use Rattle.bc_sight.proofs.of_bc_deed.May.{map_if_err}
use Rattle.bc_sight.specs.bc_machine.World.{cache_among}
use Rattle.bc_fetch.specs.Fetch.{HasTaken}
use Rattle.bc_fetch.proofs.Fetching.{both_after, map_if_ok, no_leaf_before, of_after, part_after, spine_after, stopped_by}
use Rattle.bc_fetch.proofs.fetch.read_into.Goals as goal

pub take_in-requires-clause-spine : goal.take_in-requires-clause-spine
take_in-requires-clause-spine g c = spine_after c.args.hand.now c.read_node.new.hand
    c.args.range.now c.read_node.ensures.hand c.requires.spine

pub take_in-requires-clause-part : goal.take_in-requires-clause-part
take_in-requires-clause-part g c = part_after c.args.hand.now c.read_node.new.hand _
    c.read_node.ensures.hand c.requires.part

pub take_in-requires-clause-new : goal.take_in-requires-clause-new
take_in-requires-clause-new g c = of_after c.args.hand.now c.read_node.new.hand
    (λ (x : NodeCache). Misses x.slots c.args.range.now.number) c.read_node.ensures.hand
    c.requires.new

pub take_in-requires-clause-some : goal.take_in-requires-clause-some
take_in-requires-clause-some g c = of_after c.args.hand.now c.read_node.new.hand
    (λ (x : NodeCache). NoneCanGo x.slots → ⊥) c.read_node.ensures.hand c.requires.some

pub take_in-requires-clause-begins : goal.take_in-requires-clause-begins
take_in-requires-clause-begins g c = of_after c.args.hand.now c.read_node.new.hand
    (λ (x : NodeCache). c.args.bucket ≡ c.args.range.now.ptr.offset / x.geometry.bucket)
    c.read_node.ensures.hand c.requires.begins

pub take_in-requires-clause-whole : goal.take_in-requires-clause-whole
take_in-requires-clause-whole g c = of_after c.args.hand.now c.read_node.new.hand
    (λ (x : NodeCache). length c.read_node.new.into ≡ 512 * x.geometry.node_sectors)
    c.read_node.ensures.hand
    (c.requires.whole.0, c.requires.whole.1, c.read_node.auto.into ∙ c.requires.whole.2)

pub returns-in-Ok-clause-slots : goal.returns-in-Ok-clause-slots
returns-in-Ok-clause-slots g c = map_if_ok c.take_in.result (λ slot both.
    both_after c.args.hand.now c.read_node.new.hand c.take_in.new.hand
    (HasTaken slot c.args.range.now.number) c.read_node.ensures.hand both) c.take_in.ensures.slots

pub returns-in-Ok-clause-err : goal.returns-in-Ok-clause-err
returns-in-Ok-clause-err g c = map_if_err c.take_in.result (λ e none.
    stopped_by g.C.Disk.facts g.B.Disk.facts c.args.hand.now c.args.range.now
    (cache_among g.C.Disk.facts g.B.Disk.facts c.args.parts.now.run.start).sectors c.args.seat.now
    c.read_node.new.seat e
    (no_leaf_before g.C.Disk.facts g.B.Disk.facts c.args.hand.now c.read_node.new.hand
    c.args.range.now c.read_node.new.seat c.read_node.ensures.hand e none) c.in-Ok.ensures.ok)
    c.take_in.ensures.err
