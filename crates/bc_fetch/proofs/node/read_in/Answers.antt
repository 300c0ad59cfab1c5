use Rattle.std.proofs.Common.{None, Some, ◌+◌, ◌/◌, ◌≤◌, length, sym, ap, ◌∙◌, subst}
use Rattle.bc_model.specs.Sector.{values_of}
use Rattle.bc_events.specs.declared.event.Deed.TheVariants as deed
use Rattle.bc_sight.specs.bc_hand.Seats.{Did}
use Rattle.bc_parts.specs.Seat.{Run}
use Rattle.bc_sight.specs.bc_machine.declared.part.CorePart.{CorePart}
use Rattle.bc_sight.specs.bc_machine.World.{cache_among}
use Rattle.bc_sight.proofs.Reading.{cache_changed, cache_sectors, failed_read_stands, may_fail_cache_read}
use Rattle.bc_fetch.proofs.Reading.{may_read_node, node_read_stands, stand_at}
use Rattle.bc_fetch.proofs.node.read_in.Goals as goal

pub called-requires-clause-may : goal.called-requires-clause-may
called-requires-clause-may g c = may_read_node g.C.Disk.facts g.B.Disk.facts c.args.seat.now
    c.requires.seat c.requires.unheard c.args.at c.new-values.result

pub called-requires-clause-alone : goal.called-requires-clause-alone
called-requires-clause-alone g c = cache_changed g.C.Disk.facts g.B.Disk.facts

pub called-requires-in-Err-clause-alone : goal.called-requires-in-Err-clause-alone
called-requires-in-Err-clause-alone g c = cache_changed g.C.Disk.facts g.B.Disk.facts

pub called-requires-in-Err-clause-may : goal.called-requires-in-Err-clause-may
called-requires-in-Err-clause-may g c = may_fail_cache_read g.C.Disk.facts g.B.Disk.facts
    c.args.seat.now c.requires.seat c.requires.unheard

pub returns-in-Ok-clause-cache : goal.returns-in-Ok-clause-cache
returns-in-Ok-clause-cache g c = node_read_stands g.C.Disk.facts g.B.Disk.facts c.args.seat.now
    c.called.new.seat c.args.cache.now _ c.args.at c.requires.seat c.requires.holds c.requires.cache
    (subst (λ vs. Did g.C.Disk.facts g.B.Disk.facts (Some (deed.CacheRead c.args.at None vs))
    c.args.seat.now c.called.new.seat) c.new-values.ensures c.called.ensures.did)
    c.in-Ok.ensures.kept c.in-Ok.ensures.counted

pub returns-in-Ok-clause-read : goal.returns-in-Ok-clause-read
returns-in-Ok-clause-read g c = stand_at g.C.Disk.facts g.B.Disk.facts c.args.seat.now
    c.args.cache.now c.args.at (values_of c.read.new.into) c.in-Ok.ensures.ok c.called.new.seat
    c.requires.seat c.requires.holds c.requires.cache
    (subst (λ vs. Did g.C.Disk.facts g.B.Disk.facts (Some (deed.CacheRead c.args.at None vs))
    c.args.seat.now c.called.new.seat) c.new-values.ensures c.called.ensures.did)

pub returns-in-Err-clause-cache : goal.returns-in-Err-clause-cache
returns-in-Err-clause-cache g c = failed_read_stands g.C.Disk.facts g.B.Disk.facts c.args.seat.now
    c.called-in-Err.new.seat c.args.cache.now _ c.requires.seat c.requires.holds c.requires.cache
    c.called-in-Err.ensures.did c.in-Err.ensures.kept c.in-Err.ensures.counted

pub read-requires : goal.read-requires
read-requires g c = let s = c.requires.sectors in
    let inside = s.3 in
    let all = cache_sectors g.C.Disk.facts g.B.Disk.facts c.args.seat.now c.args.cache.now
    c.requires.cache
    ∙ ap (λ (r : Run (CorePart g.row.C.Denot g.row.B.Denot)).
    (cache_among g.C.Disk.facts g.B.Disk.facts r.start).sectors) c.requires.run in
    record {
      on_disk = (
        length c.args.into.now / 512,
        s.1,
        s.0,
        subst (λ n. c.args.at + length c.args.into.now / 512 ≤ n) (sym all) inside,
      );
    }
