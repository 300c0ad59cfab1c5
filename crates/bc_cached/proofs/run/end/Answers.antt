use Rattle.std.proofs.Common.{sym, ◌∙◌, subst, arith}
use Rattle.std.specs.Prelude.{fold}
use Rattle.bc_parts.specs.Seat.{Run}
use Rattle.bc_begun.specs.bc_machine.declared.part.CorePart.{CorePart}
use Rattle.bc_begun.specs.bc_machine.World.{IsBacking, IsCache, after, opening}
use Rattle.bc_cached.proofs.Places.{devices_stand, has_devices, plain_run}
use Rattle.bc_cached.proofs.run.end.Goals as goal

pub devices_in-cache-requires : goal.devices_in-cache-requires
devices_in-cache-requires g c =
    let count = c.requires.count in
    let same = c.close-parts.ensures.count in
    has_devices g.C.Disk.facts g.B.Disk.facts c.close-parts.result.0.items
    (fold after (opening g.C.Disk.facts g.B.Disk.facts c.args.parts.run.start) c.args.seat.seen)
    (plain_run g.C.Disk.facts g.B.Disk.facts c.args.parts.run.start c.args.seat.seen
    ∙ c.requires.cached) (omega (arith, count, same)) c.close-parts.ensures.stand

pub returns-clause-cache : goal.returns-clause-cache
returns-clause-cache g c = subst (λ (r : Run (CorePart g.row.C.Denot g.row.B.Denot)).
    IsCache {B = g.row.B.Denot} g.C.Disk.facts g.B.Disk.facts c.devices_in-cache.result.cache
    (fold after (opening g.C.Disk.facts g.B.Disk.facts r.start) c.args.seat.seen))
    (sym c.requires.run) (devices_stand g.C.Disk.facts g.B.Disk.facts
    c.close-parts.result.0.items _ c.devices_in-cache.result.cache
    c.devices_in-cache.result.backing c.devices_in-cache.ensures c.close-parts.ensures.stand).0

pub returns-clause-backing : goal.returns-clause-backing
returns-clause-backing g c = subst (λ (r : Run (CorePart g.row.C.Denot g.row.B.Denot)).
    IsBacking {C = g.row.C.Denot} g.C.Disk.facts g.B.Disk.facts c.devices_in-cache.result.backing
    (fold after (opening g.C.Disk.facts g.B.Disk.facts r.start) c.args.seat.seen))
    (sym c.requires.run) (devices_stand g.C.Disk.facts g.B.Disk.facts
    c.close-parts.result.0.items _ c.devices_in-cache.result.cache
    c.devices_in-cache.result.backing c.devices_in-cache.ensures c.close-parts.ensures.stand).1
