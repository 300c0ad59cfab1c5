use Rattle.std.proofs.Common.{◌≡◌, ℕ, ◌+◌, ◌/◌, ◌≤◌, List, ◌++◌, length, sym, ap, ◌∙◌, subst}
use Rattle.bc_model.specs.Sector.{Value, values_of}
use Rattle.bc_model.proofs.Sectors.{length_values_of}
use Rattle.bc_disk.specs.Disk.{IsRead}
use Rattle.bc_parts.specs.Seat.{Run}
use Rattle.bc_looks.specs.bc_machine.declared.part.CorePart.{CorePart}
use Rattle.bc_looks.specs.bc_machine.World.{are_plain, cache_among}
use Rattle.bc_deed.specs.bc_hand.Seats.{note}
use Rattle.bc_deed.specs.Asked.{IsWithin}
use Rattle.bc_sight.specs.Sight.{PointsTo}
use Rattle.bc_sight.proofs.Reading.{may_read_cache, may_fail_cache_read, cache_read_stands, failed_read_stands, cache_sectors, cache_changed}
use Rattle.bc_sight.proofs.cache.read_in.Goals as goal

pub called-requires-clause-may : goal.called-requires-clause-may
called-requires-clause-may g c =
    let v = c.args.seat.now in
    let bytes = c.in-Ok-extend_from_slice.ensures.items
    ∙ ap (λ (bs : List ℕ). bs ++ c.read.new.into) c.requires.room.0 in
    let values : c.from_sectors-values.result ≡ values_of c.read.new.into =
    c.from_sectors-values.ensures ∙ ap (λ (bs : List ℕ). values_of bs) bytes in
    let count : length c.from_sectors-values.result ≡ length c.args.into.now / 512 =
    ap (λ (vs : List Value). length vs) values ∙ length_values_of c.read.new.into
    ∙ ap (λ n. n / 512) c.read.auto.into in
    may_read_cache g.C.Disk.facts g.B.Disk.facts v c.requires.seat
    (ap (λ (r : Run (CorePart g.row.C.Denot g.row.B.Denot)). are_plain g.C.Disk.facts g.B.Disk.facts r.start) c.requires.run
    ∙ c.requires.cached) c.args.cache.now c.requires.holds
    c.requires.cache c.requires.looked.0 c.requires.looked.1 c.args.first c.args.at c.from_sectors-values.result
    (subst (λ n. IsWithin (note g.C.Disk.facts g.B.Disk.facts v).range c.args.first n) (sym count) c.requires.covered)
    (subst (λ n. PointsTo c.requires.looked.0 c.args.first n c.args.at) (sym count) c.requires.looked.2)
    c.requires.unheard
    (subst (λ (vs : List Value). IsRead c.args.at vs (g.C.Disk.facts c.args.cache.now)) (sym values) c.in-Ok.ensures.ok)

pub returns-in-Ok-extend_from_slice-clause-cache : goal.returns-in-Ok-extend_from_slice-clause-cache
returns-in-Ok-extend_from_slice-clause-cache g c = cache_read_stands g.C.Disk.facts g.B.Disk.facts c.args.seat.now
    c.called.new.seat c.args.cache.now _ c.args.at c.args.first c.from_sectors-values.result c.requires.seat
    c.requires.holds c.requires.cache c.called.ensures.did c.in-Ok.ensures.kept c.in-Ok.ensures.counted

pub returns-in-Err-clause-cache : goal.returns-in-Err-clause-cache
returns-in-Err-clause-cache g c = failed_read_stands g.C.Disk.facts g.B.Disk.facts c.args.seat.now
    c.called-in-Err.new.seat c.args.cache.now _ c.requires.seat
    c.requires.holds c.requires.cache c.called-in-Err.ensures.did c.in-Err.ensures.kept c.in-Err.ensures.counted

pub called-requires-clause-alone : goal.called-requires-clause-alone
called-requires-clause-alone g c = cache_changed g.C.Disk.facts g.B.Disk.facts

pub called-requires-in-Err-clause-alone : goal.called-requires-in-Err-clause-alone
called-requires-in-Err-clause-alone g c = cache_changed g.C.Disk.facts g.B.Disk.facts

pub called-requires-in-Err-clause-may : goal.called-requires-in-Err-clause-may
called-requires-in-Err-clause-may g c = may_fail_cache_read g.C.Disk.facts g.B.Disk.facts c.args.seat.now
    c.requires.seat c.requires.unheard

pub read-requires : goal.read-requires
read-requires g c = let s = c.requires.sectors in
    let inside = s.3 in
    let all = cache_sectors g.C.Disk.facts g.B.Disk.facts c.args.seat.now c.args.cache.now c.requires.cache
    ∙ ap (λ (r : Run (CorePart g.row.C.Denot g.row.B.Denot)). (cache_among g.C.Disk.facts g.B.Disk.facts r.start).sectors)
    c.requires.run in
    record { on_disk = (length c.args.into.now / 512, s.1, s.0, subst (λ n. c.args.at + length c.args.into.now / 512 ≤ n) (sym all) inside) }
