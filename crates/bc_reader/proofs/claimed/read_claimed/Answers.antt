use Rattle.std.proofs.Common.{Bool, subst}
use Rattle.bc_fetch.proofs.of_bc_hand.Knowing.{map_ok}
use Rattle.bc_model.specs.Sector.{values_of}
use Rattle.bc_reader.specs.Claimed.{HasTriedOnce}
use Rattle.bc_reader.proofs.Turning.{answered_again, answered_at_once, stopped_again, stopped_at_once}
use Rattle.bc_reader.proofs.claimed.read_claimed.Goals as goal

pub returns-in-Err-clause-err : goal.returns-in-Err-clause-err
returns-in-Err-clause-err g c = stopped_at_once g.C.Disk.facts g.B.Disk.facts c.args.parts.now
    c.args.first c.args.count c.in-Err.error c.args.seat.now c.read_once.new.seat
    c.requires.works.seat c.in-Err.ensures.err

pub returns-in-Ok-true-clause-ok : goal.returns-in-Ok-true-clause-ok
returns-in-Ok-true-clause-ok g c = answered_at_once g.C.Disk.facts g.B.Disk.facts c.args.parts.now
    c.args.first c.args.count c.args.of (values_of c.read_once.new.bytes) c.args.seat.now
    c.read_once.new.seat c.requires.works.seat
    (subst (λ (b : Bool). HasTriedOnce g.C.Disk.facts g.B.Disk.facts b
    c.args.parts.now c.args.of c.args.first c.args.count (values_of c.read_once.new.bytes)
    c.args.seat.now c.read_once.new.seat) c.in-Ok-true.field-0-test c.in-Ok-true.ensures.ok)

pub returns-in-Ok-false-clause-ok : goal.returns-in-Ok-false-clause-ok
returns-in-Ok-false-clause-ok g c = map_ok c.read_again.result
    (answered_again g.C.Disk.facts g.B.Disk.facts c.args.parts.now c.args.first c.args.count
    c.args.of (values_of c.read_again.new.bytes) c.args.seat.now c.read_once.new.seat
    c.read_again.new.seat
    (subst (λ (b : Bool). HasTriedOnce g.C.Disk.facts g.B.Disk.facts b
    c.args.parts.now c.args.of c.args.first c.args.count (values_of c.read_once.new.bytes)
    c.args.seat.now c.read_once.new.seat) c.in-Ok-false.field-0-test c.in-Ok-false.ensures.ok))
    c.read_again.ensures.ok

pub returns-in-Ok-false-clause-err : goal.returns-in-Ok-false-clause-err
returns-in-Ok-false-clause-err g c = stopped_again g.C.Disk.facts g.B.Disk.facts c.args.parts.now
    c.args.first c.args.count c.read_again.result c.args.seat.now c.read_once.new.seat
    c.read_again.new.seat
    (subst (λ (b : Bool). HasTriedOnce g.C.Disk.facts g.B.Disk.facts b
    c.args.parts.now c.args.of c.args.first c.args.count (values_of c.read_once.new.bytes)
    c.args.seat.now c.read_once.new.seat) c.in-Ok-false.field-0-test c.in-Ok-false.ensures.ok)
    c.read_again.ensures.err
