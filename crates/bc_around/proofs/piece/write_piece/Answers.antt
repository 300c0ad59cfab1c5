use Rattle.bc_around.proofs.Pieces.{cached_first, not_durable, passed_first, passed_then, stopped_then, waited_first, written_first}
use Rattle.bc_around.specs.declared.past.Past.TheVariants as past
use Rattle.bc_around.proofs.piece.write_piece.Goals as goal

pub returns-in-Written-clause-ok : goal.returns-in-Written-clause-ok
returns-in-Written-clause-ok g c = passed_first g.C.Disk.facts g.B.Disk.facts c.args.parts.now
    c.args.force c.args.of c.args.first c.args.values.now c.in-Ok.tried
    past.Written c.args.seat.now c.try_piece.new.seat c.in-Written.is
    (written_first g.C.Disk.facts g.B.Disk.facts c.args.parts.now c.args.force c.args.of
    c.args.first c.args.values.now) c.in-Ok.ensures.ok

pub returns-in-Cached-clause-ok : goal.returns-in-Cached-clause-ok
returns-in-Cached-clause-ok g c = passed_first g.C.Disk.facts g.B.Disk.facts c.args.parts.now
    c.args.force c.args.of c.args.first c.args.values.now c.in-Ok.tried
    past.Cached c.args.seat.now c.try_piece.new.seat c.in-Cached.is
    (cached_first g.C.Disk.facts g.B.Disk.facts c.args.parts.now c.args.force c.args.of
    c.args.first c.args.values.now) c.in-Ok.ensures.ok

pub returns-in-Err-make_durable-clause-err : goal.returns-in-Err-make_durable-clause-err
returns-in-Err-make_durable-clause-err g c = not_durable g.C.Disk.facts g.B.Disk.facts
    c.args.parts.now c.args.force c.args.of c.args.first c.args.values.now
    c.in-Err-make_durable.error c.args.seat.now c.try_piece.new.seat c.make_durable.new.seat
    (waited_first g.C.Disk.facts g.B.Disk.facts c.args.parts.now c.args.force c.args.of
    c.args.first c.args.values.now c.in-Ok.tried c.args.seat.now
    c.try_piece.new.seat c.in-Waiting.is c.in-Ok.ensures.ok) c.in-Err-make_durable.ensures.err

pub returns-clause-ok : goal.returns-clause-ok
returns-clause-ok g c = passed_then g.C.Disk.facts g.B.Disk.facts c.args.parts.now c.args.force
    c.args.of c.args.first c.args.values.now c.args.seat.now c.try_piece.new.seat
    c.make_durable.new.seat c.try_piece-2.new.seat
    (waited_first g.C.Disk.facts g.B.Disk.facts c.args.parts.now c.args.force c.args.of
    c.args.first c.args.values.now c.in-Ok.tried c.args.seat.now
    c.try_piece.new.seat c.in-Waiting.is c.in-Ok.ensures.ok) c.in-Ok-make_durable.ensures.ok
    c.try_piece-2.result c.try_piece-2.ensures.ok

pub returns-clause-err : goal.returns-clause-err
returns-clause-err g c = stopped_then g.C.Disk.facts g.B.Disk.facts c.args.parts.now c.args.force
    c.args.of c.args.first c.args.values.now c.args.seat.now c.try_piece.new.seat
    c.make_durable.new.seat c.try_piece-2.new.seat
    (waited_first g.C.Disk.facts g.B.Disk.facts c.args.parts.now c.args.force c.args.of
    c.args.first c.args.values.now c.in-Ok.tried c.args.seat.now
    c.try_piece.new.seat c.in-Waiting.is c.in-Ok.ensures.ok) c.in-Ok-make_durable.ensures.ok
    c.try_piece-2.result c.try_piece-2.ensures.err
