use Rattle.std.proofs.Common.{inl, inr}
use Rattle.bc_around.specs.declared.past.Past.TheVariants as past
use Rattle.bc_bypass.proofs.Passing.{found, kept, keys_as, not_passed, passed, passed_as}
use Rattle.bc_bypass.specs.declared.error.Invalidated.TheVariants as invalidated
use Rattle.bc_bypass.proofs.piece.bypass_piece.Goals as goal

pub returns-in-Ok-Written-clause-ok : goal.returns-in-Ok-Written-clause-ok
returns-in-Ok-Written-clause-ok g c = inl (passed_as g.C.Disk.facts g.B.Disk.facts
    c.args.parts.now c.args.force c.args.of c.args.first c.args.values.now
    c.args.seat.now c.write_piece.new.seat c.in-Ok-Written.field-0
    past.Written c.in-Ok-Written.field-0-is c.in-Ok-Written.ensures.ok)

pub returns-in-Ok-Waiting-clause-ok : goal.returns-in-Ok-Waiting-clause-ok
returns-in-Ok-Waiting-clause-ok g c = inl (passed_as g.C.Disk.facts g.B.Disk.facts
    c.args.parts.now c.args.force c.args.of c.args.first c.args.values.now
    c.args.seat.now c.write_piece.new.seat c.in-Ok-Waiting.field-0
    past.Waiting c.in-Ok-Waiting.field-0-is c.in-Ok-Waiting.ensures.ok)

pub returns-in-Err-clause-err : goal.returns-in-Err-clause-err
returns-in-Err-clause-err g c = inl c.in-Err.ensures.err

pub returns-in-Ok-Dirty-clause-ok : goal.returns-in-Ok-Dirty-clause-ok
returns-in-Ok-Dirty-clause-ok g c = found g.C.Disk.facts g.B.Disk.facts c.args.parts.now
    c.args.force c.args.of c.args.first c.args.values.now
    c.len.result c.len.ensures c.args.seat.now c.write_piece.new.seat
    (passed_as g.C.Disk.facts g.B.Disk.facts c.args.parts.now c.args.force c.args.of c.args.first
    c.args.values.now
    c.args.seat.now c.write_piece.new.seat c.in-Ok-Cached.field-0
    past.Cached c.in-Ok-Cached.field-0-is c.in-Ok-Cached.ensures.ok)
    c.invalidate.new.seat invalidated.Dirty (keys_as g.C.Disk.facts g.B.Disk.facts c.args.first
    c.len.result
    c.write_piece.new.seat c.invalidate.new.seat c.in-Ok-Dirty.field-0 invalidated.Dirty
    c.in-Ok-Dirty.field-0-is
    c.in-Ok-Dirty.ensures.ok)

pub returns-in-Ok-Lacks-clause-ok : goal.returns-in-Ok-Lacks-clause-ok
returns-in-Ok-Lacks-clause-ok g c = found g.C.Disk.facts g.B.Disk.facts c.args.parts.now
    c.args.force c.args.of c.args.first c.args.values.now
    c.len.result c.len.ensures c.args.seat.now c.write_piece.new.seat
    (passed_as g.C.Disk.facts g.B.Disk.facts c.args.parts.now c.args.force c.args.of c.args.first
    c.args.values.now
    c.args.seat.now c.write_piece.new.seat c.in-Ok-Cached.field-0
    past.Cached c.in-Ok-Cached.field-0-is c.in-Ok-Cached.ensures.ok)
    c.invalidate.new.seat
    (invalidated.Lacks c.in-Ok-Lacks.lack) (keys_as g.C.Disk.facts g.B.Disk.facts c.args.first
    c.len.result
    c.write_piece.new.seat c.invalidate.new.seat c.in-Ok-Lacks.field-0 (invalidated.Lacks
    c.in-Ok-Lacks.lack) c.in-Ok-Lacks.field-0-is
    c.in-Ok-Lacks.ensures.ok)

pub returns-in-Err-invalidate-clause-err : goal.returns-in-Err-invalidate-clause-err
returns-in-Err-invalidate-clause-err g c = kept g.C.Disk.facts g.B.Disk.facts c.args.parts.now
    c.args.force c.args.of c.args.first c.args.values.now
    c.len.result c.len.ensures c.args.seat.now c.write_piece.new.seat
    (passed_as g.C.Disk.facts g.B.Disk.facts c.args.parts.now c.args.force c.args.of c.args.first
    c.args.values.now
    c.args.seat.now c.write_piece.new.seat c.in-Ok-Cached.field-0
    past.Cached c.in-Ok-Cached.field-0-is c.in-Ok-Cached.ensures.ok)
    c.invalidate.new.seat c.in-Err-invalidate.error
    c.in-Err-invalidate.ensures.err

pub returns-in-Ok-Written-write_piece-clause-ok : goal.returns-in-Ok-Written-write_piece-clause-ok
returns-in-Ok-Written-write_piece-clause-ok g c = inr (passed g.C.Disk.facts g.B.Disk.facts
    c.args.parts.now c.args.force c.args.of c.args.first c.args.values.now
    c.len.result c.len.ensures c.args.seat.now c.write_piece.new.seat
    (passed_as g.C.Disk.facts g.B.Disk.facts c.args.parts.now c.args.force c.args.of c.args.first
    c.args.values.now
    c.args.seat.now c.write_piece.new.seat c.in-Ok-Cached.field-0
    past.Cached c.in-Ok-Cached.field-0-is c.in-Ok-Cached.ensures.ok)
    c.invalidate.new.seat (keys_as g.C.Disk.facts g.B.Disk.facts c.args.first c.len.result
    c.write_piece.new.seat c.invalidate.new.seat c.in-Ok-Gone.field-0 invalidated.Gone
    c.in-Ok-Gone.field-0-is
    c.in-Ok-Gone.ensures.ok)
    c.write_piece-2.new.seat
    past.Written (passed_as g.C.Disk.facts g.B.Disk.facts c.args.parts.now c.args.force c.args.of
    c.args.first c.args.values.now
    c.invalidate.new.seat c.write_piece-2.new.seat c.in-Ok-Written-write_piece.field-0
    past.Written c.in-Ok-Written-write_piece.field-0-is c.in-Ok-Written-write_piece.ensures.ok))

pub returns-in-Ok-Waiting-write_piece-clause-ok : goal.returns-in-Ok-Waiting-write_piece-clause-ok
returns-in-Ok-Waiting-write_piece-clause-ok g c = inr (passed g.C.Disk.facts g.B.Disk.facts
    c.args.parts.now c.args.force c.args.of c.args.first c.args.values.now
    c.len.result c.len.ensures c.args.seat.now c.write_piece.new.seat
    (passed_as g.C.Disk.facts g.B.Disk.facts c.args.parts.now c.args.force c.args.of c.args.first
    c.args.values.now
    c.args.seat.now c.write_piece.new.seat c.in-Ok-Cached.field-0
    past.Cached c.in-Ok-Cached.field-0-is c.in-Ok-Cached.ensures.ok)
    c.invalidate.new.seat (keys_as g.C.Disk.facts g.B.Disk.facts c.args.first c.len.result
    c.write_piece.new.seat c.invalidate.new.seat c.in-Ok-Gone.field-0 invalidated.Gone
    c.in-Ok-Gone.field-0-is
    c.in-Ok-Gone.ensures.ok)
    c.write_piece-2.new.seat
    past.Waiting (passed_as g.C.Disk.facts g.B.Disk.facts c.args.parts.now c.args.force c.args.of
    c.args.first c.args.values.now
    c.invalidate.new.seat c.write_piece-2.new.seat c.in-Ok-Waiting-write_piece.field-0
    past.Waiting c.in-Ok-Waiting-write_piece.field-0-is c.in-Ok-Waiting-write_piece.ensures.ok))

pub returns-in-Ok-Cached-write_piece-clause-ok : goal.returns-in-Ok-Cached-write_piece-clause-ok
returns-in-Ok-Cached-write_piece-clause-ok g c = passed g.C.Disk.facts g.B.Disk.facts
    c.args.parts.now c.args.force c.args.of c.args.first c.args.values.now
    c.len.result c.len.ensures c.args.seat.now c.write_piece.new.seat
    (passed_as g.C.Disk.facts g.B.Disk.facts c.args.parts.now c.args.force c.args.of c.args.first
    c.args.values.now
    c.args.seat.now c.write_piece.new.seat c.in-Ok-Cached.field-0
    past.Cached c.in-Ok-Cached.field-0-is c.in-Ok-Cached.ensures.ok)
    c.invalidate.new.seat (keys_as g.C.Disk.facts g.B.Disk.facts c.args.first c.len.result
    c.write_piece.new.seat c.invalidate.new.seat c.in-Ok-Gone.field-0 invalidated.Gone
    c.in-Ok-Gone.field-0-is
    c.in-Ok-Gone.ensures.ok)
    c.write_piece-2.new.seat
    past.Cached (passed_as g.C.Disk.facts g.B.Disk.facts c.args.parts.now c.args.force c.args.of
    c.args.first c.args.values.now
    c.invalidate.new.seat c.write_piece-2.new.seat c.in-Ok-Cached-write_piece.field-0
    past.Cached c.in-Ok-Cached-write_piece.field-0-is c.in-Ok-Cached-write_piece.ensures.ok)

pub returns-in-Err-write_piece-clause-err : goal.returns-in-Err-write_piece-clause-err
returns-in-Err-write_piece-clause-err g c = inr (not_passed g.C.Disk.facts g.B.Disk.facts
    c.args.parts.now c.args.force c.args.of c.args.first c.args.values.now
    c.len.result c.len.ensures c.args.seat.now c.write_piece.new.seat
    (passed_as g.C.Disk.facts g.B.Disk.facts c.args.parts.now c.args.force c.args.of c.args.first
    c.args.values.now
    c.args.seat.now c.write_piece.new.seat c.in-Ok-Cached.field-0
    past.Cached c.in-Ok-Cached.field-0-is c.in-Ok-Cached.ensures.ok)
    c.invalidate.new.seat (keys_as g.C.Disk.facts g.B.Disk.facts c.args.first c.len.result
    c.write_piece.new.seat c.invalidate.new.seat c.in-Ok-Gone.field-0 invalidated.Gone
    c.in-Ok-Gone.field-0-is
    c.in-Ok-Gone.ensures.ok)
    c.write_piece-2.new.seat
    c.in-Err-write_piece.error c.in-Err-write_piece.ensures.err)
