use Rattle.std.proofs.Common.{◌∙◌, subst}
use Rattle.bc_flush.proofs.Syncing.{as_waited}
use Rattle.bc_flush.proofs.of_bc_reader.Looking.{range_still}
use Rattle.bc_around.specs.Bare.{AreBare}
use Rattle.bc_around.specs.Look.{HasLookedFree}
use Rattle.bc_around.proofs.Looked.{bare_seen, looked_on, range_free, range_not_looked}
use Rattle.bc_around.proofs.Owing.{if_true}
use Rattle.bc_around.proofs.under.write_past.Goals as goal

pub returns-in-Err-clause-claim : goal.returns-in-Err-clause-claim
returns-in-Err-clause-claim g c = range_not_looked g.C.Disk.facts g.B.Disk.facts
    c.args.parts.now c.args.first c.len.result c.in-Err.error c.args.seat.now c.look_at.new.seat
    c.in-Err.ensures.err

pub returns-then-not-is_durable-clause-ok : goal.returns-then-not-is_durable-clause-ok
returns-then-not-is_durable-clause-ok g c = record {
  looked = c.look_at.new.seat;
  look = subst (λ n. HasLookedFree g.C.Disk.facts g.B.Disk.facts c.args.parts.now c.args.first n
      c.args.seat.now c.look_at.new.seat) c.len.ensures
      (if_true _ _ c.in-Ok-true.field-0 c.in-Ok-true.ensures.ok c.in-Ok-true.field-0-test);
  owed = c.is_durable.ensures.owed c.if-not-is_durable.true;
}

pub write_claimed-requires-clause-bare : goal.write_claimed-requires-clause-bare
write_claimed-requires-clause-bare g c = subst (λ n. AreBare g.C.Disk.facts g.B.Disk.facts
    c.args.first n c.is_durable.new.seat) c.len.ensures
    (bare_seen g.C.Disk.facts g.B.Disk.facts c.look_at.new.seat c.is_durable.new.seat c.args.first
    c.len.result c.look_at.ensures.works.seat c.is_durable.ensures.waited
    (c.in-Ok-true.ensures.sees c.in-Ok-true.field-0-test)
    (c.is_durable.ensures.durable c.if-not-is_durable.false))

pub returns-in-Ok-clause-ok : goal.returns-in-Ok-clause-ok
returns-in-Ok-clause-ok g c = record {
  looked = c.is_durable.new.seat;
  look = subst (λ n. HasLookedFree g.C.Disk.facts g.B.Disk.facts c.args.parts.now c.args.first n
      c.args.seat.now c.is_durable.new.seat) c.len.ensures
      (looked_on g.C.Disk.facts g.B.Disk.facts c.args.parts.now c.args.first c.len.result
      c.args.seat.now c.look_at.new.seat
      (if_true _ _ c.in-Ok-true.field-0 c.in-Ok-true.ensures.ok c.in-Ok-true.field-0-test)
      c.is_durable.new.seat
      (as_waited g.C.Disk.facts g.B.Disk.facts c.look_at.new.seat c.is_durable.new.seat
      c.is_durable.ensures.waited));
  wrote = c.in-Ok.ensures.ok;
}

pub returns-in-Err-write_claimed-clause-claim : goal.returns-in-Err-write_claimed-clause-claim
returns-in-Err-write_claimed-clause-claim g c = c.write_claimed.ensures.claim
    ∙ range_still g.C.Disk.facts g.B.Disk.facts c.look_at.new.seat c.is_durable.new.seat
    (as_waited g.C.Disk.facts g.B.Disk.facts c.look_at.new.seat c.is_durable.new.seat
    c.is_durable.ensures.waited)
    ∙ range_free g.C.Disk.facts g.B.Disk.facts c.args.parts.now c.args.first c.len.result
    c.args.seat.now c.look_at.new.seat
    (if_true _ _ c.in-Ok-true.field-0 c.in-Ok-true.ensures.ok c.in-Ok-true.field-0-test)

pub returns-in-Err-write_claimed-clause-err : goal.returns-in-Err-write_claimed-clause-err
returns-in-Err-write_claimed-clause-err g c = record {
  looked = c.is_durable.new.seat;
  look = subst (λ n. HasLookedFree g.C.Disk.facts g.B.Disk.facts c.args.parts.now c.args.first n
      c.args.seat.now c.is_durable.new.seat) c.len.ensures
      (looked_on g.C.Disk.facts g.B.Disk.facts c.args.parts.now c.args.first c.len.result
      c.args.seat.now c.look_at.new.seat
      (if_true _ _ c.in-Ok-true.field-0 c.in-Ok-true.ensures.ok c.in-Ok-true.field-0-test)
      c.is_durable.new.seat
      (as_waited g.C.Disk.facts g.B.Disk.facts c.look_at.new.seat c.is_durable.new.seat
      c.is_durable.ensures.waited));
  stop = c.in-Err-write_claimed.ensures.err;
}
