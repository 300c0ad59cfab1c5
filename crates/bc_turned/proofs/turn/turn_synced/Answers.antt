use Rattle.std.proofs.Common.{inl, inr, [], Option, sym, ◌∙◌, subst}
use Rattle.std.specs.Prelude.{IfNone, IfSome, Result}
use Rattle.bc_flush.specs.bc_hand.Seats.{world}
use Rattle.bc_flush.specs.bc_machine.World.{FromEach, cache_among}
use Rattle.bc_flush.specs.bc_hand.declared.error.StepError.TheVariants as step
use Rattle.bc_needs.specs.Needs.{NeedsFrom}
use Rattle.bc_turn.proofs.of_bc_place.Keeping.{keeps_both}
use Rattle.bc_turn.proofs.Emptying.{then_nothing}
use Rattle.bc_turn.proofs.Hearing.{missed_answered, none_heard}
use Rattle.bc_turn.specs.Part.{HasFailed}
use Rattle.bc_turn.specs.Parts.{WasLeft}
use Rattle.bc_turn.specs.declared.error.Left.{Left}
use Rattle.bc_turned.proofs.Giving.{needs_done}
use Rattle.bc_turned.proofs.Hearing.{refused_memory}
use Rattle.bc_turned.proofs.Keeping.{keeps_none}
use Rattle.bc_turned.specs.Turned.{HasOrNot}
use Rattle.bc_turned.specs.declared.answer.NoEntry.{NoEntry}
use Rattle.bc_turned.proofs.turn.turn_synced.Goals as goal

pub returns-in-Ok-Some-clause-ok : goal.returns-in-Ok-Some-clause-ok
returns-in-Ok-Some-clause-ok g c =
    let cf = g.C.Disk.facts in
    let bf = g.B.Disk.facts in
    let sectors = (cache_among cf bf c.args.parts.now.run.start).sectors in
    subst (λ (o : Option Left). IfSome o (WasLeft cf bf c.args.parts.now sectors c.args.low
    c.args.seat.now c.empty_leaves.new.seat)) c.in-Ok-Some.field-0-is c.in-Ok-Some.ensures.left

pub returns-in-Err-clause-err : goal.returns-in-Err-clause-err
returns-in-Err-clause-err g c =
    inl (record {
      step = c.in-Err.error;
      step_is = c.refused.ensures;
      failed = c.in-Err.ensures.err;
    })

pub returns-in-Err-clause-memory : goal.returns-in-Err-clause-memory
returns-in-Err-clause-memory g c memory =
    let cf = g.C.Disk.facts in
    let bf = g.B.Disk.facts in
    (subst (λ e. HasFailed cf bf c.args.parts.now c.args.low e c.args.seat.now
    c.empty_leaves.new.seat) (refused_memory c.in-Err.error (sym c.refused.ensures ∙ memory))
    c.in-Err.ensures.err).0

pub returns-in_default-clause-err : goal.returns-in_default-clause-err
returns-in_default-clause-err g c =
    let cf = g.C.Disk.facts in
    let bf = g.B.Disk.facts in
    inl (record {
      step = c.or_halt.result;
      step_is = c.refused-in_default.ensures;
      failed = missed_answered cf bf c.args.parts.now c.args.low c.or_halt.result c.args.seat.now
          c.promise.new.seat c.or_halt.ensures (then_nothing cf bf c.args.parts.now c.args.low
          c.args.seat.now c.empty_leaves.new.seat c.promise.new.seat c.in-Ok-None.ensures.ok
          c.promise.ensures.done);
    })

pub returns-in_default-clause-memory : goal.returns-in_default-clause-memory
returns-in_default-clause-memory g c memory = none_heard step.Memory c.or_halt.result
    c.promise.new.seat.heard c.promise.new.seat.seen c.or_halt.ensures
    (refused_memory c.or_halt.result (sym c.refused-in_default.ensures ∙ memory))

pub returns-in_default-clause-keeps : goal.returns-in_default-clause-keeps
returns-in_default-clause-keeps g c =
    let cf = g.C.Disk.facts in
    let bf = g.B.Disk.facts in
    keeps_both cf bf c.args.seat.now c.empty_leaves.new.seat c.promise.new.seat
    c.empty_leaves.ensures.keeps
    (keeps_none cf bf c.empty_leaves.new.seat c.promise.new.seat c.promise.ensures.done)

pub give_up-requires-clause-needs : goal.give_up-requires-clause-needs
give_up-requires-clause-needs g c =
    let cf = g.C.Disk.facts in
    let bf = g.B.Disk.facts in
    needs_done cf bf c.empty_leaves.new.seat c.promise.new.seat [] c.args.low
    c.promise.ensures.done
    (subst (λ (o : Option Left). IfNone o (FromEach (world cf bf c.empty_leaves.new.seat)
    (λ o st. NeedsFrom c.args.low st))) c.in-Ok-None.field-0-is c.in-Ok-None.ensures.knows)

pub returns-in-Ok-Ok-clause-ok : goal.returns-in-Ok-Ok-clause-ok
returns-in-Ok-Ok-clause-ok g c =
    let cf = g.C.Disk.facts in
    let bf = g.B.Disk.facts in
    record {
      between = c.promise.new.seat;
      sets = then_nothing cf bf c.args.parts.now c.args.low c.args.seat.now
          c.empty_leaves.new.seat c.promise.new.seat c.in-Ok-None.ensures.ok c.promise.ensures.done;
      put = subst (λ (r : Result (Unit {0}) NoEntry). HasOrNot cf bf c.args.low r
          c.promise.new.seat c.give_up.new.seat) c.in-Ok-Ok.field-0-is c.in-Ok-Ok.ensures.ok;
    }

pub returns-in-Ok-Ok-clause-keeps : goal.returns-in-Ok-Ok-clause-keeps
returns-in-Ok-Ok-clause-keeps g c =
    let cf = g.C.Disk.facts in
    let bf = g.B.Disk.facts in
    keeps_both cf bf c.args.seat.now c.empty_leaves.new.seat c.give_up.new.seat
    c.empty_leaves.ensures.keeps
    (keeps_both cf bf c.empty_leaves.new.seat c.promise.new.seat c.give_up.new.seat
    (keeps_none cf bf c.empty_leaves.new.seat c.promise.new.seat c.promise.ensures.done)
    c.give_up.ensures.keeps)

pub returns-in-Ok-Err-clause-ok : goal.returns-in-Ok-Err-clause-ok
returns-in-Ok-Err-clause-ok g c =
    let cf = g.C.Disk.facts in
    let bf = g.B.Disk.facts in
    record {
      between = c.promise.new.seat;
      sets = then_nothing cf bf c.args.parts.now c.args.low c.args.seat.now
          c.empty_leaves.new.seat c.promise.new.seat c.in-Ok-None.ensures.ok c.promise.ensures.done;
      none = subst (λ (r : Result (Unit {0}) NoEntry). HasOrNot cf bf c.args.low r
          c.promise.new.seat c.give_up.new.seat) c.in-Ok-Err.field-0-is c.in-Ok-Err.ensures.ok;
    }

pub returns-in-Ok-Err-clause-keeps : goal.returns-in-Ok-Err-clause-keeps
returns-in-Ok-Err-clause-keeps g c =
    let cf = g.C.Disk.facts in
    let bf = g.B.Disk.facts in
    keeps_both cf bf c.args.seat.now c.empty_leaves.new.seat c.give_up.new.seat
    c.empty_leaves.ensures.keeps
    (keeps_both cf bf c.empty_leaves.new.seat c.promise.new.seat c.give_up.new.seat
    (keeps_none cf bf c.empty_leaves.new.seat c.promise.new.seat c.promise.ensures.done)
    c.give_up.ensures.keeps)

pub returns-in-Err-give_up-clause-keeps : goal.returns-in-Err-give_up-clause-keeps
returns-in-Err-give_up-clause-keeps g c =
    let cf = g.C.Disk.facts in
    let bf = g.B.Disk.facts in
    keeps_both cf bf c.args.seat.now c.empty_leaves.new.seat c.give_up.new.seat
    c.empty_leaves.ensures.keeps
    (keeps_both cf bf c.empty_leaves.new.seat c.promise.new.seat c.give_up.new.seat
    (keeps_none cf bf c.empty_leaves.new.seat c.promise.new.seat c.promise.ensures.done)
    c.give_up.ensures.keeps)

pub returns-in-Err-give_up-clause-err : goal.returns-in-Err-give_up-clause-err
returns-in-Err-give_up-clause-err g c =
    let cf = g.C.Disk.facts in
    let bf = g.B.Disk.facts in
    inr (record {
      between = c.promise.new.seat;
      sets = then_nothing cf bf c.args.parts.now c.args.low c.args.seat.now
          c.empty_leaves.new.seat c.promise.new.seat c.in-Ok-None.ensures.ok c.promise.ensures.done;
      refused = c.in-Err-give_up.ensures.err;
    })
