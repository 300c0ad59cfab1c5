use Rattle.std.proofs.Common.{◌-◌, drop, sym, ap, ◌∙◌, subst}
use Rattle.std.specs.Prelude.{IfOk}
use Rattle.std.proofs.lemmas.List.{length-drop}
use Rattle.bc_insert.specs.bc_hand.Seats.{world}
use Rattle.bc_insert.specs.bc_machine.World.{FromEach}
use Rattle.bc_insert.specs.bc_place.Place.{HasGiven, HasPlaced, IsOwn}
use Rattle.bc_insert.specs.bc_place.Written.{IsNew}
use Rattle.bc_stored.proofs.Storing.{keeps_let_go, why_not}
use Rattle.bc_stored.proofs.one.store_one.Goals as goal

pub returns-in-Err-written-clause-err : goal.returns-in-Err-written-clause-err
returns-in-Err-written-clause-err g c =
    let cf = g.C.Disk.facts in
    let bf = g.B.Disk.facts in
    let v = c.args.seat.now in
    let pinned = c.pin.new.seat in
    let count = c.len.result - c.args.from in
    let total = length-drop c.args.from c.args.values.now
    ∙ ap (λ n. n - c.args.from) (sym c.len.ensures) in
    let given = subst (λ r. HasPlaced cf bf c.args.before count r v pinned) c.in-Ok-Ok.field-0-is
    c.in-Ok-Ok.ensures.ok in
    let new = subst (λ r. IfOk r (λ p. IsNew cf bf p v pinned)) c.in-Ok-Ok.field-0-is
    c.in-Ok-Ok.ensures.apart in
    record {
      why = why_not cf bf c.args.before c.args.sectors count c.in-Err-written.error
          c.in-Ok-Ok.place (drop c.args.from c.args.values.now) v pinned c.write_to-written.new.seat
          c.unpin.new.seat total given c.in-Err-written.ensures.err c.unpin.ensures.did;
      keeps = keeps_let_go cf bf c.in-Ok-Ok.place v pinned c.write_to-written.new.seat
          c.unpin.new.seat c.pin.ensures.keeps new c.in-Err-written.ensures.keeps
          c.unpin.ensures.did;
    }

pub returns-clause-ok : goal.returns-clause-ok
returns-clause-ok g c =
    let cf = g.C.Disk.facts in
    let bf = g.B.Disk.facts in
    let v = c.args.seat.now in
    let pinned = c.pin.new.seat in
    let count = c.len.result - c.args.from in
    let total = length-drop c.args.from c.args.values.now
    ∙ ap (λ n. n - c.args.from) (sym c.len.ensures) in
    let given = subst (λ r. HasPlaced cf bf c.args.before count r v pinned) c.in-Ok-Ok.field-0-is
    c.in-Ok-Ok.ensures.ok in
    let own = subst (λ r. IfOk r (λ p. FromEach (world cf bf pinned) (IsOwn pinned.first p)))
    c.in-Ok-Ok.field-0-is c.in-Ok-Ok.ensures.knows in
    record {
      pinned = pinned;
      given = subst (λ n. HasGiven cf bf c.args.before n c.in-Ok-Ok.place v pinned) (sym total) given;
      new = subst (λ r. IfOk r (λ p. IsNew cf bf p v pinned)) c.in-Ok-Ok.field-0-is
          c.in-Ok-Ok.ensures.apart;
      keeps = c.pin.ensures.keeps;
      stored = c.in_default.ensures.ok;
      own = c.in_default.ensures.ok.own c.in-Ok-Ok.place own;
      lies = c.in_default.ensures.lies;
    }
