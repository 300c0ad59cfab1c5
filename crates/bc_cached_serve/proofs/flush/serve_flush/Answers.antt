use Rattle.std.proofs.Common.{sym, subst}
use Rattle.bc_cached_serve.proofs.Flushing.{all_flushed, first_ready, first_refused, last_done, last_ready, last_refused}
use Rattle.bc_cached_serve.proofs.flush.serve_flush.Goals as goal
use Rattle.bc_cached_serve.specs.Answered.{HasServedFlush}
use Rattle.bc_script.specs.declared.answer.Answer.TheVariants as answer

pub returns-in-Err-clause-ready : goal.returns-in-Err-clause-ready
returns-in-Err-clause-ready g c = first_ready g.C.Disk.facts g.B.Disk.facts c.args.parts.now
    c.args.of
    c.args.seat.now c.cut_off-worker.new.seat c.cut_off-worker.result c.begin-begun.new.seat
    c.take_in.new.seat c.requires.ready c.cut_off-worker.ensures.kept c.cut_off-worker.ensures.new
    c.take_in.ensures.joined c.take_in.ensures.works c.begin-begun.result
    c.cut_off-worker.ensures.idle c.begin-begun.ensures.works c.begin-begun.ensures.ok
    c.begin-begun.ensures.err c.take_in.ensures.heard

pub returns-in-Err-clause-served : goal.returns-in-Err-clause-served
returns-in-Err-clause-served g c = subst (λ why. HasServedFlush g.C.Disk.facts g.B.Disk.facts
    c.args.of (answer.Refused why) c.args.seat.now c.take_in.new.seat)
    (sym c.refusal_of_step.ensures)
    (first_refused g.C.Disk.facts g.B.Disk.facts c.args.parts.now c.args.of
    c.args.seat.now c.cut_off-worker.new.seat c.cut_off-worker.result c.begin-begun.new.seat
    c.take_in.new.seat c.requires.ready c.cut_off-worker.ensures.kept c.cut_off-worker.ensures.new
    c.take_in.ensures.joined c.take_in.ensures.works c.in-Err.error c.in-Err.ensures.err)

pub cut_off-worker-requires-2 : goal.cut_off-worker-requires-2
cut_off-worker-requires-2 g c = record {
  ready = first_ready g.C.Disk.facts g.B.Disk.facts c.args.parts.now c.args.of
      c.args.seat.now c.cut_off-worker.new.seat c.cut_off-worker.result c.begin-begun.new.seat
      c.take_in.new.seat c.requires.ready c.cut_off-worker.ensures.kept c.cut_off-worker.ensures.new
      c.take_in.ensures.joined c.take_in.ensures.works c.begin-begun.result
      c.cut_off-worker.ensures.idle c.begin-begun.ensures.works c.begin-begun.ensures.ok
      c.begin-begun.ensures.err c.take_in.ensures.heard;
}

pub end-ended-requires-clause-flushed : goal.end-ended-requires-clause-flushed
end-ended-requires-clause-flushed g c = let again = first_ready g.C.Disk.facts g.B.Disk.facts
    c.args.parts.now c.args.of
    c.args.seat.now c.cut_off-worker.new.seat c.cut_off-worker.result c.begin-begun.new.seat
    c.take_in.new.seat c.requires.ready c.cut_off-worker.ensures.kept c.cut_off-worker.ensures.new
    c.take_in.ensures.joined c.take_in.ensures.works c.begin-begun.result
    c.cut_off-worker.ensures.idle c.begin-begun.ensures.works c.begin-begun.ensures.ok
    c.begin-begun.ensures.err c.take_in.ensures.heard in
    all_flushed g.C.Disk.facts g.B.Disk.facts c.args.parts.now c.args.of
    c.args.seat.now c.cut_off-worker.new.seat c.cut_off-worker.result c.begin-begun.new.seat
    c.take_in.new.seat c.requires.ready c.cut_off-worker.ensures.kept c.cut_off-worker.ensures.new
    c.take_in.ensures.joined c.take_in.ensures.works c.in-Ok.ensures.ok c.cut_off-worker-2.result
    c.cut_off-worker-2.ensures.new again.durable

pub returns-in-Ok-ended-clause-ready : goal.returns-in-Ok-ended-clause-ready
returns-in-Ok-ended-clause-ready g c = last_ready g.C.Disk.facts g.B.Disk.facts c.args.parts.now
    c.args.of c.take_in.new.seat c.cut_off-worker-2.new.seat c.cut_off-worker-2.result
    c.end-ended.new.seat c.take_in-2.new.seat
    (first_ready g.C.Disk.facts g.B.Disk.facts c.args.parts.now c.args.of
    c.args.seat.now c.cut_off-worker.new.seat c.cut_off-worker.result c.begin-begun.new.seat
    c.take_in.new.seat c.requires.ready c.cut_off-worker.ensures.kept c.cut_off-worker.ensures.new
    c.take_in.ensures.joined c.take_in.ensures.works c.begin-begun.result
    c.cut_off-worker.ensures.idle c.begin-begun.ensures.works c.begin-begun.ensures.ok
    c.begin-begun.ensures.err c.take_in.ensures.heard) c.cut_off-worker-2.ensures.kept
    c.cut_off-worker-2.ensures.new c.take_in-2.ensures.joined c.take_in-2.ensures.works
    c.end-ended.result c.cut_off-worker-2.ensures.idle c.end-ended.ensures.works
    c.end-ended.ensures.ok c.end-ended.ensures.err c.take_in-2.ensures.heard

pub returns-in-Ok-ended-clause-served : goal.returns-in-Ok-ended-clause-served
returns-in-Ok-ended-clause-served g c = last_done g.C.Disk.facts g.B.Disk.facts c.args.parts.now
    c.args.of
    c.args.seat.now c.cut_off-worker.new.seat c.cut_off-worker.result c.begin-begun.new.seat
    c.take_in.new.seat c.requires.ready c.cut_off-worker.ensures.kept c.cut_off-worker.ensures.new
    c.take_in.ensures.joined c.take_in.ensures.works c.in-Ok.ensures.ok
    (first_ready g.C.Disk.facts g.B.Disk.facts c.args.parts.now c.args.of
    c.args.seat.now c.cut_off-worker.new.seat c.cut_off-worker.result c.begin-begun.new.seat
    c.take_in.new.seat c.requires.ready c.cut_off-worker.ensures.kept c.cut_off-worker.ensures.new
    c.take_in.ensures.joined c.take_in.ensures.works c.begin-begun.result
    c.cut_off-worker.ensures.idle c.begin-begun.ensures.works c.begin-begun.ensures.ok
    c.begin-begun.ensures.err c.take_in.ensures.heard)
    c.cut_off-worker-2.new.seat c.cut_off-worker-2.result c.end-ended.new.seat
    c.take_in-2.new.seat c.cut_off-worker-2.ensures.kept c.cut_off-worker-2.ensures.new
    c.take_in-2.ensures.joined c.take_in-2.ensures.works c.in-Ok-ended.ensures.ok

pub returns-in-Err-ended-clause-ready : goal.returns-in-Err-ended-clause-ready
returns-in-Err-ended-clause-ready g c = last_ready g.C.Disk.facts g.B.Disk.facts c.args.parts.now
    c.args.of c.take_in.new.seat c.cut_off-worker-2.new.seat c.cut_off-worker-2.result
    c.end-ended.new.seat c.take_in-2.new.seat
    (first_ready g.C.Disk.facts g.B.Disk.facts c.args.parts.now c.args.of
    c.args.seat.now c.cut_off-worker.new.seat c.cut_off-worker.result c.begin-begun.new.seat
    c.take_in.new.seat c.requires.ready c.cut_off-worker.ensures.kept c.cut_off-worker.ensures.new
    c.take_in.ensures.joined c.take_in.ensures.works c.begin-begun.result
    c.cut_off-worker.ensures.idle c.begin-begun.ensures.works c.begin-begun.ensures.ok
    c.begin-begun.ensures.err c.take_in.ensures.heard) c.cut_off-worker-2.ensures.kept
    c.cut_off-worker-2.ensures.new c.take_in-2.ensures.joined c.take_in-2.ensures.works
    c.end-ended.result c.cut_off-worker-2.ensures.idle c.end-ended.ensures.works
    c.end-ended.ensures.ok c.end-ended.ensures.err c.take_in-2.ensures.heard

pub returns-in-Err-ended-clause-served : goal.returns-in-Err-ended-clause-served
returns-in-Err-ended-clause-served g c = subst (λ why. HasServedFlush g.C.Disk.facts
    g.B.Disk.facts c.args.of (answer.Refused why) c.args.seat.now c.take_in-2.new.seat)
    (sym c.refusal_of_step-in-Err-ended.ensures)
    (last_refused g.C.Disk.facts g.B.Disk.facts c.args.parts.now c.args.of
    c.args.seat.now c.cut_off-worker.new.seat c.cut_off-worker.result c.begin-begun.new.seat
    c.take_in.new.seat c.requires.ready c.cut_off-worker.ensures.kept c.cut_off-worker.ensures.new
    c.take_in.ensures.joined c.take_in.ensures.works c.in-Ok.ensures.ok
    (first_ready g.C.Disk.facts g.B.Disk.facts c.args.parts.now c.args.of
    c.args.seat.now c.cut_off-worker.new.seat c.cut_off-worker.result c.begin-begun.new.seat
    c.take_in.new.seat c.requires.ready c.cut_off-worker.ensures.kept c.cut_off-worker.ensures.new
    c.take_in.ensures.joined c.take_in.ensures.works c.begin-begun.result
    c.cut_off-worker.ensures.idle c.begin-begun.ensures.works c.begin-begun.ensures.ok
    c.begin-begun.ensures.err c.take_in.ensures.heard)
    c.cut_off-worker-2.new.seat c.cut_off-worker-2.result c.end-ended.new.seat
    c.take_in-2.new.seat c.cut_off-worker-2.ensures.kept c.cut_off-worker-2.ensures.new
    c.take_in-2.ensures.joined c.take_in-2.ensures.works c.in-Err-ended.error
    c.in-Err-ended.ensures.err)
