use Rattle.std.proofs.Common.{ap, sym, subst, ◌∙◌}
use Rattle.std.specs.Prelude.{IfErr, IfOk}
use Rattle.bc_script.specs.declared.line.Action.{Action}
use Rattle.bc_script.specs.declared.line.Line.{Line}
use Rattle.bc_script.specs.declared.line.Line.TheVariants as line
use Rattle.bc_cached_serve.proofs.Order.{silent_served}
use Rattle.bc_cached_serve.proofs.in_order.serve_line.Goals as goal
use Rattle.bc_cached_serve.specs.Answered.{HasHalfServedLine, HasServedLine}

pub returns-in_default-clause-ok : goal.returns-in_default-clause-ok
returns-in_default-clause-ok g c = silent_served g.C.Disk.facts g.B.Disk.facts c.args.parts.now
    c.args.size c.args.number c.args.line c.args.seat.now c.requires.ready c.in_default.is

pub returns-in-Read-clause-ok : goal.returns-in-Read-clause-ok
returns-in-Read-clause-ok g c = subst (λ (l : Line). IfOk c.serve_read.result
    (λ a. HasServedLine g.C.Disk.facts g.B.Disk.facts c.args.parts.now c.args.size c.args.number l
    a c.args.seat.now c.serve_read.new.seat))
    (sym (c.in-Request.is ∙ ap (λ (x : Action).
    line.Request c.in-Request.worker c.in-Request.phase x) c.in-Read.is)) c.serve_read.ensures.ok

pub returns-in-Read-clause-err : goal.returns-in-Read-clause-err
returns-in-Read-clause-err g c = subst (λ (l : Line). IfErr c.serve_read.result
    (λ why. HasHalfServedLine g.C.Disk.facts g.B.Disk.facts c.args.parts.now c.args.size
    c.args.number l why c.args.seat.now c.serve_read.new.seat))
    (sym (c.in-Request.is ∙ ap (λ (x : Action).
    line.Request c.in-Request.worker c.in-Request.phase x) c.in-Read.is)) c.serve_read.ensures.err

pub returns-in-Flush-clause-ok : goal.returns-in-Flush-clause-ok
returns-in-Flush-clause-ok g c = subst (λ (l : Line).
    HasServedLine g.C.Disk.facts g.B.Disk.facts c.args.parts.now c.args.size c.args.number l
    c.serve_flush.result c.args.seat.now c.serve_flush.new.seat)
    (sym (c.in-Request.is ∙ ap (λ (x : Action).
    line.Request c.in-Request.worker c.in-Request.phase x) c.in-Flush.is))
    c.serve_flush.ensures.served
