use Rattle.std.proofs.Common.{◌+◌, ◌++◌, List, length, sym, ap, ◌∙◌, subst}
use Rattle.std.proofs.lemmas.Bool.{ltb-false, ltb-true}
use Rattle.bc_model.specs.Sector.{Value}
use Rattle.bc_model.specs.Values.{patterns}
use Rattle.bc_script.specs.declared.answer.Answer.{Answer}
use Rattle.bc_serve.proofs.Stamps.{length_patterns}
use Rattle.bc_serve.specs.Answered.{HasAnsweredWrite}
use Rattle.bc_serve.proofs.Answering.{outside_writing, write_done, write_refused, write_short}
use Rattle.bc_serve.proofs.in_order.serve_write.Goals as goal

pub returns-then-is_outside-clause-serves : goal.returns-then-is_outside-clause-serves
returns-then-is_outside-clause-serves g c = outside_writing g.C.Disk.facts g.B.Disk.facts c.args.seat.now
    c.args.job.now c.args.stamp c.requires.ready.works.seat
    (ltb-true c.args.job.now.size (c.args.job.now.first + c.args.job.now.count)
    (sym c.is_outside.ensures ∙ c.if-is_outside.true))

pub returns-in_default-clause-serves : goal.returns-in_default-clause-serves
returns-in_default-clause-serves g c = write_short g.C.Disk.facts g.B.Disk.facts c.args.seat.now c.args.job.now
    c.args.stamp c.requires.ready.works.seat
    (ltb-false c.args.job.now.size (c.args.job.now.first + c.args.job.now.count)
    (sym c.is_outside.ensures ∙ c.if-is_outside.false)) c.requires.range.some

pub write-requires-clause-values : goal.write-requires-clause-values
write-requires-clause-values g c = ap (λ (vs : List Value). length vs) (c.in-Ok.ensures.ok ∙ ap (λ (vs : List Value). vs ++ patterns c.args.stamp c.args.job.now.first
    c.args.job.now.count) c.new-values.ensures)
    ∙ length_patterns c.args.stamp c.args.job.now.first c.args.job.now.count

pub returns-in-Ok-write-clause-serves : goal.returns-in-Ok-write-clause-serves
returns-in-Ok-write-clause-serves g c = write_done g.C.Disk.facts g.B.Disk.facts c.args.seat.now c.write.new.seat
    c.args.job.now c.args.stamp c.push_pattern.new.self (c.in-Ok.ensures.ok ∙ ap (λ (vs : List Value). vs ++ patterns c.args.stamp c.args.job.now.first
    c.args.job.now.count) c.new-values.ensures) c.in-Ok-write.ensures.ok

pub returns-clause-serves : goal.returns-clause-serves
returns-clause-serves g c = subst (λ (a : Answer). HasAnsweredWrite g.C.Disk.facts g.B.Disk.facts c.args.job.now
    c.args.stamp a c.args.seat.now c.write.new.seat) (sym c.refused.ensures)
    (write_refused g.C.Disk.facts g.B.Disk.facts c.args.seat.now c.write.new.seat c.args.job.now c.args.stamp
    c.push_pattern.new.self c.in-Err.error c.requires.ready.works.seat (c.in-Ok.ensures.ok ∙ ap (λ (vs : List Value). vs ++ patterns c.args.stamp c.args.job.now.first
    c.args.job.now.count) c.new-values.ensures) c.in-Err.ensures.err)
