use Rattle.bc_output.specs.Lines.{memory_line}
use Rattle.bc_output.proofs.Standing.{memory_first, put_line}
use Rattle.bc_output.proofs.answers.put_some.Goals as goal

pub returns-then-count-eq0-clause-put : goal.returns-then-count-eq0-clause-put
returns-then-count-eq0-clause-put g c = (
  memory_line,
  memory_first c.args.answers.now c.requires.some (c.gather-count.ensures.loud c.if-count-eq0.true),
  put_line c.put_all.result memory_line (g.K.Sink.facts c.args.out.now) (g.K.Sink.facts c.put_all.new.out) c.put_all.ensures.ok c.put_all.ensures.fault,
)
