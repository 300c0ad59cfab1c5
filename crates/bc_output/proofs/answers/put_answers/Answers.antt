use Rattle.std.proofs.Common.{List, length, take, sym, ap, subst, arith, length-drop}
use Rattle.bc_script.specs.declared.answer.Answer.{Answer}
use Rattle.bc_output.specs.Lines.{StandForAll}
use Rattle.bc_output.proofs.Taken.{to_end}
use Rattle.bc_output.proofs.Standing.{taken_more, cut_here, whole_lines}
use Rattle.bc_output.proofs.answers.put_answers.Goals as goal

pub returns-then-is_err-clause-fault : goal.returns-then-is_err-clause-fault
returns-then-is_err-clause-fault g c =
    let facts = g.K.Sink.facts in
    let some = c.put_some-some in
    let lines = some.ensures.put in
    let stands = subst (λ (these : List Answer). StandForAll some.result.printed.memory_missed (take some.result.count these) lines.0) (to_end c.loop-next.next c.args.answers.now) lines.1 in
    cut_here c.loop-next.memory_missed some.result.printed.memory_missed some.result.printed.put c.args.answers.now c.loop-next.next some.result.count lines.0
    (facts c.args.out.now) (facts c.loop-next.out) (facts some.new.out) c.loop-next.invariant.1 stands lines.2

pub loop-next-preserved : goal.loop-next-preserved
loop-next-preserved g c =
    let facts = g.K.Sink.facts in
    let some = c.put_some-some in
    let lines = some.ensures.put in
    let stands = subst (λ (these : List Answer). StandForAll some.result.printed.memory_missed (take some.result.count these) lines.0) (to_end c.loop-next.next c.args.answers.now) lines.1 in
    let long = ap (λ (these : List Answer). length these) (to_end c.loop-next.next c.args.answers.now) in (
      omega (arith, long, some.ensures.count.1, length-drop c.loop-next.next c.args.answers.now, c.loop-next.invariant.0),
      taken_more c.loop-next.memory_missed some.result.printed.memory_missed some.result.printed.put c.args.answers.now c.loop-next.next some.result.count lines.0
          (facts c.args.out.now) (facts c.loop-next.out) (facts some.new.out) c.loop-next.invariant.1 stands lines.2 (sym c.if-is_err.ensures.value),
    )

pub returns-clause-whole : goal.returns-clause-whole
returns-clause-whole g c =
    let facts = g.K.Sink.facts in
    whole_lines c.loop-next.memory_missed c.args.answers.now c.loop-next.next (facts c.args.out.now) (facts c.loop-next.out) (omega (arith, c.loop-next-test.false)) c.loop-next.invariant.1
