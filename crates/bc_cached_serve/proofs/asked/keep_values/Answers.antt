use Rattle.std.proofs.Common.{◌≡◌, suc, ◌+◌, All, get_or, take, sym, ap, ◌∙◌, subst, arith}
use Rattle.std.proofs.lemmas.List.{take_all}
use Rattle.std.proofs.lemmas.List.Elements.{All-push}
use Rattle.std.proofs.Math.Seq.{take-suc}
use Rattle.bc_script.specs.declared.line.Line.{Line}
use Rattle.bc_script.specs.declared.line.Line.TheVariants.{Silent}
use Rattle.bc_cached_serve.specs.Answered.{KeepsValues}
use Rattle.bc_cached_serve.proofs.asked.keep_values.Goals as goal

pub loop-line-preserved : goal.loop-line-preserved
loop-line-preserved c =
    let lines = c.args.lines.now in
    let i = c.loop-line.line-index in
    let zero : Line = Silent in
    let one : i + 1 ≡ suc i = omega arith in
    let here = c.if-not-keeps_values.ensures in
    subst (All KeepsValues) (sym (ap (λ k. take k lines) one
    ∙ take-suc lines i zero c.loop-line-test.true))
    (All-push KeepsValues (take i lines) (get_or lines i zero) c.loop-line.invariant here)

pub returns : goal.returns
returns c = subst (All KeepsValues)
    (take_all c.loop-line.line-index c.args.lines.now c.loop-line-test.false) c.loop-line.invariant
