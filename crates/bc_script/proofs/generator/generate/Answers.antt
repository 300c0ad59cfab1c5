use Rattle.std.proofs.Common.{◌∙◌, ◌++◌, ◌∷◌, [], List, ap, arith}
use Rattle.bc_script.specs.declared.line.Line.{Line}
use Rattle.bc_script.specs.Generator.{generated}
use Rattle.bc_script.proofs.Drawn.{drawn_first, drawn_more, generated_first, generated_more}
use Rattle.bc_script.proofs.generator.generate.Goals as goal

pub loop-made-init : goal.loop-made-init
loop-made-init c = record {
  lines = c.new-lines.ensures.items ∙ generated_first c.args.start c.args.workers c.args.size;
  number = drawn_first c.args.start;
  small = omega arith;
}

pub loop-made-preserved : goal.loop-made-preserved
loop-made-preserved c =
    let h = c.loop-made.invariant in
    let small = c.next_drawn-number.ensures.small in
    let drawn = drawn_more c.args.start c.loop-made.made c.loop-made.number c.next_drawn-number.result h.number c.next_drawn-number.ensures.next in
    record {
      lines = c.in_ok-push.ensures.items ∙ ap (λ (ls : List Line). ls ++ c.drawn_line.result ∷ []) h.lines
          ∙ ap (λ (l : Line). generated c.args.start c.args.workers c.args.size c.loop-made.made ++ l ∷ []) c.drawn_line.ensures
          ∙ generated_more c.args.start c.args.workers c.args.size c.loop-made.made c.next_drawn-number.result drawn;
      number = drawn;
      small = omega arith;
    }
