use Rattle.std.proofs.Common.{◌≡◌, ◌<◌, sym, subst, List, length, arith, []}
use Rattle.std.proofs.lemmas.List.{nil_from_length}
use Rattle.std.proofs.lemmas.Result.{err_from_is_err_and}
use Rattle.bc_script.specs.declared.line.Line.{Line}
use Rattle.bc_script.specs.Trace.{lines_of, SpellAll}
use Rattle.bc_script.proofs.Lines.{last_line, whole}
use Rattle.bc_script.proofs.draft.Draft.end.Goals as goal
use Rattle.bc_script.proofs.draft.Draft.end.Goals.{then-not-is_empty+in_ok-end_line, else-not-is_empty}

pub returns-in_err-end_line-clause-text : goal.returns-in_err-end_line-clause-text
returns-in_err-end_line-clause-text c = λ text h.
    let p = err_from_is_err_and c.from_residual.result c.from_residual.ensures.1 in
    let some : 0 < length c.args.self.part.items = grind arith in
    rw (p.1, p.2) (c.in_err-end_line.ensures.text text [] (last_line text c.args.self.lines.items c.args.self.phase c.args.self.part.items some h))

pub returns-clause-text : goal.returns-clause-text
returns-clause-text c = λ text h.
    let P : List Line → Type 0 = λ ls. SpellAll (lines_of text) ls in
    subst P (sym c.from_lines.ensures) (elim c.if-not-is_empty.branch [
      | then-not-is_empty+in_ok-end_line w ↦
          let some : 0 < length c.args.self.part.items = grind arith in
          rw w.self-is (whole text w.end_line.new.self.lines.items w.end_line.new.self.phase w.end_line.new.self.part.items w.in_ok-end_line.ensures.empty
          (w.in_ok-end_line.ensures.text text [] (last_line text c.args.self.lines.items c.args.self.phase c.args.self.part.items some h)))
      | else-not-is_empty w ↦
          let none : length c.args.self.part.items ≡ 0 = grind arith in
          rw w.self-is (whole text c.args.self.lines.items c.args.self.phase c.args.self.part.items (nil_from_length c.args.self.part.items none) h)
    ])
