use Rattle.std.proofs.Common.{◌∙◌, ◌++◌, ◌∷◌, [], sym, ap}
use Rattle.bc_script.specs.declared.line.Line.{Line}
use Rattle.bc_script.proofs.Lines.{ended, refused_line}
use Rattle.bc_script.proofs.draft.Draft.push_line.Goals as goal

pub returns-in-Err-clause-text : goal.returns-in-Err-clause-text
returns-in-Err-clause-text c = λ text left line is h. refused_line text _ _ _ left _ _ c.requires.room
    (sym is ∙ c.in-Err.is) c.refusal.ensures h

pub returns-clause-text : goal.returns-clause-text
returns-clause-text c = λ text left line is h. ended text c.args.self.now.lines.items _ c.args.self.now.phase _ line _ left c.in-Ok.form
    (sym is ∙ c.in-Ok.is) (c.in_ok-push.ensures.items ∙ ap (λ (l : Line). c.args.self.now.lines.items ++ l ∷ []) c.in_phase.ensures) c.phase_after-self.ensures c.clear.ensures.items h
