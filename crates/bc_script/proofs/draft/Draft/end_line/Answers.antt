use Rattle.std.proofs.Common.{◌∙◌, ap, ℕ, List}
use Rattle.bc_script.specs.Unserved.{line_in}
use Rattle.bc_script.proofs.draft.Draft.end_line.Goals as goal

pub returns-clause-text : goal.returns-clause-text
returns-clause-text c = λ text left h. c.push_line.ensures.text text left c.args.self.now.part.items
    (c.line_of-read.ensures.found ∙ ap (λ (t : List ℕ). line_in t) c.deref.ensures.value) h
