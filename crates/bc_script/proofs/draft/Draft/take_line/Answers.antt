use Rattle.std.proofs.Common.{◌≡◌, ◌∷◌, ◌++◌, ap, sym, arith, length, List, ℕ}
use Rattle.std.proofs.lemmas.List.{nil_from_length}
use Rattle.std.proofs.lemmas.Result.{err_from_is_err_and}
use Rattle.bc_script.proofs.Lines.{pushed_all}
use Rattle.bc_script.proofs.draft.Draft.take_line.Goals as goal

pub returns-in_err-check-clause-text : goal.returns-in_err-check-clause-text
returns-in_err-check-clause-text c = λ text left h.
    let p = err_from_is_err_and c.from_residual.result c.from_residual.ensures.1 in
    rw (p.1, p.2) (c.in_err-check.ensures.text text (10 ∷ left) (omega arith) h)

pub returns-then-is_empty-clause-text : goal.returns-then-is_empty-clause-text
returns-then-is_empty-clause-text c = λ text left h.
    let none : length c.args.self.now.part.items ≡ 0 = grind arith in
    let same = ap (λ (bs : List ℕ). bs ++ c.args.rest.now) (nil_from_length c.args.self.now.part.items none) in
    c.push_line.ensures.text text left c.args.rest.now c.line_of.ensures.found
    (pushed_all text _ _ _ c.args.rest.now c.args.rest.now (10 ∷ left) c.requires.part (sym same) h)

pub returns-clause-text : goal.returns-clause-text
returns-clause-text c = λ text left h.
    c.end_line.ensures.text text left (pushed_all text _ _ _ c.args.rest.now _ (10 ∷ left) c.requires.part c.in_ok-extend_from_slice.ensures.items h)
