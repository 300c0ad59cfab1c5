use Rattle.std.proofs.Common.{◌++◌, ◌∷◌, ◌∙◌, ap, subst, ℕ, List, arith, length, length-append, append_assoc}
use Rattle.std.proofs.lemmas.Result.{err_from_is_err_and}
use Rattle.bc_script.specs.Draft.{IsSoFar}
use Rattle.bc_script.proofs.draft.Draft.take_all.Goals as goal

pub returns-in_err-take_line-clause-text : goal.returns-in_err-take_line-clause-text
returns-in_err-take_line-clause-text c = λ text left h.
    let p = err_from_is_err_and c.from_residual.result c.from_residual.ensures.1 in
    let P : List ℕ → Type 0 = λ bs. IsSoFar text c.loop-line.self.lines.items c.loop-line.self.phase c.loop-line.self.part.items bs in
    let line = c.in-Some.line.now in
    let behind = c.in-Some.behind.now in
    let whole = ap (λ (bs : List ℕ). bs ++ left) c.in-Some.ensures.1 ∙ append_assoc line (10 ∷ behind) left in
    rw (p.1, p.2) (c.in_err-take_line.ensures.text text (behind ++ left) (subst P whole (c.loop-line.invariant.text text left h)))

pub loop-line-preserved : goal.loop-line-preserved
loop-line-preserved c =
    let line = c.in-Some.line.now in
    let behind = c.in-Some.behind.now in
    let long = ap (λ (bs : List ℕ). length bs) c.in-Some.ensures.1 ∙ length-append line (10 ∷ behind) in
    record {
      draft = c.in_ok-take_line.ensures.draft;
      lines = (let l = c.loop-line.invariant.lines in let m = c.in_ok-take_line.ensures.lines in omega arith);
      more = (let l = c.loop-line.invariant.more in let m = c.in_ok-take_line.ensures.more in omega arith);
      text = λ text left h.
          let P : List ℕ → Type 0 = λ bs. IsSoFar text c.loop-line.self.lines.items c.loop-line.self.phase c.loop-line.self.part.items bs in
          let whole = ap (λ (bs : List ℕ). bs ++ left) c.in-Some.ensures.1 ∙ append_assoc line (10 ∷ behind) left in
          c.in_ok-take_line.ensures.text text (behind ++ left) (subst P whole (c.loop-line.invariant.text text left h));
    }
