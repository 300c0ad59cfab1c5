use Rattle.std.proofs.Common.{◌∙◌, ◌≡◌, ◌+◌, ◌-◌, ◌∷◌, ◌++◌, ap, sym, subst, take, drop, length, List, ℕ, arith, length-drop}
use Rattle.std.proofs.lemmas.Bool.{eq-eqb, eqb-true}
use Rattle.std.proofs.lemmas.List.{take_all}
use Rattle.bc_script.specs.Trace.{HasNoNewline}
use Rattle.bc_script.proofs.Lines.{none_among, cut_at}
use Rattle.bc_script.proofs.draft.first_line.Goals as goal

pub returns-in_err-end : goal.returns-in_err-end
returns-in_err-end c =
    let text = c.args.text.now in
    let P : List ℕ → Type 0 = λ bs. HasNoNewline bs in
    rw c.from_residual.ensures (subst P (take_all (length text) text (omega arith)) (none_among text (length text) (omega arith) (λ k lt is. c.in_err-end.ensures k (omega arith) lt (eq-eqb _ 10 is))))

pub returns : goal.returns
returns c =
    let text = c.args.text.now in
    let at = c.in_ok-end.end in
    let first = c.in_ok-end.ensures.0 in
    let lt = first.high in
    let long = length-drop (at + 1) text in
    let rest : take (length text - (at + 1)) (drop (at + 1) text) ≡ drop (at + 1) text = take_all (length text - (at + 1)) (drop (at + 1) text) (omega arith) in (
      none_among text at (omega arith) (λ k less is. first.before k (omega arith) less (eq-eqb _ 10 is)),
      cut_at text at lt (eqb-true _ 10 c.in_ok-end.ensures.1) ∙ ap (λ (bs : List ℕ). take at text ++ 10 ∷ bs) (sym rest),
    )
