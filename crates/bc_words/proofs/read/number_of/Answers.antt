use Rattle.std.proofs.Common.{ap, ◌∙◌, List, ℕ}
use Rattle.std.specs.Prelude.{slice_get}
use Rattle.bc_words.proofs.Numbers.{no_first, parsed, sign_first, zero_first}
use Rattle.bc_words.proofs.read.number_of.Goals as goal
use Rattle.bc_words.proofs.read.number_of.Goals.{else-first-eq48-via-then-first-eq48+else-word-ne1, else-first-eq48-via-else-first-eq48}

pub returns-in_err-first : goal.returns-in_err-first
returns-in_err-first c = rw c.from_residual.ensures (λ n.
    no_first c.args.word.now n (c.in_err-first.ensures.value ∙ ap (λ (bs : List ℕ). slice_get bs 0) c.as_bytes.ensures.value))

pub returns-then-first-eq43 : goal.returns-then-first-eq43
returns-then-first-eq43 c = λ n.
    let first = c.in_ok-first.ensures.value ∙ ap (λ (bs : List ℕ). slice_get bs 0) c.as_bytes.ensures.value in
    sign_first _ _ n first c.if-first-eq43.true

pub returns-then-word-ne1 : goal.returns-then-word-ne1
returns-then-word-ne1 c = λ n.
    let first = c.in_ok-first.ensures.value ∙ ap (λ (bs : List ℕ). slice_get bs 0) c.as_bytes.ensures.value in
    zero_first _ _ n first c.if-first-eq48.true c.if-word-ne1.true

pub returns : goal.returns
returns c =
    let first = c.in_ok-first.ensures.value ∙ ap (λ (bs : List ℕ). slice_get bs 0) c.as_bytes.ensures.value in
    parsed _ _ _ _ first c.if-first-eq43.false
    (λ nought. elim c.else-first-eq48.branch [
      | else-first-eq48-via-then-first-eq48+else-word-ne1 w ↦ w.if-word-ne1.false
      | else-first-eq48-via-else-first-eq48 w ↦ absurd (w.if-first-eq48.false nought)
    ])
    c.parse.ensures.value.0 c.ok.ensures.value
