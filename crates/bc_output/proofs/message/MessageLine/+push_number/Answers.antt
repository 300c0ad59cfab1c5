use Rattle.std.proofs.Common.{◌≡◌, ◌≤◌, ◌<◌, ◌+◌, ◌^◌, ◌++◌, [], ◌∷◌, length, ℕ, ◌/◌, ◌%◌, List, sym, ap, ◌∙◌, arith, append_assoc, length-append}
use Rattle.std.specs.Fmt.{decimal}
use Rattle.std.proofs.lemmas.Fmt.{decimal_digit, decimal_step}
use Rattle.bc_output.proofs.message.MessageLine.+push_number.Goals as goal
use Rattle.bc_output.proofs.message.MessageLine.+push_number.Goals.{then-number-ge10, else-number-ge10}

-- one digit more than the number without its last one
longer : (n : ℕ) → 10 ≤ n → n < 2 ^ 32 → length (decimal n) ≡ length (decimal (n / 10)) + 1
longer n big small = ap (λ (t : List ℕ). length t) (decimal_step n big (omega arith)) ∙ length-append (decimal (n / 10)) ((48 + n % 10) ∷ [])

-- the text with the number behind it, from the text with its other digits
digit_behind : (n : ℕ) (text others new : List ℕ) → 10 ≤ n → n < 2 ^ 32 → others ≡ text ++ decimal (n / 10) → new ≡ others ++ (48 + n % 10) ∷ [] → new ≡ text ++ decimal n
digit_behind n text others new big small is now =
    now ∙ ap (λ (t : List ℕ). t ++ (48 + n % 10) ∷ []) is ∙ append_assoc text (decimal (n / 10)) ((48 + n % 10) ∷ [])
    ∙ ap (λ (t : List ℕ). text ++ t) (sym (decimal_step n big (omega arith)))

-- a number of one digit
only_digit : (n : ℕ) (text new : List ℕ) → n < 10 → new ≡ text ++ (48 + n % 10) ∷ [] → new ≡ text ++ decimal n
only_digit n text new small now =
    let same : n % 10 ≡ n = omega arith in
    now ∙ ap (λ m. text ++ (48 + m) ∷ []) same ∙ ap (λ (t : List ℕ). text ++ t) (sym (decimal_digit n small))

pub push_number-requires : goal.push_number-requires
push_number-requires t c = let more = longer c.args.number c.if-number-ge10.true c.ranges.number.fits in (omega arith, omega arith)

pub push-requires : goal.push-requires
push-requires t c =
    elim c.if-number-ge10.branch [
      | then-number-ge10 w ↦
          let more = longer c.args.number w.if-number-ge10.true c.ranges.number.fits in
          let now = ap (λ (t : List ℕ). length t) (w.self-is ∙ w.push_number.ensures) ∙ length-append c.args.self.now (decimal (c.args.number / 10)) in
          omega arith
      | else-number-ge10 w ↦
          let one = ap (λ (t : List ℕ). length t) (decimal_digit c.args.number w.if-number-ge10.false) in
          let now = ap (λ (t : List ℕ). length t) w.self-is in
          omega arith
    ]

pub returns : goal.returns
returns t c =
    elim c.if-number-ge10.branch [
      | then-number-ge10 w ↦
          digit_behind c.args.number c.args.self.now c.if-number-ge10.self c.push.new.self w.if-number-ge10.true c.ranges.number.fits (w.self-is ∙ w.push_number.ensures) c.push.ensures
      | else-number-ge10 w ↦
          only_digit c.args.number c.args.self.now c.push.new.self w.if-number-ge10.false (c.push.ensures ∙ ap (λ (t : List ℕ). t ++ (48 + c.args.number % 10) ∷ []) w.self-is)
    ]
