-- What a word of digits without a zero in front spells.
use Rattle.std.proofs.Common.{◌≡◌, ◌≢◌, ℕ, zero, suc, ◌^◌, ◌<◌, ◌≤◌, List, [], ◌∷◌, length, get_or, Option, Some, None, Result, Ok, Err, refl, sym, ap, ◌∙◌, subst, arith}
use Rattle.std.specs.Prelude.{MatchOption, slice_get}
use Rattle.std.specs.Result.{result_ok}
use Rattle.std.specs.Fmt.{decimal}
use Rattle.std.specs.Str.Parse.{AllDigits, digits_value, ParsesUnsigned}
use Rattle.std.proofs.lemmas.Fmt.{decimal-digits_value, decimal_digit, decimal_nonempty, first_decimal, parse-decimal}
use Rattle.std.proofs.lemmas.Option.{none-some, slice_get-get_or, get_or_from_slice_get}
use Rattle.std.proofs.lemmas.Result.{OkIff-at_ok}
use Rattle.std.proofs.lemmas.Str.Parse.{IsNumeralModel, numerals_by_value, tells_digits, parse_plain}

own : IsNumeralModel (AllDigits 10) (digits_value 10)
own = numerals_by_value (AllDigits 10) tells_digits

-- a word begins with a digit, and with a zero only where it is that zero alone
pub record IsPlain (word : List ℕ) : Type 0 where
  pub some : 0 < length word
  pub digit : 48 ≤ get_or word 0 0
  pub alone : get_or word 0 0 ≡ 48 → length word ≡ 1

-- so does what spells a number
spelled : (word : List ℕ) (n : ℕ) → n < 2 ^ 64 → word ≡ decimal n → IsPlain word
spelled word zero small text =
    let one : word ≡ 48 ∷ [] = text ∙ decimal_digit 0 (omega arith) in
    subst IsPlain (sym one) (record { some = omega arith; digit = omega arith; alone = λ nought. refl })
spelled word (suc n) small text =
    let above = first_decimal (suc n) (omega arith) small in
    subst IsPlain (sym text) (record { some = decimal_nonempty (suc n) small; digit = omega arith; alone = λ nought. absurd (omega arith) })

-- what is parsed is spelled so, where no sign stands in front, and a zero only alone
number_is : {E : Type 0} (word : List ℕ) (n : ℕ) (r : Result ℕ E) → ParsesUnsigned 64 10 word r → r ≡ Ok n
    → get_or word 0 0 ≢ 43 → (get_or word 0 0 ≡ 48 → length word ≡ 1) → word ≡ decimal n
number_is word n r parsed is no_sign alone =
    let read = OkIff-at_ok r (AllDigits 10 word × (0 < length word) × (digits_value 10 word < 2 ^ 64)) (digits_value 10 word) n (parse_plain own 64 word r parsed no_sign) is in
    sym (decimal-digits_value own word read.0.0 read.0.1 alone read.0.2) ∙ ap (λ (k : ℕ). decimal k) (sym read.1)

pub no_first : (word : List ℕ) (n : ℕ) → None ≡ slice_get word 0 → n < 2 ^ 64 → word ≡ decimal n → ⊥
no_first word n none small text = none-some _ (none ∙ slice_get-get_or word 0 0 (spelled word n small text).some)

pub sign_first : (word : List ℕ) (first n : ℕ) → Some first ≡ slice_get word 0 → first ≡ 43 → n < 2 ^ 64 → word ≡ decimal n → ⊥
sign_first word first n is sign small text =
    let at = get_or_from_slice_get word 0 first 0 (sym is) in
    let plain = (spelled word n small text).digit in
    omega arith

pub zero_first : (word : List ℕ) (first n : ℕ) → Some first ≡ slice_get word 0 → first ≡ 48 → length word ≢ 1 → n < 2 ^ 64 → word ≡ decimal n → ⊥
zero_first word first n is nought longer small text =
    longer ((spelled word n small text).alone (get_or_from_slice_get word 0 first 0 (sym is) ∙ nought))

-- what a word is parsed as behind a first byte that isn't '+', and is '0' only alone
pub parsed : {E : Type 0} (word : List ℕ) (first : ℕ) (r : Result ℕ E) (found : Option ℕ) → Some first ≡ slice_get word 0
    → first ≢ 43 → (first ≡ 48 → length word ≡ 1) → ParsesUnsigned 64 10 word r → found ≡ result_ok r
    → MatchOption found ((n : ℕ) → n < 2 ^ 64 → word ≡ decimal n → ⊥) (λ n. word ≡ decimal n)
parsed {E} word first (Ok n) found is no_sign alone parses same =
    let at = get_or_from_slice_get word 0 first 0 (sym is) in
    let ok : Result ℕ E = Ok n in rw same (number_is word n ok parses refl (λ e. no_sign (sym at ∙ e)) (λ e. alone (sym at ∙ e)))
parsed word first (Err e) found is no_sign alone parses same =
    rw same (λ n small text. let ok = parse-decimal 64 n word (Err e) small small text parses in cc)
