-- The word in front of a text, byte by byte.
use Rattle.std.proofs.Common.{◌≡◌, ◌⊎◌, inl, inr, ℕ, ◌+◌, ◌-◌, ◌*◌, ◌<◌, ◌≤◌, ◌^◌, true, false, not, List, length, drop, get_or, Some, None, sym, ap, ◌∙◌, arith}
use Rattle.std.specs.Char.{is_ascii_digit}
use Rattle.std.specs.List.{position_or_len}
use Rattle.std.proofs.lemmas.List.{get_or-take, length-take-le}
use Rattle.std.proofs.lemmas.List.Sums.{prefix_len-le-length, passes_at_first, position_or_len_is}
use Rattle.std.proofs.lemmas.Bool.{cases_lt, false≢true, and_parts, leb-true, ne_eqb}
use Rattle.bc_script.specs.Line.{is_space, front, number_in}
use Rattle.bc_script.proofs.Numbers.{number_after, goes_on, stops, ended}

-- no space stands among the first so many bytes
abbrev pub NoSpace : List ℕ → ℕ → Type 0
NoSpace text n = (k : ℕ) → k < n → is_space (get_or text k 0) ≡ false

front_length : (text : List ℕ) → length (front text) ≡ position_or_len is_space text
front_length text = length-take-le (position_or_len is_space text) text (prefix_len-le-length (λ b. not (is_space b)) text)

front_at : (text : List ℕ) (k : ℕ) → k < position_or_len is_space text → get_or (front text) k 0 ≡ get_or text k 0
front_at text k lt = get_or-take (position_or_len is_space text) text k 0 lt

-- the word goes on where no space stands
inside : (text : List ℕ) (at : ℕ) → at < length text → NoSpace text at → is_space (get_or text at 0) ≡ false → at < position_or_len is_space text
inside text at lt before here = go (cases_lt at (position_or_len is_space text))
  where
    go : (at < position_or_len is_space text) ⊎ (position_or_len is_space text ≤ at) → at < position_or_len is_space text
    go (inl less) = less
    go (inr le) =
        let passes = passes_at_first is_space text 0 (omega arith) in
        pick (cases_lt (position_or_len is_space text) at) passes
      where
        pick : (position_or_len is_space text < at) ⊎ (at ≤ position_or_len is_space text) → is_space (get_or text (position_or_len is_space text) 0) ≡ true → at < position_or_len is_space text
        pick (inl less) passes = absurd (false≢true (sym (before (position_or_len is_space text) less) ∙ passes))
        pick (inr more) passes =
            let same : position_or_len is_space text ≡ at = omega arith in
            absurd (false≢true (sym here ∙ ap (λ k. is_space (get_or text k 0)) (sym same) ∙ passes))

pub digit_no_space : (b : ℕ) → is_ascii_digit b ≡ true → is_space b ≡ false
digit_no_space b is = let low = leb-true 48 b (and_parts _ _ is).0 in ne_eqb b 32 (omega arith)

pub more_no_space : (text : List ℕ) (at : ℕ) → NoSpace text at → is_space (get_or text at 0) ≡ false → NoSpace text (at + 1)
more_no_space text at before here k lt = go (cases_lt k at)
  where
    go : (k < at) ⊎ (at ≤ k) → is_space (get_or text k 0) ≡ false
    go (inl less) = before k less
    go (inr le) = let same : at ≡ k = omega arith in ap (λ i. is_space (get_or text i 0)) (sym same) ∙ here

-- a digit comes
pub digit_comes : (text : List ℕ) (at n m : ℕ) → at < length text → NoSpace text at → number_after n (drop at (front text)) ≡ number_after 0 (front text)
    → is_ascii_digit (get_or text at 0) ≡ true → m ≡ n * 10 + (get_or text at 0 - 48) → m < 2 ^ 64 → number_after m (drop (at + 1) (front text)) ≡ number_after 0 (front text)
digit_comes text at n m lt before was digit is fits =
    let here = inside text at lt before (digit_no_space (get_or text at 0) digit) in
    let same = front_at text at here in
    let long = front_length text in
    goes_on (front text) at n m (omega arith) was (ap (λ b. is_ascii_digit b) same ∙ digit) (is ∙ ap (λ b. n * 10 + (b - 48)) (sym same)) fits

-- another byte comes, or the number is too large
pub no_number : (text : List ℕ) (at n : ℕ) → at < length text → NoSpace text at → number_after n (drop at (front text)) ≡ number_after 0 (front text)
    → is_space (get_or text at 0) ≡ false → (is_ascii_digit (get_or text at 0) ≡ false) ⊎ (n * 10 + (get_or text at 0 - 48) < 2 ^ 64 → ⊥) → number_in (front text) ≡ None
no_number text at n lt before was space bad =
    let here = inside text at lt before space in
    let same = front_at text at here in
    let long = front_length text in
    sym (stops (front text) at n (omega arith) was (go same bad))
  where
    go : get_or (front text) at 0 ≡ get_or text at 0 → (is_ascii_digit (get_or text at 0) ≡ false) ⊎ (n * 10 + (get_or text at 0 - 48) < 2 ^ 64 → ⊥)
        → (is_ascii_digit (get_or (front text) at 0) ≡ false) ⊎ (n * 10 + (get_or (front text) at 0 - 48) < 2 ^ 64 → ⊥)
    go same (inl other) = inl (ap (λ b. is_ascii_digit b) same ∙ other)
    go same (inr large) = inr (λ fits. large (let e = ap (λ b. n * 10 + (b - 48)) same in omega arith))

-- the word ends
pub word_ends : (text : List ℕ) (at n : ℕ) → 0 < position_or_len is_space text → position_or_len is_space text ≡ at → number_after n (drop at (front text)) ≡ number_after 0 (front text) → number_in (front text) ≡ Some n
word_ends text at n some is was =
    let long = front_length text in
    sym (ended (front text) at n (λ none. omega arith) (omega arith) was)

pub ends_at : (text : List ℕ) (at : ℕ) → at ≤ length text → NoSpace text at → (at < length text → is_space (get_or text at 0) ≡ true) → position_or_len is_space text ≡ at
ends_at text at le before here = position_or_len_is is_space text at 0 le before here
