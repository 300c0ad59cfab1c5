-- What a word of digits is read as.
use Rattle.std.proofs.Common.{◌≡◌, ◌⊎◌, inl, inr, ℕ, ◌+◌, ◌-◌, ◌*◌, ◌^◌, ◌<◌, ◌≤◌, Bool, true, false, cond, ◌&&◌, nat_lt, nat_le, List, [], ◌∷◌, length, drop, get_or, Option, Some, None, refl, sym, ap, ◌∙◌, arith, if◌then◌else◌}
use Rattle.std.specs.Char.{is_ascii_digit, digit_value}
use Rattle.std.specs.Str.Parse.{AllDigits, digits_value_after}
use Rattle.std.proofs.lemmas.Bool.{false≢true, and_parts, and_from, and_left, and_right, cases_lt, lt-ltb, le-ltb, ltb-true, leb-true, le-leb}
use Rattle.std.proofs.lemmas.Option.{same_Some, none-some}
use Rattle.std.proofs.lemmas.List.{drop_more, drop_all}
use Rattle.std.proofs.lemmas.Str.Parse.{digit_from_value}
use Rattle.std.specs.List.{list_all}
use Rattle.std.specs.Str.Parse.{IsNumeral, digits_value}
use Rattle.bc_script.specs.Line.{number_in, is_word}

-- the number that these digits write behind those of n, where it stays below 2 ^ 64
abbrev pub number_after : ℕ → List ℕ → Option ℕ
number_after n [] = Some n
number_after n (c ∷ cs) = if is_ascii_digit c && nat_lt (n * 10 + (c - 48)) (2 ^ 64) then number_after (n * 10 + (c - 48)) cs else None

-- the same of a whole word, digit by digit
unfoldable digits_in : List ℕ → Option ℕ
digits_in [] = None
digits_in (c ∷ cs) = number_after 0 (c ∷ cs)

abbrev IsNumber : List ℕ → ℕ → Type 0
IsNumber word n = IsNumeral 10 word × (n ≡ digits_value 10 word) × (n < 2 ^ 64)

none_digits : (word : List ℕ) → length word ≡ 0 → None ≡ digits_in word
unfolding digits_in
none_digits [] h = refl
none_digits (c ∷ cs) h = absurd (omega arith)

some_in : (word : List ℕ) → (length word ≡ 0 → ⊥) → number_after 0 word ≡ digits_in word
unfolding digits_in
some_in [] h = absurd (h refl)
some_in (c ∷ cs) h = refl

-- one digit more
one_more : (word : List ℕ) (i n : ℕ) → i < length word → number_after n (drop i word) ≡ number_after 0 word
    → number_after n (get_or word i 0 ∷ drop (i + 1) word) ≡ number_after 0 word
one_more word i n lt h = ap (λ (cs : List ℕ). number_after n cs) (sym (drop_more word i 0 lt)) ∙ h

pub goes_on : (word : List ℕ) (i n m : ℕ) → i < length word → number_after n (drop i word) ≡ number_after 0 word
    → is_ascii_digit (get_or word i 0) ≡ true → m ≡ n * 10 + (get_or word i 0 - 48) → m < 2 ^ 64
    → number_after m (drop (i + 1) word) ≡ number_after 0 word
goes_on word i n m lt h digit is fits =
    let test = and_from (is_ascii_digit (get_or word i 0)) (nat_lt (n * 10 + (get_or word i 0 - 48)) (2 ^ 64)) digit (lt-ltb _ _ (omega arith)) in
    ap (λ k. number_after k (drop (i + 1) word)) is
    ∙ sym (ap (λ b. if b then number_after (n * 10 + (get_or word i 0 - 48)) (drop (i + 1) word) else None) test)
    ∙ one_more word i n lt h

not_less : (a b : ℕ) → (a < b → ⊥) → b ≤ a
not_less a b large = go (cases_lt a b)
  where
    go : (a < b) ⊎ (b ≤ a) → b ≤ a
    go (inl small) = absurd (large small)
    go (inr le) = le

stop_digits : (word : List ℕ) (i n : ℕ) → i < length word → number_after n (drop i word) ≡ number_after 0 word
    → (is_ascii_digit (get_or word i 0) ≡ false) ⊎ (n * 10 + (get_or word i 0 - 48) < 2 ^ 64 → ⊥)
    → None ≡ digits_in word
stop_digits word i n lt h bad = sym (sym (some_in word (λ z. omega arith)) ∙ sym (one_more word i n lt h) ∙ ap (λ b. if b then number_after (n * 10 + (get_or word i 0 - 48)) (drop (i + 1) word) else None) (test bad))
  where
    test : (is_ascii_digit (get_or word i 0) ≡ false) ⊎ (n * 10 + (get_or word i 0 - 48) < 2 ^ 64 → ⊥)
        → (is_ascii_digit (get_or word i 0) && nat_lt (n * 10 + (get_or word i 0 - 48)) (2 ^ 64)) ≡ false
    test (inl other) = and_left _ _ other
    test (inr large) = and_right _ _ (le-ltb _ _ (not_less _ _ large))

end_digits : (word : List ℕ) (i n : ℕ) → (length word ≡ 0 → ⊥) → length word ≤ i → number_after n (drop i word) ≡ number_after 0 word → Some n ≡ digits_in word
end_digits word i n some le h = ap (λ (cs : List ℕ). number_after n cs) (sym (drop_all i word le)) ∙ h ∙ some_in word some

-- a digit is worth what it is above '0'
digit_worth : (c : ℕ) → 48 ≤ c → c ≤ 57 → digit_value c ≡ c - 48
digit_worth c low high = ap (λ b. cond b 36 (cond (nat_lt c 58) (c - 48) (cond (nat_lt c 65) 36 (cond (nat_lt c 91) (c - 55) (cond (nat_lt c 97) 36 (cond (nat_lt c 123) (c - 87) 36)))))) (le-ltb c 48 low)
    ∙ ap (λ b. cond b (c - 48) (cond (nat_lt c 65) 36 (cond (nat_lt c 91) (c - 55) (cond (nat_lt c 97) 36 (cond (nat_lt c 123) (c - 87) 36))))) (lt-ltb c 58 (omega arith))

in_digits : (c : ℕ) → is_ascii_digit c ≡ true → (48 ≤ c) × (c ≤ 57)
in_digits c is = let parts = and_parts (nat_le 48 c) (nat_le c 57) is in (leb-true 48 c parts.0, leb-true c 57 parts.1)

after_is : (n : ℕ) (cs : List ℕ) (m : ℕ) → n < 2 ^ 64 → number_after n cs ≡ Some m → AllDigits 10 cs × (m ≡ digits_value_after 10 n cs) × (m < 2 ^ 64)
after_is n [] m fits h = let e : n ≡ m = same_Some n m h in (tt, sym e, omega arith)
after_is n (c ∷ cs) m fits h = go (is_ascii_digit c && nat_lt (n * 10 + (c - 48)) (2 ^ 64)) refl (λ fine. after_is (n * 10 + (c - 48)) cs m fine) h
  where
    go : (b : Bool) → (is_ascii_digit c && nat_lt (n * 10 + (c - 48)) (2 ^ 64)) ≡ b
        → (n * 10 + (c - 48) < 2 ^ 64 → number_after (n * 10 + (c - 48)) cs ≡ Some m → AllDigits 10 cs × (m ≡ digits_value_after 10 (n * 10 + (c - 48)) cs) × (m < 2 ^ 64))
        → (if b then number_after (n * 10 + (c - 48)) cs else None) ≡ Some m
        → AllDigits 10 (c ∷ cs) × (m ≡ digits_value_after 10 n (c ∷ cs)) × (m < 2 ^ 64)
    go true is more h =
        let parts = and_parts (is_ascii_digit c) (nat_lt (n * 10 + (c - 48)) (2 ^ 64)) is in
        let range = in_digits c parts.0 in
        let worth = digit_worth c range.0 range.1 in
        let rest = more (ltb-true _ _ parts.1) h in
        ((omega (arith, worth, range.1), rest.0), rest.1 ∙ ap (λ k. digits_value_after 10 (n * 10 + k) cs) (sym worth), rest.2)
    go false is more h = absurd (none-some m h)

-- what is read is spelled so
number_is : (word : List ℕ) (n : ℕ) → digits_in word ≡ Some n → IsNumber word n
unfolding digits_in
number_is [] n h = absurd (none-some n h)
number_is (c ∷ cs) n h = let all = after_is 0 (c ∷ cs) n (omega arith) h in ((omega arith, all.0), all.1, all.2)

grows : (n : ℕ) (cs : List ℕ) → n ≤ digits_value_after 10 n cs
grows n [] = omega arith
grows n (c ∷ cs) = let more = grows (n * 10 + digit_value c) cs in omega arith

after_read : (n : ℕ) (cs : List ℕ) → AllDigits 10 cs → digits_value_after 10 n cs < 2 ^ 64 → number_after n cs ≡ Some (digits_value_after 10 n cs)
after_read n [] all fits = refl
after_read n (c ∷ cs) all fits =
    let range = digit_from_value c all.0 in
    let worth = digit_worth c range.0 range.1 in
    let more = grows (n * 10 + digit_value c) cs in
    let test = and_from (is_ascii_digit c) (nat_lt (n * 10 + (c - 48)) (2 ^ 64)) (and_from (nat_le 48 c) (nat_le c 57) (le-leb 48 c range.0) (le-leb c 57 range.1)) (lt-ltb _ _ (omega arith)) in
    ap (λ b. if b then number_after (n * 10 + (c - 48)) cs else None) test
    ∙ ap (λ k. number_after (n * 10 + k) cs) (sym worth) ∙ after_read (n * 10 + digit_value c) cs all.1 fits

-- what is spelled so is read
number_read : (word : List ℕ) (n : ℕ) → IsNumber word n → digits_in word ≡ Some n
unfolding digits_in
number_read [] n h = absurd (let some = h.0.0 in omega arith)
number_read (c ∷ cs) n h = after_read 0 (c ∷ cs) h.0.1 (let e = h.1 in let f = h.2 in omega arith) ∙ ap Some (sym h.1)

-- each is a digit, as a test
digits_pass : (cs : List ℕ) → AllDigits 10 cs → list_all is_ascii_digit cs ≡ true
digits_pass [] all = refl
digits_pass (c ∷ cs) all =
    let range = digit_from_value c all.0 in
    and_from (is_ascii_digit c) (list_all is_ascii_digit cs) (and_from (nat_le 48 c) (nat_le c 57) (le-leb 48 c range.0) (le-leb c 57 range.1)) (digits_pass cs all.1)

pass_digits : (cs : List ℕ) → list_all is_ascii_digit cs ≡ true → AllDigits 10 cs
pass_digits [] pass = tt
pass_digits (c ∷ cs) pass =
    let parts = and_parts (is_ascii_digit c) (list_all is_ascii_digit cs) pass in
    let range = in_digits c parts.0 in
    let worth = digit_worth c range.0 range.1 in
    (omega (arith, worth, range.1), pass_digits cs parts.1)

some_word : (w : List ℕ) → is_word w ≡ true → 0 < length w
some_word [] is = absurd (cc)
some_word (c ∷ cs) is = omega arith

word_some : (w : List ℕ) → 0 < length w → is_word w ≡ true
word_some [] some = absurd (omega arith)
word_some (c ∷ cs) some = refl

none_by : (o : Option ℕ) → ((n : ℕ) → o ≡ Some n → ⊥) → o ≡ None
none_by None none = refl
none_by (Some n) none = absurd (none n refl)

no_number : (w : List ℕ) (n : ℕ) → (is_word w && (list_all is_ascii_digit w && nat_lt (digits_value 10 w) (2 ^ 64))) ≡ false → IsNumber w n → ⊥
no_number w n is h =
    let fits : digits_value 10 w < 2 ^ 64 = let e = h.1 in let f = h.2 in omega arith in
    false≢true (sym is ∙ and_from (is_word w) (list_all is_ascii_digit w && nat_lt (digits_value 10 w) (2 ^ 64)) (word_some w h.0.0)
    (and_from (list_all is_ascii_digit w) (nat_lt (digits_value 10 w) (2 ^ 64)) (digits_pass w h.0.1) (lt-ltb _ _ fits)))

-- digit by digit or as a whole, the word is the same number
same_number : (word : List ℕ) → digits_in word ≡ number_in word
unfolding number_in
same_number word = go (is_word word && (list_all is_ascii_digit word && nat_lt (digits_value 10 word) (2 ^ 64))) refl
  where
    go : (b : Bool) → (is_word word && (list_all is_ascii_digit word && nat_lt (digits_value 10 word) (2 ^ 64))) ≡ b → digits_in word ≡ (if b then Some (digits_value 10 word) else None)
    go true is =
        let parts = and_parts (is_word word) (list_all is_ascii_digit word && nat_lt (digits_value 10 word) (2 ^ 64)) is in
        let more = and_parts (list_all is_ascii_digit word) (nat_lt (digits_value 10 word) (2 ^ 64)) parts.1 in
        number_read word (digits_value 10 word) ((some_word word parts.0, pass_digits word more.0), refl, ltb-true _ _ more.1)
    go false is = none_by (digits_in word) (λ n read. no_number word n is (number_is word n read))

pub none_in : (word : List ℕ) → length word ≡ 0 → None ≡ number_in word
none_in word none = none_digits word none ∙ same_number word

pub stops : (word : List ℕ) (i n : ℕ) → i < length word → number_after n (drop i word) ≡ number_after 0 word
    → (is_ascii_digit (get_or word i 0) ≡ false) ⊎ (n * 10 + (get_or word i 0 - 48) < 2 ^ 64 → ⊥)
    → None ≡ number_in word
stops word i n lt h bad = stop_digits word i n lt h bad ∙ same_number word

pub ended : (word : List ℕ) (i n : ℕ) → (length word ≡ 0 → ⊥) → length word ≤ i → number_after n (drop i word) ≡ number_after 0 word → Some n ≡ number_in word
ended word i n some le h = end_digits word i n some le h ∙ same_number word
