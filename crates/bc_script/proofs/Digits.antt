-- A number of few digits in front of a text, and what one space behind a word says of the words.
use Rattle.std.proofs.Common.{◌≡◌, ℕ, suc, ◌+◌, ◌-◌, ◌*◌, ◌<◌, ◌≤◌, ◌^◌, Bool, true, false, if◌then◌else◌, codes, Err, None, List, [], ◌∷◌, length, take, drop, get_or, refl, sym, ap, ◌∙◌, arith, Ok, length-drop}
use Rattle.std.specs.Char.{is_ascii_digit}
use Rattle.std.specs.List.{position_or_len}
use Rattle.std.proofs.Math.Nat.{pow-succ', pow-le-pow_right}
use Rattle.std.proofs.lemmas.Bool.{and_parts, leb-true, eq-eqb}
use Rattle.std.proofs.lemmas.List.{take_all, drop_more}
use Rattle.std.proofs.lemmas.Slice.Eq.{bytes_eq-Decides}
use Rattle.std.specs.Str.{bytes_eq}
use Rattle.bc_script.specs.declared.form.Form.{Form}
use Rattle.bc_script.specs.declared.form.Form.TheVariants.{PhaseEnd}
use Rattle.bc_script.specs.declared.reason.Reason.TheVariants.{Number}
use Rattle.bc_script.specs.Line.{is_space, field_at, front, number_at, number_in, number_of, request_in, said_in, words}
use Rattle.bc_script.proofs.Fronts.{NoSpace, digit_comes, digit_no_space, ends_at, more_no_space, word_ends}
use Rattle.bc_script.proofs.Numbers.{number_after}
use Rattle.bc_script.proofs.Words.{word_taken, space_first}

-- so many digits in front of a text were read, and are this number
pub record AreRead (text : List ℕ) (at value : ℕ) : Type 0 where
  pub before : NoSpace text at
  pub value_is : number_after value (drop at (front text)) ≡ number_after 0 (front text)
  pub small : value < 10 ^ at

pub none_read : (text : List ℕ) → AreRead text 0 0
none_read text = record { before = λ k lt. absurd (omega arith); value_is = refl; small = omega arith }

-- below 19 digits there is room for one more
pub room : (at n : ℕ) → at < 19 → n < 10 ^ at → n < 10 ^ 18
room at n few small =
    let le : 10 ^ at ≤ 10 ^ 18 = pow-le-pow_right {n = 10} (omega arith) {i = at} {j = 18} (omega arith) in
    omega (arith, le, small)

digit_range : (b : ℕ) → is_ascii_digit b ≡ true → (48 ≤ b) × (b ≤ 57)
digit_range b is = let parts = and_parts _ _ is in (leb-true 48 b parts.0, leb-true b 57 parts.1)

pub one_read : (text : List ℕ) (at n m : ℕ) → at < length text → at < 19 → AreRead text at n → is_ascii_digit (get_or text at 0) ≡ true
    → m ≡ 10 * n + (get_or text at 0 - 48) → AreRead text (at + 1) m
one_read text at n m lt few read digit is =
    let range = digit_range (get_or text at 0) digit in
    let less = room at n few read.small in
    let more : 10 ^ suc at ≡ 10 * 10 ^ at = pow-succ' 10 at in
    record {
      before = more_no_space text at read.before (digit_no_space (get_or text at 0) digit);
      value_is = digit_comes text at n m lt read.before read.value_is digit (omega (arith, is)) (omega (arith, is, less, range.1));
      small = (let s = read.small in let e : at + 1 ≡ suc at = omega arith in rw e (omega (arith, more, s, is, range.1)));
    }

-- the digits end with the text or with a space: then they are the first word, and a number
pub number_read : (text rest : List ℕ) (at n : ℕ) → 0 < at → at ≤ length text → AreRead text at n → (at < length text → is_space (get_or text at 0) ≡ true)
    → words rest ≡ words (drop at text) → number_at (words text) ≡ Ok (n, words rest)
number_read text rest at n some le read here same =
    let end : position_or_len is_space text ≡ at = ends_at text at le read.before here in
    let is = word_ends text at n (omega arith) end read.value_is in
    ap (λ (ws : List (List ℕ)). number_at ws) (word_taken text (omega arith))
    ∙ ap (λ o. number_of o (words (drop (position_or_len is_space text) text))) is
    ∙ ap (λ (ws : List (List ℕ)). Ok (n, ws)) (ap (λ k. words (drop k text)) end ∙ sym same)

-- what is left of a text behind so many bytes
pub left_behind : (text : List ℕ) (at : ℕ) → take (length text - at) (drop at text) ≡ drop at text
left_behind text at = take_all (length text - at) (drop at text) (let long = length-drop at text in omega arith)

pub number_at_end : (text : List ℕ) (at n : ℕ) → (at ≡ 0 → ⊥) → at ≡ length text → AreRead text at n
    → number_at (words text) ≡ Ok (n, words (take (length text - at) (drop at text)))
number_at_end text at n some all read =
    number_read text (take (length text - at) (drop at text)) at n (omega arith) (omega arith) read (λ lt. absurd (omega arith))
    (ap (λ (bs : List ℕ). words bs) (left_behind text at))

pub number_and_space : (text : List ℕ) (at n : ℕ) → (at ≡ 0 → ⊥) → at < length text → AreRead text at n → get_or text at 0 ≡ 32
    → number_at (words text) ≡ Ok (n, words (take (length text - (at + 1)) (drop (at + 1) text)))
number_and_space text at n some lt read here =
    number_read text (take (length text - (at + 1)) (drop (at + 1) text)) at n (omega arith) (omega arith) read (λ _. eq-eqb _ 32 here)
    (ap (λ (bs : List ℕ). words bs) (left_behind text (at + 1))
    ∙ sym (ap (λ (bs : List ℕ). words bs) (drop_more text at 0 lt) ∙ space_first (get_or text at 0) (drop (at + 1) text) (eq-eqb _ 32 here)))

-- a request doesn't end a phase
same_bytes : (xs ys : List ℕ) → bytes_eq xs ys ≡ true → xs ≡ ys
same_bytes xs ys is = (bytes_eq-Decides xs ys).0 is

nothing_asked : (form : Form) → request_in [] ≡ Ok form → ⊥
unfolding request_in field_at
nothing_asked form h = cc

dash_no_number : number_in (codes "-") ≡ None
unfolding number_in
dash_no_number = refl

none_asked : (word : List ℕ) (rest : List (List ℕ)) → number_in word ≡ None → request_in (word ∷ rest) ≡ Err Number
unfolding request_in field_at
none_asked word rest none = rw none refl

pub said_request : (ws : List (List ℕ)) (form : Form) → request_in ws ≡ Ok form → said_in ws ≡ Ok form
said_request [] form h = absurd (nothing_asked form h)
said_request (word ∷ []) form h = go (bytes_eq word (codes "-")) refl h
  where
    go : (b : Bool) → bytes_eq word (codes "-") ≡ b → request_in (word ∷ []) ≡ Ok form → (if b then Ok PhaseEnd else request_in (word ∷ [])) ≡ Ok form
    go true is h =
        let none : number_in word ≡ None = ap (λ (w : List ℕ). number_in w) (same_bytes word (codes "-") is) ∙ dash_no_number in
        absurd (let e : Err Number ≡ Ok form = sym (none_asked word [] none) ∙ h in cc)
    go false is h = h
said_request (word ∷ other ∷ rest) form h = h
