-- Where the words of a text stand.
use Rattle.std.proofs.Common.{◌≡◌, ◌⊎◌, inl, inr, ℕ, zero, suc, ◌+◌, ◌<◌, ◌≤◌, Bool, true, false, cond, not, List, [], ◌∷◌, length, take, drop, refl, sym, ap, ◌∙◌, arith, get_or}
use Rattle.std.specs.Prelude.{filter}
use Rattle.std.specs.List.{slice_split, onto_first, position_or_len}
use Rattle.std.proofs.lemmas.List.Splits.{slice_split_first, slice_split_none}
use Rattle.std.proofs.lemmas.List.Sums.{prefix_len-le-length, fails_before_first, passes_at_first}
use Rattle.std.proofs.lemmas.List.{take_all, drop_all, drop_more}
use Rattle.std.proofs.lemmas.Bool.{cases_lt}
use Rattle.bc_script.specs.Line.{is_space, is_word, front, words}

-- spaces in front make no word
pub behind_blank : (text : List ℕ) → words text ≡ words (drop (position_or_len (λ b. not (is_space b)) text) text)
behind_blank [] = refl
behind_blank (b ∷ bs) = go (is_space b) (behind_blank bs) refl
  where
    go : (s : Bool) → words bs ≡ words (drop (position_or_len (λ b. not (is_space b)) bs) bs) → is_space b ≡ s
        → words (b ∷ bs) ≡ words (drop (cond (not (not s)) (1 + position_or_len (λ b. not (is_space b)) bs) 0) (b ∷ bs))
    go true h is = ap (λ s. filter is_word (cond s ([] ∷ slice_split is_space bs) (onto_first b (slice_split is_space bs)))) is ∙ h
        ∙ ap (λ n. words (drop n (b ∷ bs))) (let e : suc (position_or_len (λ b. not (is_space b)) bs) ≡ 1 + position_or_len (λ b. not (is_space b)) bs = omega arith in e)
    go false h is = refl

-- what stands behind them begins with a word or is nothing
pub word_behind : (text : List ℕ) → position_or_len is_space (drop (position_or_len (λ b. not (is_space b)) text) text) ≡ 0
    → drop (position_or_len (λ b. not (is_space b)) text) text ≡ []
word_behind [] h = refl
word_behind (b ∷ bs) h = go (is_space b) refl (word_behind bs) h
  where
    go : (s : Bool) → is_space b ≡ s
        → (position_or_len is_space (drop (position_or_len (λ b. not (is_space b)) bs) bs) ≡ 0 → drop (position_or_len (λ b. not (is_space b)) bs) bs ≡ [])
        → position_or_len is_space (drop (cond (not (not s)) (1 + position_or_len (λ b. not (is_space b)) bs) 0) (b ∷ bs)) ≡ 0
        → drop (cond (not (not s)) (1 + position_or_len (λ b. not (is_space b)) bs) 0) (b ∷ bs) ≡ []
    go true is rest h =
        let e : 1 + position_or_len (λ b. not (is_space b)) bs ≡ suc (position_or_len (λ b. not (is_space b)) bs) = omega arith in
        ap (λ n. drop n (b ∷ bs)) e ∙ rest (ap (λ n. position_or_len is_space (drop n (b ∷ bs))) (sym e) ∙ h)
    go false is rest h = absurd (let k : cond (not false) (1 + position_or_len is_space bs) 0 ≡ 0 = ap (λ s. cond (not s) (1 + position_or_len is_space bs) 0) (sym is) ∙ h in omega (arith, k))

nonempty : (n : ℕ) (xs : List ℕ) → 0 < n → n ≤ length xs → is_word (take n xs) ≡ true
nonempty zero xs some le = absurd (omega arith)
nonempty (suc n) [] some le = absurd (omega arith)
nonempty (suc n) (x ∷ xs) some le = refl

-- a space in front makes no word
pub space_first : (b : ℕ) (bs : List ℕ) → is_space b ≡ true → words (b ∷ bs) ≡ words bs
space_first b bs is = ap (λ s. filter is_word (cond s ([] ∷ slice_split is_space bs) (onto_first b (slice_split is_space bs)))) is

kept : (w : List ℕ) (ws : List (List ℕ)) → is_word w ≡ true → filter is_word (w ∷ ws) ≡ w ∷ filter is_word ws
kept [] ws is = absurd (cc)
kept (b ∷ bs) ws is = refl

-- a word is taken from the front
pub word_taken : (text : List ℕ) → 0 < position_or_len is_space text → words text ≡ take (position_or_len is_space text) text ∷ words (drop (position_or_len is_space text) text)
word_taken text some = go (cases_lt (position_or_len is_space text) (length text)) (prefix_len-le-length (λ b. not (is_space b)) text)
  where
    go : (position_or_len is_space text < length text) ⊎ (length text ≤ position_or_len is_space text) → position_or_len is_space text ≤ length text
        → words text ≡ take (position_or_len is_space text) text ∷ words (drop (position_or_len is_space text) text)
    go (inl lt) le =
        let n = position_or_len is_space text in
        ap (λ (ps : List (List ℕ)). filter is_word ps) (slice_split_first is_space text 0 lt)
        ∙ kept (take n text) (slice_split is_space (drop (n + 1) text)) (nonempty n text some le)
        ∙ ap (λ (ws : List (List ℕ)). take n text ∷ ws) (sym (ap (λ (bs : List ℕ). words bs) (drop_more text n 0 lt) ∙ space_first (get_or text n 0) (drop (n + 1) text) (passes_at_first is_space text 0 lt)))
    go (inr more) le =
        let n = position_or_len is_space text in
        let none = slice_split_none is_space text (λ k d below. fails_before_first is_space text k d (omega arith)) in
        ap (λ (ps : List (List ℕ)). filter is_word ps) none
        ∙ ap (λ (bs : List ℕ). filter is_word (bs ∷ [])) (sym (take_all n text (omega arith)))
        ∙ kept (take n text) [] (nonempty n text some le)
        ∙ ap (λ (bs : List ℕ). take n text ∷ words bs) (sym (drop_all n text (omega arith)))

-- what is left once the spaces and a word are taken
pub no_word : (text back : List ℕ) (blank n : ℕ) → blank ≡ position_or_len (λ b. not (is_space b)) text → back ≡ drop blank text → n ≡ position_or_len is_space back → n ≡ 0 → words text ≡ []
no_word text back blank n is_blank is_back is_n none =
    let same : back ≡ drop (position_or_len (λ b. not (is_space b)) text) text = is_back ∙ ap (λ k. drop k text) is_blank in
    behind_blank text ∙ ap (λ (bs : List ℕ). words bs) (word_behind text (ap (λ (bs : List ℕ). position_or_len is_space bs) (sym same) ∙ sym is_n ∙ none))

pub a_word : (text back word rest : List ℕ) (blank n : ℕ) → blank ≡ position_or_len (λ b. not (is_space b)) text → back ≡ drop blank text → n ≡ position_or_len is_space back → (n ≡ 0 → ⊥)
    → word ≡ take n back → rest ≡ drop n back → words text ≡ word ∷ words rest
a_word text back word rest blank n is_blank is_back is_n some is_word is_rest =
    let same : back ≡ drop (position_or_len (λ b. not (is_space b)) text) text = is_back ∙ ap (λ k. drop k text) is_blank in
    behind_blank text ∙ ap (λ (bs : List ℕ). words bs) (sym same) ∙ word_taken back (omega arith)
    ∙ ap (λ k. take k back ∷ words (drop k back)) (sym is_n)
    ∙ ap (λ (w : List ℕ). w ∷ words (drop n back)) (sym is_word) ∙ ap (λ (r : List ℕ). word ∷ words r) (sym is_rest)

-- what is left once the spaces are taken begins with a word
pub some_behind : (text back : List ℕ) (blank : ℕ) → blank ≡ position_or_len (λ b. not (is_space b)) text → back ≡ drop blank text → (length back ≡ 0 → ⊥) → 0 < position_or_len is_space back
some_behind text back blank is_blank is_back some = go (cases_lt 0 (position_or_len is_space back))
  where
    go : (0 < position_or_len is_space back) ⊎ (position_or_len is_space back ≤ 0) → 0 < position_or_len is_space back
    go (inl lt) = lt
    go (inr le) =
        let same : back ≡ drop (position_or_len (λ b. not (is_space b)) text) text = is_back ∙ ap (λ k. drop k text) is_blank in
        let none : position_or_len is_space back ≡ 0 = omega arith in
        absurd (some (ap (λ (bs : List ℕ). length bs) (same ∙ word_behind text (ap (λ (bs : List ℕ). position_or_len is_space bs) (sym same) ∙ none))))

pub nothing_behind : (text back : List ℕ) (blank : ℕ) → blank ≡ position_or_len (λ b. not (is_space b)) text → back ≡ drop blank text → back ≡ [] → words text ≡ []
nothing_behind text back blank is_blank is_back none =
    behind_blank text ∙ ap (λ k. words (drop k text)) (sym is_blank) ∙ ap (λ (bs : List ℕ). words bs) (sym is_back ∙ none)

pub front_word : (text back rest : List ℕ) (blank end : ℕ) → blank ≡ position_or_len (λ b. not (is_space b)) text → back ≡ drop blank text → 0 < position_or_len is_space back
    → end ≡ position_or_len is_space back → rest ≡ drop end back → words text ≡ front back ∷ words rest
front_word text back rest blank end is_blank is_back some is_end is_rest =
    a_word text back (front back) rest blank (position_or_len is_space back) is_blank is_back refl (λ none. omega arith) refl (is_rest ∙ ap (λ k. drop k back) is_end)
