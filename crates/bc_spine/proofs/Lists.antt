-- Lists of which a part gives way to another.
use Rattle.std.proofs.Common.{◌≡◌, ◌⊎◌, inl, inr, ℕ, ◌+◌, ◌-◌, ◌<◌, ◌≤◌, List, [], ◌∷◌, ◌++◌, length, get_or, set, take, drop, refl, sym, ap, ◌∙◌, subst, arith, length-append}
use Rattle.std.specs.Prelude.{insert, remove, min, All, AllPairs}
use Rattle.std.proofs.lemmas.Bool.{cases_lt}
use Rattle.std.proofs.lemmas.List.{append_assoc, drop_more, take_more, set_at, drop-drop, take_at, drop_at, length-take-le, get_or_append_left, get_or-append_right, take-append-drop}
use Rattle.std.proofs.lemmas.List.{get_or_default}
use Rattle.std.proofs.lemmas.List.Elements.{All-take, All-drop}
use Rattle.std.proofs.lemmas.List.Edits.{remove-append_right}

-- a part put before what lies from a place on
pub long_front : {X : Type 0} (old come : List X) (at i : ℕ) → at ≤ length old → i ≤ length come → length (take at old ++ take i come) ≡ at + i
long_front old come at i inside within = omega (arith, length-append (take at old) (take i come), length-take-le at old inside, length-take-le i come within)

one_more : {X : Type 0} (front come rest : List X) (i : ℕ) (d : X) → i < length come → (front ++ take i come) ++ get_or come i d ∷ rest ≡ (front ++ take (i + 1) come) ++ rest
one_more front come rest i d inside =
    sym (append_assoc (front ++ take i come) (get_or come i d ∷ []) rest)
    ∙ ap (λ xs. xs ++ rest) (append_assoc front (take i come) (get_or come i d ∷ []) ∙ ap (λ xs. front ++ xs) (sym (take_more come i d inside)))

-- one more is written over what lies there
pub one_over : {X : Type 0} (old come : List X) (at i : ℕ) (d : X) → at + length come ≤ length old → i < length come → set ((take at old ++ take i come) ++ drop (at + i) old) (at + i) (get_or come i d) ≡ (take at old ++ take (i + 1) come) ++ drop (at + (i + 1)) old
one_over old come at i d room inside =
    ap (λ xs. set ((take at old ++ take i come) ++ xs) (at + i) (get_or come i d)) (drop_more old (at + i) d (omega arith))
    ∙ set_at (take at old ++ take i come) (get_or old (at + i) d) (drop (at + i + 1) old) (get_or come i d) (at + i) (long_front old come at i (omega arith) (omega arith))
    ∙ one_more (take at old) come (drop (at + i + 1) old) i d inside
    ∙ ap (λ n. (take at old ++ take (i + 1) come) ++ drop n old) (let e : at + i + 1 ≡ at + (i + 1) = omega arith in e)

-- one more is put in
pub one_in : {X : Type 0} (old come : List X) (at i : ℕ) (d : X) → at ≤ length old → i < length come → insert ((take at old ++ take i come) ++ drop at old) (at + i) (get_or come i d) ≡ (take at old ++ take (i + 1) come) ++ drop at old
one_in old come at i d room inside =
    let long = long_front old come at i room (omega arith) in
    ap (λ xs. xs ++ get_or come i d ∷ drop (at + i) ((take at old ++ take i come) ++ drop at old)) (take_at (take at old ++ take i come) (drop at old) (at + i) long)
    ∙ ap (λ xs. (take at old ++ take i come) ++ get_or come i d ∷ xs) (drop_at (take at old ++ take i come) (drop at old) (at + i) long)
    ∙ one_more (take at old) come (drop at old) i d inside

-- one less
pub one_out : {X : Type 0} (old : List X) (at i : ℕ) → at ≤ length old → remove (take at old ++ drop i old) at ≡ take at old ++ drop (i + 1) old
one_out old at i inside =
    remove-append_right (take at old) (drop i old) at at (length-take-le at old inside) (omega arith)
    ∙ ap (λ k. take at old ++ remove (drop i old) k) (let e : at - at ≡ 0 = omega arith in e)
    ∙ ap (λ xs. take at old ++ xs) (drop-drop 1 i old)

-- some are written over others, more put in behind them, or others taken out
pub three_parts : {X : Type 0} (old come one two three : List X) (at gone kept : ℕ) → at + gone ≤ length old → kept ≡ min gone (length come)
    → one ≡ (take at old ++ take kept come) ++ drop (at + length (take kept come)) old
    → two ≡ (take (at + kept) one ++ drop kept come) ++ drop (at + kept) one
    → three ≡ take (at + length come) two ++ drop (at + length come + (gone - kept)) two
    → three ≡ (take at old ++ come) ++ drop (at + gone) old
three_parts old come one two three at gone kept room least first second third =
    let within : kept ≤ length come = omega arith in
    let front = take at old ++ take kept come in
    let long = long_front old come at kept (omega arith) within in
    let first_is : one ≡ front ++ drop (at + kept) old = first ∙ ap (λ n. front ++ drop (at + n) old) (length-take-le kept come within) in
    let before : take (at + kept) one ≡ front = ap (take (at + kept)) first_is ∙ take_at front (drop (at + kept) old) (at + kept) long in
    let behind : drop (at + kept) one ≡ drop (at + kept) old = ap (drop (at + kept)) first_is ∙ drop_at front (drop (at + kept) old) (at + kept) long in
    let all : front ++ drop kept come ≡ take at old ++ come = append_assoc (take at old) (take kept come) (drop kept come) ∙ ap (λ xs. take at old ++ xs) (take-append-drop kept come) in
    let second_is : two ≡ (take at old ++ come) ++ drop (at + kept) old =
    second ∙ ap (λ xs. (xs ++ drop kept come) ++ drop (at + kept) one) before
    ∙ ap (λ xs. (front ++ drop kept come) ++ xs) behind
    ∙ ap (λ xs. xs ++ drop (at + kept) old) all in
    let whole : length (take at old ++ come) ≡ at + length come = omega (arith, length-append (take at old) come, length-take-le at old (omega arith)) in
    third
    ∙ ap (λ xs. xs ++ drop (at + length come + (gone - kept)) two) (ap (take (at + length come)) second_is ∙ take_at (take at old ++ come) (drop (at + kept) old) (at + length come) whole)
    ∙ ap (λ xs. (take at old ++ come) ++ xs)
    (sym (drop-drop (gone - kept) (at + length come) two)
    ∙ ap (drop (gone - kept)) (ap (drop (at + length come)) second_is ∙ drop_at (take at old ++ come) (drop (at + kept) old) (at + length come) whole)
    ∙ drop-drop (gone - kept) (at + kept) old
    ∙ ap (λ n. drop n old) (let e : at + kept + (gone - kept) ≡ at + gone = omega arith in e))

-- ---- pairs

pub AllPairs-append : {X : Type 0} (R : X → X → Type 0) (xs ys : List X) → AllPairs R xs → AllPairs R ys → All (λ x. All (R x) ys) xs → AllPairs R (xs ++ ys)
AllPairs-append {X} R xs ys left right across i j d before inside = go (cases_lt i (length xs)) (cases_lt j (length xs))
  where
    both : length (xs ++ ys) ≡ length xs + length ys
    both = length-append xs ys

    go : (i < length xs) ⊎ (length xs ≤ i) → (j < length xs) ⊎ (length xs ≤ j) → R (get_or (xs ++ ys) i d) (get_or (xs ++ ys) j d)
    go (inl low) (inl high) =
        subst (λ (x : X). R x (get_or (xs ++ ys) j d)) (sym (get_or_append_left xs ys d i low))
        (subst (λ (y : X). R (get_or xs i d) y) (sym (get_or_append_left xs ys d j high)) (left i j d before high))
    go (inl low) (inr high) =
        subst (λ (x : X). R x (get_or (xs ++ ys) j d)) (sym (get_or_append_left xs ys d i low))
        (subst (λ (y : X). R (get_or xs i d) y) (sym (get_or-append_right xs ys (length xs) j d refl high)) (across i d low (j - length xs) d (omega (arith, both))))
    go (inr low) (inl high) = absurd (omega arith)
    go (inr low) (inr high) =
        subst (λ (x : X). R x (get_or (xs ++ ys) j d)) (sym (get_or-append_right xs ys (length xs) i d refl low))
        (subst (λ (y : X). R (get_or ys (i - length xs) d) y) (sym (get_or-append_right xs ys (length xs) j d refl high)) (right (i - length xs) (j - length xs) d (omega arith) (omega (arith, both))))

pub AllPairs-left : {X : Type 0} (R : X → X → Type 0) (xs ys : List X) → AllPairs R (xs ++ ys) → AllPairs R xs
AllPairs-left {X} R xs ys all i j d before inside =
    let at = all i j d before (omega (arith, length-append xs ys)) in
    let low : i < length xs = omega arith in
    subst (λ (x : X). R x (get_or xs j d)) (get_or_append_left xs ys d i low) (subst (λ (y : X). R (get_or (xs ++ ys) i d) y) (get_or_append_left xs ys d j inside) at)

pub AllPairs-right : {X : Type 0} (R : X → X → Type 0) (xs ys : List X) → AllPairs R (xs ++ ys) → AllPairs R ys
AllPairs-right {X} R xs ys all i j d before inside =
    let n = length xs in
    let at = all (n + i) (n + j) d (omega arith) (omega (arith, length-append xs ys)) in
    let here : (k : ℕ) → get_or (xs ++ ys) (n + k) d ≡ get_or ys k d = λ k. get_or-append_right xs ys n (n + k) d refl (omega arith) ∙ ap (λ m. get_or ys m d) (let e : n + k - n ≡ k = omega arith in e) in
    subst (λ (x : X). R x (get_or ys j d)) (here i) (subst (λ (y : X). R (get_or (xs ++ ys) (n + i) d) y) (here j) at)

pub AllPairs-across : {X : Type 0} (R : X → X → Type 0) (xs ys : List X) → AllPairs R (xs ++ ys) → All (λ x. All (R x) ys) xs
AllPairs-across {X} R xs ys all i d inside j e within =
    let n = length xs in
    let at = all i (n + j) d (omega arith) (omega (arith, length-append xs ys)) in
    let there : get_or (xs ++ ys) (n + j) d ≡ get_or ys j d = get_or-append_right xs ys n (n + j) d refl (omega arith) ∙ ap (λ m. get_or ys m d) (let e : n + j - n ≡ j = omega arith in e) in
    let same : get_or ys j d ≡ get_or ys j e = default ys j d e within in
    subst (λ (y : X). R (get_or xs i d) y) (there ∙ same) (subst (λ (x : X). R x (get_or (xs ++ ys) (n + j) d)) (get_or_append_left xs ys d i inside) at)
  where
    default : (zs : List X) (k : ℕ) (a b : X) → k < length zs → get_or zs k a ≡ get_or zs k b
    default zs k a b low = get_or_default zs k a b low

-- a part of each list
pub across_parts : {X : Type 0} (R : X → X → Type 0) (xs ys : List X) (n m : ℕ) → All (λ x. All (R x) ys) xs → All (λ x. All (R x) ys) (take n xs) × All (λ x. All (R x) ys) (drop m xs)
across_parts R xs ys n m all = (All-take (λ x. All (R x) ys) n xs all, All-drop (λ x. All (R x) ys) m xs all)
