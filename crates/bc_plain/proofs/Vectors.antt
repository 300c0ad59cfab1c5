-- A part of a list replaced by another, in two steps, and the three parts that come there.
use Rattle.std.proofs.Common.{◌≡◌, ℕ, ◌+◌, ◌≤◌, List, [], ◌++◌, length, take, drop, Option, sym, ap, ◌∙◌, arith, length-append}
use Rattle.std.proofs.lemmas.List.{append_assoc, take_at, take-take, take-append-le, drop_at, length-take-le}
use Rattle.std.proofs.lemmas.Slice.{drop-append-drop}
use Rattle.std.specs.Prelude.{option_to_list}
use Rattle.bc_key.specs.declared.key.Key.{Key}

-- what is written over the front of the part, and the rest of the part removed
pub written_removed : (xs parts ys : List Key) (from to : ℕ) → from + length parts ≤ to → to ≤ length xs → ys ≡ take from xs ++ (parts ++ drop (from + length parts) xs)
    → take (from + length parts) ys ++ drop to ys ≡ take from xs ++ (parts ++ drop to xs)
written_removed xs parts ys from to low high is =
    let front = take from xs ++ parts in
    let same : ys ≡ front ++ drop (from + length parts) xs = is ∙ sym (append_assoc (take from xs) parts (drop (from + length parts) xs)) in
    let taken = length-take-le from xs (omega arith) in
    let long : length front ≡ from + length parts = omega (arith, length-append (take from xs) parts) in
    ap (λ zs. take (from + length parts) zs ++ drop to zs) same
    ∙ ap (λ zs. zs ++ drop to (front ++ drop (from + length parts) xs)) (take_at front (drop (from + length parts) xs) (from + length parts) long)
    ∙ ap (λ zs. front ++ zs) (drop-append-drop (from + length parts) xs front to low long)
    ∙ append_assoc (take from xs) parts (drop to xs)

-- the last keys put behind the part, and the first ones written over it
pub put_written : (xs instead more ys : List Key) (from to : ℕ) → from + length instead ≡ to → to ≤ length xs → ys ≡ take to xs ++ (more ++ drop to xs)
    → take from ys ++ (instead ++ drop (from + length instead) ys) ≡ take from xs ++ ((instead ++ more) ++ drop to xs)
put_written xs instead more ys from to low high is =
    let taken = length-take-le to xs high in
    let front : take from ys ≡ take from xs =
    ap (take from) is ∙ take-append-le from (take to xs) (more ++ drop to xs) (omega arith) ∙ take-take from to xs (omega arith) in
    let back : drop (from + length instead) ys ≡ more ++ drop to xs =
    ap (drop (from + length instead)) is ∙ drop_at (take to xs) (more ++ drop to xs) (from + length instead) (omega arith) in
    ap (λ zs. zs ++ (instead ++ drop (from + length instead) ys)) front
    ∙ ap (λ zs. take from xs ++ (instead ++ zs)) back
    ∙ ap (λ zs. take from xs ++ zs) (sym (append_assoc instead more (drop to xs)))

-- the three parts, added one after another
pub added : (none one two all : List Key) (left key right : Option Key) → none ≡ [] → one ≡ none ++ option_to_list left → two ≡ one ++ option_to_list key → all ≡ two ++ option_to_list right → all ≡ option_to_list left ++ (option_to_list key ++ option_to_list right)
added none one two all left key right is first second third =
    third ∙ ap (λ xs. xs ++ option_to_list right) (second ∙ ap (λ xs. xs ++ option_to_list key) (first ∙ ap (λ xs. xs ++ option_to_list left) is))
    ∙ append_assoc (option_to_list left) (option_to_list key) (option_to_list right)

-- they stand behind the left keys and before the right ones
pub regrouped : (before behind all : List Key) (left key right : Option Key) → all ≡ option_to_list left ++ (option_to_list key ++ option_to_list right) → (before ++ option_to_list left) ++ (option_to_list key ++ (option_to_list right ++ behind)) ≡ before ++ (all ++ behind)
regrouped before behind all left key right is =
    append_assoc before (option_to_list left) (option_to_list key ++ (option_to_list right ++ behind))
    ∙ ap (λ xs. before ++ xs) (
    ap (λ xs. option_to_list left ++ xs) (sym (append_assoc (option_to_list key) (option_to_list right) behind))
    ∙ sym (append_assoc (option_to_list left) (option_to_list key ++ option_to_list right) behind)
    ∙ ap (λ xs. xs ++ behind) (sym is)
    )
