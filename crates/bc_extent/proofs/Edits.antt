-- Keys of a list that give way to others.
use Rattle.std.proofs.Common.{◌≡◌, ℕ, ◌+◌, ◌-◌, ◌<◌, ◌≤◌, List, [], ◌∷◌, ◌++◌, length, set, take, drop, sym, ap, ◌∙◌, arith, length-append}
use Rattle.std.specs.Prelude.{insert, remove}
use Rattle.std.proofs.lemmas.List.{append_assoc, take_more_set, drop-set-lt, drop-drop, take_at, drop_at, length-take-le}
use Rattle.std.proofs.lemmas.List.Edits.{remove-append_right}
use Rattle.bc_key.specs.declared.key.Key.{Key}

-- a key put in the place of the first one that is to go
pub put_over : (xs : List Key) (from to : ℕ) (key : Key) → from < to → to ≤ length xs → (take (from + 1) (set xs from key) ≡ take from xs ++ key ∷ []) × (drop to (set xs from key) ≡ drop to xs)
put_over xs from to key low inside = (take_more_set xs from key (omega arith), drop-set-lt to xs from key low)

-- a key put where none is to go
pub put_in : (xs : List Key) (from : ℕ) (key : Key) → from ≤ length xs → (take (from + 1) (insert xs from key) ≡ take from xs ++ key ∷ []) × (drop (from + 1) (insert xs from key) ≡ drop from xs)
put_in xs from key inside =
    let long : length (take from xs ++ key ∷ []) ≡ from + 1 = omega (arith, length-append (take from xs) (key ∷ []), length-take-le from xs inside) in
    let parts = sym (append_assoc (take from xs) (key ∷ []) (drop from xs)) in (
      ap (take (from + 1)) parts ∙ take_at (take from xs ++ key ∷ []) (drop from xs) (from + 1) long,
      ap (drop (from + 1)) parts ∙ drop_at (take from xs ++ key ∷ []) (drop from xs) (from + 1) long,
    )

-- one key less
pub remove_more : (old : List Key) (from i : ℕ) → from ≤ length old → remove (take from old ++ drop i old) from ≡ take from old ++ drop (i + 1) old
remove_more old from i inside =
    remove-append_right (take from old) (drop i old) from from (length-take-le from old inside) (omega arith)
    ∙ ap (λ k. take from old ++ remove (drop i old) k) (let e : from - from ≡ 0 = omega arith in e)
    ∙ ap (λ xs. take from old ++ xs) (drop-drop 1 i old)

-- three parts put before what stays behind
pub put_three : (before behind one two three left key right all : List Key) → one ≡ before ++ left → two ≡ one ++ key → three ≡ two ++ right → all ≡ three ++ behind → all ≡ (before ++ left) ++ (key ++ (right ++ behind))
put_three before behind one two three left key right all first second third last =
    last ∙ ap (λ xs. xs ++ behind) (third ∙ ap (λ xs. xs ++ right) (second ∙ ap (λ xs. xs ++ key) first))
    ∙ append_assoc ((before ++ left) ++ key) right behind
    ∙ append_assoc (before ++ left) key (right ++ behind)
