-- Bytes that a source moves.
use Rattle.std.proofs.Common.{◌≡◌, ℕ, ◌+◌, ◌≤◌, List, ◌++◌, length, take, drop, sym, ap, ◌∙◌}
use Rattle.std.proofs.lemmas.List.{take_at, drop-drop, take-append-drop, length-take-le}

-- the first n of what is left stand at the front of the slice, and the rest is left
pub moved : (n given : ℕ) (bytes left into : List ℕ) → left ≡ drop given bytes → n ≤ length left → left ≡ take n (take n left ++ into) ++ drop (given + n) bytes
moved n given bytes left into is low =
    sym (take-append-drop n left)
    ∙ ap (λ l. l ++ drop n left) (sym (take_at (take n left) into n (length-take-le n left low)))
    ∙ ap (λ l. take n (take n left ++ into) ++ l) (ap (drop n) is ∙ drop-drop n given bytes)
