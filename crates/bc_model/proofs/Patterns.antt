-- The words of a pattern, written pair by pair.
use Rattle.std.proofs.Common.{◌≡◌, ℕ, zero, suc, ◌+◌, ◌*◌, List, ◌++◌, take, refl, sym, ap, ◌∙◌, append_assoc, append-nil, arith, Bool, false, IsTrue, ◌<◌, ◌≤◌, ◌^◌}
use Rattle.std.specs.Int.{w64, to_le_bytes, from_le_bytes}
use Rattle.std.proofs.lemmas.Nat.{from_le_bytes-to_le_bytes_8}
use Rattle.bc_model.specs.Pattern.{words, pattern, zeros}

-- one more pair of words, at the end
pub words_more : (stamp sector n : ℕ) → words stamp sector n ++ (to_le_bytes w64 stamp ++ to_le_bytes w64 sector) ≡ words stamp sector (suc n)
words_more stamp sector zero = ap (λ (xs : List ℕ). to_le_bytes w64 stamp ++ xs) (sym (append-nil (to_le_bytes w64 sector)))
words_more stamp sector (suc n) =
    append_assoc (to_le_bytes w64 stamp) (to_le_bytes w64 sector ++ words stamp sector n) (to_le_bytes w64 stamp ++ to_le_bytes w64 sector)
    ∙ ap (λ (xs : List ℕ). to_le_bytes w64 stamp ++ xs) (append_assoc (to_le_bytes w64 sector) (words stamp sector n) (to_le_bytes w64 stamp ++ to_le_bytes w64 sector) ∙ ap (λ (xs : List ℕ). to_le_bytes w64 sector ++ xs) (words_more stamp sector n))

-- one turn of the loop that writes them
pub one_pair : (stamp sector p : ℕ) (before between after even odd : List ℕ) → even ≡ to_le_bytes w64 stamp → odd ≡ to_le_bytes w64 sector
    → take (16 * p) before ≡ words stamp sector p → take (16 * p + 8) between ≡ take (16 * p) before ++ even → take (16 * p + 8 + 8) after ≡ take (16 * p + 8) between ++ odd → take (16 * (p + 1)) after ≡ words stamp sector (p + 1)
one_pair stamp sector p before between after even odd is_even is_odd h h1 h2 =
    let n : 16 * (p + 1) ≡ 16 * p + 8 + 8 = omega arith in
    let s : p + 1 ≡ suc p = omega arith in
    ap (λ k. take k after) n ∙ h2 ∙ ap (λ (xs : List ℕ). xs ++ odd) (h1 ∙ ap (λ (xs : List ℕ). xs ++ even) h)
    ∙ ap (λ (xs : List ℕ). (words stamp sector p ++ xs) ++ odd) is_even ∙ ap (λ (xs : List ℕ). (words stamp sector p ++ to_le_bytes w64 stamp) ++ xs) is_odd
    ∙ append_assoc (words stamp sector p) (to_le_bytes w64 stamp) (to_le_bytes w64 sector) ∙ words_more stamp sector p ∙ ap (λ k. words stamp sector k) (sym s)

pub not_true : (b : Bool) → b ≡ false → IsTrue b → ⊥
not_true b is h = grind (arith, is, h)

-- a pattern begins with its stamp
pub stamp_first : (stamp sector : ℕ) → stamp < 2 ^ 64 → from_le_bytes w64 (take 8 (pattern stamp sector)) ≡ stamp
unfolding pattern
stamp_first stamp sector fits = from_le_bytes-to_le_bytes_8 stamp fits

-- zeros begin with none
pub zeros_first : from_le_bytes w64 (take 8 zeros) ≡ 0
unfolding zeros
zeros_first = refl

-- a value that isn't the pattern of the stamp with which it begins is none
pub not_pattern : (value : List ℕ) (sector found : ℕ) → found ≡ from_le_bytes w64 (take 8 value) → (1 ≤ found → value ≡ pattern found sector → ⊥) → (stamp : ℕ) → 1 ≤ stamp → stamp < 2 ^ 64 → value ≡ pattern stamp sector → ⊥
not_pattern value sector found is not stamp some fits e =
    let same : found ≡ stamp = is ∙ ap (λ (xs : List ℕ). from_le_bytes w64 (take 8 xs)) e ∙ stamp_first stamp sector fits in
    not (omega arith) (e ∙ ap (λ k. pattern k sector) (sym same))
