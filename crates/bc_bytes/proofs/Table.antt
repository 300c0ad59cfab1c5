-- The table has what the division leaves of each byte value.
use Rattle.std.proofs.Common.{add-zero, ◌≡◌, ℕ, zero, suc, ◌+◌, ◌*◌, ◌^◌, ◌<◌, Bool, true, false, eqb, cond, List, [], ◌∷◌, length, get_or, refl, sym, ap, ◌∙◌, arith}
use Rattle.std.proofs.lemmas.Bool.{eqb-true}
use Rattle.bc_bytes.specs.Division.{remainder}
use Rattle.bc_bytes.specs.declared.checksum.TheConstants.{TABLE}

-- the entries from place i on are right
are_right : ℕ → List ℕ → Bool
are_right i [] = true
are_right i (entry ∷ entries) = cond (eqb entry (remainder 8 (i * 2 ^ 64))) (are_right (suc i) entries) false

table_right : are_right 0 TABLE ≡ true
unfolding are_right remainder
table_right = refl

first_right : (b : Bool) (rest : Bool) → cond b rest false ≡ true → (b ≡ true) × (rest ≡ true)
first_right true rest h = (refl, h)
first_right false rest h = cc

entry_right : (entries : List ℕ) (i k : ℕ) → are_right i entries ≡ true → k < length entries → get_or entries k 0 ≡ remainder 8 ((i + k) * 2 ^ 64)
unfolding are_right
entry_right [] i k h inside = absurd (omega arith)
entry_right (entry ∷ entries) i zero h inside =
    let here : (eqb entry (remainder 8 (i * 2 ^ 64)) ≡ true) × (are_right (suc i) entries ≡ true) = first_right _ _ h in
    eqb-true entry _ here.0 ∙ ap (λ k. remainder 8 (k * 2 ^ 64)) (sym (add-zero i))
entry_right (entry ∷ entries) i (suc k) h inside =
    let here : (eqb entry (remainder 8 (i * 2 ^ 64)) ≡ true) × (are_right (suc i) entries ≡ true) = first_right _ _ h in
    let moved : suc i + k ≡ i + suc k = omega arith in
    entry_right entries (suc i) k here.1 (omega arith) ∙ ap (λ j. remainder 8 (j * 2 ^ 64)) moved

-- the entry of a byte value
pub table_entry : (byte : ℕ) → byte < 256 → get_or TABLE byte 0 ≡ remainder 8 (byte * 2 ^ 64)
table_entry byte small = entry_right TABLE 0 byte table_right small ∙ ap (λ k. remainder 8 (k * 2 ^ 64)) (omega arith)
