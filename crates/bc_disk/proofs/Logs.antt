-- Logs of runs of values.
use Rattle.std.proofs.Common.{◌≡◌, ℕ, zero, suc, ◌+◌, ◌*◌, ◌<◌, ◌≤◌, List, [], ◌∷◌, ◌++◌, length, get_or, take, drop, refl, sym, ap, ◌∙◌, arith, add-zero, append_assoc}
use Rattle.std.proofs.lemmas.List.{take_more, length-take-le}
use Rattle.std.proofs.lemmas.List.Elements.{All-nil, All-cons}
use Rattle.std.specs.Simd.{first_chunks}
use Rattle.bc_model.specs.Sector.{Value, sectors}
use Rattle.bc_disk.specs.declared.log.Logged.{Logged}
use Rattle.bc_disk.specs.Log.{logged, IsWithin}

pub first_chunks-sectors : (n : ℕ) (bytes : List ℕ) → first_chunks 512 n bytes ≡ sectors n bytes
first_chunks-sectors zero bytes = refl
first_chunks-sectors (suc n) bytes = ap (λ vs. take 512 bytes ∷ vs) (first_chunks-sectors n (drop 512 bytes))

pub logged-append : (at : ℕ) (xs ys : List Value) → logged at (xs ++ ys) ≡ logged at xs ++ logged (at + length xs) ys
logged-append at [] ys = ap (λ n. logged n ys) (sym (add-zero at))
logged-append at (x ∷ xs) ys =
    let next : suc at + length xs ≡ at + suc (length xs) = omega arith in
    ap (λ l. record { sector = at; value = x } ∷ l) (logged-append (suc at) xs ys ∙ ap (λ n. logged (suc at) xs ++ logged n ys) next)

pub length-logged : (at : ℕ) (vs : List Value) → length (logged at vs) ≡ length vs
length-logged at [] = refl
length-logged at (v ∷ vs) = ap suc (length-logged (suc at) vs)

-- a run of one more value
pub logged_more : (at : ℕ) (vs : List Value) (i : ℕ) → i < length vs → logged at (take (i + 1) vs) ≡ logged at (take i vs) ++ record { sector = at + i; value = get_or vs i [] } ∷ []
logged_more at vs i low =
    ap (logged at) (take_more vs i [] low) ∙ logged-append at (take i vs) (get_or vs i [] ∷ [])
    ∙ ap (λ n. logged at (take i vs) ++ record { sector = at + n; value = get_or vs i [] } ∷ []) (length-take-le i vs (omega arith))

-- a log with that run, and one more record
pub noted_more : (old now new : List Logged) (at : ℕ) (vs : List Value) (i sector : ℕ) → i < length vs → sector ≡ at + i → now ≡ old ++ logged at (take i vs) → new ≡ now ++ record { sector = sector; value = get_or vs i [] } ∷ [] → new ≡ old ++ logged at (take (i + 1) vs)
noted_more old now new at vs i sector low place so_far one =
    one ∙ ap (λ l. l ++ record { sector = sector; value = get_or vs i [] } ∷ []) so_far
    ∙ ap (λ n. old ++ logged at (take i vs) ++ record { sector = n; value = get_or vs i [] } ∷ []) place
    ∙ append_assoc old (logged at (take i vs)) (record { sector = at + i; value = get_or vs i [] } ∷ [])
    ∙ ap (λ l. old ++ l) (sym (logged_more at vs i low))

pub logged_within : (bytes at : ℕ) (vs : List Value) → 512 * (at + length vs) ≤ bytes → IsWithin bytes (logged at vs)
logged_within bytes at [] fits = All-nil (λ (w : Logged). 512 * w.sector + 512 ≤ bytes)
logged_within bytes at (v ∷ vs) fits =
    All-cons (λ (w : Logged). 512 * w.sector + 512 ≤ bytes) (record { sector = at; value = v }) (logged (suc at) vs) (omega arith) (logged_within bytes (suc at) vs (omega arith))
