-- Words of the machine of counters on which the tests run.
use Rattle.std.specs.Prelude.{◌≡◌, ◌≢◌, ℕ, ◌+◌, ◌==◌, Bool, true, false, ◌&&◌, not, if◌then◌else◌, List, [], ◌∷◌, ◌++◌, find, Option, Some, None, Result, Ok, Err}
use Rattle.std.specs.Option.{option_map}
use Rattle.std.proofs.Common.{sym, ap, ◌∙◌, arith}
use Rattle.std.proofs.lemmas.Bool.Decides.{nat_tests}

-- the seat of the first event that ends the run
abbrev pub first_end : {E : Type 0} → (E → Bool) → (E → ℕ) → List E → Option ℕ
first_end ends seat es = option_map seat (find ends es)

-- after an end nothing is admitted
abbrev pub admitted : Option ℕ → Result (Unit {0}) ℕ
admitted None = Ok tt
admitted (Some s) = Err s

-- the counters after one was raised
abbrev pub raised : (ℕ → ℕ) → ℕ → Bool → ℕ → ℕ
raised x part ends k = if k == part && not ends then x k + 1 else x k

pub admitted-err : (o : Option ℕ) (s : ℕ) → admitted o ≡ Err s → o ≡ Some s
admitted-err None s is = absurd (cc)
admitted-err (Some t) s is = cc

pub first_end-ended : {E : Type 0} (ends : E → Bool) (seat : E → ℕ) (es : List E) (e : E) (s : ℕ) → first_end ends seat es ≡ Some s → first_end ends seat (es ++ e ∷ []) ≡ Some s
first_end-ended ends seat [] e s is = absurd (cc)
first_end-ended ends seat (x ∷ xs) e s is = elim (ends x) as (λ b. option_map seat (if b then Some x else find ends xs) ≡ Some s → option_map seat (if b then Some x else find ends (xs ++ e ∷ [])) ≡ Some s)
    [ true ↦ λ h. h | false ↦ λ h. first_end-ended ends seat xs e s h ] is

-- a counter that was not raised
pub raised-other : (x : ℕ → ℕ) (part : ℕ) (ends : Bool) (k v : ℕ) → (k == part && not ends) ≡ false → v ≡ x k → v ≡ raised x part ends k
raised-other x part ends k v other is = is ∙ sym (ap (λ b. if b then x k + 1 else x k) other)

pub raised-same : (x : ℕ → ℕ) (part : ℕ) → raised x part false part ≡ x part + 1
raised-same x part = grind (arith, nat_tests)

pub raised-else : (x : ℕ → ℕ) (part k : ℕ) → k ≢ part → raised x part false k ≡ x k
raised-else x part k other = grind (arith, nat_tests)
