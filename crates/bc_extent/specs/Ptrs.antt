-- The pointers of a key, each kept in a word.
use Rattle.std.specs.Prelude.{ℕ, List, [], ◌∷◌, nat_lt, ◌≤◌, if◌then◌else◌}
use Rattle.std.proofs.Common.{zero, suc, refl, sym, subst, arith}
use Rattle.std.proofs.lemmas.Bool.{le-ltb}
use Rattle.bc_key.specs.declared.ptr.Ptr.{Ptr}
use Rattle.bc_key.specs.Ptr.{no_ptr, IsZero, IsZeroFrom}
use Rattle.bc_extent.specs.PtrWord.{ptr_in}

-- the pointer in a place of a key that has so many
abbrev pub ptr_within : ℕ → ℕ → ℕ → Ptr
ptr_within count i word = if nat_lt i count then ptr_in word else no_ptr

-- the places of a key that has so many
abbrev pub ptrs_in : (count a b c d e f : ℕ) → List Ptr
ptrs_in count a b c d e f = ptr_within count 0 a ∷ ptr_within count 1 b ∷ ptr_within count 2 c ∷ ptr_within count 3 d ∷ ptr_within count 4 e ∷ ptr_within count 5 f ∷ []

pub none_within : (count i word : ℕ) → count ≤ i → IsZero (ptr_within count i word)
none_within count i word behind = subst (λ t. IsZero (if t then ptr_in word else no_ptr)) (sym (le-ltb i count behind)) (refl, refl, refl)

pub none_behind : (count a b c d e f : ℕ) → IsZeroFrom count (ptrs_in count a b c d e f)
none_behind count a b c d e f zero p from below = none_within count 0 a from
none_behind count a b c d e f (suc zero) p from below = none_within count 1 b from
none_behind count a b c d e f (suc (suc zero)) p from below = none_within count 2 c from
none_behind count a b c d e f (suc (suc (suc zero))) p from below = none_within count 3 d from
none_behind count a b c d e f (suc (suc (suc (suc zero)))) p from below = none_within count 4 e from
none_behind count a b c d e f (suc (suc (suc (suc (suc zero))))) p from below = none_within count 5 f from
none_behind count a b c d e f (suc (suc (suc (suc (suc (suc i)))))) p from below = absurd (omega arith)
