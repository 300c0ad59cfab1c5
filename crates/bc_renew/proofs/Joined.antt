-- A bucket comes to a list, by the core's numbers.
use Rattle.std.proofs.Common.{◌≡◌, ◌≢◌, ◌⊎◌, inl, inr, ℕ, ◌+◌, ◌-◌, ◌<◌, ◌≤◌, List, [], ◌∷◌, sym, ap, ◌∙◌, subst, arith}
use Rattle.std.proofs.lemmas.Bool.{cases_eq}
use Rattle.bc_alloc.specs.Reserve.{times}
use Rattle.bc_alloc.proofs.Times.{times_other, times_same}
use Rattle.bc_places.specs.Stands.{AreJust}
use Rattle.bc_places.proofs.Lists.{counted}

-- It stands there once more, and of it the same is known as of those that stood there before.
pub joined : (before n : ℕ) (ks ls : List ℕ) (P Q : ℕ → Type 0) → before ≤ n → AreJust before ks P
    → ((j : ℕ) → times j ls ≡ times j ks + times j (n ∷ []))
    → ((q : ℕ) → q ≢ n - before → P q → Q q) → ((q : ℕ) → q ≢ n - before → Q q → P q)
    → Q (n - before) → AreJust before ls Q
joined before n ks ls P Q low h more on back is = record {
  behind = λ j some. behind_ j some (cases_eq j n);
  each = λ q some. each_ q some (cases_eq q (n - before));
  all = λ q its. all_ q its (cases_eq q (n - before));
}
  where
    at : before + (n - before) ≡ n
    at = counted before n low

    behind_ : (j : ℕ) → 0 < times j ls → (j ≡ n) ⊎ (j ≢ n) → before ≤ j
    behind_ j some (inl e) = omega (arith, e, low)
    behind_ j some (inr ne) =
        let both = more j in
        let none = times_other j n (λ e. ne (sym e)) in
        h.behind j (omega (arith, some, both, none))

    each_ : (q : ℕ) → 0 < times (before + q) ls → (q ≡ n - before) ⊎ (q ≢ n - before) → Q q
    each_ q some (inl e) = subst Q (sym e) is
    each_ q some (inr ne) =
        let both = more (before + q) in
        let e = at in
        let none = times_other (before + q) n (λ same. ne (omega (arith, same, e))) in
        on q ne (h.each q (omega (arith, some, both, none)))

    all_ : (q : ℕ) → Q q → (q ≡ n - before) ⊎ (q ≢ n - before) → 0 < times (before + q) ls
    all_ q its (inl e) =
        let both = more (before + q) in
        let same : before + q ≡ n = ap (λ m. before + m) e ∙ at in
        let one = subst (λ m. times m (n ∷ []) ≡ 1) (sym same) (times_same n) in
        omega (arith, both, one)
    all_ q its (inr ne) =
        let both = more (before + q) in
        let some = h.all q (back q ne its) in omega (arith, both, some)
