-- Lists of numbers, each once.
use Rattle.std.proofs.Common.{◌≡◌, inl, inr, ℕ, ◌+◌, ◌<◌, ◌≤◌, true, false, List, [], ◌∷◌, ◌++◌, length, get_or, take, refl, sym, ◌∙◌, subst}
use Rattle.std.specs.Prelude.{◌↔◌, IsTrue}
use Rattle.std.proofs.lemmas.List.{take_all, take_more}
use Rattle.bc_facts.proofs.Stood.{in_behind, in_either, in_front, index_in}
use Rattle.bc_install.specs.Ended.{AreEach}
use Rattle.bc_install.specs.Ends.{IsWith}
use Rattle.bc_meta.specs.Chain.{Distinct}
use Rattle.bc_meta.specs.Facts.{In}

pub in_at : (xs : List ℕ) (i n d : ℕ) → i < length xs → get_or xs i d ≡ n → In n xs
in_at xs i n d within is = subst (λ (m : ℕ). In m xs) is (index_in xs i d within)

pub in_none : (xs : List ℕ) (i n : ℕ) → length xs ≤ i → (In n (take i xs) → ⊥) → In n xs → ⊥
in_none xs i n all none there =
    none (subst (λ (ys : List ℕ). In n ys) (sym (take_all i xs all)) there)

-- one more that isn't this one
pub not_next : (xs : List ℕ) (i n : ℕ) → i < length xs → (In n (take i xs) → ⊥)
    → (get_or xs i 0 ≡ n → ⊥) → In n (take (i + 1) xs) → ⊥
not_next xs i n within none other there =
    elim (in_either n (take i xs) (get_or xs i 0 ∷ [])
    (subst (λ (ys : List ℕ). In n ys) (take_more xs i 0 within) there)) [
      | inl before ↦ none before
      | inr (inl here) ↦ other (sym here)
      | inr (inr later) ↦ later
    ]

pub not_there : (xs ys : List ℕ) (n : ℕ) → ys ≡ xs → (IsTrue false ↔ In n ys) → In n xs → ⊥
not_there xs ys n same says there =
    true_false (sym (says.1 (subst (λ (zs : List ℕ). In n zs) (sym same) there)))
  where
    true_false : true ≡ false → ⊥
    true_false e = cc

-- ---- a number is added once

pub with_there : (n : ℕ) (xs : List ℕ) → In n xs → IsWith n xs xs
with_there n xs there = record {
  there = there;
  stay = λ b m. m;
  among = λ b m. inl m;
  once = λ d. d;
}

once_more : (n : ℕ) (xs : List ℕ) → (In n xs → ⊥) → Distinct xs → Distinct (xs ++ n ∷ [])
once_more n [] none once = (λ m. m, tt)
once_more n (x ∷ xs) none once = (
  λ m. elim (in_either x xs (n ∷ []) m) [
    | inl before ↦ once.0 before
    | inr (inl here) ↦ none (inl (sym here))
    | inr (inr later) ↦ later
  ],
  once_more n xs (λ m. none (inr m)) once.1,
)

pub with_pushed : (n : ℕ) (xs ys : List ℕ) → (In n xs → ⊥) → ys ≡ xs ++ n ∷ []
    → IsWith n xs ys
with_pushed n xs ys none is = subst (λ (zs : List ℕ). IsWith n xs zs) (sym is) (record {
  there = in_behind n xs (n ∷ []) (inl refl);
  stay = λ b m. in_front b xs (n ∷ []) m;
  among = λ b m. elim (in_either b xs (n ∷ []) m) [
    | inl before ↦ inl before
    | inr (inl here) ↦ inr here
    | inr (inr later) ↦ absurd later
  ];
  once = λ d. once_more n xs none d;
})

-- ---- so are all

pub each_none : (xs : List ℕ) → AreEach (take 0 xs) []
each_none xs = record { among = λ b m. m; every = λ b m. m; once = tt }

pub each_next : (all : List ℕ) (i n : ℕ) (old new : List ℕ) → i < length all
    → n ≡ get_or all i 0 → AreEach (take i all) old → IsWith n old new
    → AreEach (take (i + 1) all) new
each_next all i n old new within at each one =
    subst (λ (xs : List ℕ). AreEach xs new) (sym (take_more all i 0 within)) (record {
      among = λ b m. elim (one.among b m) [
        | inl was ↦ in_front b (take i all) (get_or all i 0 ∷ []) (each.among b was)
        | inr is ↦ in_behind b (take i all) (get_or all i 0 ∷ []) (inl (is ∙ at))
      ];
      every = λ b m. elim (in_either b (take i all) (get_or all i 0 ∷ []) m) [
        | inl before ↦ one.stay b (each.every b before)
        | inr (inl here) ↦ subst (λ (q : ℕ). In q new) (sym (here ∙ sym at)) one.there
        | inr (inr later) ↦ absurd later
      ];
      once = one.once each.once;
    })
