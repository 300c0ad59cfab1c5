-- The powers of two that a bucket may have, and the sizes of blocks and buckets as a geometry tests them.
use Rattle.std.proofs.Common.{◌≡◌, ◌⊎◌, inl, inr, refl, sym, subst, ℕ, ◌+◌, ◌*◌, ◌/◌, ◌<◌, ◌≤◌, lit≤, le_trans, arith}
use Rattle.std.proofs.Math.Nat.{div-add-mod', add-mul, mul-le-mul_left}
use Rattle.std.proofs.lemmas.Nat.{mod_below}
use Rattle.std.proofs.lemmas.Bool.{cases_eq}
use Rattle.std.specs.Prelude.{IsTrue}
use Rattle.bc_disk.specs.Geometry as geometry
use Rattle.bc_super.specs.Cache.{IsBlock, IsBucket}

abbrev pub IsOne : ℕ → Type 0
IsOne b = (b ≡ 64) ⊎ (b ≡ 128) ⊎ (b ≡ 256) ⊎ (b ≡ 512) ⊎ (b ≡ 1024) ⊎ (b ≡ 2048) ⊎ (b ≡ 4096) ⊎ (b ≡ 8192) ⊎ (b ≡ 16384) ⊎ (b ≡ 32768)

pub is_bucket : (b : ℕ) → IsOne b → IsBucket b
is_bucket b (inl e) = (6, lit≤ tt, lit≤ tt, e)
is_bucket b (inr (inl e)) = (7, lit≤ tt, lit≤ tt, e)
is_bucket b (inr (inr (inl e))) = (8, lit≤ tt, lit≤ tt, e)
is_bucket b (inr (inr (inr (inl e)))) = (9, lit≤ tt, lit≤ tt, e)
is_bucket b (inr (inr (inr (inr (inl e))))) = (10, lit≤ tt, lit≤ tt, e)
is_bucket b (inr (inr (inr (inr (inr (inl e)))))) = (11, lit≤ tt, lit≤ tt, e)
is_bucket b (inr (inr (inr (inr (inr (inr (inl e))))))) = (12, lit≤ tt, lit≤ tt, e)
is_bucket b (inr (inr (inr (inr (inr (inr (inr (inl e)))))))) = (13, lit≤ tt, lit≤ tt, e)
is_bucket b (inr (inr (inr (inr (inr (inr (inr (inr (inl e))))))))) = (14, lit≤ tt, lit≤ tt, e)
is_bucket b (inr (inr (inr (inr (inr (inr (inr (inr (inr e))))))))) = (15, lit≤ tt, lit≤ tt, e)

pub is_one : (b : ℕ) → IsBucket b → IsOne b
is_one b (k, low, high, e) =
    elim (cases_eq k 6) [
      | inl is ↦ inl (rw is at e)
      | inr no6 ↦
          elim (cases_eq k 7) [
            | inl is ↦ inr (inl (rw is at e))
            | inr no7 ↦
                elim (cases_eq k 8) [
                  | inl is ↦ inr (inr (inl (rw is at e)))
                  | inr no8 ↦
                      elim (cases_eq k 9) [
                        | inl is ↦ inr (inr (inr (inl (rw is at e))))
                        | inr no9 ↦
                            elim (cases_eq k 10) [
                              | inl is ↦ inr (inr (inr (inr (inl (rw is at e)))))
                              | inr no10 ↦
                                  elim (cases_eq k 11) [
                                    | inl is ↦ inr (inr (inr (inr (inr (inl (rw is at e))))))
                                    | inr no11 ↦
                                        elim (cases_eq k 12) [
                                          | inl is ↦ inr (inr (inr (inr (inr (inr (inl (rw is at e)))))))
                                          | inr no12 ↦
                                              elim (cases_eq k 13) [
                                                | inl is ↦ inr (inr (inr (inr (inr (inr (inr (inl (rw is at e))))))))
                                                | inr no13 ↦
                                                    elim (cases_eq k 14) [
                                                      | inl is ↦ inr (inr (inr (inr (inr (inr (inr (inr (inl (rw is at e)))))))))
                                                      | inr no14 ↦
                                                          let last : k ≡ 15 = omega arith in
                                                          inr (inr (inr (inr (inr (inr (inr (inr (inr (rw last at e)))))))))
                                                    ]
                                              ]
                                        ]
                                  ]
                            ]
                      ]
                ]
          ]
    ]

-- ten numbers, each the one or not
pub one_or_not : (b : ℕ) → IsOne b ⊎ (IsOne b → ⊥)
one_or_not b = or (cases_eq b 64) (or (cases_eq b 128) (or (cases_eq b 256) (or (cases_eq b 512) (or (cases_eq b 1024) (or (cases_eq b 2048) (or (cases_eq b 4096) (or (cases_eq b 8192) (or (cases_eq b 16384) (cases_eq b 32768)))))))))
  where
    or : {P Q : Type 0} → P ⊎ (P → ⊥) → Q ⊎ (Q → ⊥) → (P ⊎ Q) ⊎ ((P ⊎ Q) → ⊥)
    or (inl p) q = inl (inl p)
    or (inr p) (inl q) = inl (inr q)
    or (inr p) (inr q) = inr (λ is. elim is [ inl e ↦ p e | inr e ↦ q e ])

-- a bucket has 64 sectors at least
pub wide : (b : ℕ) → IsBucket b → 64 ≤ b
wide b is = go (is_one b is)
  where
    go : IsOne b → 64 ≤ b
    go one = grind arith

-- ---- as few sets of w as hold n

-- the quotient, and what it leaves
pub quotient : (m w : ℕ) → 0 < w → (m / w * w ≤ m) × (m < (m / w + 1) * w)
quotient m w some =
    let whole = div-add-mod' m w in
    let rest = mod_below m w some in
    let more : (m / w + 1) * w ≡ m / w * w + 1 * w = add-mul (m / w) 1 w in
    (omega arith, omega arith)

-- of sets that hold many there are few
pub few_sets : (m w : ℕ) → 10909 ≤ w → m / w * 10909 ≤ m
few_sets m w many = le_trans (mul-le-mul_left (m / w) many) (quotient m w (omega arith)).0

pub is_block : (b : ℕ) → IsBlock b → IsTrue (geometry.is_block b)
is_block b (inl e) = subst (λ n. IsTrue (geometry.is_block n)) (sym e) refl
is_block b (inr (inl e)) = subst (λ n. IsTrue (geometry.is_block n)) (sym e) refl
is_block b (inr (inr (inl e))) = subst (λ n. IsTrue (geometry.is_block n)) (sym e) refl
is_block b (inr (inr (inr e))) = subst (λ n. IsTrue (geometry.is_block n)) (sym e) refl

one_is_bucket : (b : ℕ) → IsOne b → IsTrue (geometry.is_bucket b)
one_is_bucket b (inl e) = subst (λ n. IsTrue (geometry.is_bucket n)) (sym e) refl
one_is_bucket b (inr (inl e)) = subst (λ n. IsTrue (geometry.is_bucket n)) (sym e) refl
one_is_bucket b (inr (inr (inl e))) = subst (λ n. IsTrue (geometry.is_bucket n)) (sym e) refl
one_is_bucket b (inr (inr (inr (inl e)))) = subst (λ n. IsTrue (geometry.is_bucket n)) (sym e) refl
one_is_bucket b (inr (inr (inr (inr (inl e))))) = subst (λ n. IsTrue (geometry.is_bucket n)) (sym e) refl
one_is_bucket b (inr (inr (inr (inr (inr (inl e)))))) = subst (λ n. IsTrue (geometry.is_bucket n)) (sym e) refl
one_is_bucket b (inr (inr (inr (inr (inr (inr (inl e))))))) = subst (λ n. IsTrue (geometry.is_bucket n)) (sym e) refl
one_is_bucket b (inr (inr (inr (inr (inr (inr (inr (inl e)))))))) = subst (λ n. IsTrue (geometry.is_bucket n)) (sym e) refl
one_is_bucket b (inr (inr (inr (inr (inr (inr (inr (inr (inl e))))))))) = subst (λ n. IsTrue (geometry.is_bucket n)) (sym e) refl
one_is_bucket b (inr (inr (inr (inr (inr (inr (inr (inr (inr e))))))))) = subst (λ n. IsTrue (geometry.is_bucket n)) (sym e) refl

pub is_bucket_of : (b : ℕ) → IsBucket b → IsTrue (geometry.is_bucket b)
is_bucket_of b h = one_is_bucket b (is_one b h)

pub narrow : (b : ℕ) → IsBucket b → b ≤ 32768
narrow b h = let one = is_one b h in grind arith
