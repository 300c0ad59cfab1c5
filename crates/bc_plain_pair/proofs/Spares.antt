-- How many buckets are spare.
use Rattle.std.proofs.Common.{◌≡◌, ◌≢◌, ◌⊎◌, inl, inr, ℕ, suc, ◌+◌, ◌<◌, ◌≤◌, List, [], ◌∷◌, length, get_or, refl, sym, subst, ap, ◌∙◌, arith}
use Rattle.std.specs.Prelude.{All, AllPairs, nat_eq}
use Rattle.std.proofs.lemmas.Bool.{cases_eq}
use Rattle.std.proofs.lemmas.Bool.Decides.{eqb_tells}
use Rattle.std.proofs.lemmas.List.Elements.{All-nil, All-cons, All-head, All-tail, All-weaker}
use Rattle.std.proofs.lemmas.List.Kept.{AllPairs-cons}
use Rattle.bc_disk.specs.declared.geometry.Geometry.{Geometry}
use Rattle.bc_image.specs.Reading.{Reading}
use Rattle.bc_image.specs.Sound.{HasSpareBuckets}
use Rattle.bc_image.specs.Uses.{IsSpare}
use Rattle.bc_disk.specs.Chain.{sets_in_chain}
use Rattle.bc_plain_pair.specs.Uses.{CountsUses, SpareBelow, one_if}
use Rattle.bc_plain_pair.proofs.UseCounts.{no_kind, some_kind}

abbrev AreDifferent : List ℕ → Type 0
AreDifferent xs = AllPairs (λ a b. a ≢ b) xs

none_different : AreDifferent []
none_different i j d before inside = absurd (omega (arith, inside))

tail_different : (x : ℕ) (xs : List ℕ) → AreDifferent (x ∷ xs) → AreDifferent xs
tail_different x xs different i j d before inside = different (suc i) (suc j) d (omega (arith, before)) (omega (arith, inside))

-- Numbers below n + 1, no two equal and of each of which P holds, without n.
record Without (P : ℕ → Type 0) (n : ℕ) (xs : List ℕ) : Type 0 where
  rest : List ℕ
  below : All (λ x. x < n) rest
  different : AreDifferent rest
  each : All P rest
  size : (length xs ≡ length rest) ⊎ ((length xs ≡ suc (length rest)) × P n)

without : (P : ℕ → Type 0) (n : ℕ) (xs : List ℕ) → All (λ x. x < suc n) xs → AreDifferent xs → All P xs → Without P n xs
without P n [] below different each = record { rest = []; below = All-nil (λ x. x < n); different = none_different; each = All-nil P; size = inl refl }
without P n (x ∷ xs) below different each =
    go (cases_eq x n) (without (λ y. P y × (x ≢ y)) n xs (All-tail (λ y. y < suc n) x xs below) (tail_different x xs different) (λ k d low. (All-tail P x xs each k d low, different 0 (suc k) d (omega arith) (omega (arith, low)))))
  where
    less : x ≡ n → All (λ y. y < n) xs
    less same k d low =
        let a = below (suc k) d (omega (arith, low)) in
        let b = different 0 (suc k) d (omega arith) (omega (arith, low)) in
        let c : get_or xs k d ≢ n = (λ is. b (same ∙ sym is)) in
        omega (arith, a, c)

    go : (x ≡ n) ⊎ (x ≡ n → ⊥) → Without (λ y. P y × (x ≢ y)) n xs → Without P n (x ∷ xs)
    go (inl same) w = record { rest = xs; below = less same; different = tail_different x xs different; each = All-tail P x xs each; size = inr (refl, subst P same (All-head P x xs each)) }
    go (inr other) w =
        let low = All-head (λ y. y < suc n) x xs below in
        record {
          rest = x ∷ w.rest;
          below = All-cons (λ y. y < n) x w.rest (omega (arith, low, other)) w.below;
          different = AllPairs-cons (λ a b. a ≢ b) x w.rest (λ k d inside. (w.each k d inside).1) w.different;
          each = All-cons P x w.rest (All-head P x xs each) (λ k d inside. (w.each k d inside).0);
          size = elim w.size [ inl e ↦ inl (ap suc e) | inr e ↦ inr (ap suc e.0, e.1.0) ];
        }

module _ (g : Geometry) (r : Reading) where
  pub none_below : SpareBelow g r 0 0
  none_below = record {
    spare = [];
    below = All-nil (λ b. b < 0);
    different = none_different;
    each = All-nil (IsSpare g r);
    size = refl;
    most = none;
  }
    where
      none : (others : List ℕ) → All (λ b. b < 0) others → AreDifferent others → All (IsSpare g r) others → length others ≤ 0
      none [] below different each = omega arith
      none (x ∷ xs) below different each = let low = All-head (λ b. b < 0) x xs below in absurd (omega (arith, low))

  module _ (end n : ℕ) (s : SpareBelow g r end n) where
    higher : (xs : List ℕ) → All (λ b. b < end) xs → All (λ b. b < end + 1) xs
    higher xs all = All-weaker (λ b. b < end) (λ b. b < end + 1) (λ b low. omega (arith, low)) xs all

    pub one_spare : (next : ℕ) → next ≡ n + 1 → IsSpare g r end → SpareBelow g r (end + 1) next
    one_spare next is spare = record {
      spare = end ∷ s.spare;
      below = All-cons (λ b. b < end + 1) end s.spare (omega arith) (higher s.spare s.below);
      different = AllPairs-cons (λ a b. a ≢ b) end s.spare (λ k d inside same. (let low = s.below k d inside in omega (arith, low, same))) s.different;
      each = All-cons (IsSpare g r) end s.spare spare s.each;
      size = (let size = s.size in omega (arith, size, is));
      most = λ others below different each.
          let w = without (IsSpare g r) end others (All-weaker (λ b. b < end + 1) (λ b. b < suc end) (λ b low. omega (arith, low)) others below) different each in
          let few = s.most w.rest w.below w.different w.each in
          elim w.size [ inl same ↦ omega (arith, same, few, is) | inr one ↦ (let same = one.0 in omega (arith, same, few, is)) ];
    }

    pub no_spare : (IsSpare g r end → ⊥) → SpareBelow g r (end + 1) n
    no_spare used = record {
      spare = s.spare;
      below = higher s.spare s.below;
      different = s.different;
      each = s.each;
      size = s.size;
      most = λ others below different each.
          let w = without (IsSpare g r) end others (All-weaker (λ b. b < end + 1) (λ b. b < suc end) (λ b low. omega (arith, low)) others below) different each in
          let few = s.most w.rest w.below w.different w.each in
          elim w.size [ inl same ↦ omega (arith, same, few) | inr one ↦ absurd (used one.1) ];
    }

-- one more bucket, by how many kinds of use it has
pub spare_more : (g : Geometry) (r : Reading) (end n uses one next : ℕ) → SpareBelow g r end n → end < g.nbuckets → CountsUses g r end uses → one ≡ one_if (nat_eq uses 0) → next ≡ n + one → SpareBelow g r (end + 1) next
spare_more g r end n uses one next so inside counts is more = elim (eqb_tells uses 0) [
  | inl none ↦ (let same = ap one_if none.0 in one_spare g r end n so next (omega (arith, is, more, same)) (inside, no_kind g r end uses counts none.1))
  | inr some ↦ (let same = ap one_if some.0 in let what : next ≡ n = omega (arith, is, more, same) in subst (SpareBelow g r (end + 1)) (sym what) (no_spare g r end n so (λ spare. some_kind g r end uses counts some.1 spare.1)))
]

module _ (g : Geometry) (r : Reading) (n sets : ℕ) (so : SpareBelow g r g.nbuckets n) (is : sets ≡ sets_in_chain g) where
  pub enough_spare : sets ≤ n → HasSpareBuckets g r
  enough_spare most = (let size = so.size in record { spare = so.spare; different = so.different; each = so.each; enough = omega (arith, size, most, is) })

  pub few_spare : n < sets → HasSpareBuckets g r → ⊥
  few_spare low s = (let most = so.most s.spare (λ k d inside. (s.each k d inside).0) s.different s.each in let some = s.enough in omega (arith, low, most, some, is))
