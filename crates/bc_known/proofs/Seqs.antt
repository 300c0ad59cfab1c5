-- Each set that was written has a seq below the next one.
use Rattle.std.proofs.Common.{◌≡◌, inl, inr, ℕ, suc, ◌<◌, Bool, true, false, List, ◌∷◌, sym, subst, arith, if◌then◌else◌}
use Rattle.bc_meta.specs.Tree.{NodeSet}
use Rattle.bc_meta.specs.Places.{Wrote}
use Rattle.bc_meta.specs.Records.{put}
use Rattle.bc_meta.proofs.Lists.{by_test}

pub record Below (own : ℕ → Bool) (seq : ℕ → ℕ) (log : List (ℕ × ℕ × NodeSet))
    (next : ℕ) : Type 0 where
  pub own_seq : (q : ℕ) → own q ≡ true → seq q < next
  pub logged : (q at : ℕ) (e : NodeSet) → Wrote log q at e → e.seq < next

-- one set more
pub one_more : (own : ℕ → Bool) (seq : ℕ → ℕ) (log : List (ℕ × ℕ × NodeSet)) (next q at : ℕ)
    (set : NodeSet) → set.seq < next → Below own seq log next
    → Below own seq ((q, at, set) ∷ log) next
one_more own seq log next q at set lt h = record {
  own_seq = h.own_seq;
  logged = λ k p e wrote. elim wrote [
    | inl is ↦ subst (λ (x : NodeSet). x.seq < next) (sym is.2) lt
    | inr w ↦ h.logged k p e w
  ];
}

-- a bucket that is no node's any more
pub not_own : (own : ℕ → Bool) (seq : ℕ → ℕ) (log : List (ℕ × ℕ × NodeSet)) (next q : ℕ)
    → Below own seq log next → Below (put own q false) seq log next
not_own own seq log next q h = record {
  own_seq = λ k. by_test k q (λ t. (if t then false else own k) ≡ true → seq k < next)
      (λ _ e. absurd (cc)) (λ _ e. h.own_seq k e);
  logged = h.logged;
}

up : (own : ℕ → Bool) (seq : ℕ → ℕ) (log : List (ℕ × ℕ × NodeSet)) (next : ℕ)
    → Below own seq log next → Below own seq log (suc next)
up own seq log next h = record {
  own_seq = λ q e. (let a = h.own_seq q e in omega (arith, a));
  logged = λ q at e wrote. (let a = h.logged q at e wrote in omega (arith, a));
}

-- a new node, with the next seq
pub new_node : (own : ℕ → Bool) (seq : ℕ → ℕ) (log : List (ℕ × ℕ × NodeSet)) (next q at : ℕ)
    (set : NodeSet) → set.seq ≡ next → Below own seq log next
    → Below (put own q true) (put seq q set.seq) ((q, at, set) ∷ log) (suc next)
new_node own seq log next q at set is h =
    let more = one_more own seq log (suc next) q at set (omega (arith, is))
    (up own seq log next h) in record {
      own_seq = λ k. by_test k q (λ t. (if t then true else own k) ≡ true
          → (if t then set.seq else seq k) < suc next)
          (λ _ _. omega (arith, is)) (λ _ e. more.own_seq k e);
      logged = more.logged;
    }

-- one whose write failed
pub failed_node : (own : ℕ → Bool) (seq : ℕ → ℕ) (log : List (ℕ × ℕ × NodeSet))
    (next q at : ℕ) (set : NodeSet) → set.seq ≡ next → Below own seq log next
    → Below (put own q false) seq ((q, at, set) ∷ log) (suc next)
failed_node own seq log next q at set is h = not_own own seq ((q, at, set) ∷ log) (suc next) q
    (one_more own seq log (suc next) q at set (omega (arith, is)) (up own seq log next h))

pub below_same : (own own2 : ℕ → Bool) (seq seq2 : ℕ → ℕ) (log log2 : List (ℕ × ℕ × NodeSet))
    (next : ℕ) → own2 ≡ own → seq2 ≡ seq → log2 ≡ log → Below own seq log next
    → Below own2 seq2 log2 next
below_same own own2 seq seq2 log log2 next a b c h =
    subst (λ (o : ℕ → Bool). Below o seq2 log2 next) (sym a)
    (subst (λ (s : ℕ → ℕ). Below own s log2 next) (sym b)
    (subst (λ (l : List (ℕ × ℕ × NodeSet)). Below own seq l next) (sym c) h))
