-- Keys for places, one more at a time.
use Rattle.std.proofs.Common.{◌≡◌, ℕ, ◌+◌, ◌<◌, ◌≤◌, List, [], ◌∷◌, ◌++◌, length, get_or, take, drop, sym, ap, ◌∙◌, subst, arith}
use Rattle.std.proofs.lemmas.List.{take-append-drop, take_all, take_more}
use Rattle.bc_fill.specs.declared.fill.Placed.{Placed}
use Rattle.bc_key.specs.declared.key.Key.{Key}
use Rattle.bc_place.specs.Named.{AreKeysFor, IsKeyFor, sectors_of}

one_more : (first : ℕ) (ps : List Placed) (ks : List Key) (p : Placed) (k : Key)
    → AreKeysFor first ps ks → IsKeyFor (first + sectors_of ps) p k
    → AreKeysFor first (ps ++ p ∷ []) (ks ++ k ∷ [])
one_more first [] [] p k all it = (subst (λ n. IsKeyFor n p k) (omega arith) it, tt)
one_more first [] (x ∷ xs) p k all it = absurd all
one_more first (q ∷ qs) [] p k all it = absurd all
one_more first (q ∷ qs) (x ∷ xs) p k all it = (
  all.0,
  one_more (first + q.count) qs xs p k all.1
      (subst (λ n. IsKeyFor n p k) (omega arith) it),
)

pub keys_more : (first : ℕ) (ps : List Placed) (ks : List Key) (i next : ℕ) (p : Placed) (k : Key)
    → i < length ps → p ≡ get_or ps i p → next ≡ first + sectors_of (take i ps)
    → AreKeysFor first (take i ps) ks → IsKeyFor next p k
    → AreKeysFor first (take (i + 1) ps) (ks ++ k ∷ [])
keys_more first ps ks i next p k inside is at all it =
    subst (λ (qs : List Placed). AreKeysFor first qs (ks ++ k ∷ []))
    (ap (λ q. take i ps ++ q ∷ []) is ∙ sym (take_more ps i p inside))
    (one_more first (take i ps) ks p k all (subst (λ n. IsKeyFor n p k) at it))

sectors_append : (xs ys : List Placed) → sectors_of (xs ++ ys) ≡ sectors_of xs + sectors_of ys
sectors_append [] ys = omega arith
sectors_append (x ∷ xs) ys = let rest = sectors_append xs ys in omega (arith, rest)

pub sectors_more : (ps : List Placed) (i : ℕ) (p : Placed) → i < length ps → p ≡ get_or ps i p
    → sectors_of (take (i + 1) ps) ≡ sectors_of (take i ps) + p.count
sectors_more ps i p inside is =
    ap sectors_of (take_more ps i p inside ∙ ap (λ q. take i ps ++ q ∷ []) (sym is))
    ∙ sectors_append (take i ps) (p ∷ []) ∙ omega arith

pub sectors_within : (ps : List Placed) (i : ℕ) → sectors_of (take i ps) ≤ sectors_of ps
sectors_within ps i =
    let all = ap sectors_of (take-append-drop i ps) in
    let both = sectors_append (take i ps) (drop i ps) in omega (arith, all, both)

-- once each has its key
pub all_keys : (ps : List Placed) (ks : List Key) (first i : ℕ) → length ps ≤ i
    → AreKeysFor first (take i ps) ks → AreKeysFor first ps ks
all_keys ps ks first i end are =
    subst (λ (qs : List Placed). AreKeysFor first qs ks) (take_all i ps end) are
