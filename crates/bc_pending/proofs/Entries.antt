-- The keys of one entry more.
use Rattle.std.proofs.Common.{◌≡◌, ℕ, zero, suc, ◌+◌, List, [], ◌∷◌, ◌++◌, take, refl, sym, ap, ◌∙◌, arith, append_assoc}
use Rattle.std.specs.Prelude.{Some, slice_get}
use Rattle.std.proofs.lemmas.List.Concat.{flat_map-cons}
use Rattle.bc_jset.specs.Entries.{FoundEntry}
use Rattle.bc_pending.specs.declared.numbered.Numbered.{Numbered}
use Rattle.bc_pending.specs.Entries.{keys_in, keys_of}

append_nil : (xs : List Numbered) → xs ++ [] ≡ xs
append_nil [] = refl
append_nil (x ∷ xs) = ap (λ ys. x ∷ ys) (append_nil xs)

keys_more : (es : List FoundEntry) (e : FoundEntry) → keys_in (es ++ e ∷ []) ≡ keys_in es ++ keys_of e
keys_more [] e = flat_map-cons keys_of e [] ∙ append_nil (keys_of e)
keys_more (x ∷ es) e =
    flat_map-cons keys_of x (es ++ e ∷ []) ∙ ap (λ ks. keys_of x ++ ks) (keys_more es e) ∙ sym (append_assoc (keys_of x) (keys_in es) (keys_of e))
    ∙ ap (λ ks. ks ++ keys_of e) (sym (flat_map-cons keys_of x es))

some_same : (a b : FoundEntry) → Some a ≡ Some b → a ≡ b
some_same a b e = cc

taken_next : (es : List FoundEntry) (i : ℕ) (e : FoundEntry) → slice_get es i ≡ Some e → take (i + 1) es ≡ take i es ++ e ∷ []
taken_next es i e is = ap (λ n. take n es) one ∙ go es i is
  where
    one : i + 1 ≡ suc i
    one = omega arith

    go : (xs : List FoundEntry) (k : ℕ) → slice_get xs k ≡ Some e → take (suc k) xs ≡ take k xs ++ e ∷ []
    go [] k here = absurd (cc)
    go (x ∷ xs) zero here = ap (λ (y : FoundEntry). y ∷ []) (some_same x e here)
    go (x ∷ xs) (suc k) here = ap (λ (ys : List FoundEntry). x ∷ ys) (go xs k here)

pub keys_next : (es : List FoundEntry) (i : ℕ) (e : FoundEntry) → slice_get es i ≡ Some e → keys_in (take (i + 1) es) ≡ keys_in (take i es) ++ keys_of e
keys_next es i e is = ap keys_in (taken_next es i e is) ∙ keys_more (take i es) e
