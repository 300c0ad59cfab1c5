-- The key that a sector has is one of them, and has it.
use Rattle.std.proofs.Common.{◌≡◌, inl, inr, ℕ, Bool, true, false, List, [], ◌∷◌, Option, Some, None, refl, sym, subst, if◌then◌else◌, nat_lt, ◌&&◌}
use Rattle.std.specs.Prelude.{reverse}
use Rattle.std.specs.Option.{option_or}
use Rattle.std.proofs.lemmas.List.{reverse-append}
use Rattle.bc_key.specs.declared.key.Key.{Key}
use Rattle.bc_key.specs.Key.{Covers, start_of}
use Rattle.bc_extent.specs.LastKey.{covers, last_key}
use Rattle.bc_meta.specs.Facts.{In}
use Rattle.bc_meta.proofs.Lists.{by_le}
use Rattle.bc_facts.proofs.Place.{by_lt}
use Rattle.bc_facts.proofs.Stood.{in_behind, in_front}

pub in_reverse : {A : Type 0} (x : A) (xs : List A) → In x xs → In x (reverse xs)
in_reverse x [] i = absurd i
in_reverse x (y ∷ ys) (inl e) = subst (λ l. In x l) (sym (reverse-append (y ∷ []) ys)) (in_behind x (reverse ys) (y ∷ []) (inl e))
in_reverse x (y ∷ ys) (inr i) = subst (λ l. In x l) (sym (reverse-append (y ∷ []) ys)) (in_front x (reverse ys) (y ∷ []) (in_reverse x ys i))

covered : (key : Key) (s : ℕ) → covers key s ≡ true → Covers key s
covered key s =
    by_le (start_of key) s (λ b. (b && nat_lt s key.end) ≡ true → Covers key s)
    (λ low. by_lt s key.end (λ b. b ≡ true → Covers key s) (λ high _. (low, high)) (λ _ h. absurd (cc)))
    (λ _ h. absurd (cc))

pub last_covers : (keys : List Key) (s : ℕ) (key : Key) → last_key keys s ≡ Some key → Covers key s
last_covers [] s key is = absurd (cc)
last_covers (k ∷ ks) s key is = go (last_key ks s) (covers k s) refl (last_covers ks s key) is
  where
    some_same : (a b : Key) → Some a ≡ Some b → a ≡ b
    some_same a b e = cc

    go : (o : Option Key) (b : Bool) → covers k s ≡ b → (o ≡ Some key → Covers key s) → option_or o (if b then Some k else None) ≡ Some key → Covers key s
    go (Some x) b test ih e = ih e
    go None true test ih e = subst (λ (y : Key). Covers y s) (some_same k key e) (covered k s test)
    go None false test ih e = absurd (cc)

pub last_in : (keys : List Key) (s : ℕ) (key : Key) → last_key keys s ≡ Some key → In key keys
last_in [] s key is = absurd (cc)
last_in (k ∷ ks) s key is = go (last_key ks s) (covers k s) (last_in ks s key) is
  where
    some_same : (a b : Key) → Some a ≡ Some b → b ≡ a
    some_same a b e = cc

    go : (o : Option Key) (b : Bool) → (o ≡ Some key → In key ks) → option_or o (if b then Some k else None) ≡ Some key → In key (k ∷ ks)
    go (Some x) b ih e = inr (ih e)
    go None true ih e = inl (some_same k key e)
    go None false ih e = absurd (cc)
