-- Tests of numbers, and lists of keys with the same in front.
use Rattle.std.proofs.Common.{◌≡◌, ◌≢◌, ◌⊎◌, inl, inr, ℕ, ◌≤◌, ◌<◌, Bool, true, false, List, [], ◌∷◌, ◌++◌, refl, sym, subst, if◌then◌else◌, ◌==◌, nat_le}
use Rattle.std.proofs.lemmas.Bool.Decides.{eqb_tells, leb_tells}
use Rattle.bc_key.specs.declared.key.Key.{Key}
use Rattle.bc_key.specs.Key.{pointer_of}
use Rattle.bc_meta.specs.Keys.{Alike, covers, last_ref, ref_by}

pub decide : (a b : ℕ) → (a ≡ b) ⊎ (a ≢ b)
decide a b = elim (eqb_tells a b) [ inl t ↦ inl t.1 | inr t ↦ inr t.1 ]

pub by_test : (a b : ℕ) (P : Bool → Type 0) → (a ≡ b → P true) → (a ≢ b → P false) → P (a == b)
by_test a b P yes_ no_ = go (eqb_tells a b)
  where
    go : (((a == b) ≡ true) × (a ≡ b)) ⊎ (((a == b) ≡ false) × (a ≢ b)) → P (a == b)
    go (inl t) = subst P (sym t.0) (yes_ t.1)
    go (inr t) = subst P (sym t.0) (no_ t.1)

pub by_le : (a b : ℕ) (P : Bool → Type 0) → (a ≤ b → P true) → (b < a → P false) → P (nat_le a b)
by_le a b P yes_ no_ = go (leb_tells a b)
  where
    go : ((nat_le a b ≡ true) × (a ≤ b)) ⊎ ((nat_le a b ≡ false) × (b < a)) → P (nat_le a b)
    go (inl t) = subst P (sym t.0) (yes_ t.1)
    go (inr t) = subst P (sym t.0) (no_ t.1)

-- the same in front changes nothing
pub alike_front : (xs ys zs : List Key) → Alike ys zs → Alike (xs ++ ys) (xs ++ zs)
alike_front [] ys zs h s = h s
alike_front (k ∷ ks) ys zs h s = go (covers k s) (alike_front ks ys zs h s)
  where
    go : (b : Bool) → last_ref (ks ++ ys) s ≡ last_ref (ks ++ zs) s → (if b then ref_by k s (pointer_of k) else last_ref (ks ++ ys) s) ≡ (if b then ref_by k s (pointer_of k) else last_ref (ks ++ zs) s)
    go true ih = refl
    go false ih = ih
