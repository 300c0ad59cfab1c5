-- What joined lists of keys say.
use Rattle.std.proofs.Common.{◌≡◌, ℕ, suc, ◌<◌, ◌≤◌, Bool, true, false, List, [], ◌∷◌, ◌++◌, Option, Some, None, refl, if◌then◌else◌, ◌&&◌, nat_le, nat_lt}
use Rattle.bc_key.specs.declared.key.Key.{Key}
use Rattle.bc_key.specs.Key.{pointer_of, start_of}
use Rattle.bc_meta.specs.Keys.{Ref, covers, last_ref, ref_by}
use Rattle.bc_meta.proofs.Lists.{by_le}
use Rattle.bc_leaves.specs.Keys.{Speaks, last_said, ref_said}

abbrev pub or_else : {A : Type 0} → Option A → Option A → Option A
or_else None later = later
or_else (Some x) later = Some x

pub last_append : (xs ys : List Key) (s : ℕ) → last_said (xs ++ ys) s ≡ or_else (last_said xs s) (last_said ys s)
last_append [] ys s = refl
last_append (k ∷ ks) ys s = go (covers k s) (last_append ks ys s)
  where
    go : (b : Bool) → last_said (ks ++ ys) s ≡ or_else (last_said ks s) (last_said ys s)
        → (if b then Some (ref_by k s (pointer_of k)) else last_said (ks ++ ys) s) ≡ or_else (if b then Some (ref_by k s (pointer_of k)) else last_said ks s) (last_said ys s)
    go true ih = refl
    go false ih = ih

pub or_said : (o a b : Option (Option Ref)) → ref_said a ≡ ref_said b → ref_said (or_else o a) ≡ ref_said (or_else o b)
or_said None a b h = h
or_said (Some x) a b h = refl

-- the same as a look-up that passes over nothing
pub said_ref : (ks : List Key) (s : ℕ) → ref_said (last_said ks s) ≡ last_ref ks s
said_ref [] s = refl
said_ref (k ∷ ks) s = go (covers k s) (said_ref ks s)
  where
    go : (b : Bool) → ref_said (last_said ks s) ≡ last_ref ks s
        → ref_said (if b then Some (ref_by k s (pointer_of k)) else last_said ks s) ≡ (if b then ref_by k s (pointer_of k) else last_ref ks s)
    go true ih = refl
    go false ih = ih

both_true : (a b : Bool) → (a && b) ≡ true → (a ≡ true) × (b ≡ true)
both_true true true e = (refl, refl)
both_true true false e = absurd (cc)
both_true false b e = absurd (cc)

le_of : (a b : ℕ) → nat_le a b ≡ true → a ≤ b
le_of a b = by_le a b (λ t. t ≡ true → a ≤ b) (λ le _. le) (λ _ e. absurd (cc))

lt_of : (a b : ℕ) → nat_lt a b ≡ true → a < b
lt_of a b e = le_of (suc a) b e

pub spoken_range : (k : Key) (s : ℕ) → Speaks k s → (start_of k ≤ s) × (s < k.end)
spoken_range k s e = let h = both_true (nat_le (start_of k) s) (nat_lt s k.end) e in (le_of (start_of k) s h.0, lt_of s k.end h.1)
