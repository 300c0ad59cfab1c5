-- A value among others.
use Rattle.std.proofs.Common.{◌≡◌, ◌⊎◌, inl, inr, ℕ, zero, suc, ◌<◌, List, [], ◌∷◌, ◌++◌, length, get_or, Option, Some, None, refl, sym, subst, ap, arith}
use Rattle.std.specs.Prelude.{option_to_list}
use Rattle.bc_model.specs.Sector.{Value}
use Rattle.bc_disk.specs.Device.{Among, instead, besides}

pub among_left : (v : Value) (xs ys : List Value) → Among v xs → Among v (xs ++ ys)
among_left v [] ys a = elim a [ ]
among_left v (x ∷ xs) ys (inl e) = inl e
among_left v (x ∷ xs) ys (inr a) = inr (among_left v xs ys a)

pub among_right : (v : Value) (xs ys : List Value) → Among v ys → Among v (xs ++ ys)
among_right v [] ys a = a
among_right v (x ∷ xs) ys a = inr (among_right v xs ys a)

pub among_parts : (v : Value) (xs ys : List Value) → Among v (xs ++ ys) → Among v xs ⊎ Among v ys
among_parts v [] ys a = inr a
among_parts v (x ∷ xs) ys (inl e) = inl (inl e)
among_parts v (x ∷ xs) ys (inr a) = go (among_parts v xs ys a)
  where
    go : Among v xs ⊎ Among v ys → Among v (x ∷ xs) ⊎ Among v ys
    go (inl b) = inl (inr b)
    go (inr b) = inr b

pub only_one : (v w : Value) → Among v (w ∷ []) → v ≡ w
only_one v w (inl e) = e
only_one v w (inr a) = elim a [ ]

pub optional : (v : Value) (o : Option Value) → Among v (option_to_list o) → o ≡ Some v
optional v None a = elim a [ ]
optional v (Some w) (inl e) = ap Some (sym e)
optional v (Some w) (inr a) = elim a [ ]

pub among_optional : (v : Value) (o : Option Value) → o ≡ Some v → Among v (option_to_list o)
among_optional v (Some w) e = inl cc
among_optional v None e = absurd (cc)

-- another value in its place
pub among_same : (v w : Value) (xs : List Value) → w ≡ v → Among v xs → Among w xs
among_same v w xs e a = subst (λ (x : Value). Among x xs) (sym e) a

-- with the value that a run gives, if it gives one, besides
pub besides_old : (o : Option Value) (v : Value) (xs : List Value) → Among v xs → Among v (besides o xs)
besides_old None v xs a = a
besides_old (Some w) v xs a = inr a

pub besides_new : (o : Option Value) (v : Value) (xs : List Value) → o ≡ Some v → Among v (besides o xs)
besides_new None v xs e = absurd (cc)
besides_new (Some w) v xs e = inl cc

pub besides_parts : (o : Option Value) (v : Value) (xs : List Value) → Among v (besides o xs) → (o ≡ Some v) ⊎ Among v xs
besides_parts None v xs a = inr a
besides_parts (Some w) v xs (inl e) = inl (ap Some (sym e))
besides_parts (Some w) v xs (inr a) = inr a

pub among_get_or : (k : ℕ) (vs : List Value) → k < length vs → Among (get_or vs k []) vs
among_get_or k [] low = absurd (omega arith)
among_get_or zero (v ∷ vs) low = inl refl
among_get_or (suc k) (v ∷ vs) low = inr (among_get_or k vs (omega arith))

-- what is read may stay, also after a run, good or failed
pub instead_stays : (o : Option Value) (v : Value) (reads leaves : List Value) → (Among v reads → Among v leaves) → Among v (instead o reads) → Among v (besides o leaves)
instead_stays None v reads leaves stays a = stays a
instead_stays (Some w) v reads leaves stays a = inl (only_one v w a)

pub besides_stays : (o : Option Value) (v : Value) (reads leaves : List Value) → (Among v reads → Among v leaves) → Among v (besides o reads) → Among v (besides o leaves)
besides_stays None v reads leaves stays a = stays a
besides_stays (Some w) v reads leaves stays (inl e) = inl e
besides_stays (Some w) v reads leaves stays (inr a) = inr (stays a)
