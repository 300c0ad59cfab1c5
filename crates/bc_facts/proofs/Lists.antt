-- Lists that are seen, the last one first.
use Rattle.std.proofs.Common.{◌≡◌, ◌⊎◌, inl, inr, List, [], ◌∷◌, ◌++◌, refl, sym, ap, ◌∙◌, append_assoc}
use Rattle.std.specs.Prelude.{map, reverse}
use Rattle.std.proofs.lemmas.List.{append-nil, reverse-append}
use Rattle.bc_meta.specs.Facts.{In}

abbrev pub put_all : {R A : Type 0} → (R → A) → List R → List A → List A
put_all seen [] acc = acc
put_all seen (r ∷ rs) acc = put_all seen rs (seen r ∷ acc)

pub put_is : {R A : Type 0} (seen : R → A) (rs : List R) (acc : List A) → put_all seen rs acc ≡ reverse (map seen rs) ++ acc
put_is seen [] acc = refl
put_is seen (r ∷ rs) acc =
    put_is seen rs (seen r ∷ acc)
    ∙ sym (append_assoc (reverse (map seen rs)) (seen r ∷ []) acc)
    ∙ ap (λ l. l ++ acc) (sym (reverse-append (seen r ∷ []) (map seen rs)))

pub put_none : {R A : Type 0} (seen : R → A) (rs : List R) → put_all seen rs [] ≡ reverse (map seen rs)
put_none seen rs = put_is seen rs [] ∙ append-nil (reverse (map seen rs))

pub put_append : {R A : Type 0} (seen : R → A) (xs ys : List R) (acc : List A) → put_all seen (xs ++ ys) acc ≡ put_all seen ys (put_all seen xs acc)
put_append seen [] ys acc = refl
put_append seen (x ∷ xs) ys acc = put_append seen xs ys (seen x ∷ acc)

pub put_front : {R A : Type 0} (seen : R → A) (rs : List R) (acc : List A) → put_all seen rs acc ≡ put_all seen rs [] ++ acc
put_front seen rs acc = put_is seen rs acc ∙ ap (λ l. l ++ acc) (sym (put_none seen rs))

-- one of these is seen so
abbrev pub IsSeen : {R A : Type 0} → (R → A) → A → List R → Type 0
IsSeen seen x [] = ⊥
IsSeen seen x (r ∷ rs) = (x ≡ seen r) ⊎ IsSeen seen x rs

pub seen_in : {R A : Type 0} (seen : R → A) (rs : List R) (acc : List A) (x : A) → In x (put_all seen rs acc) → IsSeen seen x rs ⊎ In x acc
seen_in seen [] acc x i = inr i
seen_in seen (r ∷ rs) acc x i = elim (seen_in seen rs (seen r ∷ acc) x i) [ inl v ↦ inl (inr v) | inr (inl e) ↦ inl (inl e) | inr (inr k) ↦ inr k ]

pub in_seen : {R A : Type 0} (seen : R → A) (rs : List R) (acc : List A) (x : A) → IsSeen seen x rs ⊎ In x acc → In x (put_all seen rs acc)
in_seen seen [] acc x (inl v) = absurd v
in_seen seen [] acc x (inr i) = i
in_seen seen (r ∷ rs) acc x (inl (inl e)) = in_seen seen rs (seen r ∷ acc) x (inr (inl e))
in_seen seen (r ∷ rs) acc x (inl (inr v)) = in_seen seen rs (seen r ∷ acc) x (inl v)
in_seen seen (r ∷ rs) acc x (inr i) = in_seen seen rs (seen r ∷ acc) x (inr (inr i))
