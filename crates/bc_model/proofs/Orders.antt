-- The newest entry first, and the oldest first.
use Rattle.std.proofs.Common.{◌≡◌, ℕ, List, [], ◌∷◌, ◌++◌, reverse, refl, sym, ap, ◌∙◌, subst}
use Rattle.std.specs.Prelude.{◌↔◌}
use Rattle.std.proofs.lemmas.List.{reverse-append}
use Rattle.bc_model.specs.Sector.{Value, Image, unless}
use Rattle.bc_model.specs.History.{gives, now, IsRight, IsLegal}
use Rattle.bc_model.specs.InOrder.{image_after, now_of, IsLegalOf}
use Rattle.bc_model.specs.declared.history.Entry.{Entry}
use Rattle.bc_model.specs.declared.history.Entry.TheVariants.{Read}

-- the oldest entry of all may as well have been part of the opening image
now_last : (opening : Image) (es : List Entry) (e : Entry) (s : ℕ) → now opening (es ++ e ∷ []) s ≡ now (image_after opening e) es s
now_last opening [] e s = refl
now_last opening (x ∷ xs) e s = ap (λ (v : Value). unless (gives x s) v) (now_last opening xs e s)

pub now_agrees : (opening : Image) (es : List Entry) (s : ℕ) → now_of opening es s ≡ now opening (reverse es) s
now_agrees opening [] s = refl
now_agrees opening (e ∷ es) s =
    now_agrees (image_after opening e) es s ∙ sym (now_last opening (reverse es) e s) ∙ sym (ap (λ (xs : List Entry). now opening xs s) (reverse-append (e ∷ []) es))

right_same : (e : Entry) (a b : Image) → ((s : ℕ) → a s ≡ b s) → IsRight e a → IsRight e b
right_same (Read worker line first values) a b same h = λ s v given. h s v given ∙ same s
right_same e a b same h = tt

last_legal : (opening : Image) (es : List Entry) (e : Entry) → IsLegal opening (es ++ e ∷ []) → IsRight e opening × IsLegal (image_after opening e) es
last_legal opening [] e h = (h.0, tt)
last_legal opening (x ∷ xs) e h =
    let rest = last_legal opening xs e h.1 in
    (rest.0, (right_same x (now opening (xs ++ e ∷ [])) (now (image_after opening e) xs) (λ s. now_last opening xs e s) h.0, rest.1))

legal_last : (opening : Image) (es : List Entry) (e : Entry) → IsRight e opening → IsLegal (image_after opening e) es → IsLegal opening (es ++ e ∷ [])
legal_last opening [] e first h = (first, tt)
legal_last opening (x ∷ xs) e first h =
    (right_same x (now (image_after opening e) xs) (now opening (xs ++ e ∷ [])) (λ s. sym (now_last opening xs e s)) h.0, legal_last opening xs e first h.1)

legal_there : (opening : Image) (es : List Entry) → IsLegalOf opening es → IsLegal opening (reverse es)
legal_there opening [] h = tt
legal_there opening (e ∷ es) h =
    let P : List Entry → Type 0 = λ xs. IsLegal opening xs in
    subst P (sym (reverse-append (e ∷ []) es)) (legal_last opening (reverse es) e h.0 (legal_there (image_after opening e) es h.1))

legal_back : (opening : Image) (es : List Entry) → IsLegal opening (reverse es) → IsLegalOf opening es
legal_back opening [] h = tt
legal_back opening (e ∷ es) h =
    let P : List Entry → Type 0 = λ xs. IsLegal opening xs in
    let k = last_legal opening (reverse es) e (subst P (reverse-append (e ∷ []) es) h) in
    (k.0, legal_back (image_after opening e) es k.1)

pub legal_agrees : (opening : Image) (es : List Entry) → IsLegalOf opening es ↔ IsLegal opening (reverse es)
legal_agrees opening es = (legal_there opening es, legal_back opening es)
