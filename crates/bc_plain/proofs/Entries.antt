-- One more entry: what the definitions, which take the newest entry first, say of the first i + 1 of a list in order.
use Rattle.std.proofs.Common.{◌≡◌, ◌⊎◌, inl, inr, ℕ, ◌+◌, ◌-◌, ◌<◌, ◌≤◌, List, [], ◌∷◌, ◌++◌, length, take, drop, reverse, get_or, Some, sym, ap, ◌∙◌, subst, arith, length-append}
use Rattle.std.specs.Prelude.{◌↔◌, MatchBool}
use Rattle.std.proofs.lemmas.List.{take_more, take_rest, take_all, reverse-append, length-reverse, length-take-le, take-append-drop}
use Rattle.bc_model.specs.Sector.{Value, Image, unless}
use Rattle.bc_model.specs.History.{gives, may_give, now, IsRight, IsLegal, AllowedFrom}
use Rattle.bc_model.specs.declared.history.Entry.{Entry}
use Rattle.bc_model.proofs.Cases.{by_le}
use Rattle.bc_model.proofs.Grown.{allowed_now, allowed_end, allowed_given, allowed_grown}

pub reverse_more : (es : List Entry) (i : ℕ) (e : Entry) → i < length es → e ≡ get_or es i e → reverse (take (i + 1) es) ≡ e ∷ reverse (take i es)
reverse_more es i e low is =
    ap (λ (xs : List Entry). reverse xs) (take_more es i e low ∙ ap (λ (x : Entry). take i es ++ x ∷ []) (sym is)) ∙ reverse-append (take i es) (e ∷ [])

pub now_more : (opening : Image) (es : List Entry) (i : ℕ) (e : Entry) (s : ℕ) → i < length es → e ≡ get_or es i e → now opening (reverse (take (i + 1) es)) s ≡ unless (gives e s) (now opening (reverse (take i es)) s)
now_more opening es i e s low is = ap (λ (h : List Entry). now opening h s) (reverse_more es i e low is)

pub legal_more : (opening : Image) (es : List Entry) (i : ℕ) (e : Entry) → i < length es → e ≡ get_or es i e
    → IsLegal opening (reverse (take (i + 1) es)) ↔ (IsLegal opening (reverse (take i es)) × IsRight e (now opening (reverse (take i es))))
legal_more opening es i e low is =
    let P : List Entry → Type 0 = λ h. IsLegal opening h in
    let more = reverse_more es i e low is in
    ((λ h. let parts = subst P more h in (parts.1, parts.0)), (λ parts. subst P (sym more) (parts.1, parts.0)))

-- up to the floor the present alone is allowed
pub allowed_front : (opening : Image) (f : ℕ) (es : List Entry) (s : ℕ) (v : Value) → f ≤ length es → AllowedFrom f opening (reverse (take f es)) s v ↔ (v ≡ now opening (reverse (take f es)) s)
allowed_front opening f es s v low =
    let n = length-take-le f es low in
    let m = length-reverse (take f es) in
    (allowed_end opening f (reverse (take f es)) s v (omega arith), allowed_now opening f (reverse (take f es)) s v)

allowed_step : (opening : Image) (f : ℕ) (e : Entry) (H : List Entry) (s : ℕ) (v : Value) → f ≤ length H → AllowedFrom f opening (e ∷ H) s v ↔ (AllowedFrom f opening H s v ⊎ (may_give e s ≡ Some v))
allowed_step opening f e H s v low = (there, back)
  where
    turned : (may_give e s ≡ Some v) ⊎ AllowedFrom f opening H s v → AllowedFrom f opening H s v ⊎ (may_give e s ≡ Some v)
    turned (inl h) = inr h
    turned (inr h) = inl h

    there : AllowedFrom f opening (e ∷ H) s v → AllowedFrom f opening H s v ⊎ (may_give e s ≡ Some v)
    there = by_le f (length H) (λ b. MatchBool b ((may_give e s ≡ Some v) ⊎ AllowedFrom f opening H s v) (v ≡ now opening (e ∷ H) s) → AllowedFrom f opening H s v ⊎ (may_give e s ≡ Some v)) (λ _. turned) (λ lt. absurd (omega arith))

    back : AllowedFrom f opening H s v ⊎ (may_give e s ≡ Some v) → AllowedFrom f opening (e ∷ H) s v
    back (inl h) = allowed_grown opening f e H s v low h
    back (inr h) = allowed_given opening f e H s v low h

-- behind it what each entry may have given is allowed besides
pub allowed_more : (opening : Image) (f : ℕ) (es later : List Entry) (i : ℕ) (e : Entry) (s : ℕ) (v : Value) → f ≤ length es → i < length later → e ≡ get_or later i e
    → AllowedFrom f opening (reverse (take (i + 1) later) ++ reverse (take f es)) s v ↔ (AllowedFrom f opening (reverse (take i later) ++ reverse (take f es)) s v ⊎ (may_give e s ≡ Some v))
allowed_more opening f es later i e s v low inside is =
    let H = reverse (take i later) ++ reverse (take f es) in
    let long : f ≤ length H = omega (arith, length-append (reverse (take i later)) (reverse (take f es)), length-reverse (take f es), length-take-le f es low) in
    let P : List Entry → Type 0 = λ h. AllowedFrom f opening (h ++ reverse (take f es)) s v ↔ (AllowedFrom f opening H s v ⊎ (may_give e s ≡ Some v)) in
    subst P (sym (reverse_more later i e inside is)) (allowed_step opening f e H s v long)

-- both parts of the list are the whole
pub reverse_parts : (es : List Entry) (f i : ℕ) → length (take (length es - f) (drop f es)) ≤ i → reverse (take i (take (length es - f) (drop f es))) ++ reverse (take f es) ≡ reverse es
reverse_parts es f i end =
    ap (λ (xs : List Entry). reverse xs ++ reverse (take f es)) (take_all i (take (length es - f) (drop f es)) end ∙ take_rest es f)
    ∙ sym (reverse-append (take f es) (drop f es)) ∙ ap (λ (xs : List Entry). reverse xs) (take-append-drop f es)
