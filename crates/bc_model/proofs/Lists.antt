-- Where the values of runs stand.
use Rattle.std.proofs.Common.{◌≡◌, ℕ, zero, suc, ◌+◌, ◌<◌, ◌≤◌, List, [], ◌∷◌, ◌++◌, length, Option, Some, refl, sym, ap, ◌∙◌, subst, arith, take, get_or, length-append, append_assoc, append-nil}
use Rattle.std.specs.Prelude.{slice_get, replicate, All, option_to_list}
use Rattle.std.proofs.lemmas.List.{get_or_append_left}
use Rattle.std.proofs.Math.Seq.{get_or-append_seam}
use Rattle.std.proofs.lemmas.Grind.{flat_map-append}
use Rattle.std.proofs.lemmas.List.Elements.{All-append}
use Rattle.bc_model.specs.Sector.{Value}
use Rattle.bc_model.specs.Pattern.{pattern, zeros}
use Rattle.bc_model.specs.declared.run.Run.{Run}
use Rattle.bc_model.specs.Values.{patterns, values_in, all_values}

pub length_patterns : (stamp first count : ℕ) → length (patterns stamp first count) ≡ count
length_patterns stamp first zero = refl
length_patterns stamp first (suc n) = ap suc (length_patterns stamp (suc first) n)

pub get_patterns : (stamp first count i : ℕ) → i < count → slice_get (patterns stamp first count) i ≡ Some (pattern stamp (first + i))
get_patterns stamp first zero i h = absurd (omega arith)
get_patterns stamp first (suc n) zero h = ap (λ k. Some (pattern stamp k)) (omega arith)
get_patterns stamp first (suc n) (suc i) h = get_patterns stamp (suc first) n i (omega arith) ∙ ap (λ k. Some (pattern stamp k)) (omega arith)

pub get_zeros : (count i : ℕ) → i < length (replicate count zeros) → slice_get (replicate count zeros) i ≡ Some zeros
get_zeros zero i h = absurd (omega arith)
get_zeros (suc n) zero h = refl
get_zeros (suc n) (suc i) h = get_zeros n i (omega arith)

pub patterns_join : (stamp first n m : ℕ) → patterns stamp first n ++ patterns stamp (first + n) m ≡ patterns stamp first (n + m)
patterns_join stamp first zero m = ap (λ k. patterns stamp k m) (omega arith) ∙ ap (λ k. patterns stamp first k) (omega arith)
patterns_join stamp first (suc n) m =
    ap (λ k. pattern stamp first ∷ (patterns stamp (suc first) n ++ patterns stamp k m)) (omega arith)
    ∙ ap (λ (vs : List Value). pattern stamp first ∷ vs) (patterns_join stamp (suc first) n m)
    ∙ ap (λ k. patterns stamp first k) (suc_plus n m)
  where
    suc_plus : (n m : ℕ) → suc (n + m) ≡ suc n + m
    suc_plus n m = omega arith

pub get_front : {A : Type 0} (xs ys : List A) (i : ℕ) → i < length xs → slice_get (xs ++ ys) i ≡ slice_get xs i
get_front [] ys i h = absurd (omega arith)
get_front (x ∷ xs) ys zero h = refl
get_front (x ∷ xs) ys (suc i) h = get_front xs ys i (omega arith)

pub get_back : {A : Type 0} (xs ys : List A) (i j : ℕ) → j + length xs ≡ i → slice_get (xs ++ ys) i ≡ slice_get ys j
get_back [] ys i j h = ap (λ k. slice_get ys k) (omega arith)
get_back (x ∷ xs) ys zero j h = absurd (omega arith)
get_back (x ∷ xs) ys (suc i) j h = get_back xs ys i j (omega arith)

-- the value that is `left` behind the first of the run `index`
pub found_in : (runs : List Run) (r : Run) (index left i : ℕ) → index < length runs → r ≡ get_or runs index r → left + length (all_values (take index runs)) ≡ i → left < length (values_in r) → slice_get (all_values runs) i ≡ slice_get (values_in r) left
found_in [] r index left i some is at inside = absurd (omega arith)
found_in (x ∷ xs) r zero left i some is at inside =
    let e : left ≡ i = omega arith in
    let P : Run → Type 0 = λ y. slice_get (values_in x ++ all_values xs) i ≡ slice_get (values_in y) left in
    subst P (sym is) (ap (λ k. slice_get (values_in x ++ all_values xs) k) (sym e) ∙ get_front (values_in x) (all_values xs) left (subst (λ (y : Run). left < length (values_in y)) is inside))
found_in (x ∷ xs) r (suc index) left i some is at inside =
    let n = length-append (values_in x) (all_values (take index xs)) in
    get_back (values_in x) (all_values xs) i (left + length (all_values (take index xs))) (omega arith)
    ∙ found_in xs r index left (left + length (all_values (take index xs))) (omega arith) is refl inside

pub behind_one : (runs : List Run) (r : Run) (index : ℕ) → index < length runs → r ≡ get_or runs index r → length (all_values (take (suc index) runs)) ≡ length (all_values (take index runs)) + length (values_in r)
behind_one [] r index some is = absurd (omega arith)
behind_one (x ∷ xs) r zero some is = let n = length-append (values_in x) [] in let e = ap (λ (y : Run). length (values_in y)) is in omega arith
behind_one (x ∷ xs) r (suc index) some is =
    let rest = behind_one xs r index (omega arith) is in
    let n = length-append (values_in x) (all_values (take (suc index) xs)) in
    let m = length-append (values_in x) (all_values (take index xs)) in
    omega arith

pub all_front : {A : Type 0} (P : A → Type 0) (xs ys : List A) → All P (xs ++ ys) → All P xs
all_front P xs ys h = λ k d inside. let n = length-append xs ys in subst P (get_or_append_left xs ys d k inside) (h k d (omega arith))

one_of : {A : Type 0} (P : A → Type 0) (x : A) → P x → (k : ℕ) (d : A) → k < 1 → P (get_or (x ∷ []) k d)
one_of P x p zero d lt = p
one_of P x p (suc k) d lt = absurd (omega arith)

pub all_last : {A : Type 0} (P : A → Type 0) (xs : List A) (x : A) → All P xs → P x → All P (xs ++ x ∷ [])
all_last P xs x h p = All-append P xs (x ∷ []) h (one_of P x p)

last_of : {A : Type 0} (P : A → Type 0) (xs : List A) (x : A) → All P (xs ++ x ∷ []) → P x
last_of P xs x h = subst P (get_or-append_seam xs x [] x) (h (length xs) x (let n = length-append xs (x ∷ []) in omega arith))

-- one more behind the last one
pub all_pushed : {A : Type 0} (P : A → Type 0) (rest new : List A) (o : Option A) (last x : A) → All P (rest ++ option_to_list o) → o ≡ Some last → P x → new ≡ rest ++ last ∷ [] → All P (new ++ x ∷ [])
all_pushed {A = A} P rest new o last x h is p e =
    let whole : All P (rest ++ last ∷ []) = subst (λ (q : Option A). All P (rest ++ option_to_list q)) is h in
    all_last P new x (subst (λ (xs : List A). All P xs) (sym e) whole) p

pub get_some : {A : Type 0} (xs ys : List A) (i : ℕ) (v : A) → slice_get xs i ≡ Some v → slice_get (xs ++ ys) i ≡ Some v
get_some [] ys i v h = absurd (cc)
get_some (x ∷ xs) ys zero v h = h
get_some (x ∷ xs) ys (suc i) v h = get_some xs ys i v h

-- a value that is found in the runs before the last, and one in the last
pub get_early : (rest : List Run) (o : Option Run) (i : ℕ) (v : Value) → slice_get (all_values rest) i ≡ Some v → slice_get (all_values (rest ++ option_to_list o)) i ≡ Some v
get_early rest o i v h = ap (λ (vs : List Value). slice_get vs i) (flat_map-append values_in rest (option_to_list o)) ∙ get_some (all_values rest) (all_values (option_to_list o)) i v h

pub get_late : (rest : List Run) (o : Option Run) (last : Run) (i left : ℕ) (v : Value) → o ≡ Some last → left + length (all_values rest) ≡ i → slice_get (values_in last) left ≡ Some v → slice_get (all_values (rest ++ option_to_list o)) i ≡ Some v
get_late rest o last i left v is at h =
    ap (λ (vs : List Value). slice_get vs i) (flat_map-append values_in rest (option_to_list o)) ∙ get_back (all_values rest) (all_values (option_to_list o)) i left at
    ∙ ap (λ (q : Option Run). slice_get (all_values (option_to_list q)) left) is ∙ get_some (values_in last) [] left v h

-- the values of one more run
pub values_more : (runs : List Run) (r : Run) (index : ℕ) → index < length runs → r ≡ get_or runs index r → all_values (take (index + 1) runs) ≡ all_values (take index runs) ++ values_in r
values_more runs r index some is = let one : index + 1 ≡ suc index = omega arith in ap (λ k. all_values (take k runs)) one ∙ go runs r index some is
  where
    go : (runs : List Run) (r : Run) (index : ℕ) → index < length runs → r ≡ get_or runs index r → all_values (take (suc index) runs) ≡ all_values (take index runs) ++ values_in r
    go [] r index some is = absurd (omega arith)
    go (x ∷ xs) r zero some is = append-nil (values_in x) ∙ ap (λ (y : Run). values_in y) (sym is)
    go (x ∷ xs) r (suc index) some is = ap (λ (vs : List Value). values_in x ++ vs) (go xs r index (omega arith) is) ∙ sym (append_assoc (values_in x) (all_values (take index xs)) (values_in r))

-- which are no more than all
pub few_taken : (runs : List Run) (index : ℕ) → length (all_values (take index runs)) ≤ length (all_values runs)
few_taken [] index = few_none index
  where
    few_none : (index : ℕ) → length (all_values (take index [])) ≤ 0
    few_none zero = omega arith
    few_none (suc n) = omega arith
few_taken (x ∷ xs) zero = omega arith
few_taken (x ∷ xs) (suc index) =
    let n = length-append (values_in x) (all_values (take index xs)) in
    let m = length-append (values_in x) (all_values xs) in
    let rest = few_taken xs index in omega arith

-- one run alone
pub only_values : (rest : List Run) (r : Run) → rest ≡ [] → all_values (rest ++ r ∷ []) ≡ values_in r
only_values rest r none = ap (λ (rs : List Run). all_values (rs ++ r ∷ [])) none ∙ append-nil (values_in r)

pub only_run : (P : Run → Type 0) (rest : List Run) (r : Run) → rest ≡ [] → P r → All P (rest ++ r ∷ [])
only_run P rest r none p = subst (λ (rs : List Run). All P (rs ++ r ∷ [])) (sym none) (one_of P r p)
