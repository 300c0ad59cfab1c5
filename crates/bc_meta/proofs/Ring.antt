-- The entries of a journal: numbers that count down, and what of them is found.
use Rattle.std.proofs.Common.{◌≡◌, ◌≢◌, ◌⊎◌, inl, inr, ℕ, suc, ◌<◌, ◌≤◌, List, [], ◌∷◌, refl, sym, ap, ◌∙◌, arith, if◌then◌else◌}
use Rattle.bc_meta.specs.Facts.{In}
use Rattle.bc_meta.specs.Entries.{CountDown, Entry, live}
use Rattle.bc_meta.proofs.Lists.{decide, by_le}

-- from the one before `next` down to `low`
abbrev pub Count : ℕ → List Entry → ℕ → Type 0
Count low [] next = next ≡ low
Count low (e ∷ es) next = (suc e.number ≡ next) × (low ≤ e.number) × Count low es e.number

pub count_low : (low : ℕ) (es : List Entry) (next : ℕ) → Count low es next → low ≤ next
count_low low [] next h = omega arith
count_low low (e ∷ es) next h = let h0 = h.0 in let h1 = h.1 in omega arith

pub count_in : (low : ℕ) (es : List Entry) (next : ℕ) (x : Entry) → Count low es next → In x es → (low ≤ x.number) × (x.number < next)
count_in low [] next x h i = absurd i
count_in low (e ∷ es) next x h i = go i (count_in low es e.number x h.2)
  where
    go : (x ≡ e) ⊎ In x es → (In x es → (low ≤ x.number) × (x.number < e.number)) → (low ≤ x.number) × (x.number < next)
    go (inl is) ih = let n : x.number ≡ e.number = ap (λ (y : Entry). y.number) is in let h0 = h.0 in let h1 = h.1 in (omega arith, omega arith)
    go (inr r) ih = let k = ih r in let k0 = k.0 in let k1 = k.1 in let h0 = h.0 in (omega arith, omega arith)

-- one entry a number
pub count_one : (low : ℕ) (es : List Entry) (next : ℕ) (x y : Entry) → Count low es next → In x es → In y es → x.number ≡ y.number → x ≡ y
count_one low [] next x y h i k n = absurd i
count_one low (e ∷ es) next x y h i k n = go (count_one low es e.number x y h.2) i k
  where
    go : (In x es → In y es → x.number ≡ y.number → x ≡ y) → (x ≡ e) ⊎ In x es → (y ≡ e) ⊎ In y es → x ≡ y
    go ih (inl a) (inl b) = a ∙ sym b
    go ih (inl a) (inr b) = let m : x.number ≡ e.number = ap (λ (z : Entry). z.number) a in let r = (count_in low es e.number y h.2 b).1 in absurd (omega arith)
    go ih (inr a) (inl b) = let m : y.number ≡ e.number = ap (λ (z : Entry). z.number) b in let r = (count_in low es e.number x h.2 a).1 in absurd (omega arith)
    go ih (inr a) (inr b) = ih a b n

pub count_live : (low later : ℕ) (es : List Entry) (next : ℕ) → low ≤ later → later ≤ next → Count low es next → Count later (live later es) next
count_live low later [] next le top h = omega arith
count_live low later (e ∷ es) next le top h =
    let h0 = h.0 in
    by_le later e.number (λ b. Count later (if b then e ∷ live later es else []) next)
    (λ ge. (h.0, ge, count_live low later es e.number le ge h.2)) (λ lt. omega arith)

pub live_in : (later : ℕ) (es : List Entry) (x : Entry) → In x (live later es) → In x es
live_in later [] x = λ i. i
live_in later (e ∷ es) x =
    by_le later e.number (λ b. In x (if b then e ∷ live later es else []) → (x ≡ e) ⊎ In x es)
    (λ _ i. elim i [ inl is ↦ inl is | inr r ↦ inr (live_in later es x r) ]) (λ _ i. absurd i)

-- what isn't live any more has a lower number
pub in_live : (low later : ℕ) (es : List Entry) (next : ℕ) (x : Entry) → Count low es next → In x es → (x.number < later) ⊎ In x (live later es)
in_live low later [] next x h i = absurd i
in_live low later (e ∷ es) next x h i =
    let h0 = h.0 in
    let r = (count_in low (e ∷ es) next x h i).1 in
    by_le later e.number (λ b. (x.number < later) ⊎ In x (if b then e ∷ live later es else []))
    (λ _. elim i [ inl is ↦ inr (inl is) | inr k ↦ elim (in_live low later es e.number x h.2 k) [ inl lt ↦ inl lt | inr m ↦ inr (inr m) ] ])
    (λ lt. inl (omega arith))

-- entries that are found, each the only one with its number
pub down_of : (all : List Entry) (low : ℕ) (es : List Entry) (next : ℕ) → Count low es next → ((e : Entry) → In e es → In e all) → ((e x : Entry) → In e es → In x all → x.number ≡ e.number → x ≡ e) → CountDown all low es next
down_of all low [] next h there one = h
down_of all low (e ∷ es) next h there one = (h.0, h.1, there e (inl refl), (λ x i n. one e x (inl refl) i n), down_of all low es e.number h.2 (λ y i. there y (inr i)) (λ y x i. one y x (inr i)))

pub count_of : (all : List Entry) (low : ℕ) (es : List Entry) (next : ℕ) → CountDown all low es next → Count low es next
count_of all low [] next h = h
count_of all low (e ∷ es) next h = (h.0, h.1, count_of all low es e.number h.4)

-- of what was found, each entry with a number that counts is in the list
pub down_in : (all : List Entry) (low : ℕ) (es : List Entry) (next : ℕ) (x : Entry) → CountDown all low es next → In x all → x.number < next → (x.number < low) ⊎ In x es
down_in all low [] next x h i lt = inl (omega arith)
down_in all low (e ∷ es) next x h i lt = go (down_in all low es e.number x h.4 i) (decide x.number e.number)
  where
    go : (x.number < e.number → (x.number < low) ⊎ In x es) → (x.number ≡ e.number) ⊎ (x.number ≢ e.number) → (x.number < low) ⊎ ((x ≡ e) ⊎ In x es)
    go ih (inl is) = inr (inl (h.3 x i is))
    go ih (inr ne) = let h0 = h.0 in elim (ih (omega arith)) [ inl l ↦ inl l | inr k ↦ inr (inr k) ]

pub search_number : (all : List Entry) (n : ℕ) → ((x : Entry) × In x all × (x.number ≡ n)) ⊎ ((x : Entry) → In x all → x.number ≢ n)
search_number [] n = inr (λ x i. absurd i)
search_number (e ∷ es) n = go (decide e.number n) (search_number es n)
  where
    go : (e.number ≡ n) ⊎ (e.number ≢ n) → ((x : Entry) × In x es × (x.number ≡ n)) ⊎ ((x : Entry) → In x es → x.number ≢ n) → ((x : Entry) × In x (e ∷ es) × (x.number ≡ n)) ⊎ ((x : Entry) → In x (e ∷ es) → x.number ≢ n)
    go (inl is) r = inl (e, inl refl, is)
    go (inr ne) (inl k) = inl (k.0, inr k.1, k.2)
    go (inr ne) (inr none_) = inr (λ x i. elim i [ inl is ↦ (λ n. ne (ap (λ (y : Entry). y.number) (sym is) ∙ n)) | inr r ↦ none_ x r ])
