-- Entries in lists: which are in one, and how their numbers count up.
use Rattle.std.proofs.Common.{◌≡◌, ◌≢◌, ◌⊎◌, inl, inr, ℕ, zero, suc, ◌<◌, ◌≤◌, ◌==◌, true, false, cond, List, [], ◌∷◌, ◌++◌, length, Some, refl, sym, subst, ap, ◌∙◌, arith}
use Rattle.std.specs.Prelude.{All, Contains, slice_index_or, filter, nat_le}
use Rattle.std.proofs.lemmas.Bool.{cases_Bool, eqb-true}
use Rattle.std.proofs.lemmas.Bool.Decides.{nat_tests}
use Rattle.std.proofs.lemmas.List.Elements.{All-head, All-tail, All-cons, All-nil}
use Rattle.bc_model.proofs.Cases.{by_le, by_test}
use Rattle.bc_jset.specs.declared.entry.JEntry.{JEntry}
use Rattle.bc_record.specs.Places.{items_of}
use Rattle.bc_jset.specs.Entries.{FoundEntry, first_with, AreNumbered}
use Rattle.bc_journal.specs.Images.{CountUp}

-- the element is one of the list's
abbrev pub In : JEntry → List JEntry → Type 0
In x [] = ⊥
In x (y ∷ ys) = (x ≡ y) ⊎ In x ys

pub in_left : (x : JEntry) (xs ys : List JEntry) → In x xs → In x (xs ++ ys)
in_left x [] ys p = elim p [ ]
in_left x (y ∷ xs) ys (inl e) = inl e
in_left x (y ∷ xs) ys (inr p) = inr (in_left x xs ys p)

pub in_right : (x : JEntry) (xs ys : List JEntry) → In x ys → In x (xs ++ ys)
in_right x [] ys p = p
in_right x (y ∷ xs) ys p = inr (in_right x xs ys p)

pub in_either : (x : JEntry) (xs ys : List JEntry) → In x (xs ++ ys) → In x xs ⊎ In x ys
in_either x [] ys p = inr p
in_either x (y ∷ xs) ys (inl e) = inl (inl e)
in_either x (y ∷ xs) ys (inr p) = elim (in_either x xs ys p) [ inl q ↦ inl (inr q) | inr q ↦ inr q ]

in_at : (x : JEntry) (xs : List JEntry) (k : ℕ) → k < length xs → slice_index_or xs k x ≡ x → In x xs
in_at x [] k inside is = absurd (omega arith)
in_at x (y ∷ ys) zero inside is = inl (sym is)
in_at x (y ∷ ys) (suc k) inside is = inr (in_at x ys k (omega arith) is)

pub in_list : (x : JEntry) (xs : List JEntry) → Contains xs x → In x xs
in_list x xs p = in_at x xs p.0 p.1 p.2

pub contained : (x : JEntry) (xs : List JEntry) → In x xs → Contains xs x
contained x [] p = elim p [ ]
contained x (y ∷ ys) (inl e) = (zero, omega arith, sym e)
contained x (y ∷ ys) (inr p) = let q = contained x ys p in (suc q.0, omega (arith, q.1), q.2)

pub all_in : (P : JEntry → Type 0) (xs : List JEntry) → ((x : JEntry) → In x xs → P x) → All P xs
all_in P [] each = All-nil P
all_in P (y ∷ ys) each = All-cons P y ys (each y (inl refl)) (all_in P ys (λ x p. each x (inr p)))

pub has_in : (P : JEntry → Type 0) (xs : List JEntry) (x : JEntry) → All P xs → In x xs → P x
has_in P [] x each p = elim p [ ]
has_in P (y ∷ ys) x each (inl e) = subst P (sym e) (All-head P y ys each)
has_in P (y ∷ ys) x each (inr p) = has_in P ys x (All-tail P y ys each) p

-- ---- numbers

pub count_from : (low next : ℕ) (es : List JEntry) (e : JEntry) → CountUp low es next → In e es → low ≤ e.seq
count_from low next [] e p q = elim q [ ]
count_from low next (d ∷ es) e p (inl is) = omega (arith, p.0, ap (λ (x : JEntry). x.seq) is)
count_from low next (d ∷ es) e p (inr q) = omega (arith, count_from (suc low) next es e p.1 q)

pub count_to : (low next : ℕ) (es : List JEntry) (e : JEntry) → CountUp low es next → In e es → e.seq < next
count_to low next [] e p q = elim q [ ]
count_to low next (d ∷ es) e p (inl is) = omega (arith, p.0, ap (λ (x : JEntry). x.seq) is, count_long (suc low) next es p.1)
  where
    count_long : (low next : ℕ) (es : List JEntry) → CountUp low es next → low ≤ next
    count_long low next [] p = omega (arith, p)
    count_long low next (e ∷ es) p = omega (arith, count_long (suc low) next es p.1)
count_to low next (d ∷ es) e p (inr q) = count_to (suc low) next es e p.1 q

pub count_one : (low next : ℕ) (es : List JEntry) (x e : JEntry) → CountUp low es next → In x es → In e es → x.seq ≡ e.seq → x ≡ e
count_one low next [] x e p a b same = elim a [ ]
count_one low next (d ∷ es) x e p (inl a) (inl b) same = a ∙ sym b
count_one low next (d ∷ es) x e p (inl a) (inr b) same = absurd (omega (arith, p.0, ap (λ (z : JEntry). z.seq) a, count_from (suc low) next es e p.1 b, same))
count_one low next (d ∷ es) x e p (inr a) (inl b) same = absurd (omega (arith, p.0, ap (λ (z : JEntry). z.seq) b, count_from (suc low) next es x p.1 a, same))
count_one low next (d ∷ es) x e p (inr a) (inr b) same = count_one (suc low) next es x e p.1 a b same

-- ---- the ones that are still needed

abbrev pub needed_of : ℕ → List JEntry → List JEntry
needed_of high es = filter (λ d. nat_le high d.seq) es

keep_all : (low next high : ℕ) (es : List JEntry) → high ≤ low → CountUp low es next → needed_of high es ≡ es
keep_all low next high [] up p = refl
keep_all low next high (e ∷ es) up p =
    let test : nat_le high e.seq ≡ true = (let at : high ≤ e.seq = omega (arith, p.0) in grind (arith, nat_tests)) in
    ap (λ b. cond b (e ∷ needed_of high es) (needed_of high es)) test ∙ ap (λ (xs : List JEntry). e ∷ xs) (keep_all (suc low) next high es (omega arith) p.1)

pub count_needed : (low next high : ℕ) (es : List JEntry) → low ≤ high → high ≤ next → CountUp low es next → CountUp high (needed_of high es) next
count_needed low next high [] up down p = omega (arith, p)
count_needed low next high (e ∷ es) up down p =
    by_le high e.seq (λ b. CountUp high (cond b (e ∷ needed_of high es) (needed_of high es)) next)
    (λ at. (let same : high ≡ low = omega (arith, at, p.0, up) in
    (p.0 ∙ sym same, subst (λ (xs : List JEntry). CountUp (suc high) xs next) (sym (keep_all (suc low) next high es (omega (arith, same)) p.1)) (subst (λ n. CountUp (suc n) es next) (sym same) p.1))))
    (λ below. count_needed (suc low) next high es (omega (arith, below, p.0)) down p.1)

pub in_needed : (high : ℕ) (es : List JEntry) (x : JEntry) → In x es → high ≤ x.seq → In x (needed_of high es)
in_needed high [] x p at = p
in_needed high (e ∷ es) x (inl is) at =
    by_le high e.seq (λ b. In x (cond b (e ∷ needed_of high es) (needed_of high es))) (λ _. inl is) (λ below. absurd (omega (arith, below, at, ap (λ (z : JEntry). z.seq) is)))
in_needed high (e ∷ es) x (inr p) at =
    by_le high e.seq (λ b. In x (cond b (e ∷ needed_of high es) (needed_of high es))) (λ _. inr (in_needed high es x p at)) (λ _. in_needed high es x p at)

pub needed_in : (high : ℕ) (es : List JEntry) (x : JEntry) → In x (needed_of high es) → In x es
needed_in high [] x p = p
needed_in high (e ∷ es) x p =
    by_le high e.seq (λ b. In x (cond b (e ∷ needed_of high es) (needed_of high es)) → In x (e ∷ es))
    (λ _ q. (elim q [ inl is ↦ inl is | inr r ↦ inr (needed_in high es x r) ]))
    (λ _ q. inr (needed_in high es x q)) p

pub count_more : (low next : ℕ) (es : List JEntry) (e : JEntry) → CountUp low es next → e.seq ≡ next → CountUp low (es ++ e ∷ []) (suc next)
count_more low next [] e p is = (is ∙ sym p, ap suc p)
count_more low next (d ∷ es) e p is = (p.0, count_more (suc low) next es e p.1 is)

-- ---- what a reader takes of all that it finds

same_test : (a b : ℕ) → a ≡ b → (a == b) ≡ false → ⊥
same_test a b is not_same = grind (arith, nat_tests)

-- what is found with the number is the entry
abbrev pub FirstIs : List FoundEntry → JEntry → Type 0
FirstIs all e = (f : FoundEntry) × (f.item ≡ e) × (first_with e.seq all ≡ Some f)

pub first_is : (all : List FoundEntry) (e : JEntry) → In e (items_of all) → ((x : JEntry) → In x (items_of all) → x.seq ≡ e.seq → x ≡ e) → FirstIs all e
first_is [] e p one = elim p [ ]
first_is (y ∷ ys) e p one = elim (cases_Bool (y.item.seq == e.seq)) [
  | inl same ↦ (y, one y.item (inl refl) (eqb-true y.item.seq e.seq same), rw same refl)
  | inr other ↦ (let rest = first_is ys e (later p other) (λ x q. one x (inr q)) in (rest.0, rest.1, rw other rest.2))
]
  where
    later : In e (items_of (y ∷ ys)) → (y.item.seq == e.seq) ≡ false → In e (items_of ys)
    later (inl is) not_same = absurd (same_test y.item.seq e.seq (ap (λ (z : JEntry). z.seq) (sym is)) not_same)
    later (inr q) not_same = q

-- entries as they are found, in their order
pub numbered_by : (all : List FoundEntry) (low next : ℕ) (es : List JEntry) → CountUp low es next → ((e : JEntry) → In e es → FirstIs all e)
    → (fs : List FoundEntry) × (items_of fs ≡ es) × AreNumbered all low fs next
numbered_by all low next [] p each = ([], refl, p)
numbered_by all low next (e ∷ es) p each =
    let here = each e (inl refl) in
    let rest = numbered_by all (suc low) next es p.1 (λ x q. each x (inr q)) in (
      here.0 ∷ rest.0,
      ap (λ (x : JEntry). x ∷ items_of rest.0) here.1 ∙ ap (λ (xs : List JEntry). e ∷ xs) rest.1,
      (subst (λ n. first_with n all ≡ Some here.0) p.0 here.2, rest.2),
    )

pub all_items : (P : JEntry → Type 0) (all : List FoundEntry) → ((x : JEntry) → In x (items_of all) → P x) → All (λ (f : FoundEntry). P f.item) all
all_items P [] each = All-nil (λ (f : FoundEntry). P f.item)
all_items P (y ∷ ys) each = All-cons (λ (f : FoundEntry). P f.item) y ys (each y.item (inl refl)) (all_items P ys (λ x p. each x (inr p)))

pub items_append : (xs ys : List FoundEntry) → items_of (xs ++ ys) ≡ items_of xs ++ items_of ys
items_append [] ys = refl
items_append (x ∷ xs) ys = ap (λ (es : List JEntry). x.item ∷ es) (items_append xs ys)

-- one of all has the number, or none has
pub found_or_none : (number : ℕ) (all : List JEntry) → ((x : JEntry) × In x all × (x.seq ≡ number)) ⊎ ((x : JEntry) → In x all → x.seq ≢ number)
found_or_none number [] = inr (λ x p. elim p [ ])
found_or_none number (y ∷ ys) = elim (found_or_none number ys) [
  | inl some ↦ inl (some.0, inr some.1, some.2)
  | inr none ↦ by_test y.seq number (λ _. ((x : JEntry) × In x (y ∷ ys) × (x.seq ≡ number)) ⊎ ((x : JEntry) → In x (y ∷ ys) → x.seq ≢ number))
      (λ is. inl (y, inl refl, is))
      (λ ne. inr (λ x p. (elim p [ inl e ↦ (λ is. ne (ap (λ (z : JEntry). z.seq) (sym e) ∙ is)) | inr q ↦ none x q ])))
]
