-- Leaves one behind the other.
use Rattle.std.proofs.Common.{◌≡◌, ◌⊎◌, inl, inr, ℕ, zero, suc, ◌+◌, ◌-◌, ◌<◌, ◌≤◌, List, [], ◌∷◌, ◌++◌, length, get_or, take, drop, refl, sym, ap, ◌∙◌, subst, arith, length-append}
use Rattle.std.specs.Prelude.{All, AllPairs, Contains, Some, slice_get}
use Rattle.bc_key.specs.Ptr.{no_ptr}
use Rattle.std.proofs.lemmas.Bool.{cases_order, cases_lt}
use Rattle.std.proofs.lemmas.List.{drop-drop, take-append-drop, get_or_default, get_or-append_right}
use Rattle.std.proofs.lemmas.List.Elements.{All-append, All-take, All-drop, All-push}
use Rattle.bc_spine.specs.declared.leaf.LeafRange.{LeafRange}
use Rattle.bc_spine.specs.Leaves.{Spans, IsRow, EndsAtCut, HaveTwoNumbers, AreLeaves, AreCounted, CanReplace}
use Rattle.bc_spine.proofs.Lists.{AllPairs-append, AllPairs-left, AllPairs-right, AllPairs-across}

-- a leaf of no sectors, for places where none is
abbrev pub no_leaf : LeafRange
no_leaf = record { number = 0; from = 0; end = 0; ptr = no_ptr }

pub get_there : (xs : List LeafRange) (k : ℕ) (d : LeafRange) → k < length xs → slice_get xs k ≡ Some (get_or xs k d)
get_there [] k d inside = absurd (omega arith)
get_there (x ∷ xs) zero d inside = refl
get_there (x ∷ xs) (suc k) d inside = get_there xs k d (omega arith)

pub found_leaf : (xs ys : List LeafRange) (s n : ℕ) → xs ≡ ys → n < length xs → ((d : LeafRange) → (get_or xs n d).from ≤ s) → ((d : LeafRange) → s < (get_or xs n d).end)
    → (leaf : LeafRange) × (slice_get ys n ≡ Some leaf) × Spans leaf s
found_leaf xs ys s n same inside begins ends =
    (get_or xs n no_leaf, ap (λ zs. slice_get zs n) (sym same) ∙ get_there xs n no_leaf inside, (begins no_leaf, ends no_leaf))

-- the first leaf that ends behind a sector begins at it or before
pub found_there : (a b : ℕ) (xs : List LeafRange) (s n : ℕ) → IsRow a xs b → a ≤ s → s < b → n ≤ length xs
    → ((k : ℕ) (d : LeafRange) → k < n → (get_or xs k d).end ≤ s) → (n < length xs) × ((d : LeafRange) → (get_or xs n d).from ≤ s)
found_there a b [] s n row low high within ended = absurd (omega (arith, row))
found_there a b (x ∷ xs) s zero row low high within ended = (omega arith, λ d. omega (arith, row.0))
found_there a b (x ∷ xs) s (suc n) row low high within ended =
    let rest = found_there x.end b xs s n row.2 (ended 0 x (omega arith)) high (omega arith) (λ k d before. ended (suc k) d (omega arith)) in
    (omega (arith, rest.0), λ d. rest.1 d)

-- a leaf of a row lies within it
pub lies_within : (a b : ℕ) (xs : List LeafRange) → IsRow a xs b → (k : ℕ) (d : LeafRange) → k < length xs → (a ≤ (get_or xs k d).from) × ((get_or xs k d).from < (get_or xs k d).end)
lies_within a b [] row k d inside = absurd (omega arith)
lies_within a b (x ∷ xs) row zero d inside = (omega (arith, row.0), omega (arith, row.0, row.1))
lies_within a b (x ∷ xs) row (suc k) d inside =
    let rest = lies_within x.end b xs row.2 k d (omega arith) in
    (omega (arith, rest.0, row.1), rest.1)

-- a leaf ends before a later one begins
pub ends_before : (a b : ℕ) (xs : List LeafRange) → IsRow a xs b → (i j : ℕ) (d : LeafRange) → i < j → j < length xs → (get_or xs i d).end ≤ (get_or xs j d).from
ends_before a b [] row i j d before inside = absurd (omega arith)
ends_before a b (x ∷ xs) row i zero d before inside = absurd (omega arith)
ends_before a b (x ∷ xs) row zero (suc j) d before inside = (lies_within x.end b xs row.2 j d (omega arith)).0
ends_before a b (x ∷ xs) row (suc i) (suc j) d before inside = ends_before x.end b xs row.2 i j d (omega arith) (omega arith)

pub ends_rise : (a b : ℕ) (xs : List LeafRange) → IsRow a xs b → (i j : ℕ) (d : LeafRange) → i ≤ j → j < length xs → (get_or xs i d).end ≤ (get_or xs j d).end
ends_rise a b xs row i j d before inside = go (cases_order i j)
  where
    go : (i ≡ j) ⊎ ((i < j) ⊎ (j < i)) → (get_or xs i d).end ≤ (get_or xs j d).end
    go (inl same) = subst (λ n. (get_or xs i d).end ≤ (get_or xs n d).end) same (omega arith)
    go (inr (inl less)) = let one = ends_before a b xs row i j d less inside in let two = (lies_within a b xs row j d inside).1 in omega arith
    go (inr (inr more)) = absurd (omega arith)

-- two leaves of a row with one sector are one
pub one_spans : (a b : ℕ) (xs : List LeafRange) → IsRow a xs b → (s : ℕ) (x y : LeafRange) → Contains xs x → Contains xs y → Spans x s → Spans y s → x ≡ y
one_spans a b xs row s x y here there low high = go (cases_order here.0 there.0)
  where
    y_is : get_or xs there.0 x ≡ y
    y_is = get_or_default xs there.0 x y there.1 ∙ there.2

    go : (here.0 ≡ there.0) ⊎ ((here.0 < there.0) ⊎ (there.0 < here.0)) → x ≡ y
    go (inl same) = sym here.2 ∙ ap (λ n. get_or xs n x) same ∙ y_is
    go (inr (inl less)) =
        let apart = ends_before a b xs row here.0 there.0 x less there.1 in
        let one : x.end ≤ y.from = subst (λ (v : LeafRange). v.end ≤ y.from) here.2 (subst (λ (v : LeafRange). (get_or xs here.0 x).end ≤ v.from) y_is apart) in
        absurd (omega arith)
    go (inr (inr more)) =
        let apart = ends_before a b xs row there.0 here.0 x more here.1 in
        let one : y.end ≤ x.from = subst (λ (v : LeafRange). y.end ≤ v.from) here.2 (subst (λ (v : LeafRange). v.end ≤ (get_or xs here.0 x).from) y_is apart) in
        absurd (omega arith)

-- each sector of a row lies in some leaf
pub some_spans : (a b : ℕ) (xs : List LeafRange) → IsRow a xs b → (s : ℕ) → a ≤ s → s < b → (x : LeafRange) × Contains xs x × Spans x s
some_spans a b [] row s low high = absurd (omega arith)
some_spans a b (x ∷ xs) row s low high = go (some_spans x.end b xs row.2 s) (cases_lt s x.end)
  where
    go : (x.end ≤ s → s < b → (y : LeafRange) × Contains xs y × Spans y s) → (s < x.end) ⊎ (x.end ≤ s) → (y : LeafRange) × Contains (x ∷ xs) y × Spans y s
    go later (inl less) = (x, (zero, omega arith, refl), (omega (arith, row.0), less))
    go later (inr more) =
        let rest = later more high in
        (rest.0, (suc rest.1.0, omega (arith, rest.1.1), rest.1.2), rest.2)

-- ---- rows of two parts

pub row_append : (a m b : ℕ) (xs ys : List LeafRange) → IsRow a xs m → IsRow m ys b → IsRow a (xs ++ ys) b
row_append a m b [] ys left right = subst (λ n. IsRow n ys b) (sym left) right
row_append a m b (x ∷ xs) ys left right = (left.0, left.1, row_append x.end m b xs ys left.2 right)

pub row_split : (a b : ℕ) (xs ys : List LeafRange) → IsRow a (xs ++ ys) b → (m : ℕ) × IsRow a xs m × IsRow m ys b
row_split a b [] ys row = (a, refl, row)
row_split a b (x ∷ xs) ys row = let rest = row_split x.end b xs ys row.2 in (rest.0, (row.0, row.1, rest.1), rest.2)

three : {X : Type 0} (xs : List X) (at gone : ℕ) → take at xs ++ (take gone (drop at xs) ++ drop (at + gone) xs) ≡ xs
three xs at gone =
    ap (λ ys. take at xs ++ (take gone (drop at xs) ++ ys)) (sym (drop-drop gone at xs))
    ∙ ap (λ ys. take at xs ++ ys) (take-append-drop gone (drop at xs))
    ∙ take-append-drop at xs

pub row_replaced : (xs come : List LeafRange) (at gone end : ℕ) → IsRow 0 xs end → ((a b : ℕ) → IsRow a (take gone (drop at xs)) b → IsRow a come b) → IsRow 0 ((take at xs ++ come) ++ drop (at + gone) xs) end
row_replaced xs come at gone end row same =
    let one = row_split 0 end (take at xs) (take gone (drop at xs) ++ drop (at + gone) xs) (subst (λ (ys : List LeafRange). IsRow 0 ys end) (sym (three xs at gone)) row) in
    let two = row_split one.0 end (take gone (drop at xs)) (drop (at + gone) xs) one.2 in
    row_append 0 two.0 end (take at xs ++ come) (drop (at + gone) xs) (row_append 0 one.0 two.0 (take at xs) come one.1 (same one.0 two.0 two.1)) two.2

swapped : (xs ys : List LeafRange) → All (λ x. All (HaveTwoNumbers x) ys) xs → All (λ y. All (HaveTwoNumbers y) xs) ys
swapped xs ys all j e within i d inside same = all i d inside j e within (sym same)

pub numbers_replaced : (xs come : List LeafRange) (at gone : ℕ) → AllPairs HaveTwoNumbers (xs ++ come) → AllPairs HaveTwoNumbers ((take at xs ++ come) ++ drop (at + gone) xs)
numbers_replaced xs come at gone all =
    let front = take at xs in
    let behind = drop (at + gone) xs in
    let parts = subst (λ (ys : List LeafRange). AllPairs HaveTwoNumbers ys) (sym (three xs at gone)) (AllPairs-left HaveTwoNumbers xs come all) in
    let back = AllPairs-right HaveTwoNumbers front (take gone (drop at xs) ++ behind) parts in
    let far = AllPairs-across HaveTwoNumbers front (take gone (drop at xs) ++ behind) parts in
    let apart : All (λ x. All (HaveTwoNumbers x) behind) front = λ i d inside. All-right (HaveTwoNumbers (get_or front i d)) (take gone (drop at xs)) behind (far i d inside) in
    let across = AllPairs-across HaveTwoNumbers xs come all in
    let one = AllPairs-append HaveTwoNumbers front come (AllPairs-left HaveTwoNumbers front (take gone (drop at xs) ++ behind) parts) (AllPairs-right HaveTwoNumbers xs come all) (All-take (λ x. All (HaveTwoNumbers x) come) at xs across) in
    AllPairs-append HaveTwoNumbers (front ++ come) behind one (AllPairs-right HaveTwoNumbers (take gone (drop at xs)) behind back)
    (All-append (λ x. All (HaveTwoNumbers x) behind) front come apart (swapped behind come (All-drop (λ x. All (HaveTwoNumbers x) come) (at + gone) xs across)))
  where
    All-right : (P : LeafRange → Type 0) (ys zs : List LeafRange) → All P (ys ++ zs) → All P zs
    All-right P ys zs all k d inside =
        subst P (get_or-append_right ys zs (length ys) (length ys + k) d refl (omega arith) ∙ ap (λ m. get_or zs m d) (let e : length ys + k - length ys ≡ k = omega arith in e))
        (all (length ys + k) d (omega (arith, length-append ys zs)))

pub leaves_replaced : (xs come new : List LeafRange) (at gone end : ℕ) → AreLeaves xs end → CanReplace xs (take gone (drop at xs)) come → new ≡ (take at xs ++ come) ++ drop (at + gone) xs → AreLeaves new end
leaves_replaced xs come new at gone end old can is =
    subst (λ (ys : List LeafRange). AreLeaves ys end) (sym is) (record {
      row = row_replaced xs come at gone end old.row can.same_range;
      cuts = All-append EndsAtCut (take at xs ++ come) (drop (at + gone) xs)
          (All-append EndsAtCut (take at xs) come (All-take EndsAtCut at xs old.cuts) can.cuts)
          (All-drop EndsAtCut (at + gone) xs old.cuts);
      numbers = numbers_replaced xs come at gone can.numbers;
    })

-- ---- one more behind the others

pub counted_push : (n : ℕ) (xs : List LeafRange) (x : LeafRange) → AreCounted n xs → x.number ≡ n + length xs → AreCounted n (xs ++ x ∷ [])
counted_push n [] x counted is = (omega (arith, is), tt)
counted_push n (y ∷ xs) x counted is = (counted.0, counted_push (suc n) xs x counted.1 (omega (arith, is)))

pub counted_at : (n : ℕ) (xs : List LeafRange) → AreCounted n xs → (k : ℕ) (d : LeafRange) → k < length xs → (get_or xs k d).number ≡ n + k
counted_at n [] counted k d inside = absurd (omega arith)
counted_at n (x ∷ xs) counted zero d inside = omega (arith, counted.0)
counted_at n (x ∷ xs) counted (suc k) d inside = let rest = counted_at (suc n) xs counted.1 k d (omega arith) in omega (arith, rest)

pub counted_apart : (xs : List LeafRange) → AreCounted 0 xs → AllPairs HaveTwoNumbers xs
counted_apart xs counted i j d before inside same =
    let one = counted_at 0 xs counted i d (omega arith) in
    let two = counted_at 0 xs counted j d inside in
    omega (arith, same, one, two)

pub leaves_pushed : (xs : List LeafRange) (x : LeafRange) (a : ℕ) → AreLeaves xs a → AreCounted 0 (xs ++ x ∷ []) → x.from ≡ a → a < x.end → EndsAtCut x → AreLeaves (xs ++ x ∷ []) x.end
leaves_pushed xs x a old counted from below cut = record {
  row = row_append 0 a x.end xs (x ∷ []) old.row (from, below, refl);
  cuts = All-push EndsAtCut xs x old.cuts cut;
  numbers = counted_apart (xs ++ x ∷ []) counted;
}
