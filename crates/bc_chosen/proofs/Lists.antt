-- Lists that were filled with the spare buckets, in order.
use Rattle.std.proofs.Common.{subst, ◌≡◌, ◌≢◌, ◌⊎◌, inl, inr, ℕ, zero, suc, ◌+◌, ◌<◌, ◌≤◌, Bool, true, false, List, [], ◌∷◌, ◌++◌, length, Option, Some, None, refl, sym, ap, ◌∙◌, arith, if◌then◌else◌, nat_lt}
use Rattle.std.specs.Prelude.{All, AllPairs, map, slice_index_or}
use Rattle.std.proofs.lemmas.List.{length_push}
use Rattle.bc_alloc.specs.Reserve.{Reserve, appended, has_room, no_reserve}
use Rattle.bc_alloc.specs.Reserves.{Reserves, empty_list, list_of, place_of, stored, stored_all}
use Rattle.bc_alloc.specs.declared.purpose.Purpose as lists
use Rattle.bc_alloc.specs.declared.purpose.Purpose.TheVariants as purposes
use Rattle.bc_books.specs.Shelves.{Moving, Plain, Priorities, Purpose, Tree}
use Rattle.bc_disk.specs.Chain.{sets_in_chain}
use Rattle.bc_disk.specs.declared.geometry.Geometry.{Geometry}
use Rattle.bc_facts.specs.Reads.{back}
use Rattle.bc_facts.specs.Seen.{counted}
use Rattle.bc_facts.proofs.Place.{by_lt}
use Rattle.bc_facts.proofs.Stood.{all_in, contains_in, in_either}
use Rattle.bc_image.specs.Reading.{Reading}
use Rattle.bc_image.specs.Sound.{HasSpareBuckets}
use Rattle.bc_image.specs.Uses.{IsSpare, Super}
use Rattle.bc_leaves.proofs.Chains.{has_in, in_has}
use Rattle.bc_meta.specs.Chain.{Distinct}
use Rattle.bc_meta.specs.Facts.{In}
use Rattle.bc_recover.specs.Spare.{HasReserves}
use Rattle.bc_chosen.specs.Lists.{AreListed, LawLists, is_on, kept_by, listed_at}

-- ---- lists without a number twice

distinct_up : (xs : List ℕ) → AllPairs (λ a b. a < b) xs → Distinct xs
distinct_up [] up = tt
distinct_up (x ∷ xs) up = (
  (λ i. (let higher = all_in (λ y. x < y) xs x (λ j d lt. up 0 (suc j) d (omega arith) (omega (arith, lt))) i in omega (arith, higher))),
  distinct_up xs (λ i j d lt inside. up (suc i) (suc j) d (omega (arith, lt)) (omega (arith, inside))),
)

distinct_apart : (xs : List ℕ) → AllPairs (λ a b. a ≢ b) xs → Distinct xs
distinct_apart [] apart = tt
distinct_apart (x ∷ xs) apart = (
  (λ i. all_in (λ y. x ≢ y) xs x (λ j d lt. apart 0 (suc j) d (omega arith) (omega (arith, lt))) i refl),
  distinct_apart xs (λ i j d lt inside. apart (suc i) (suc j) d (omega (arith, lt)) (omega (arith, inside))),
)

distinct_push : (xs : List ℕ) (k : ℕ) → Distinct xs → (In k xs → ⊥) → Distinct (xs ++ k ∷ [])
distinct_push [] k apart none = ((λ i. i), tt)
distinct_push (x ∷ xs) k apart none = (
  (λ i. elim (in_either x xs (k ∷ []) i) [
    | inl j ↦ apart.0 j
    | inr (inl e) ↦ none (inl (sym e))
    | inr (inr e) ↦ e
  ]),
  distinct_push xs k apart.1 (λ i. none (inr i)),
)

-- all but one, of a list that has it
without : (x : ℕ) (ys : List ℕ) → In x ys → (rest : List ℕ) × (length ys ≡ suc (length rest)) × ((z : ℕ) → z ≢ x → In z ys → In z rest)
without x [] i = absurd i
without x (y ∷ ys) (inl e) = (ys, refl, λ z other i. elim i [ inl f ↦ absurd (other (f ∙ sym e)) | inr j ↦ j ])
without x (y ∷ ys) (inr i) = let w = without x ys i in (y ∷ w.0, ap suc w.1, λ z other j. elim j [ inl f ↦ inl f | inr t ↦ inr (w.2 z other t) ])

fewer : (xs ys : List ℕ) → Distinct xs → ((x : ℕ) → In x xs → In x ys) → length xs ≤ length ys
fewer [] ys apart all = omega arith
fewer (x ∷ xs) ys apart all =
    let w = without x ys (all x (inl refl)) in
    let one = w.1 in
    let rest = fewer xs w.0 apart.1 (λ z i. w.2 z (λ e. apart.0 (subst (λ n. In n xs) e i)) (all z (inr i))) in
    omega (arith, one, rest)

-- ---- a list that is filled

abbrev put : ℕ → Reserve → Reserve
put k l = if has_room l then appended k l else l

abbrev put_all : List ℕ → Reserve → Reserve
put_all [] l = l
put_all (k ∷ ks) l = put_all ks (put k l)

first_stored : (k : ℕ) (l : Reserve) (ls : List Reserve) → (rest : List Reserve) × (stored k (l ∷ ls) ≡ put k l ∷ rest)
first_stored k l ls = go (has_room l)
  where
    go : (b : Bool) → (rest : List Reserve) × ((if b then appended k l ∷ ls else l ∷ stored k ls) ≡ (if b then appended k l else l) ∷ rest)
    go true = (ls, refl)
    go false = (stored k ls, refl)

-- the first list takes what has room
first_filled : (ks : List ℕ) (l : Reserve) (ls : List Reserve) → slice_index_or (stored_all ks (l ∷ ls)) 0 no_reserve ≡ put_all ks l
first_filled [] l ls = refl
first_filled (k ∷ ks) l ls =
    let f = first_stored k l ls in
    ap (λ (xs : List Reserve). slice_index_or (stored_all ks xs) 0 no_reserve) f.1 ∙ first_filled ks (put k l) f.0

full_length : (ks : List ℕ) (l : Reserve) → length l.buckets ≤ l.room → l.room ≤ length l.buckets + length ks → length (put_all ks l).buckets ≡ l.room
full_length [] l low high = omega (arith, low, high)
full_length (k ∷ ks) l low high = by_lt (length l.buckets) l.room (λ b. length (put_all ks (if b then appended k l else l)).buckets ≡ l.room)
    (λ room. (let long = length_push l.buckets k in full_length ks (appended k l) (omega (arith, long, room)) (omega (arith, long, high))))
    (λ full. full_length ks l low (omega (arith, full)))

filled_apart : (ks : List ℕ) (l : Reserve) → Distinct l.buckets → Distinct ks → ((x : ℕ) → In x l.buckets → In x ks → ⊥) → Distinct (put_all ks l).buckets
filled_apart [] l own more apart = own
filled_apart (k ∷ ks) l own more apart = go (has_room l)
    (filled_apart ks (appended k l) (distinct_push l.buckets k own (λ i. apart k i (inl refl))) more.1
    (λ x i j. elim (in_either x l.buckets (k ∷ []) i) [
      | inl here ↦ apart x here (inr j)
      | inr (inl e) ↦ more.0 (subst (λ n. In n ks) e j)
      | inr (inr e) ↦ e
    ]))
    (filled_apart ks l own more.1 (λ x i j. apart x i (inr j)))
  where
    go : (b : Bool) → Distinct (put_all ks (appended k l)).buckets → Distinct (put_all ks l).buckets → Distinct (put_all ks (if b then appended k l else l)).buckets
    go true taken left = taken
    go false taken left = left

-- ---- what the lists have

module _ (P : ℕ → Type 0) where
  abbrev EachHas : List Reserve → Type 0
  EachHas [] = Unit {0}
  EachHas (l ∷ ls) = ((x : ℕ) → In x l.buckets → P x) × EachHas ls

  stored_has : (k : ℕ) (ls : List Reserve) → P k → EachHas ls → EachHas (stored k ls)
  stored_has k [] own each = tt
  stored_has k (l ∷ ls) own each = go (has_room l) (stored_has k ls own each.1)
    where
      go : (b : Bool) → EachHas (stored k ls) → EachHas (if b then appended k l ∷ ls else l ∷ stored k ls)
      go true rest = (
        (λ x i. elim (in_either x l.buckets (k ∷ []) i) [
          | inl here ↦ each.0 x here
          | inr (inl e) ↦ subst P (sym e) own
          | inr (inr e) ↦ absurd e
        ]),
        each.1,
      )
      go false rest = (each.0, rest)

  all_stored : (ks : List ℕ) (ls : List Reserve) → ((x : ℕ) → In x ks → P x) → EachHas ls → EachHas (stored_all ks ls)
  all_stored [] ls own each = each
  all_stored (k ∷ ks) ls own each = all_stored ks (stored k ls) (λ x i. own x (inr i)) (stored_has k ls (own k (inl refl)) each)

  at_list : (ls : List Reserve) → EachHas ls → (i x : ℕ) → In x (slice_index_or ls i no_reserve).buckets → P x
  at_list [] each i x here = absurd here
  at_list (l ∷ ls) each zero x here = each.0 x here
  at_list (l ∷ ls) each (suc i) x here = at_list ls each.1 i x here

-- ---- as the machine counts buckets

in_map : (f : ℕ → ℕ) (xs : List ℕ) (q : ℕ) → In q (map f xs) → (x : ℕ) × In x xs × (q ≡ f x)
in_map f [] q i = absurd i
in_map f (x ∷ xs) q (inl e) = (x, inl refl, e)
in_map f (x ∷ xs) q (inr i) = let k = in_map f xs q i in (k.0, inr k.1, k.2)

long_map : (f : ℕ → ℕ) (xs : List ℕ) → length (map f xs) ≡ length xs
long_map f [] = refl
long_map f (x ∷ xs) = ap suc (long_map f xs)

distinct_map : (f : ℕ → ℕ) (xs : List ℕ) → ((x y : ℕ) → In x xs → In y xs → f x ≡ f y → x ≡ y) → Distinct xs → Distinct (map f xs)
distinct_map f [] one apart = tt
distinct_map f (x ∷ xs) one apart = (
  (λ i. (let k = in_map f xs (f x) i in apart.0 (subst (λ n. In n xs) (sym (one x k.0 (inl refl) (inr k.1) k.2)) k.1))),
  distinct_map f xs (λ y z i j. one y z (inr i) (inr j)) apart.1,
)

module _ (g : Geometry) (r : Reading) (reserves : Reserves) (filled : HasReserves g r reserves) (spare : HasSpareBuckets g r) where
  abbrev ks : List ℕ
  ks = filled.spare

  spare_in : (x : ℕ) → In x ks → IsSpare g r x
  spare_in x i = (all_in (λ k. (k < g.nbuckets) × IsSpare g r k) filled.spare x filled.are.each i).1

  pub low : (x : ℕ) → IsSpare g r x → g.first_bucket ≤ x
  low x is = by_lt x g.first_bucket (λ _. g.first_bucket ≤ x) (λ lt. absurd (is.1 Super lt)) (λ ge. ge)

  abbrev none : Reserve
  none = empty_list g purposes.Priorities

  abbrev others : List Reserve
  others = empty_list g purposes.Moving ∷ empty_list g purposes.Tree ∷ empty_list g purposes.Plain ∷ []

  lists_are : reserves.lists ≡ stored_all ks (none ∷ others)
  lists_are = ap (λ (x : Reserves). x.lists) filled.filled

  nothing_yet : EachHas (IsSpare g r) (none ∷ others)
  nothing_yet = ((λ x i. absurd i), ((λ x i. absurd i), ((λ x i. absurd i), ((λ x i. absurd i), tt))))

  each_spare : EachHas (IsSpare g r) reserves.lists
  each_spare = subst (EachHas (IsSpare g r)) (sym lists_are) (all_stored (IsSpare g r) ks (none ∷ others) spare_in nothing_yet)

  pub on_spare : (p : lists.Purpose) (k : ℕ) → is_on p reserves k ≡ true → IsSpare g r k
  on_spare p k on = at_list (IsSpare g r) reserves.lists each_spare (place_of p) k (in_has (list_of p reserves).buckets k on)

  listed : (q : ℕ) (p : Purpose) → listed_at g reserves q ≡ Some p → IsSpare g r (back g q)
  listed q p is = go (is_on purposes.Priorities reserves (back g q)) (is_on purposes.Moving reserves (back g q)) (is_on purposes.Tree reserves (back g q)) (is_on purposes.Plain reserves (back g q)) refl refl refl refl is
    where
      go : (a b c d : Bool) → is_on purposes.Priorities reserves (back g q) ≡ a → is_on purposes.Moving reserves (back g q) ≡ b → is_on purposes.Tree reserves (back g q) ≡ c → is_on purposes.Plain reserves (back g q) ≡ d
          → (if a then Some Priorities else (if b then Some Moving else (if c then Some Tree else (if d then Some Plain else None)))) ≡ Some p → IsSpare g r (back g q)
      go true b c d on _ _ _ e = on_spare purposes.Priorities (back g q) on
      go false true c d _ on _ _ e = on_spare purposes.Moving (back g q) on
      go false false true d _ _ on _ e = on_spare purposes.Tree (back g q) on
      go false false false true _ _ _ on e = on_spare purposes.Plain (back g q) on
      go false false false false _ _ _ _ e = absurd (cc)

  abbrev first : List ℕ
  first = (list_of purposes.Priorities reserves).buckets

  first_spare : (x : ℕ) → In x first → IsSpare g r x
  first_spare x i = at_list (IsSpare g r) reserves.lists each_spare 0 x i

  first_is : first ≡ (put_all ks none).buckets
  first_is =
      ap (λ (xs : List Reserve). (slice_index_or xs 0 no_reserve).buckets) lists_are
      ∙ ap (λ (l : Reserve). l.buckets) (first_filled ks none others)

  enough : length first ≡ sets_in_chain g
  enough =
      let all = fewer spare.spare ks (distinct_apart spare.spare spare.different)
      (λ x i. (let is = all_in (IsSpare g r) spare.spare x spare.each i in contains_in filled.spare x (filled.are.all x is.0 is))) in
      let some = spare.enough in
      ap (λ (xs : List ℕ). length xs) first_is ∙ full_length ks none (omega arith) (omega (arith, all, some))

  kept : (q : ℕ) → In q (kept_by g reserves) → listed_at g reserves q ≡ Some Priorities
  kept q i =
      let k = in_map (counted g) first q i in
      let from = low k.0 (first_spare k.0 k.1) in
      let is = k.2 in
      let there : k.0 ≡ back g q = omega (arith, from, is) in
      ap (λ (b : Bool). if b then Some Priorities else (if is_on purposes.Moving reserves (back g q) then Some Moving else (if is_on purposes.Tree reserves (back g q) then Some Tree else (if is_on purposes.Plain reserves (back g q) then Some Plain else None))))
      (has_in first (back g q) (subst (λ n. In n first) there k.1))

  distinct : Distinct (kept_by g reserves)
  distinct = distinct_map (counted g) first
      (λ x y i j e. (let a = low x (first_spare x i) in let b = low y (first_spare y j) in omega (arith, a, b, e)))
      (subst Distinct (sym first_is) (filled_apart ks none tt (distinct_up ks filled.are.order) (λ x i j. i)))

  pub law : AreListed g r (listed_at g reserves) (kept_by g reserves)
  law = record { listed = listed; kept = kept; distinct = distinct; enough = long_map (counted g) first ∙ enough }

pub law_lists : LawLists
law_lists g r reserves filled spare = law g r reserves filled spare
