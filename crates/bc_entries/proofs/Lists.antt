-- The list of the entries that count.
use Rattle.std.proofs.Common.{◌≡◌, ◌≢◌, ◌⊎◌, ◌==◌, inl, inr, ℕ, zero, suc, ◌+◌, ◌-◌, ◌<◌, ◌≤◌, List, [], ◌∷◌, ◌++◌, length, cond, true, false, Bool, Option, Some, None, refl, sym, subst, ap, ◌∙◌, arith, get_or, take, drop, drop-cons}
use Rattle.std.specs.Prelude.{All, Contains, slice_get, slice_index_or}
use Rattle.std.specs.Ordering.{nat_cmp}
use Rattle.std.specs.BTreeMap.{is_at}
use Rattle.std.proofs.Math.Seq.{drop-length}
use Rattle.std.proofs.lemmas.Bool.{cases_Bool, cases_lt, eqb-true}
use Rattle.std.proofs.lemmas.Bool.Decides.{eqb_tells}
use Rattle.std.proofs.lemmas.List.{drop_all, take_all}
use Rattle.std.proofs.lemmas.List.Elements.{All-nil, All-cons, All-head, All-tail, All-weaker, All-get_or, All-more}
use Rattle.std.proofs.lemmas.Option.{slice_get_within, get_or_from_slice_get, slice_get-get_or}
use Rattle.bc_jset.specs.Entries.{FoundEntry, first_with, IsNewest, AreNumbered, IsThere, IsMissing, IsGap}
use Rattle.bc_jset.proofs.Journal.{first_here, numbered_there}
use Rattle.bc_jset.proofs.Entries.{found_has, found_number}
use Rattle.bc_disk.specs.declared.geometry.Geometry.{Geometry}
use Rattle.bc_entries.specs.declared.error.JournalError.{JournalError}
use Rattle.bc_entries.specs.declared.error.JournalError.TheVariants as errors
use Rattle.bc_entries.specs.Lists.{IsAt, IsNewestAt, before, picked, AreMissing, AreUnlisted, IsUnfit}

first_later : (number : ℕ) (e : FoundEntry) (es : List FoundEntry) → e.item.seq ≢ number → first_with number (e ∷ es) ≡ first_with number es
first_later number e es other = elim (cases_Bool (e.item.seq == number)) [
  | inl same ↦ absurd (other (eqb-true e.item.seq number same))
  | inr differs ↦ let at : cond (e.item.seq == number) (Some e) (first_with number es) ≡ first_with number es = rw differs refl in at
]

-- the list from a place on
pub drop_is : (all : List FoundEntry) (at : ℕ) (e : FoundEntry) → slice_get all at ≡ Some e → drop at all ≡ e ∷ drop (suc at) all
drop_is all at e is =
    let within = slice_get_within all at e is in
    drop-cons all at e within ∙ ap (λ (x : FoundEntry). x ∷ drop (suc at) all) (get_or_from_slice_get all at e e is)

-- ---- where each number stands

pub at_end : (all : List FoundEntry) (at number : ℕ) → length all ≤ at → IsAt all (drop at all) number None
at_end all at number past = ap (first_with number) (drop_all at all past)

same_or_not : (a b : ℕ) → (a ≡ b) ⊎ (a ≢ b)
same_or_not a b = elim (eqb_tells a b) [ inl t ↦ inl t.1 | inr t ↦ inr t.1 ]

is_later : (all part : List FoundEntry) (e : FoundEntry) (number : ℕ) (o : Option ℕ) → e.item.seq ≢ number → IsAt all part number o → IsAt all (e ∷ part) number o
is_later all part e number None other is = first_later number e part other ∙ is
is_later all part e number (Some place) other is = (is.0, is.1, first_later number e part other ∙ is.2)

pub at_more : (all : List FoundEntry) (at old_at : ℕ) (e : FoundEntry) (old new : ℕ → Option ℕ) → old_at ≡ suc at → slice_get all at ≡ Some e
    → ((n : ℕ) → IsAt all (drop old_at all) n (old n)) → new e.item.seq ≡ Some at → ((n : ℕ) → (e.item.seq == n) ≡ false → new n ≡ old n) → (n : ℕ) → IsAt all (drop at all) n (new n)
at_more all at old_at e old new is here so put others n =
    subst (λ (xs : List FoundEntry). IsAt all xs n (new n)) (sym (drop_is all at e here)) (go (eqb_tells e.item.seq n))
  where
    go : (((e.item.seq == n) ≡ true) × (e.item.seq ≡ n)) ⊎ (((e.item.seq == n) ≡ false) × (e.item.seq ≢ n)) → IsAt all (e ∷ drop (suc at) all) n (new n)
    go (inl same) =
        let what : new n ≡ Some at = ap new (sym same.1) ∙ put in
        let found : IsAt all (e ∷ drop (suc at) all) n (Some at) = (e, here, first_here n e (drop (suc at) all) same.1) in
        subst (λ (o : Option ℕ). IsAt all (e ∷ drop (suc at) all) n o) (sym what) found
    go (inr other) =
        let before_ = subst (λ m. IsAt all (drop m all) n (old n)) is (so n) in
        subst (λ (o : Option ℕ). IsAt all (e ∷ drop (suc at) all) n o) (sym (others n other.0)) (is_later all (drop (suc at) all) e n (old n) other.1 before_)

-- ---- the newest

pub newest_single : (all : List FoundEntry) (at : ℕ) (e : FoundEntry) → length all ≤ suc at → slice_get all at ≡ Some e → IsNewestAt all (drop at all) at
newest_single all at e last here =
    let one : drop at all ≡ e ∷ [] = drop_is all at e here ∙ ap (λ (xs : List FoundEntry). e ∷ xs) (drop_all (suc at) all last) in (
      e,
      here,
      subst (λ (xs : List FoundEntry). IsNewest xs e) (sym one)
          (record { counts = first_here e.item.seq e [] refl; greatest = All-cons (λ (x : FoundEntry). x.item.seq ≤ e.item.seq) e [] (omega arith) (All-nil (λ (x : FoundEntry). x.item.seq ≤ e.item.seq)) }),
    )

pub newest_here : (all : List FoundEntry) (at old_at newest : ℕ) (e n : FoundEntry) → old_at ≡ suc at → slice_get all at ≡ Some e → slice_get all newest ≡ Some n → n.item.seq ≤ e.item.seq
    → IsNewestAt all (drop old_at all) newest → IsNewestAt all (drop at all) at
newest_here all at old_at newest e n is here there less so =
    let same : so.0 ≡ n = (let w = so.1 in cc) in
    let old = subst (λ m. IsNewest (drop m all) so.0) is so.2 in
    let most : so.0.item.seq ≤ e.item.seq = subst (λ (x : FoundEntry). x.item.seq ≤ e.item.seq) (sym same) less in (
      e,
      here,
      subst (λ (xs : List FoundEntry). IsNewest xs e) (sym (drop_is all at e here))
          (record {
            counts = first_here e.item.seq e (drop (suc at) all) refl;
            greatest = All-cons (λ (x : FoundEntry). x.item.seq ≤ e.item.seq) e (drop (suc at) all) (omega arith)
                (All-weaker (λ (x : FoundEntry). x.item.seq ≤ so.0.item.seq) (λ (x : FoundEntry). x.item.seq ≤ e.item.seq) (λ x le. omega (arith, le, most)) (drop (suc at) all) old.greatest);
          }),
    )

pub newest_later : (all : List FoundEntry) (at old_at newest : ℕ) (e n : FoundEntry) → old_at ≡ suc at → slice_get all at ≡ Some e → slice_get all newest ≡ Some n → e.item.seq < n.item.seq
    → IsNewestAt all (drop old_at all) newest → IsNewestAt all (drop at all) newest
newest_later all at old_at newest e n is here there less so =
    let same : so.0 ≡ n = (let w = so.1 in cc) in
    let old = subst (λ m. IsNewest (drop m all) so.0) is so.2 in
    let most : e.item.seq < so.0.item.seq = subst (λ (x : FoundEntry). e.item.seq < x.item.seq) (sym same) less in (
      so.0,
      so.1,
      subst (λ (xs : List FoundEntry). IsNewest xs so.0) (sym (drop_is all at e here))
          (record {
            counts = first_later so.0.item.seq e (drop (suc at) all) (λ equal. absurd (omega (arith, equal, most))) ∙ old.counts;
            greatest = All-cons (λ (x : FoundEntry). x.item.seq ≤ so.0.item.seq) e (drop (suc at) all) (omega (arith, most)) old.greatest;
          }),
    )

-- ---- what is there, and what is missing

some_or_none : {A : Type 0} → (o : Option A) → ((x : A) × (o ≡ Some x)) ⊎ (o ≡ None)
some_or_none (Some x) = inl (x, refl)
some_or_none None = inr refl

pub there_or_missing : (all : List FoundEntry) (number : ℕ) → IsThere all number ⊎ IsMissing all number
there_or_missing all number = some_or_none (first_with number all)

none_has : (all : List FoundEntry) (number : ℕ) → IsMissing all number → All (λ e. e.item.seq ≢ number) all
none_has [] number missing = All-nil (λ (e : FoundEntry). e.item.seq ≢ number)
none_has (x ∷ xs) number missing = elim (eqb_tells x.item.seq number) [
  | inl same ↦ let here = first_here number x xs same.1 in absurd (cc)
  | inr other ↦ All-cons (λ (e : FoundEntry). e.item.seq ≢ number) x xs other.1 (none_has xs number (sym (first_later number x xs other.1) ∙ missing))
]

pub there_at : (all : List FoundEntry) (place : ℕ) (e : FoundEntry) → slice_get all place ≡ Some e → IsThere all e.item.seq
there_at all place e here = elim (there_or_missing all e.item.seq) [
  | inl there ↦ there
  | inr missing ↦
      let none = All-get_or (λ (x : FoundEntry). x.item.seq ≢ e.item.seq) all place e (slice_get_within all place e here) (none_has all e.item.seq missing) in
      absurd (subst (λ (x : FoundEntry). x.item.seq ≢ e.item.seq) (get_or_from_slice_get all place e e here) none refl)
]

-- no number stands between two
abbrev pub NoneBetween : ℕ → ℕ → FoundEntry → Type 0
NoneBetween from next e = from < e.item.seq → next ≤ e.item.seq

pub missing_up_to : (all : List FoundEntry) (from next : ℕ) → IsMissing all from → from < next → IsThere all next → All (NoneBetween from next) all → AreMissing all from (next - 1)
missing_up_to all from next missing above there none = record {
  order = omega (arith, above);
  missing = λ k low high. go k low high (there_or_missing all k);
  behind = subst (λ n. IsThere all n) (let e : next ≡ suc (next - 1) = omega (arith, above) in e) there;
}
  where
    go : (k : ℕ) → from ≤ k → k ≤ next - 1 → IsThere all k ⊎ IsMissing all k → IsMissing all k
    go k low high (inr gone) = gone
    go k low high (inl here) = elim (same_or_not from k) [
      | inl same ↦ subst (λ n. IsMissing all n) same missing
      | inr other ↦
          let between = found_has (λ (e : FoundEntry). (from < e.item.seq → next ≤ e.item.seq) × (e.item.seq ≡ e.item.seq)) k all here.0 (All-weaker (NoneBetween from next) (λ (e : FoundEntry). (from < e.item.seq → next ≤ e.item.seq) × (e.item.seq ≡ e.item.seq)) (λ e so. (so, refl)) all none) here.1 in
          let number = number_of all k here.0 here.1 in
          let le = between.0 (omega (arith, low, number, other)) in
          absurd (omega (arith, le, number, high, above))
    ]
      where
        number_of : (xs : List FoundEntry) (n : ℕ) (e : FoundEntry) → first_with n xs ≡ Some e → e.item.seq ≡ n
        number_of xs n e is = found_number n xs e is

-- ---- counting up

pub picked_more : (all : List FoundEntry) (places : List ℕ) (place : ℕ) (e : FoundEntry) → slice_get all place ≡ Some e → picked all (places ++ place ∷ []) ≡ picked all places ++ e ∷ []
picked_more all [] place e here = ap (λ (o : Option FoundEntry). before o []) here
picked_more all (p ∷ ps) place e here = go (slice_get all p) (picked_more all ps place e here)
  where
    go : (o : Option FoundEntry) → picked all (ps ++ place ∷ []) ≡ picked all ps ++ e ∷ [] → before o (picked all (ps ++ place ∷ [])) ≡ before o (picked all ps) ++ e ∷ []
    go None rest = rest
    go (Some x) rest = ap (λ (xs : List FoundEntry). x ∷ xs) rest

-- what a place behind the end adds
pub picked_none : (all : List FoundEntry) (places : List ℕ) (place : ℕ) → slice_get all place ≡ None → picked all (places ++ place ∷ []) ≡ picked all places
picked_none all [] place none = ap (λ (o : Option FoundEntry). before o []) none
picked_none all (p ∷ ps) place none = ap (λ (xs : List FoundEntry). before (slice_get all p) xs) (picked_none all ps place none)

numbered_then : (all : List FoundEntry) (low next : ℕ) (es : List FoundEntry) (e : FoundEntry) → AreNumbered all low es next → first_with next all ≡ Some e → AreNumbered all low (es ++ e ∷ []) (suc next)
numbered_then all low next [] e so here = (subst (λ n. first_with n all ≡ Some e) (sym so) here, ap (λ n. suc n) so)
numbered_then all low next (x ∷ xs) e so here = (so.0, numbered_then all (suc low) next xs e so.1 here)

pub numbered_more : (all : List FoundEntry) (low number next : ℕ) (places : List ℕ) (place : ℕ) (e : FoundEntry) → next ≡ suc number → AreNumbered all low (picked all places) number → slice_get all place ≡ Some e
    → first_with number all ≡ Some e → AreNumbered all low (picked all (places ++ place ∷ [])) next
numbered_more all low number next places place e is so here first =
    subst (λ n. AreNumbered all low (picked all (places ++ place ∷ [])) n) (sym is)
    (subst (λ (xs : List FoundEntry). AreNumbered all low xs (suc number)) (sym (picked_more all places place e here)) (numbered_then all low number (picked all places) e so first))

pub gap_from : (all es : List FoundEntry) (low from to : ℕ) → low ≤ from → AreNumbered all low es from → AreMissing all from to → IsGap all low from to
gap_from all es low from to begins so missing = record { begins = begins; order = missing.order; before = numbered_there all low from es so; missing = missing.missing; behind = missing.behind }

-- the entries picked, by their places
pub slice_get-picked : (all : List FoundEntry) (places : List ℕ) (i place : ℕ) (e : FoundEntry) → All (λ p. p < length all) places → slice_get places i ≡ Some place → slice_get all place ≡ Some e
    → slice_get (picked all places) i ≡ Some e
slice_get-picked all [] i place e within at here = absurd (cc)
slice_get-picked all (p ∷ ps) zero place e within at here =
    let same : p ≡ place = cc in
    let first : slice_get all p ≡ Some e = ap (slice_get all) same ∙ here in
    ap (λ (o : Option FoundEntry). slice_get (before o (picked all ps)) zero) first
slice_get-picked all (p ∷ ps) (suc i) place e within at here =
    let inside : p < length all = All-head (λ q. q < length all) p ps within in
    let first = slice_get-get_or all p e inside in
    ap (λ (o : Option FoundEntry). slice_get (before o (picked all ps)) (suc i)) first ∙ slice_get-picked all ps i place e (All-tail (λ q. q < length all) p ps within) at here

pub some_at : (all : List FoundEntry) (at : ℕ) → at < length all → (e : FoundEntry) × (slice_get all at ≡ Some e)
some_at [] at low = absurd (omega arith)
some_at (x ∷ xs) zero low = (x, refl)
some_at (x ∷ xs) (suc i) low = some_at xs i (omega arith)

pub length-picked : (all : List FoundEntry) (places : List ℕ) → All (λ p. p < length all) places → length (picked all places) ≡ length places
length-picked all [] within = refl
length-picked all (p ∷ ps) within =
    let here = some_at all p (All-head (λ q. q < length all) p ps within) in
    ap (λ (o : Option FoundEntry). length (before o (picked all ps))) here.1 ∙ ap (λ n. suc n) (length-picked all ps (All-tail (λ q. q < length all) p ps within))

-- ---- the least number behind one, of the first entries

pub record LeastSoFar (all : List FoundEntry) (from next i : ℕ) : Type 0 where
  pub there : IsThere all next
  pub above : from < next
  pub none : All (NoneBetween from next) (take i all)

pub least_here : (all : List FoundEntry) (from next new i j : ℕ) (e : FoundEntry) → LeastSoFar all from next i → slice_get all i ≡ Some e → from < e.item.seq → e.item.seq < next → new ≡ e.item.seq → j ≡ i + 1 → LeastSoFar all from new j
least_here all from next new i j e so here above below is step =
    let P = NoneBetween from e.item.seq in
    let weaker = All-weaker (NoneBetween from next) P (λ (x : FoundEntry) between over. (let le = between over in omega (arith, le, below))) (take i all) so.none in
    let same : get_or all i e ≡ e = get_or_from_slice_get all i e e here in
    let last : P (get_or all i e) = λ over. (let le : e.item.seq ≤ (get_or all i e).item.seq = subst (λ (x : FoundEntry). e.item.seq ≤ x.item.seq) (sym same) (omega arith) in le) in
    let more = All-more P all i e (slice_get_within all i e here) weaker last in
    record {
      there = subst (λ n. IsThere all n) (sym is) (there_at all i e here);
      above = omega (arith, above, is);
      none = subst (λ n. All (NoneBetween from n) (take j all)) (sym is) (subst (λ n. All P (take n all)) (sym step) more);
    }

pub least_kept : (all : List FoundEntry) (from next new i j : ℕ) (e : FoundEntry) → LeastSoFar all from next i → slice_get all i ≡ Some e → (from < e.item.seq → next ≤ e.item.seq) → new ≡ next → j ≡ i + 1 → LeastSoFar all from new j
least_kept all from next new i j e so here between is step =
    let P = NoneBetween from next in
    let same : get_or all i e ≡ e = get_or_from_slice_get all i e e here in
    let last : P (get_or all i e) = subst (λ (x : FoundEntry). NoneBetween from next x) (sym same) between in
    let more = All-more P all i e (slice_get_within all i e here) so.none last in
    record {
      there = subst (λ n. IsThere all n) (sym is) so.there;
      above = let a = so.above in omega (arith, a, is);
      none = subst (λ n. All (NoneBetween from n) (take j all)) (sym is) (subst (λ n. All P (take n all)) (sym step) more);
    }

pub least_is : (all : List FoundEntry) (from next i : ℕ) → IsMissing all from → length all ≤ i → LeastSoFar all from next i → AreMissing all from (next - 1)
least_is all from next i missing done so =
    missing_up_to all from next missing so.above so.there (subst (λ (xs : List FoundEntry). All (NoneBetween from next) xs) (take_all i all done) so.none)

-- ---- why none are listed

pub unlisted_by : (all : List FoundEntry) (newest : FoundEntry) (low : ℕ) (e : JournalError) → IsNewest all newest → low ≡ newest.item.last_seq
    → (e ≡ errors.Memory) ⊎ ((from to : ℕ) × (e ≡ errors.Gap from to) × IsGap all low from to) → AreUnlisted all e
unlisted_by all newest low e is at (inl memory) = subst (AreUnlisted all) (sym memory) tt
unlisted_by all newest low e is at (inr gap) = subst (AreUnlisted all) (sym gap.2) (newest, is, inr (subst (λ n. IsGap all n gap.0 gap.1) at gap.3))

pub unfit_by : (g : Geometry) (all other : List FoundEntry) (e : JournalError) → other ≡ all → AreUnlisted other e → IsUnfit g all e
unfit_by g all other errors.NoJournal is un = sym is ∙ un
unfit_by g all other (errors.Gap from to) is un = subst (λ (xs : List FoundEntry). AreUnlisted xs (errors.Gap from to)) is un
unfit_by g all other (errors.End seq) is un = elim un [ ]
unfit_by g all other errors.Fault is un = elim un [ ]
unfit_by g all other errors.Memory is un = tt
