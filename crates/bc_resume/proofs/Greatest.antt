-- The greatest number of a bucket, entry after entry.
use Rattle.std.proofs.Common.{◌≡◌, ◌≢◌, ◌⊎◌, inl, inr, set, eq-eqb, ne_eqb, get_or-set_same, get_or-set_other, ℕ, ◌+◌, ◌<◌, ◌≤◌, ◌==◌, if◌then◌else◌, List, [], ◌∷◌, ◌++◌, max, sym, ap, ◌∙◌, Bool, true, false, arith, length, get_or, take}
use Rattle.std.specs.Prelude.{All}
use Rattle.std.proofs.lemmas.List.Elements.{All-head, All-tail}
use Rattle.std.proofs.lemmas.Bool.{cases_eq}
use Rattle.std.proofs.lemmas.Grind.{get_or_default_zero}
use Rattle.std.proofs.lemmas.List.{take_more}
use Rattle.bc_disk.specs.declared.geometry.Geometry.{Geometry}
use Rattle.bc_jset.specs.Entries.{FoundEntry}
use Rattle.bc_jset.specs.Ring.{bucket_of, greatest_in}
use Rattle.bc_resume.specs.Numbers.{AreNewest, number_in}

pub greatest_more : (g : Geometry) (bucket : ℕ) (es : List FoundEntry) (e : FoundEntry) → greatest_in g bucket (es ++ e ∷ []) ≡ max (greatest_in g bucket es) (number_in g bucket e)
greatest_more g bucket [] e = omega arith
greatest_more g bucket (x ∷ es) e = let rest = greatest_more g bucket es e in omega (arith, rest)

-- no entry's number is above one, so neither is a bucket's greatest
pub greatest_below : (g : Geometry) (bucket n : ℕ) (es : List FoundEntry) → All (λ e. e.item.seq ≤ n) es → greatest_in g bucket es ≤ n
greatest_below g bucket n [] all = omega arith
greatest_below g bucket n (e ∷ es) all =
    let rest = greatest_below g bucket n es (All-tail (λ (x : FoundEntry). x.item.seq ≤ n) e es all) in
    let here : e.item.seq ≤ n = All-head (λ (x : FoundEntry). x.item.seq ≤ n) e es all in
    let this = one (bucket_of g e == bucket) here in
    omega (arith, rest, this)
  where
    one : (b : Bool) → e.item.seq ≤ n → (if b then e.item.seq else 0) ≤ n
    one b here = elim b as (λ v. (if v then e.item.seq else 0) ≤ n) [ true ↦ here | false ↦ omega arith ]

pub numbers_below : (g : Geometry) (n : ℕ) (all : List FoundEntry) (numbers : List ℕ) → AreNewest g all numbers → All (λ e. e.item.seq ≤ n) all → All (λ m. m < n + 1) numbers
numbers_below g n all numbers are most = λ i d inside.
    let journal : i < g.journal = omega (arith, are.each) in
    let is = are.greatest i journal in
    let low = greatest_below g (g.first_bucket + i) n all most in
    let same : get_or numbers i d ≡ get_or numbers i 0 = get_or_default_zero numbers i d inside in
    omega (arith, is, low, same)

-- ---- one entry more

in_bucket : (g : Geometry) (bucket : ℕ) (e : FoundEntry) → bucket_of g e ≡ bucket → number_in g bucket e ≡ e.item.seq
in_bucket g bucket e same = let test : (bucket_of g e == bucket) ≡ true = eq-eqb (bucket_of g e) bucket same in ap (λ b. if b then e.item.seq else 0) test

elsewhere : (g : Geometry) (bucket : ℕ) (e : FoundEntry) → bucket_of g e ≢ bucket → number_in g bucket e ≡ 0
elsewhere g bucket e other = let test : (bucket_of g e == bucket) ≡ false = ne_eqb (bucket_of g e) bucket other in ap (λ b. if b then e.item.seq else 0) test

pub noted_there : (g : Geometry) (e : FoundEntry) (numbers : List ℕ) (at : ℕ) → at < length numbers → bucket_of g e ≡ g.first_bucket + at → (i : ℕ)
    → get_or (set numbers at (max (get_or numbers at 0) e.item.seq)) i 0 ≡ max (get_or numbers i 0) (number_in g (g.first_bucket + i) e)
noted_there g e numbers at inside is i = go (cases_eq i at)
  where
    go : (i ≡ at) ⊎ (i ≢ at) → get_or (set numbers at (max (get_or numbers at 0) e.item.seq)) i 0 ≡ max (get_or numbers i 0) (number_in g (g.first_bucket + i) e)
    go (inl same) =
        ap (λ n. get_or (set numbers at (max (get_or numbers at 0) e.item.seq)) n 0) same ∙ get_or-set_same numbers at (max (get_or numbers at 0) e.item.seq) 0 inside
        ∙ ap (λ n. max (get_or numbers n 0) e.item.seq) (sym same)
        ∙ ap (max (get_or numbers i 0)) (sym (in_bucket g (g.first_bucket + i) e (is ∙ ap (λ n. g.first_bucket + n) (sym same))))
    go (inr other) =
        let none = elsewhere g (g.first_bucket + i) e (λ same. other (let sum : g.first_bucket + i ≡ g.first_bucket + at = sym same ∙ is in omega arith)) in
        let kept = get_or-set_other numbers at i (max (get_or numbers at 0) e.item.seq) 0 other in
        omega (arith, none, kept)

pub noted_nowhere : (g : Geometry) (e : FoundEntry) (numbers : List ℕ) → ((i : ℕ) → i < g.journal → bucket_of g e ≢ g.first_bucket + i) → (i : ℕ) → i < g.journal
    → get_or numbers i 0 ≡ max (get_or numbers i 0) (number_in g (g.first_bucket + i) e)
noted_nowhere g e numbers out i low = let none = elsewhere g (g.first_bucket + i) e (out i low) in omega (arith, none)

pub newest_none : (g : Geometry) (numbers : List ℕ) → length numbers ≡ g.journal → ((i : ℕ) → i < g.journal → get_or numbers i 0 ≡ 0) → AreNewest g [] numbers
newest_none g numbers each none = record { each = each; greatest = none }

pub newest_more : (g : Geometry) (all : List FoundEntry) (k : ℕ) (e : FoundEntry) (old new : List ℕ) → k < length all → e ≡ get_or all k e → length new ≡ length old → AreNewest g (take k all) old
    → ((i : ℕ) → i < g.journal → get_or new i 0 ≡ max (get_or old i 0) (number_in g (g.first_bucket + i) e)) → AreNewest g (take (k + 1) all) new
newest_more g all k e old new inside is same are noted = record {
  each = same ∙ are.each;
  greatest = λ i low.
      let bucket = g.first_bucket + i in
      let parts : take (k + 1) all ≡ take k all ++ e ∷ [] = take_more all k e inside ∙ ap (λ x. take k all ++ x ∷ []) (sym is) in
      noted i low ∙ ap (λ n. max n (number_in g bucket e)) (are.greatest i low) ∙ sym (ap (greatest_in g bucket) parts ∙ greatest_more g bucket (take k all) e);
}
