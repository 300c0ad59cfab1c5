-- One row more.
use Rattle.std.proofs.Common.{◌≡◌, ◌≢◌, ◌⊎◌, inl, inr, ℕ, zero, suc, ◌+◌, ◌<◌, List, [], ◌∷◌, ◌++◌, length, take, ◌==◌, true, false, if◌then◌else◌, refl, sym, ap, ◌∙◌, subst, arith, append_assoc, eq-eqb, ne_eqb, get_or-set_same, get_or-set_other}
use Rattle.std.specs.Prelude.{slice_get, Some}
use Rattle.std.proofs.lemmas.Bool.{cases_eq}
use Rattle.bc_disk.specs.declared.geometry.Geometry.{Geometry}
use Rattle.bc_key.specs.Key.{pointer_of}
use Rattle.bc_key.specs.declared.key.Key.{Key}
use Rattle.bc_key.specs.declared.ptr.Ptr.{Ptr}
use Rattle.bc_record.specs.Places.{bucket_at}
use Rattle.bc_bucket.specs.Meaning.{IsFound}
use Rattle.bc_bucket.specs.Walk.{counted, found_at, none_found, walked}
use Rattle.bc_bucket.specs.declared.walk.Found.{Found}
use Rattle.bc_bucket.specs.declared.walk.Reference.{Reference}
use Rattle.bc_bucket.proofs.Meanings.{one_more_found}
use Rattle.bc_traced.specs.Rows.{pointed, reference_in, reference_of, references}

append_nil : (xs : List Reference) → xs ++ [] ≡ xs
append_nil [] = refl
append_nil (x ∷ xs) = ap (λ ys. x ∷ ys) (append_nil xs)

pub references_more : (g : Geometry) (k : ℕ) (rows : List Key) (row : Key) → references g k (rows ++ row ∷ []) ≡ references g k rows ++ reference_in g k row
references_more g k [] row = append_nil (reference_in g k row)
references_more g k (r ∷ rows) row = ap (λ rs. reference_in g k r ++ rs) (references_more g k rows row) ∙ sym (append_assoc (reference_in g k r) (references g k rows) (reference_in g k row))

some_same : (a b : Key) → Some a ≡ Some b → a ≡ b
some_same a b e = cc

pub taken_next : (rows : List Key) (i : ℕ) (row : Key) → slice_get rows i ≡ Some row → take (i + 1) rows ≡ take i rows ++ row ∷ []
taken_next rows i row is = ap (λ n. take n rows) one ∙ go rows i is
  where
    one : i + 1 ≡ suc i
    one = omega arith

    go : (xs : List Key) (k : ℕ) → slice_get xs k ≡ Some row → take (suc k) xs ≡ take k xs ++ row ∷ []
    go [] k here = absurd (cc)
    go (x ∷ xs) zero here = ap (λ (y : Key). y ∷ []) (some_same x row here)
    go (x ∷ xs) (suc k) here = ap (λ (ys : List Key). x ∷ ys) (go xs k here)

pub references_next : (g : Geometry) (k : ℕ) (rows : List Key) (i : ℕ) (row : Key) → slice_get rows i ≡ Some row → references g k (take i rows) ++ reference_in g k row ≡ references g k (take (i + 1) rows)
references_next g k rows i row is = sym (references_more g k (take i rows) row) ∙ ap (references g k) (sym (taken_next rows i row is))

-- ---- what a walk has of a bucket, with one row more

module _ (g : Geometry) (k bucket own : ℕ) (row : Key) (ptr : Ptr) (points : pointer_of row ≡ Some ptr) (at : bucket ≡ bucket_at g ptr.offset) where
  into : bucket ≡ k → reference_in g k row ≡ reference_of row ptr ∷ []
  into same = let test : (bucket_at g ptr.offset == k) ≡ true = eq-eqb (bucket_at g ptr.offset) k (sym at ∙ same) in
      ap (pointed g k row) points ∙ ap (λ b. if b then reference_of row ptr ∷ [] else []) test

  past : bucket ≢ k → reference_in g k row ≡ []
  past other = let test : (bucket_at g ptr.offset == k) ≡ false = ne_eqb (bucket_at g ptr.offset) k (λ e. other (at ∙ e)) in
      ap (pointed g k row) points ∙ ap (λ b. if b then reference_of row ptr ∷ [] else []) test

  pub row_counted : (walk : List Found) (refs : List Reference) (is : ℕ) → bucket < length walk → (bucket ≡ k → is ≡ own) → IsFound own refs (found_at walk k)
      → IsFound own (refs ++ reference_in g k row) (found_at (walked bucket is (reference_of row ptr) walk) k)
  row_counted walk refs is inside named found = go (cases_eq bucket k)
    where
      go : (bucket ≡ k) ⊎ (bucket ≢ k) → IsFound own (refs ++ reference_in g k row) (found_at (walked bucket is (reference_of row ptr) walk) k)
      go (inl same) =
          let r = reference_of row ptr in
          let here : found_at (walked bucket is r walk) k ≡ counted own r (found_at walk k) =
          ap (found_at (walked bucket is r walk)) (sym same) ∙ get_or-set_same walk bucket (counted is r (found_at walk bucket)) none_found inside
          ∙ ap (λ n. counted n r (found_at walk bucket)) (named same) ∙ ap (λ n. counted own r (found_at walk n)) same in
          subst (λ (rs : List Reference). IsFound own (refs ++ rs) (found_at (walked bucket is r walk) k)) (sym (into same))
          (subst (λ (f : Found). IsFound own (refs ++ r ∷ []) f) (sym here) (one_more_found own refs r (found_at walk k) found))
      go (inr other) =
          let r = reference_of row ptr in
          let here : found_at (walked bucket is r walk) k ≡ found_at walk k = get_or-set_other walk bucket k (counted is r (found_at walk bucket)) none_found (λ e. other (sym e)) in
          subst (λ (rs : List Reference). IsFound own (refs ++ rs) (found_at (walked bucket is r walk) k)) (sym (past other))
          (subst (λ (rs : List Reference). IsFound own rs (found_at (walked bucket is r walk) k)) (sym (append_nil refs))
          (subst (λ (f : Found). IsFound own refs f) (sym here) found))
