-- One more key that a walk sees.
use Rattle.std.proofs.Common.{◌≡◌, ◌⊎◌, inl, inr, ℕ, ◌+◌, ◌-◌, ◌<◌, ◌≤◌, ◌^◌, Bool, true, false, cond, ◌||◌, List, [], ◌∷◌, ◌++◌, length, get_or, Option, Some, None, refl, sym, ap, ◌∙◌, subst, arith, if◌then◌else◌}
use Rattle.std.specs.Prelude.{min, not, nat_lt, sum_by, MatchOption}
use Rattle.std.specs.List.{list_any}
use Rattle.std.proofs.lemmas.Bool.{cases_lt, ltb-false}
use Rattle.std.proofs.lemmas.List.{append-nil, get_or_append_left, get_or_push, length_push}
use Rattle.std.proofs.lemmas.List.Elements.{filter-append}
use Rattle.std.proofs.lemmas.List.Folds.{list_any-append}
use Rattle.std.proofs.lemmas.List.Sums.{sum_by_push}
use borrow.Author.Tests.{ltb-true}
use Rattle.bc_key.specs.Generation.{behind}
use Rattle.bc_bucket.specs.declared.bucket.Mark.{Mark}
use Rattle.bc_bucket.specs.declared.walk.Found.{Found}
use Rattle.bc_bucket.specs.declared.walk.Reference.{Reference}
use Rattle.bc_bucket.specs.Walk.{counted, is_stale, mark_with, none_found, older}
use Rattle.bc_bucket.specs.Meaning.{live_ones, mark_by, no_reference, IsFound, IsOldest}

pub nothing_found : (own : ℕ) → IsFound own [] none_found
nothing_found own = record { mark = refl; used = refl; oldest = refl }

live_one : (own : ℕ) (rs : List Reference) (r : Reference) → is_stale own r.generation ≡ false → live_ones own (rs ++ r ∷ []) ≡ live_ones own rs ++ r ∷ []
live_one own rs r fresh = filter-append (λ (x : Reference). not (is_stale own x.generation)) rs (r ∷ []) ∙ ap (λ b. live_ones own rs ++ cond (not b) (r ∷ []) []) fresh

stale_one : (own : ℕ) (rs : List Reference) (r : Reference) → is_stale own r.generation ≡ true → live_ones own (rs ++ r ∷ []) ≡ live_ones own rs
stale_one own rs r stale = filter-append (λ (x : Reference). not (is_stale own x.generation)) rs (r ∷ []) ∙ ap (λ b. live_ones own rs ++ cond (not b) (r ∷ []) []) stale ∙ append-nil (live_ones own rs)

more_marked : (xs : List Reference) (r : Reference) → mark_with r.dirty (mark_by (list_any (λ x. x.dirty) xs) xs) ≡ mark_by (list_any (λ x. x.dirty) (xs ++ r ∷ [])) (xs ++ r ∷ [])
more_marked xs r = go r.dirty (list_any (λ (x : Reference). x.dirty) xs) xs ∙ ap (λ b. mark_by b (xs ++ r ∷ [])) (sym (list_any-append (λ (x : Reference). x.dirty) xs (r ∷ []) ∙ ap (λ b. list_any (λ (x : Reference). x.dirty) xs || b) (last r.dirty)))
  where
    last : (b : Bool) → (b || false) ≡ b
    last true = refl
    last false = refl

    go : (d a : Bool) (ys : List Reference) → mark_with d (mark_by a ys) ≡ mark_by (a || d) (ys ++ r ∷ [])
    go true true ys = refl
    go true false [] = refl
    go true false (y ∷ ys) = refl
    go false true ys = refl
    go false false [] = refl
    go false false (y ∷ ys) = refl

capped : (a s t n : ℕ) → a ≡ min s n → min (a + t) n ≡ min (s + t) n
capped a s t n e = omega arith

oldest_more : (own : ℕ) (rs : List Reference) (r : Reference) (o : Option ℕ) → MatchOption o (rs ≡ []) (λ g. IsOldest own rs g) → IsOldest own (rs ++ r ∷ []) (older own o r.generation)
oldest_more own rs r None none =
    subst (λ (xs : List Reference). IsOldest own (xs ++ r ∷ []) r.generation) (sym none)
    (record { place = 0; within = omega arith; is = refl; none_older = λ i lt. first i lt })
  where
    first : (i : ℕ) → i < 1 → behind own (get_or (r ∷ []) i no_reference).generation ≤ behind own r.generation
    first i lt = let zero_ : i ≡ 0 = omega arith in subst (λ j. behind own (get_or (r ∷ []) j no_reference).generation ≤ behind own r.generation) (sym zero_) (omega arith)
oldest_more own rs r (Some g) h = go (nat_lt (behind own g) (behind own r.generation)) refl
  where
    old : (i : ℕ) → i < length rs → get_or (rs ++ r ∷ []) i no_reference ≡ get_or rs i no_reference
    old i lt = get_or_append_left rs (r ∷ []) no_reference i lt

    new : (i : ℕ) → length rs ≡ i → get_or (rs ++ r ∷ []) i no_reference ≡ r
    new i e = get_or_push rs r no_reference i e

    each : (top : ℕ) → behind own g ≤ top → behind own r.generation ≤ top → (i : ℕ) → i < length (rs ++ r ∷ []) → (i < length rs) ⊎ (length rs ≤ i) → behind own (get_or (rs ++ r ∷ []) i no_reference).generation ≤ top
    each top low own_low i lt (inl inside) = subst (λ (x : Reference). behind own x.generation ≤ top) (sym (old i inside)) (let n = h.none_older i inside in omega arith)
    each top low own_low i lt (inr le) = subst (λ (x : Reference). behind own x.generation ≤ top) (sym (new i (let n = length_push rs r in omega arith))) own_low

    go : (b : Bool) → nat_lt (behind own g) (behind own r.generation) ≡ b → IsOldest own (rs ++ r ∷ []) (if b then r.generation else g)
    go true t =
        let less = ltb-true (behind own g) (behind own r.generation) t in
        record {
          place = length rs;
          within = let n = length_push rs r in omega arith;
          is = ap (λ (x : Reference). x.generation) (new (length rs) refl);
          none_older = λ i lt. each (behind own r.generation) (omega arith) (omega arith) i lt (cases_lt i (length rs));
        }
    go false f =
        let most = ltb-false (behind own g) (behind own r.generation) f in
        record {
          place = h.place;
          within = let n = length_push rs r in let w = h.within in omega arith;
          is = ap (λ (x : Reference). x.generation) (old h.place h.within) ∙ h.is;
          none_older = λ i lt. each (behind own g) (omega arith) (omega arith) i lt (cases_lt i (length rs));
        }

pub one_more_found : (own : ℕ) (rs : List Reference) (r : Reference) (f : Found) → IsFound own rs f → IsFound own (rs ++ r ∷ []) (counted own r f)
one_more_found own rs r f h = go (is_stale own r.generation) refl
  where
    oldest : IsOldest own (rs ++ r ∷ []) (older own f.last_gc r.generation)
    oldest = oldest_more own rs r f.last_gc h.oldest

    go : (b : Bool) → is_stale own r.generation ≡ b → IsFound own (rs ++ r ∷ []) (if b then record f { last_gc = Some (older own f.last_gc r.generation) } else record { mark = mark_with r.dirty f.mark; used = min (f.used + r.sectors) (2 ^ 32 - 1); last_gc = Some (older own f.last_gc r.generation) })
    go true stale =
        let same = stale_one own rs r stale in
        record {
          mark = h.mark ∙ ap (λ (xs : List Reference). mark_by (list_any (λ x. x.dirty) xs) xs) (sym same);
          used = h.used ∙ ap (λ (xs : List Reference). min (sum_by (λ x. x.sectors) xs) (2 ^ 32 - 1)) (sym same);
          oldest = oldest;
        }
    go false fresh =
        let more = live_one own rs r fresh in
        record {
          mark = ap (λ (m : Mark). mark_with r.dirty m) h.mark ∙ more_marked (live_ones own rs) r ∙ ap (λ (xs : List Reference). mark_by (list_any (λ x. x.dirty) xs) xs) (sym more);
          used = capped f.used (sum_by (λ (x : Reference). x.sectors) (live_ones own rs)) r.sectors (2 ^ 32 - 1) h.used
              ∙ ap (λ n. min n (2 ^ 32 - 1)) (sym (sum_by_push (λ (x : Reference). x.sectors) (live_ones own rs) r))
              ∙ ap (λ (xs : List Reference). min (sum_by (λ x. x.sectors) xs) (2 ^ 32 - 1)) (sym more);
          oldest = oldest;
        }
