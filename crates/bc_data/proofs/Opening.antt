-- The opened pair meets the invariant; the law on answers.
use Rattle.std.proofs.Common.{◌≡◌, ◌≢◌, inl, ℕ, ◌+◌, ◌≤◌, ◌%◌, Bool, true, false, [], ◌∷◌, Option, Some, None, if◌then◌else◌, refl, ◌∙◌, arith}
use Rattle.std.proofs.lemmas.Grind.{common_steps}
use Rattle.bc_disk.specs.Device.{Only}
use Rattle.bc_books.specs.Index.{Pointer}
use Rattle.bc_books.specs.Versions.{is_stale, behind}
use Rattle.bc_books.specs.Books as books
use Rattle.bc_books.specs.Invariant.{IsInOrder}
use Rattle.bc_books.proofs.Cases.{by_bool}
use Rattle.bc_books.proofs.Later.{key_aged}
use Rattle.bc_books.proofs.Opening as openings
use Rattle.bc_data.specs.Data.{Opening, start}
use Rattle.bc_data.specs.Invariant.{view, IsTrueAt, IsTruthful}
use Rattle.bc_data.specs.Laws.{shown_by, IsPair, LawOpened, LawKept, LawNow}
use Rattle.bc_data.proofs.Runs.{only_one}
use Rattle.bc_data.proofs.Truth.{only_at, blank}
use Rattle.bc_data.proofs.Now.{keep_act, keep_course}

pub stale : (version pointer : ℕ) → pointer ≤ version → version ≤ pointer + 96
    → (behind (version % 256) (pointer % 256) + pointer ≡ version)
    × (is_stale (version % 256) (pointer % 256) ≡ false → version ≡ pointer)
    × (version ≡ pointer → is_stale (version % 256) (pointer % 256) ≡ false)
stale v p low high = grind (arith, common_steps)

pub by_stale : (v p : ℕ) → p ≤ v → v ≤ p + 96 → (P : Bool → Type 0) → (v ≡ p → P false)
    → (v ≢ p → P true) → P (is_stale (v % 256) (p % 256))
by_stale v p low high P live past =
    let l = stale v p low high in
    by_bool (is_stale (v % 256) (p % 256)) P (λ e. past (λ is. let x = l.2 is in absurd (cc)))
    (λ e. live (l.1 e))

module _ (w : Opening) (pair : IsPair w) where
  pub fine : IsInOrder w.books (books.opened w.books)
  fine = openings.law_opened w.books pair.books

  window : (s : ℕ) (r : Pointer) → w.books.index s ≡ Some r
      → (r.version ≤ w.books.version (w.books.bucket r.place))
      × (w.books.version (w.books.bucket r.place) ≤ r.version + 96)
  window s r e = let i = pair.books.inside s r e in let n = pair.books.window
      (w.books.bucket r.place) in let n1 = n.1 in let i1 = i.1 in (i.2, omega arith)

  pub opening_true : (s : ℕ) → IsTrueAt w (view w (start w)) (w.books.index s) s (w.image s)
  opening_true s = go (w.books.index s) refl (pair.image s)
    where
      go : (o : Option Pointer) → w.books.index s ≡ o
          → w.image s ≡ shown_by w.books.bucket w.books.version o w.cache (w.backing s) → IsTrueAt w
          (view w (start w)) o s (w.image s)
      go None is e = only_at (w.image s) (w.backing s) (w.backing s ∷ []) e (only_one (w.backing s))
      go (Some r) is e =
          let x = window s r is in (
            key_aged w.books (books.opened w.books) fine 0 s r (omega arith) is,
            by_stale (w.books.version (w.books.bucket r.place)) r.version x.0 x.1
                (λ z. w.image s ≡ (if z then w.backing s else w.cache r.place) → w.books.version
                (w.books.bucket r.place) ≡ r.version → Only (w.image s) (w.cache r.place ∷ []))
                (λ _ e2 _. only_at (w.image s) (w.cache r.place) (w.cache r.place ∷ []) e2
                (only_one (w.cache r.place))) (λ ne _ d. absurd (ne d)) e,
            (λ c. by_stale (w.books.version (w.books.bucket r.place)) r.version x.0 x.1
                (λ z. w.image s ≡ (if z then w.backing s else w.cache r.place) → Only (w.image s)
                (w.backing s ∷ [])) (λ d e2. only_at (w.image s) (w.backing s) (w.backing s ∷ [])
                (e2 ∙ pair.agree s r is c d) (only_one (w.backing s)))
                (λ _ e2. only_at (w.image s) (w.backing s) (w.backing s ∷ []) e2
                (only_one (w.backing s))) e),
          )

  pub inv_opened : IsTruthful w (start w)
  inv_opened = record {
    books = fine;
    apart = λ i j ne. inl (refl, refl);
    truth = λ _. opening_true;
    notes = λ i. blank w (view w (start w)) _ refl refl refl (λ s. refl) (λ s. refl) (λ s. refl)
        (λ s. refl) (λ s. refl) (λ s. refl) (λ s x e. absurd (cc));
    placed = λ _ i t x own e. absurd (cc);
    candidates = λ c e. absurd (cc);
    legal = tt;
    plain = λ e. (refl, pair.plain e);
  }

pub law_now : LawNow
law_now w es pair run = (keep_course w (start w) es run (inv_opened w pair)).legal

pub law_opened : LawOpened
law_opened w pair = inv_opened w pair

pub law_kept : LawKept
law_kept w st i act inv on = keep_act w st i act on inv
