-- What later states have of earlier ones: keys that came in, durable generations, and places that nobody may write.
use Rattle.std.proofs.Common.{◌≡◌, ℕ, suc, ◌<◌, ◌≤◌, true, List, [], ◌∷◌, Some, if◌then◌else◌, refl, sym, ap, ◌∙◌, arith}
use Rattle.bc_model.proofs.Cases.{by_test, by_le}
use Rattle.bc_books.specs.Index.{Pointer, names, within, hit, over, latest}
use Rattle.bc_books.specs.Shelves.{Owner, Fresh, Own, Kept, Spent, IsPinned, put_run}
use Rattle.bc_books.specs.Books.{Setup, Books, Step, Put, Pin, Unpin, Keep, Raise, Sealed}
use Rattle.bc_books.specs.Enabled.{CanStep}
use Rattle.bc_books.specs.After.{after, IsRun, fold}
use Rattle.bc_books.specs.Invariant.{IsInOrder}
use Rattle.bc_books.specs.Laws.{IsAged, LawStays, LawUses, plus_if}
use Rattle.bc_books.proofs.Cases.{by_bool, put_run_cases}
use Rattle.bc_books.proofs.Places.{pinned_spent}
use Rattle.bc_books.proofs.Known.{keep}
use Rattle.bc_books.proofs.Opening.{kept_run}

module _ (w : Setup) (k : Books) (f : IsInOrder w k) (r : Pointer) where
  owner_aged : (place count : ℕ) (o : Owner) → (within place count r.place ≡ true → k.owner r.place ≡ Spent → o ≡ Spent)
      → IsAged w k r
      → (r.version ≤ k.generations.durable (w.bucket r.place))
      × (k.generations.version (w.bucket r.place) ≡ r.version → put_run k.owner place count o r.place ≡ Spent)
  owner_aged place count o spent a = (a.0, λ v. put_run_cases k.owner place count r.place o (λ y. y ≡ Spent) (λ _. a.1 v) (λ e. spent e (a.1 v)))

  aged_step : (x : Step) → CanStep w k x → IsAged w k r → IsAged w (after w k x) r
  aged_step (Put leaf keys) on a = (a.0, λ v. by_bool (names keys r.place) (λ z. (if z then Spent else k.owner r.place) ≡ Spent) (λ _. refl) (λ _. a.1 v))
  aged_step (Pin i place count) on a = owner_aged place count (Own i) (λ q e. let o = on.fresh r.place q in absurd (cc)) a
  aged_step (Unpin place count) on a = owner_aged place count Spent (λ q e. refl) a
  aged_step (Keep c place count) on a = owner_aged place count (Kept c) (λ q e. absurd (pinned_spent (k.owner r.place) e (on r.place q))) a
  aged_step (Raise b) on a = (
    a.0,
    by_test (w.bucket r.place) b (λ z. (if z then suc (k.generations.version b) else k.generations.version (w.bucket r.place)) ≡ r.version → (if z then Fresh else k.owner r.place) ≡ Spent)
        (λ is v. let x : k.generations.durable (w.bucket r.place) ≡ k.generations.durable b = ap k.generations.durable is in let low = a.0 in let y = f.dated.sealed b in let z = f.dated.version b in absurd (omega arith)) (λ _ v. a.1 v),
  )
  aged_step Sealed on a = (let x = f.dated.sealed (w.bucket r.place) in let low = a.0 in omega arith, a.1)
  aged_step x on a = a

-- what later states have, but for places
abbrev Grows : Books → Books → Type 0
Grows k end = ((n s : ℕ) → n ≤ k.index.count → end.index.at n s ≡ k.index.at n s) × (k.index.count ≤ end.index.count)
    × (k.journal.durable ≤ end.journal.durable) × ((b : ℕ) → k.generations.durable b ≤ end.generations.durable b)

module _ (w : Setup) (k : Books) (f : IsInOrder w k) where
  grows_step : (x : Step) → Grows k (after w k x)
  grows_step (Put leaf keys) = (
    (λ n s le. by_le (suc k.index.count) n (λ z. (if z then (λ x. over (hit keys x) (latest k.index x)) else k.index.at n) s ≡ k.index.at n s) (λ l. absurd (omega arith)) (λ _. refl)),
    omega arith,
    omega arith,
    λ b. omega arith,
  )
  grows_step Sealed = ((λ n s le. refl), omega arith, f.counted.durable, f.dated.sealed)
  grows_step x = ((λ n s le. refl), omega arith, omega arith, λ b. omega arith)

  -- a pin on the place of an aged pointer makes it stale
  aged_pinned : (r : Pointer) → IsAged w k r → IsPinned (k.owner r.place) → r.version < k.generations.durable (w.bucket r.place)
  aged_pinned r a pin =
      let low = a.0 in
      let settled = f.dated.settled (w.bucket r.place) (f.placed.calm r.place pin) in
      by_test (k.generations.version (w.bucket r.place)) r.version (λ _. r.version < k.generations.durable (w.bucket r.place)) (λ v. absurd (pinned_spent (k.owner r.place) (a.1 v) pin)) (λ ne. omega arith)

  -- keys are aged
  pub key_aged : (n s : ℕ) (r : Pointer) → k.journal.durable ≤ n → k.index.at n s ≡ Some r → IsAged w k r
  key_aged n s r le e = let h = f.known.keys n s le r e in (h.durable, h.spent)

grows_run : (w : Setup) (k : Books) (xs : List Step) → IsInOrder w k → IsRun w k xs → Grows k (fold w k xs)
grows_run w k [] f run = ((λ n s le. refl), omega arith, omega arith, λ b. omega arith)
grows_run w k (x ∷ xs) f run =
    let a = grows_step w k f x in
    let b = grows_run w (after w k x) xs (keep w k f x run.0) run.1 in
    let a1 = a.1 in let b1 = b.1 in let a2 = a.2 in let b2 = b.2 in
    ((λ n s le. b.0 n s (omega arith) ∙ a.0 n s le), omega arith, omega arith, λ c. let x = a.3 c in let y = b.3 c in omega arith)

aged_run : (w : Setup) (k : Books) (xs : List Step) (r : Pointer) → IsInOrder w k → IsRun w k xs → IsAged w k r
    → IsAged w (fold w k xs) r
aged_run w k [] r f run a = a
aged_run w k (x ∷ xs) r f run a = aged_run w (after w k x) xs r (keep w k f x run.0) run.1 (aged_step w k f r x run.0 a)

pub law_stays : LawStays
law_stays w k xs f run =
    let g = grows_run w k xs f run in
    let end = kept_run w k xs f run in record {
      index = g.0;
      count = g.1;
      durable = g.2;
      version = g.3;
      aged = λ r a. aged_run w k xs r f run a;
      places = λ n s r le e pin. aged_pinned w (fold w k xs) end r (aged_run w k xs r f run (key_aged w k f n s r le e)) pin;
    }

pub law_uses : LawUses
law_uses w k (Raise c) b = by_test b c (λ z. (if z then suc (k.generations.version c) else k.generations.version b) ≡ plus_if z (k.generations.version b)) (λ is. ap (λ (n : ℕ). suc n) (ap k.generations.version (sym is))) (λ _. refl)
law_uses w k x b = refl
