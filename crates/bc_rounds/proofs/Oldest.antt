-- The oldest generation that a walk found is that of the oldest pointer which the round saw.
use Rattle.std.proofs.Common.{◌≡◌, ℕ, ◌≤◌, ◌%◌, Option, Some, None, refl, sym, ap, ◌∙◌, arith}
use Rattle.std.specs.Prelude.{MatchOption}
use Rattle.bc_books.proofs.Cases.{oldest_from, oldest_low}
use Rattle.bc_books.specs.Books.{Setup}
use Rattle.bc_books.specs.Index.{Pointer}
use Rattle.bc_books.specs.Marks.{oldest}
use Rattle.bc_bucket.specs.Buckets.{oldest_or}
use Rattle.bc_machine.specs.Containers.{IsOldestSeen, IsSeenIn}

-- each pointer that it saw into the bucket is at most as new as this
abbrev pub AreUpTo : (w : Setup) (seen : ℕ → Option Pointer) (q own : ℕ) → Type 0
AreUpTo w seen q own = (s : ℕ) (r : Pointer) → IsSeenIn w seen q s r → r.version ≤ own

module _ (w : Setup) (seen : ℕ → Option Pointer) (q own : ℕ) (up : AreUpTo w seen q own) where
  none_is : ((s : ℕ) (r : Pointer) → IsSeenIn w seen q s r → ⊥)
      → oldest w.bucket q own seen w.size ≡ own
  none_is none = oldest_from w.bucket q own seen w.size (λ n. n ≡ own) refl
      (λ s r less is there. absurd (none s r (record { within = less; saw = is; bucket = there })))

  one_is : (generation : ℕ) (one : IsOldestSeen w seen q generation)
      → oldest w.bucket q own seen w.size ≡ one.pointer.version
  one_is generation one =
      let it = one.one in
      let least = oldest_from w.bucket q own seen w.size (λ n. one.pointer.version ≤ n)
      (up one.sector one.pointer it)
      (λ s r less is there. one.none_older s r (record { within = less; saw = is; bucket = there }))
      in
      let most = oldest_low w.bucket q own seen w.size one.sector one.pointer it.within it.saw
      it.bucket in omega (arith, least, most)

  pub oldest_is : (found : Option ℕ) (generation : ℕ) → generation ≡ own % 256
      → MatchOption found ((s : ℕ) (r : Pointer) → IsSeenIn w seen q s r → ⊥)
      (λ g. IsOldestSeen w seen q g)
      → oldest_or generation found ≡ oldest w.bucket q own seen w.size % 256
  oldest_is None generation is none = is ∙ ap (λ n. n % 256) (sym (none_is none))
  oldest_is (Some g) generation is one = one.byte ∙ ap (λ n. n % 256) (sym (one_is g one))
