-- What was noted of runs.
use Rattle.std.specs.Prelude.{Contains, take}
use Rattle.std.proofs.Common.{◌≡◌, inl, inr, ℕ, ◌+◌, ◌/◌, ◌<◌, Bool, List, length, get_or, sym, ap, ◌∙◌, subst, arith}
use Rattle.std.proofs.lemmas.Bool.{cases_lt}
use Rattle.std.proofs.lemmas.List.Elements.{All-more}
use Rattle.bc_bucket.specs.Buckets.{Buckets}
use Rattle.bc_reads.specs.declared.runs.ReadRun.{ReadRun}
use Rattle.bc_reads.specs.declared.source.ReadFrom.{ReadFrom}
use Rattle.bc_reads.specs.declared.source.ReadFrom.TheVariants.{Backing, Cache}
use Rattle.bc_reader.specs.Noted.{AreNoted, AreNotedFor, noted_of}
use Rattle.bc_reader.specs.declared.noted.Noted.{Noted}

abbrev place_in : ReadFrom → ℕ
place_in Backing = 0
place_in (Cache at dirty) = at

-- the run's own place
pub of_run : (b : Buckets) (noted : List Noted) (r : ReadRun) (at : ℕ) (dirty : Bool)
    → r.from ≡ Cache at dirty → AreNotedFor noted b at r.count
    → (to : ℕ) (too : Bool) → r.from ≡ Cache to too → AreNotedFor noted b to r.count
of_run b noted r at dirty is h to too other =
    subst (λ n. AreNotedFor noted b n r.count) (ap place_in (sym is ∙ other)) h

-- one place more
pub place_more : (b : Buckets) (old new : List Noted) (at k : ℕ)
    → ((n : Noted) → Contains old n → Contains new n) → AreNotedFor old b at k
    → Contains new (noted_of b ((at + k) / b.size)) → AreNotedFor new b at (k + 1)
place_more b old new at k kept before one = λ j low. elim (cases_lt j k) [
  | inl less ↦ kept (noted_of b ((at + j) / b.size)) (before j less)
  | inr more ↦ let same : k ≡ j = omega (arith, low, more) in
      subst (λ n. Contains new (noted_of b ((at + n) / b.size))) same one
]

-- one run more
pub run_more : (b : Buckets) (old new : List Noted) (rs : List ReadRun) (i : ℕ) (d : ReadRun)
    → i < length rs → ((n : Noted) → Contains old n → Contains new n) → AreNoted (take i rs) b old
    → ((at : ℕ) (dirty : Bool) → (get_or rs i d).from ≡ Cache at dirty
    → AreNotedFor new b at (get_or rs i d).count)
    → AreNoted (take (i + 1) rs) b new
run_more b old new rs i d lt kept before one = All-more (λ (r : ReadRun). (at : ℕ) (dirty : Bool)
    → r.from ≡ Cache at dirty → AreNotedFor new b at r.count) rs i d lt
    (λ k e low at dirty is j below. kept (noted_of b ((at + j) / b.size))
    (before k e low at dirty is j below)) one
