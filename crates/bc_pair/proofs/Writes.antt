-- Runs that are written one behind the other.
use Rattle.std.proofs.Common.{◌≡◌, ◌⊎◌, inl, inr, ℕ, zero, suc, ◌+◌, ◌*◌, ◌<◌, ◌≤◌, List, [], ◌∷◌, ◌++◌, length, refl, sym, subst, ap, ◌∙◌, arith}
use Rattle.std.proofs.Math.Nat.{mul-add}
use Rattle.std.proofs.lemmas.Result.{on_ok_weaker}
use Rattle.std.specs.Prelude.{Result, Ok, Err, OnOk, OnErr, IsErr, slice_index, slice_index_or}
use Rattle.bc_model.specs.Sector.{Value, Image, at_run, unless, values_of}
use Rattle.bc_model.proofs.Sectors.{length_values_of}
use Rattle.bc_disk.specs.Disk.{DiskFacts, IsWritten, IsFailedWrite, IsCounted}
use Rattle.bc_disk.specs.declared.disk.Failed.{Failed}
use Rattle.bc_disk.specs.declared.geometry.Geometry.{Geometry}
use Rattle.bc_disk.specs.declared.gens.BucketRecord.{BucketRecord}
use Rattle.bc_prio.specs.Set.{IsWrittenSet}
use Rattle.bc_prio.specs.Writes.{WritesSets, good}
use Rattle.bc_super.specs.Writing.{AreCounted}
use Rattle.bc_pair.specs.Records.{AreBuckets, AreChainSets, Then, chain_runs, next_bucket}
use Rattle.bc_pair.specs.Runs.{Run, over, run_of, written_over}
use Rattle.bc_pair.specs.Steps.{Becomes, WritesOnly, Wrote}
use Rattle.bc_pair.proofs.Steps.{both_joined, both_same, counted_behind, counted_once, counted_sooner, only_failed, only_joined, only_none, only_weaker, only_written}

abbrev pub Turns : (Image → Image) → Image → Image → Type 0
Turns f a z = (s : ℕ) → z s ≡ f a s

pub written_same : (rs : List Run) (a b : Image) (s : ℕ) → a s ≡ b s → written_over rs a s ≡ written_over rs b s
written_same [] a b s same = same
written_same (r ∷ rs) a b s same = written_same rs (over r.at r.values a) (over r.at r.values b) s (ap (λ (v : Value). unless (at_run r.at r.values s) v) same)

pub written_behind : (xs ys : List Run) (image : Image) (s : ℕ) → written_over (xs ++ ys) image s ≡ written_over ys (written_over xs image) s
written_behind [] ys image s = refl
written_behind (x ∷ xs) ys image s = written_behind xs ys (over x.at x.values image) s

pub becomes_joined : (xs ys : List Run) (old mid new : DiskFacts) → Becomes (written_over xs) old mid → Becomes (written_over ys) mid new → Becomes (written_over (xs ++ ys)) old new
becomes_joined xs ys old mid new one two =
    both_joined (Turns (written_over xs)) (Turns (written_over ys)) (Turns (written_over (xs ++ ys))) old.holds mid.holds new.holds
    (λ x y z before after s. after s ∙ written_same ys y (written_over xs x) s (before s) ∙ sym (written_behind xs ys x s)) one two

pub failed_sooner : (n m : ℕ) (e : Failed) (q : Result (Unit {0}) Failed) (old new : DiskFacts) → n ≤ m → IsErr q → AreCounted {E = Failed} n (Err e) old new → AreCounted m q old new
failed_sooner n m e (Ok u) old new few fails is = absurd (cc)
failed_sooner n m e (Err f) old new few fails is =
    let (k, some, less, calls) = is.0 in
    ((k, some, omega arith, calls), is.1)

-- ---- what was written, step by step

module _ (P : ℕ → Type 0) where
  pub wrote_then : (n m : ℕ) (R S : List Run → Type 0) (r : Result (Unit {0}) Failed) (old mid new : DiskFacts) → Wrote P n R (Ok tt) old mid → Wrote P m S r mid new → Wrote P (n + m) (Then R S) r old new
  wrote_then n m R S r old mid new one two = record {
    ok = on_ok_weaker r (λ last. (one.ok.0 ++ last.0, (one.ok.0, last.0, one.ok.1, last.1, refl), becomes_joined one.ok.0 last.0 old mid new one.ok.2 last.2)) two.ok;
    others = only_joined P old mid new one.others two.others;
    counted = counted_behind n m r old mid new one.counted.0 one.counted.1 two.counted;
  }

  -- a failure among the first ones is one among all
  pub wrote_failed : (n m : ℕ) (R S : List Run → Type 0) (e : Failed) (q : Result (Unit {0}) Failed) (old new : DiskFacts) → n ≤ m → IsErr q → Wrote P n R (Err e) old new → Wrote P m S q old new
  wrote_failed n m R S e (Ok u) old new few fails is = absurd (cc)
  wrote_failed n m R S e (Err f) old new few fails is = record { ok = tt; others = is.others; counted = failed_sooner n m e (Err f) old new few fails is.counted }

  pub wrote_one : (R : List Run → Type 0) (at place : ℕ) (bytes : List ℕ) → at ≡ place → ((s : ℕ) → place ≤ s → s < place + length (values_of bytes) → P s) → R (run_of place bytes ∷ [])
      → (r : Result (Unit {0}) Failed) (old new : DiskFacts) → OnOk r (IsWritten at (values_of bytes) old new) → OnErr r (IsFailedWrite at (values_of bytes) old new) → IsCounted r old new → Wrote P 1 R r old new
  wrote_one R at place bytes same inside is (Ok u) old new ok failed counted =
      let there : IsWritten place (values_of bytes) old new = subst (λ n. IsWritten n (values_of bytes) old new) same ok in
      record {
        ok = (run_of place bytes ∷ [], is, there.holds);
        others = only_written P place (values_of bytes) inside old new there;
        counted = counted_once {E = Failed} (Ok u) old new counted;
      }
  wrote_one R at place bytes same inside is (Err e) old new ok failed counted =
      let there : IsFailedWrite place (values_of bytes) old new = subst (λ n. IsFailedWrite n (values_of bytes) old new) same failed in
      record {
        ok = tt;
        others = only_failed P place (values_of bytes) inside old new there;
        counted = counted_once {E = Failed} (Err e) old new counted;
      }

pub wrote_more : (P Q : ℕ → Type 0) → ((s : ℕ) → P s → Q s) → (n : ℕ) (R : List Run → Type 0) (r : Result (Unit {0}) Failed) (old new : DiskFacts) → Wrote P n R r old new → Wrote Q n R r old new
wrote_more P Q more n R r old new is = record { ok = is.ok; others = only_weaker P Q more old new is.others; counted = is.counted }

pub wrote_as : (P : ℕ → Type 0) (n : ℕ) (R S : List Run → Type 0) → ((runs : List Run) → R runs → S runs) → (r : Result (Unit {0}) Failed) (old new : DiskFacts) → Wrote P n R r old new → Wrote P n S r old new
wrote_as P n R S more r old new is = record { ok = on_ok_weaker r (λ one. (one.0, more one.0 one.1, one.2)) is.ok; others = is.others; counted = is.counted }

-- ---- a chain

-- the sets of a part of a chain
abbrev pub IsPartOf : Geometry → List BucketRecord → ℕ → ℕ → ℕ → List Run → Type 0
IsPartOf g records part first many runs = (sets : List (List ℕ)) × (length sets ≡ many) × AreChainSets g records part first sets × (runs ≡ chain_runs g first sets)

next_is : (first : ℕ) (into : List ℕ) (sets : List (List ℕ)) → length sets ≡ length into → ((k d : ℕ) → k < length into → slice_index_or into k d ≡ suc first + k) → slice_index into 0 ≡ next_bucket first sets
next_is first [] [] same buckets = refl
next_is first [] (bytes ∷ sets) same buckets = absurd (omega arith)
next_is first (bucket ∷ into) [] same buckets = absurd (omega arith)
next_is first (bucket ∷ into) (bytes ∷ sets) same buckets = buckets 0 0 (omega arith) ∙ omega arith

module _ {D : Type 0} (facts : D → DiskFacts) (g : Geometry) (records : List BucketRecord) (P : ℕ → Type 0) where
  -- one set, and then the others
  chain_step : (part first bucket : ℕ) (into : List ℕ) (answer : Result (Unit {0}) Failed) (old new : D) → bucket ≡ first → ((k d : ℕ) → k < length into → slice_index_or into k d ≡ suc first + k)
      → ((s : ℕ) → g.bucket * first ≤ s → s < g.bucket * (first + suc (length into)) → P s)
      → ((next : D) → WritesSets facts g records answer (suc part) into next new → Wrote P (length into) (IsPartOf g records (suc part) (suc first) (length into)) answer (facts next) (facts new))
      → WritesSets facts g records answer part (bucket ∷ into) old new → Wrote P (suc (length into)) (IsPartOf g records part first (suc (length into))) answer (facts old) (facts new)
  chain_step part first bucket into answer old new here behind inside later (bytes, is_set, how) = go how
    where
      long : length (values_of bytes) ≡ g.bucket
      long = length_values_of bytes ∙ omega (arith, is_set.whole)

      within : (s : ℕ) → g.bucket * bucket ≤ s → s < g.bucket * bucket + length (values_of bytes) → P s
      within s low high =
          let place : g.bucket * bucket ≡ g.bucket * first = ap (λ n. g.bucket * n) here in
          inside s (omega arith) (omega (arith, long, mul-add g.bucket first (suc (length into)), mul-add g.bucket (length into) 1))

      failing : (q : Result (Unit {0}) Failed) → IsErr q → IsFailedWrite (g.bucket * bucket) (values_of bytes) (facts old) (facts new) → IsCounted q (facts old) (facts new)
          → Wrote P (suc (length into)) (IsPartOf g records part first (suc (length into))) q (facts old) (facts new)
      failing (Ok u) fails wrote counted = absurd (cc)
      failing (Err e) fails wrote counted = record {
        ok = tt;
        others = only_failed P (g.bucket * bucket) (values_of bytes) within (facts old) (facts new) wrote;
        counted = counted_sooner {D = Failed} {E = Failed} 1 (suc (length into)) (Err e) (Err e) (facts old) (facts new) (omega arith) fails fails (counted_once {E = Failed} (Err e) (facts old) (facts new) counted);
      }

      joined : (next : D) → IsWritten (g.bucket * bucket) (values_of bytes) (facts old) (facts next)
          → ((runs : List Run) × IsPartOf g records (suc part) (suc first) (length into) runs × Becomes (written_over runs) (facts next) (facts new))
          → (runs : List Run) × IsPartOf g records part first (suc (length into)) runs × Becomes (written_over runs) (facts old) (facts new)
      joined next wrote (runs, (sets, many, are, is), becomes) =
          let set : IsWrittenSet g records part (next_bucket first sets) bytes = subst (λ n. IsWrittenSet g records part n bytes) (next_is first into sets many behind) is_set in
          let place : run_of (g.bucket * bucket) bytes ≡ run_of (g.bucket * first) bytes = ap (λ n. run_of (g.bucket * n) bytes) here in (
            run_of (g.bucket * bucket) bytes ∷ runs,
            (bytes ∷ sets, ap suc many, (set, are), ap (λ (r : Run). r ∷ runs) place ∙ ap (λ (rs : List Run). run_of (g.bucket * first) bytes ∷ rs) is),
            becomes_joined (run_of (g.bucket * bucket) bytes ∷ []) runs (facts old) (facts next) (facts new) wrote.holds becomes,
          )

      go : ((IsErr answer × IsFailedWrite (g.bucket * bucket) (values_of bytes) (facts old) (facts new) × IsCounted answer (facts old) (facts new))
          ⊎ ((next : D) × IsWritten (g.bucket * bucket) (values_of bytes) (facts old) (facts next) × IsCounted good (facts old) (facts next) × WritesSets facts g records answer (suc part) into next new))
          → Wrote P (suc (length into)) (IsPartOf g records part first (suc (length into))) answer (facts old) (facts new)
      go (inl failed) = failing answer failed.0 failed.1 failed.2
      go (inr (next, wrote, counted, rest)) =
          let more_of = later next rest in
          let later_counted = more_of.counted in
          record {
            ok = on_ok_weaker answer (joined next wrote) more_of.ok;
            others = only_joined P (facts old) (facts next) (facts new) (only_written P (g.bucket * bucket) (values_of bytes) within (facts old) (facts next) wrote) more_of.others;
            counted = (let more : 1 + length into ≡ suc (length into) = omega arith in subst (λ n. AreCounted n answer (facts old) (facts new)) more (counted_behind 1 (length into) answer (facts old) (facts next) (facts new) counted.0 counted.1 later_counted));
          }

  pub chain_wrote : (part first : ℕ) (into : List ℕ) (answer : Result (Unit {0}) Failed) (old new : D) → ((k d : ℕ) → k < length into → slice_index_or into k d ≡ first + k)
      → ((s : ℕ) → g.bucket * first ≤ s → s < g.bucket * (first + length into) → P s)
      → WritesSets facts g records answer part into old new → Wrote P (length into) (IsPartOf g records part first (length into)) answer (facts old) (facts new)
  chain_wrote part first [] (Ok u) old new buckets inside writes =
      subst (λ (d : D). Wrote P 0 (IsPartOf g records part first 0) (Ok u) (facts old) (facts d)) (sym writes.1)
      (record {
        ok = ([], ([], refl, tt, refl), both_same (Turns (written_over [])) (facts old).holds (λ x s. refl));
        others = only_none P (facts old);
        counted = (refl, refl);
      })
  chain_wrote part first [] (Err e) old new buckets inside writes = absurd (let no = writes.0 in cc)
  chain_wrote part first (bucket ∷ into) answer old new buckets inside writes =
      let behind : (k d : ℕ) → k < length into → slice_index_or into k d ≡ suc first + k = λ k d small. buckets (suc k) d (omega arith) ∙ omega arith in
      let same : suc first + length into ≡ first + suc (length into) = omega arith in
      let rest_inside : (s : ℕ) → g.bucket * suc first ≤ s → s < g.bucket * (suc first + length into) → P s =
      λ s low high. inside s (omega (arith, mul-add g.bucket first 1)) (omega (arith, ap (λ n. g.bucket * n) same)) in
      chain_step part first bucket into answer old new (buckets 0 0 (omega arith) ∙ omega arith) behind inside
      (λ next rest. chain_wrote (suc part) (suc first) into answer next new behind rest_inside rest) writes

  -- a whole chain
  pub chain_all : (many first : ℕ) (into : List ℕ) (answer : Result (Unit {0}) Failed) (old new : D) → length into ≡ many → ((k d : ℕ) → k < many → slice_index_or into k d ≡ first + k)
      → ((s : ℕ) → g.bucket * first ≤ s → s < g.bucket * (first + many) → P s)
      → WritesSets facts g records answer 0 into old new → Wrote P many (IsPartOf g records 0 first many) answer (facts old) (facts new)
  chain_all many first into answer old new same buckets inside writes =
      subst (λ n. Wrote P n (IsPartOf g records 0 first n) answer (facts old) (facts new)) same
      (chain_wrote 0 first into answer old new (λ k d small. buckets k d (omega arith)) (λ s low high. inside s low (omega (arith, ap (λ n. g.bucket * (first + n)) same))) writes)
