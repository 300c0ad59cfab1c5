-- What was read may be answered while no bucket was used anew.
use Rattle.std.specs.Prelude.{All, Contains}
use Rattle.std.proofs.Common.{◌≡◌, inl, inr, ℕ, suc, ◌+◌, ◌-◌, ◌/◌, ◌<◌, ◌≤◌, Bool, List, [], ◌∷◌, length, Option, Some, None, refl, sym, ap, ◌∙◌, subst, arith}
use Rattle.std.proofs.lemmas.Bool.{cases_lt}
use Rattle.std.proofs.lemmas.List.Elements.{All-contains}
use Rattle.bc_bucket.specs.Buckets.{Buckets, bucket_of}
use Rattle.bc_meta.specs.Keys.{Ref}
use Rattle.bc_model.proofs.Runs.{at_range}
use Rattle.bc_model.specs.Sector.{Gives, Value}
use Rattle.bc_node.specs.Leaf.{Leaf}
use Rattle.bc_reads.proofs.Still.{law_still}
use Rattle.bc_reads.specs.Reads.{AreRuns, IsReadFrom, IsRun, moved}
use Rattle.bc_reads.specs.declared.runs.ReadRun.{ReadRun}
use Rattle.bc_reads.specs.declared.source.ReadFrom.{ReadFrom}
use Rattle.bc_reads.specs.declared.source.ReadFrom.TheVariants.{Backing, Cache}
use Rattle.bc_reads.specs.bc_sight.Sight.{MayAnswer, said_in}
use Rattle.bc_reader.specs.Known.{IsReadAs}
use Rattle.bc_reader.specs.Noted.{AreNoted, AreNotedFor, IsUnchanged, noted_of}
use Rattle.bc_reader.specs.declared.noted.Noted.{Noted}

-- the run that has the sector
record HasRun (leaf : Leaf) (b : Buckets) (rs : List ReadRun) (s : ℕ) : Type 0 where
  pub run : ReadRun
  pub there : Contains rs run
  pub low : run.first ≤ s
  pub high : s < run.first + run.count
  pub is : IsRun leaf b run

run_of : (leaf : Leaf) (b : Buckets) (from end : ℕ) (rs : List ReadRun) → AreRuns leaf b from end rs
    → (s : ℕ) → from ≤ s → s < end → HasRun leaf b rs s
run_of leaf b from end [] is s low high = absurd (omega arith)
run_of leaf b from end (r ∷ rs) is s low high = elim (cases_lt s (from + r.count)) [
  | inl less ↦ let at = is.0 in record {
    run = r;
    there = (0, omega arith, refl);
    low = omega (arith, at, low);
    high = omega (arith, at, less);
    is = is.2;
  }
  | inr more ↦ let rest = run_of leaf b (from + r.count) end rs is.3 s more high in record {
    run = rest.run;
    there = (suc rest.there.0, (let k = rest.there.1 in omega (arith, k)), rest.there.2);
    low = rest.low;
    high = rest.high;
    is = rest.is;
  }
]

-- a sector is read from one place
same_place : (leaf : Leaf) (b : Buckets) (s at to : ℕ) (dirty too : Bool)
    → IsReadFrom leaf b s (Cache at dirty) → IsReadFrom leaf b s (Cache to too) → at ≡ to
same_place leaf b s at to dirty too x y =
    sym x.2 ∙ ap (λ (r : Ref). r.place) (one x.0 y.0 (said_in leaf s) x.1 y.1) ∙ y.2
  where
    one : (p q : Ref) (o : Option Ref) → o ≡ Some p → o ≡ Some q → p ≡ q
    one p q o a b = cc

-- and not from the other device
not_both : (leaf : Leaf) (b : Buckets) (s at : ℕ) (dirty : Bool)
    → IsReadFrom leaf b s (Cache at dirty) → IsReadFrom leaf b s Backing → ⊥
not_both leaf b s at dirty x (inl none) = none_there (said_in leaf s) x.0 x.1 none
  where
    none_there : (o : Option Ref) (r : Ref) → o ≡ Some r → o ≡ None → ⊥
    none_there o r p q = absurd (cc)
not_both leaf b s at dirty x (inr gone) =
    let same = one x.0 gone.0 (said_in leaf s) x.1 gone.1 in
    gone.3 (subst (λ (r : Ref). Rattle.bc_reads.specs.Reads.IsLiveAt b r.place r.generation) same
    (subst (λ n. Rattle.bc_reads.specs.Reads.IsLiveAt b n x.0.generation) (sym x.2) x.4))
  where
    one : (p q : Ref) (o : Option Ref) → o ≡ Some p → o ≡ Some q → p ≡ q
    one p q o a b = cc

-- while the buckets are those of the look
pub may_answer_now : (leaf : Leaf) (b : Buckets) → 0 < b.size → (first : ℕ) (values : List Value)
    (cache backing : ℕ → Option Value)
    → Gives first values (λ s value. IsReadAs leaf b (cache s) (backing s) s value)
    → Gives first values (λ s value. MayAnswer leaf b b (cache s) (backing s) s value)
may_answer_now leaf b some first values cache backing gives = λ s value here. elim (gives s value here) [
  | inl on ↦ inl on
  | inr read ↦ inr (read.2, law_still leaf b b s read.0 read.1 some read.3 refl)
]

module _ (leaf : Leaf) (before now : Buckets) (first end : ℕ) (runs : List ReadRun)
    (noted : List Noted) (some : 0 < before.size) (are : AreRuns leaf before first end runs)
    (there : AreNoted runs before noted) (same : All (IsUnchanged now) noted) where
  -- the bucket from which the sector was read wasn't used anew
  unchanged : (s at : ℕ) (dirty : Bool) → first ≤ s → s < end
      → IsReadFrom leaf before s (Cache at dirty)
      → (bucket_of now (at / before.size)).uses ≡ (bucket_of before (at / before.size)).uses
  unchanged s at dirty low high is =
      let has = run_of leaf before first end runs are s low high in
      go has.run has.there has.low has.high has.run.from refl (has.is s has.low has.high)
    where
      go : (r : ReadRun) → Contains runs r → r.first ≤ s → s < r.first + r.count
          → (from : ReadFrom) → r.from ≡ from
          → IsReadFrom leaf before s (moved r.from (s - r.first))
          → (bucket_of now (at / before.size)).uses ≡ (bucket_of before (at / before.size)).uses
      go r in_ low high Backing from here = absurd (not_both leaf before s at dirty is
          (subst (λ (f : ReadFrom). IsReadFrom leaf before s (moved f (s - r.first))) from here))
      go r in_ low high (Cache to too) from here =
          let there_ = subst (λ (f : ReadFrom). IsReadFrom leaf before s (moved f (s - r.first)))
          from here in
          let place = same_place leaf before s at (to + (s - r.first)) dirty too is there_ in
          let one = All-contains (λ (r : ReadRun). (at : ℕ) (dirty : Bool) → r.from ≡ Cache at dirty
          → AreNotedFor noted before at r.count) runs r there in_ to too from (s - r.first)
          (omega arith) in
          let kept = All-contains (IsUnchanged now) noted (noted_of before ((to + (s - r.first)) / before.size)) same one in
          subst (λ n. (bucket_of now (n / before.size)).uses ≡ (bucket_of before (n / before.size)).uses)
          (sym place) kept.uses

  pub may_answer : (values : List Value) (cache backing : ℕ → Option Value)
      → first + length values ≤ end
      → Gives first values (λ s value. IsReadAs leaf before (cache s) (backing s) s value)
      → Gives first values (λ s value. MayAnswer leaf before now (cache s) (backing s) s value)
  may_answer values cache backing long gives = λ s value here.
      let inside = at_range first values s value here in
      let low = inside.0 in let high = inside.1 in
      elim (gives s value here) [
        | inl on ↦ inl on
        | inr read ↦ inr (
          read.2,
          law_still leaf before now s read.0 read.1 some read.3
              (unchanged s read.0 read.1 low (omega arith) read.3),
        )
      ]
