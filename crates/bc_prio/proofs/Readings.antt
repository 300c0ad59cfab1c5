-- A chain that was read so far.
use Rattle.std.proofs.Common.{◌≡◌, ◌≢◌, ◌↔◌, ℕ, ◌+◌, ◌*◌, ◌<◌, ◌≤◌, List, [], ◌∷◌, ◌++◌, length, slice_index_or, take, drop, refl, sym, subst, ap, ◌∙◌, arith}
use Rattle.std.specs.Prelude.{AllPairs, replicate}
use Rattle.std.proofs.Math.Nat.{mul-le-mul_right, add-mul}
use Rattle.std.proofs.lemmas.List.{length-append, length-replicate, length-take, length-drop}
use Rattle.bc_model.specs.Sector.{values_of}
use Rattle.bc_disk.specs.Disk.{DiskFacts, IsKept, IsRead}
use Rattle.bc_disk.specs.Gens.{Gens}
use Rattle.bc_disk.specs.declared.geometry.Geometry.{Geometry}
use Rattle.bc_disk.specs.declared.gens.BucketRecord.{BucketRecord}
use Rattle.bc_prio.specs.declared.error.PrioError.{PrioError}
use Rattle.bc_prio.specs.declared.error.PrioError.TheVariants as errors
use Rattle.bc_disk.specs.Chain.{bucket_bytes, records_in_set, sets_in_chain}
use Rattle.bc_prio.specs.Set.{IsRecord, IsWrong, HoldsPart, next_in}
use Rattle.bc_prio.specs.Chain.{IsInBucket, IsChain, Leads}
use Rattle.bc_prio.specs.Refusal.{IsFresh, IsCause, IsRefused, HasRead, CallsUntil}
use Rattle.bc_prio.specs.Reading.{ReadsNext}
use Rattle.bc_disk.proofs.Amounts.{some_sets}
use Rattle.bc_prio.proofs.Chains.{wrong_is_cause, leads_more, leads_map, stood_before, kept_both, kept_all, read_both, calls_behind, cause_before, distinct_more}

-- what was read of a bucket's sectors stands in the bucket
pub read_in_bucket : (g : Geometry) (d : DiskFacts) (a b at : ℕ) (bytes : List ℕ) → a ≡ g.bucket → b ≡ at → length bytes ≡ bucket_bytes g
    → IsRead (a * b) (values_of bytes) d → IsInBucket g d at bytes
read_in_bucket g d a b at bytes size place whole read =
    record { whole = whole; read = subst (λ (n : ℕ). IsRead n (values_of bytes) d) (ap (λ (n : ℕ). n * b) size ∙ ap (λ (n : ℕ). g.bucket * n) place) read }

-- bytes that were read there and are no set
pub refused_at : (g : Geometry) (d : DiskFacts) (seen chain : List ℕ) (part at a b : ℕ) (bytes : List ℕ) (e : PrioError) → seen ≡ chain → length chain ≡ part
    → IsFresh g seen at → a ≡ g.bucket → b ≡ at → length bytes ≡ bucket_bytes g → IsRead (a * b) (values_of bytes) d → IsWrong g part bytes e → IsCause g d chain at e
refused_at g d seen chain part at a b bytes e same count fresh size place whole read wrong =
    wrong_is_cause g d chain at bytes (subst (λ (xs : List ℕ). IsFresh g xs at) same fresh) (read_in_bucket g d a b at bytes size place whole read) e
    (subst (λ (n : ℕ). IsWrong g n bytes e) (sym count) wrong)

-- a chain of which this many sets were read, in all of which the records are those so far; the next one is named at the end
pub record IsReadTo (g : Geometry) (old new : DiskFacts) (first : ℕ) (gens : Gens) (at part : ℕ) : Type 0 where
  pub sets : Leads g old (HoldsPart g gens.records) 0 first gens.chain at
  pub distinct : AllPairs (λ a b. a ≢ b) gens.chain
  pub count : length gens.chain ≡ part
  pub records : length gens.records ≡ g.nbuckets
  pub kept : IsKept old new
  pub read : HasRead part old new
  pub ends : 0 < part → (at ≡ 0) ↔ (part ≡ sets_in_chain g)

pub read_none : (g : Geometry) (d : DiskFacts) (first : ℕ) (gens : Gens) (entry : BucketRecord) → gens.chain ≡ [] → gens.records ≡ replicate g.nbuckets entry → IsReadTo g d d first gens first 0
read_none g d first gens entry none zeros = record {
  sets = subst (λ (xs : List ℕ). Leads g d (HoldsPart g gens.records) 0 first xs first) (sym none) refl;
  distinct = λ i j e low inside. absurd (omega (arith, ap (λ (xs : List ℕ). length xs) none));
  count = ap (λ (xs : List ℕ). length xs) none;
  records = ap (λ (xs : List BucketRecord). length xs) zeros ∙ length-replicate g.nbuckets entry;
  kept = kept_all d;
  read = record { calls = refl; faults = refl };
  ends = λ some. absurd (omega arith);
}

-- the records of an earlier part stay
part_stays : (g : Geometry) (old new : List BucketRecord) (part k : ℕ) (bytes : List ℕ) → length new ≡ length old
    → ((j : ℕ) (d : BucketRecord) → j < part * records_in_set g → slice_index_or new j d ≡ slice_index_or old j d) → k < part → HoldsPart g old k bytes → HoldsPart g new k bytes
part_stays g old new part k bytes long before early holds = λ i inside there d.
    let room : (k + 1) * records_in_set g ≤ part * records_in_set g = mul-le-mul_right (records_in_set g) (omega arith) in
    let below : k * records_in_set g + i < part * records_in_set g = omega (arith, add-mul k 1 (records_in_set g)) in
    let same = before (k * records_in_set g + i) d below in
    let is = holds i inside (omega arith) d in
    subst (λ (e : BucketRecord). IsRecord bytes i e) (sym same) is

pub read_more : (g : Geometry) (old mid new : DiskFacts) (first : ℕ) (gens more : Gens) (at next part : ℕ) → IsReadTo g old mid first gens at part
    → ReadsNext g mid at gens more next → IsKept mid new → HasRead 1 mid new → IsReadTo g old new first more next (part + 1)
read_more g old mid new first gens more at next part so then kept read =
    let bytes = then.set.0 in
    let set = then.set.2 in
    let names = then.set.4 in
    let count = so.count in
    let earlier = leads_map g old (HoldsPart g gens.records) (HoldsPart g more.records) 0 first gens.chain at
    (λ k bs low high holds. part_stays g gens.records more.records (length gens.chain) k bs then.records then.before (omega arith) holds) so.sets in
    let one = leads_more g old (HoldsPart g more.records) (length gens.chain) 0 first gens.chain at next bytes (omega arith) earlier then.fresh.0
    (stood_before g old mid at bytes so.kept then.set.1) set then.set.3 names in
    record {
      sets = subst (λ (xs : List ℕ). Leads g old (HoldsPart g more.records) 0 first xs next) (sym then.chain) one;
      distinct = subst (λ (xs : List ℕ). AllPairs (λ a b. a ≢ b) xs) (sym then.chain) (distinct_more gens.chain at so.distinct then.fresh.1);
      count = ap (λ (xs : List ℕ). length xs) then.chain ∙ length-append gens.chain (at ∷ []) ∙ ap (λ (n : ℕ). n + 1) count;
      records = then.records ∙ so.records;
      kept = kept_both old mid new so.kept kept;
      read = let swapped : 1 + part ≡ part + 1 = omega arith in subst (λ (n : ℕ). HasRead n old new) swapped (read_both part 1 old mid new so.read read);
      ends = λ some.
          let both : (next_in bytes ≡ 0) ↔ (length gens.chain + 1 ≡ sets_in_chain g) = set.count in
          ((λ e. ap (λ (n : ℕ). n + 1) (sym count) ∙ both.0 (sym names ∙ e)), (λ e. names ∙ both.1 (ap (λ (n : ℕ). n + 1) count ∙ e)));
    }

pub read_whole : (g : Geometry) (old new : DiskFacts) (first : ℕ) (gens : Gens) (at part : ℕ) → IsReadTo g old new first gens at part → part ≡ sets_in_chain g → IsChain g old first gens
read_whole g old new first gens at part so all =
    let some = some_sets g in
    let ended : at ≡ 0 = (so.ends (omega arith)).1 all in
    record { sets = subst (λ (n : ℕ). Leads g old (HoldsPart g gens.records) 0 first gens.chain n) ended so.sets; distinct = so.distinct; count = so.count ∙ all; records = so.records }

pub read_refused : (g : Geometry) (old mid new : DiskFacts) (first : ℕ) (gens : Gens) (at part : ℕ) (e : PrioError) → IsReadTo g old mid first gens at part → part < sets_in_chain g
    → IsCause g mid gens.chain at e → CallsUntil e 0 mid new → IsRefused g old new first e
read_refused g old mid new first gens at part e so few cause calls =
    let count = so.count in
    record {
      chain = gens.chain;
      at = at;
      sets = leads_map g old (HoldsPart g gens.records) (λ k bytes. Unit {0}) 0 first gens.chain at (λ k bytes low high holds. tt) so.sets;
      distinct = so.distinct;
      few = omega arith;
      cause = cause_before g old mid gens.chain at so.kept e cause;
      calls = subst (λ (n : ℕ). CallsUntil e n old new) (sym count) (calls_behind e part old mid new so.read calls);
    }

-- no memory was found before the first set
pub none_read : (g : Geometry) (d : DiskFacts) (first : ℕ) → IsRefused g d d first errors.Memory
none_read g d first = record {
  chain = [];
  at = first;
  sets = refl;
  distinct = λ i j e low inside. absurd (omega arith);
  few = some_sets g;
  cause = tt;
  calls = (0, record { calls = refl; faults = refl });
}

-- a buffer keeps its length
pub buffer_kept : (len n : ℕ) (new items : List ℕ) → len ≡ length items → length new ≡ length items → length items ≡ n → length (take len (new ++ drop (length new) items)) ≡ n
buffer_kept len n new items is same whole =
    omega (arith, length-take len (new ++ drop (length new) items), length-append new (drop (length new) items), length-drop (length new) items)
