-- The bytes of a set that was written in three steps.
use Rattle.std.proofs.Common.{◌≡◌, ◌⊎◌, inl, inr, ℕ, ◌+◌, ◌*◌, ◌<◌, ◌≤◌, List, length, slice_index, slice_index_or, sym, subst, ap, ◌∙◌, arith}
use Rattle.std.proofs.lemmas.Bool.{cases_lt}
use Rattle.std.proofs.lemmas.List.{get_or_default}
use Rattle.bc_bytes.specs.Fields.{SameOutside}
use Rattle.bc_disk.specs.declared.geometry.Geometry.{Geometry}
use Rattle.bc_disk.specs.declared.gens.BucketRecord.{BucketRecord}
use Rattle.bc_disk.specs.Chain.{bucket_bytes, records_in_set}
use Rattle.bc_prio.specs.Set.{next_in, HasMagic, HasChecksum, IsRecord, HoldsPart, IsWrittenSet, records_in}
use Rattle.bc_prio.proofs.Places.{byte_kept, same_within}

pub record IsHeader (g : Geometry) (next : ℕ) (bytes : List ℕ) : Type 0 where
  pub magic : HasMagic g bytes
  pub names : next_in bytes ≡ next
  pub between : (k : ℕ) → 16 ≤ k → k < 32 → slice_index bytes k ≡ 0
  pub behind : (k : ℕ) → 40 ≤ k → slice_index bytes k ≡ 0

-- a record that lies outside of a change is kept
pub record_kept : (n : ℕ) (old new : List ℕ) (at i : ℕ) (entry : BucketRecord) → SameOutside n old new at → (43 + 3 * i ≤ at) ⊎ (at + n ≤ 40 + 3 * i) → IsRecord old i entry → IsRecord new i entry
record_kept n old new at i entry same apart is = (
  same.numbers 2 (40 + 3 * i) (elim apart [ inl before ↦ inl (omega arith) | inr behind ↦ inr behind ]) ∙ is.0,
  byte_kept n old new at (42 + 3 * i) same (elim apart [ inl before ↦ inl (omega arith) | inr behind ↦ inr (omega arith) ]) ∙ is.1,
)

-- the record of a bucket, as the code finds it
pub record_found : (records found : List BucketRecord) (first at i : ℕ) (none : BucketRecord) → found ≡ records → at ≡ first → first + i < length records
    → (d : BucketRecord) → slice_index_or records (first + i) d ≡ slice_index_or found (at + i) none
record_found records found first at i none same here inside d =
    get_or_default records (first + i) d none inside ∙ ap (λ (n : ℕ). slice_index_or records (n + i) none) (sym here) ∙ ap (λ (xs : List BucketRecord). slice_index_or xs (at + i) none) (sym same)

-- one more record was written
pub records_more : (first i : ℕ) (records : List BucketRecord) (start old new : List ℕ) (entry : BucketRecord)
    → ((k : ℕ) → k < i → (d : BucketRecord) → IsRecord old k (slice_index_or records (first + k) d)) → SameOutside (3 * i) start old 40
    → ((d : BucketRecord) → slice_index_or records (first + i) d ≡ entry) → IsRecord new i entry → SameOutside 3 old new (40 + 3 * i)
    → ((k : ℕ) → k < i + 1 → (d : BucketRecord) → IsRecord new k (slice_index_or records (first + k) d)) × SameOutside (3 * (i + 1)) start new 40
records_more first i records start old new entry before same found written other = (each, same_within (3 * (i + 1)) (3 * i) 3 start old new 40 40 (40 + 3 * i) same other (omega arith) (omega arith) (omega arith) (omega arith))
  where
    each : (k : ℕ) → k < i + 1 → (d : BucketRecord) → IsRecord new k (slice_index_or records (first + k) d)
    each k low d = go (cases_lt k i)
      where
        go : (k < i) ⊎ (i ≤ k) → IsRecord new k (slice_index_or records (first + k) d)
        go (inl less) = record_kept 3 old new (40 + 3 * i) k (slice_index_or records (first + k) d) other (inl (omega arith)) (before k less d)
        go (inr last) =
            let is : i ≡ k = omega arith in
            let here : IsRecord new i (slice_index_or records (first + i) d) = (written.0 ∙ ap (λ (e : BucketRecord). e.priority) (sym (found d)), written.1 ∙ ap (λ (e : BucketRecord). e.generation) (sym (found d))) in
            subst (λ (n : ℕ). IsRecord new n (slice_index_or records (first + n) d)) is here

pub written_set : (g : Geometry) (records : List BucketRecord) (part next : ℕ) (header filled bytes : List ℕ) → length bytes ≡ bucket_bytes g → IsHeader g next header
    → HoldsPart g records part filled → SameOutside (3 * records_in g part) header filled 40 → HasChecksum bytes → SameOutside 8 filled bytes 0
    → IsWrittenSet g records part next bytes
written_set g records part next header filled bytes long head holds same sum kept = record {
  whole = long;
  magic = kept.numbers 8 8 (inr (omega arith)) ∙ same.numbers 8 8 (inl (omega arith)) ∙ head.magic;
  checksum = sum;
  names = kept.numbers 8 32 (inr (omega arith)) ∙ same.numbers 8 32 (inl (omega arith)) ∙ head.names;
  holds = λ i inside there d. record_kept 8 filled bytes 0 i (slice_index_or records (part * records_in_set g + i) d) kept (inr (omega arith)) (holds i inside there d);
  between = λ k low high. byte_kept 8 filled bytes 0 k kept (inr (omega arith)) ∙ byte_kept (3 * records_in g part) header filled 40 k same (inl (omega arith)) ∙ head.between k low high;
  rest = λ k low. byte_kept 8 filled bytes 0 k kept (inr (omega arith)) ∙ byte_kept (3 * records_in g part) header filled 40 k same (inr low) ∙ head.behind k (omega arith);
}
