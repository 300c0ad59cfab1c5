-- A chain of sets that was written.
use Rattle.std.proofs.Common.{◌≡◌, ◌≢◌, ◌⊎◌, inl, inr, ℕ, zero, suc, ◌+◌, ◌*◌, ◌<◌, ◌≤◌, List, [], ◌∷◌, length, drop, slice_index, refl, sym, subst, ap, ◌∙◌, arith}
use Rattle.std.specs.Prelude.{Option, Some, None, Result, Ok, Err, IsErr, All, AllPairs}
use Rattle.std.proofs.Math.Nat.{mul-le-mul_left, mul-add}
use Rattle.std.proofs.Math.Seq.{drop-cons}
use Rattle.std.proofs.lemmas.Bool.{cases_lt}
use Rattle.std.proofs.lemmas.List.{get_or-drop, drop_all}
use Rattle.bc_model.specs.Sector.{Image, Value, values_of, unless, Gives}
use Rattle.bc_model.proofs.Runs.{at_range, at_miss}
use Rattle.bc_model.proofs.Sectors.{length_values_of}
use Rattle.bc_disk.specs.Device.{next_count}
use Rattle.bc_disk.specs.Disk.{DiskFacts, IsRead, IsWritten, IsFailedWrite, IsCounted, IfTold, BothTold, Overwritten}
use Rattle.bc_disk.specs.declared.disk.Failed.{Failed}
use Rattle.bc_disk.specs.declared.geometry.Geometry.{Geometry}
use Rattle.bc_disk.specs.declared.gens.BucketRecord.{BucketRecord}
use Rattle.bc_disk.specs.Chain.{bucket_bytes, sets_in_chain}
use Rattle.bc_prio.specs.Set.{IsSet, IsWrittenSet, HoldsPart, HasCount, next_in}
use Rattle.bc_prio.specs.Chain.{IsInBucket, IsPlace, IsChain, Leads}
use Rattle.bc_prio.specs.Writes.{WritesSets, good}

-- what was written is read
written_is_read : (at : ℕ) (vs : List Value) (old new : DiskFacts) → IsWritten at vs old new → IsRead at vs new
written_is_read at vs old new is = go old.holds new.holds is.holds
  where
    go : (a b : Option Image) → BothTold (Overwritten at vs) a b → IfTold b (λ held. Gives at vs (λ s v. v ≡ held s))
    go a None both = tt
    go None (Some y) both = elim both [ ]
    go (Some x) (Some y) both = λ s v there. sym (both s ∙ ap (λ (o : Option Value). unless o (x s)) there)

-- and what stands elsewhere is read as before
others_are_read : (at : ℕ) (vs : List Value) (where_else : ℕ) (ws : List Value) (old new : DiskFacts) → (where_else + length ws ≤ at) ⊎ (at + length vs ≤ where_else)
    → IsWritten at vs old new → IsRead where_else ws old → IsRead where_else ws new
others_are_read at vs where_else ws old new apart is = go old.holds new.holds is.holds
  where
    go : (a b : Option Image) → BothTold (Overwritten at vs) a b → IfTold a (λ held. Gives where_else ws (λ s v. v ≡ held s)) → IfTold b (λ held. Gives where_else ws (λ s v. v ≡ held s))
    go a None both read = tt
    go None (Some y) both read = elim both [ ]
    go (Some x) (Some y) both read = λ s v there.
        let range = at_range where_else ws s v there in
        let miss = at_miss at vs s (λ inside. elim apart [ inl below ↦ omega arith | inr above ↦ omega arith ]) in
        read s v there ∙ sym (both s ∙ ap (λ (o : Option Value). unless o (x s)) miss)

-- two different buckets have no sector in common
buckets_apart : (size a b : ℕ) → a ≢ b → (size * a + size ≤ size * b) ⊎ (size * b + size ≤ size * a)
buckets_apart size a b differ = go (cases_lt a b) (cases_lt b a)
  where
    go : (a < b) ⊎ (b ≤ a) → (b < a) ⊎ (a ≤ b) → (size * a + size ≤ size * b) ⊎ (size * b + size ≤ size * a)
    go (inl less) other = let up : size * (a + 1) ≤ size * b = mul-le-mul_left size (omega arith) in inl (omega (arith, mul-add size a 1))
    go (inr many) (inl less) = let up : size * (b + 1) ≤ size * a = mul-le-mul_left size (omega arith) in inr (omega (arith, mul-add size b 1))
    go (inr many) (inr few) = absurd (differ (omega arith))

sectors_in : (g : Geometry) (bytes : List ℕ) → length bytes ≡ bucket_bytes g → length (values_of bytes) ≡ g.bucket
sectors_in g bytes whole = length_values_of bytes ∙ omega arith

module _ {D : Type 0} (facts : D → DiskFacts) (g : Geometry) (records : List BucketRecord) where
  -- what stands in another bucket stays
  stands_still : (part : ℕ) (into : List ℕ) (old new : D) (bucket : ℕ) (bytes : List ℕ) → WritesSets facts g records good part into old new
      → ((k : ℕ) → k < length into → slice_index into k ≢ bucket) → IsInBucket g (facts old) bucket bytes → IsInBucket g (facts new) bucket bytes
  stands_still part [] old new bucket bytes writes apart there = subst (λ (d : D). IsInBucket g (facts d) bucket bytes) (sym writes.1) there
  stands_still part (first ∷ into) old new bucket bytes writes apart there =
      go writes.2 (λ next rest moved. stands_still (suc part) into next new bucket bytes rest (λ k inside. apart (suc k) (omega arith)) moved)
    where
      go : (IsErr good × IsFailedWrite (g.bucket * first) (values_of writes.0) (facts old) (facts new) × IsCounted good (facts old) (facts new))
          ⊎ ((next : D) × IsWritten (g.bucket * first) (values_of writes.0) (facts old) (facts next) × IsCounted good (facts old) (facts next)
          × WritesSets facts g records good (suc part) into next new)
          → ((next : D) → WritesSets facts g records good (suc part) into next new → IsInBucket g (facts next) bucket bytes → IsInBucket g (facts new) bucket bytes)
          → IsInBucket g (facts new) bucket bytes
      go (inl failed) behind = absurd (cc)
      go (inr one) behind =
          let wrote = sectors_in g writes.0 writes.1.whole in
          let held = sectors_in g bytes there.whole in
          let differ : first ≢ bucket = apart zero (omega arith) in
          let sides = buckets_apart g.bucket first bucket differ in
          let side : (g.bucket * bucket + length (values_of bytes) ≤ g.bucket * first) ⊎ (g.bucket * first + length (values_of writes.0) ≤ g.bucket * bucket) =
          elim sides [ inl below ↦ inr (omega arith) | inr above ↦ inl (omega arith) ] in
          let moved : IsInBucket g (facts one.0) bucket bytes = record {
            whole = there.whole;
            read = others_are_read (g.bucket * first) (values_of writes.0) (g.bucket * bucket) (values_of bytes) (facts old) (facts one.0) side one.1 there.read;
          } in
          behind one.0 one.3 moved

  -- a next set is named in each but the last
  names_right : (part : ℕ) (into : List ℕ) (bytes : List ℕ) → next_in bytes ≡ slice_index into 0 → part + suc (length into) ≡ sets_in_chain g
      → ((k : ℕ) → k < length into → IsPlace g (slice_index into k)) → HasCount g part bytes
  names_right part [] bytes names count places = ((λ zero_next. omega arith), (λ last. names))
  names_right part (next ∷ into) bytes names count places =
      let place : IsPlace g next = places zero (omega arith) in
      let behind = g.first_behind_super in
      ((λ none. absurd (omega (arith, place.0, sym names ∙ none))), (λ last. absurd (omega arith)))

  pub leads_there : (part : ℕ) (into : List ℕ) (old new : D) → WritesSets facts g records good part into old new → part + length into ≡ sets_in_chain g
      → ((k : ℕ) → k < length into → IsPlace g (slice_index into k)) → ((i j : ℕ) → i < j → j < length into → slice_index into i ≢ slice_index into j)
      → Leads g (facts new) (HoldsPart g records) part (slice_index into 0) into 0
  leads_there part [] old new writes count places distinct = refl
  leads_there part (first ∷ into) old new writes count places distinct =
      go writes.2 (λ next rest. leads_there (suc part) into next new rest (omega arith) (λ k inside. places (suc k) (omega arith)) (λ i j low inside. distinct (suc i) (suc j) (omega arith) (omega arith)))
    where
      set : IsSet g part writes.0
      set = record { whole = writes.1.whole; magic = writes.1.magic; checksum = writes.1.checksum; count = names_right part into writes.0 writes.1.names count (λ k inside. places (suc k) (omega arith)) }

      go : (IsErr good × IsFailedWrite (g.bucket * first) (values_of writes.0) (facts old) (facts new) × IsCounted good (facts old) (facts new))
          ⊎ ((next : D) × IsWritten (g.bucket * first) (values_of writes.0) (facts old) (facts next) × IsCounted good (facts old) (facts next)
          × WritesSets facts g records good (suc part) into next new)
          → ((next : D) → WritesSets facts g records good (suc part) into next new → Leads g (facts new) (HoldsPart g records) (suc part) (slice_index into 0) into 0)
          → Leads g (facts new) (HoldsPart g records) part first (first ∷ into) 0
      go (inl failed) behind = absurd (cc)
      go (inr one) behind =
          let here : IsInBucket g (facts one.0) first writes.0 = record { whole = writes.1.whole; read = written_is_read (g.bucket * first) (values_of writes.0) (facts old) (facts one.0) one.1 } in
          let still = stands_still (suc part) into one.0 new first writes.0 one.3 (λ k inside same. distinct zero (suc k) (omega arith) (omega arith) (sym same)) here in
          let rest = behind one.0 one.3 in
          (refl, places zero (omega arith), (writes.0, still, set, writes.1.holds, subst (λ (n : ℕ). Leads g (facts new) (HoldsPart g records) (suc part) n into 0) (sym writes.1.names) rest))

  -- the buckets from a place on are the one there and those behind it
  from_here : (n : ℕ) (into : List ℕ) (bucket : ℕ) → n < length into → slice_index into n ≡ bucket → drop n into ≡ bucket ∷ drop (n + 1) into
  from_here n into bucket inside is =
      let one : suc n ≡ n + 1 = omega arith in
      drop-cons into n 0 inside ∙ ap (λ (k : ℕ). k ∷ drop (suc n) into) is ∙ ap (λ (k : ℕ). bucket ∷ drop k into) one

  next_behind : (n : ℕ) (into : List ℕ) (next : ℕ) → next ≡ slice_index into (n + 1) → next ≡ slice_index (drop (n + 1) into) 0
  next_behind n into next is = let moved : n + 1 + 0 ≡ n + 1 = omega arith in is ∙ ap (slice_index into) (sym moved) ∙ sym (get_or-drop (n + 1) into 0 0)

  -- one more write, and the writes behind it
  pub write_good : (answer : Result (Unit {0}) Failed) (n : ℕ) (into : List ℕ) (bucket next sector : ℕ) (bytes : List ℕ) (old mid new : D) → n < length into → slice_index into n ≡ bucket
      → next ≡ slice_index into (n + 1) → sector ≡ g.bucket * bucket → IsWrittenSet g records n next bytes → IsWritten sector (values_of bytes) (facts old) (facts mid) → IsCounted good (facts old) (facts mid)
      → WritesSets facts g records answer (n + 1) (drop (n + 1) into) mid new → WritesSets facts g records answer n (drop n into) old new
  write_good answer n into bucket next sector bytes old mid new inside is behind there set wrote counted rest =
      let one : n + 1 ≡ suc n = omega arith in
      subst (λ (xs : List ℕ). WritesSets facts g records answer n xs old new) (sym (from_here n into bucket inside is)) (
        bytes,
        subst (λ (k : ℕ). IsWrittenSet g records n k bytes) (next_behind n into next behind) set,
        inr (mid, subst (λ (k : ℕ). IsWritten k (values_of bytes) (facts old) (facts mid)) there wrote, counted, subst (λ (k : ℕ). WritesSets facts g records answer k (drop (n + 1) into) mid new) one rest),
      )

  -- a write that failed ends them
  pub write_failed : (answer : Result (Unit {0}) Failed) (n : ℕ) (into : List ℕ) (bucket next sector : ℕ) (bytes : List ℕ) (old new : D) → n < length into → slice_index into n ≡ bucket
      → next ≡ slice_index into (n + 1) → sector ≡ g.bucket * bucket → IsWrittenSet g records n next bytes → IsErr answer → IsFailedWrite sector (values_of bytes) (facts old) (facts new) → IsCounted answer (facts old) (facts new)
      → WritesSets facts g records answer n (drop n into) old new
  write_failed answer n into bucket next sector bytes old new inside is behind there set failed wrote counted =
      subst (λ (xs : List ℕ). WritesSets facts g records answer n xs old new) (sym (from_here n into bucket inside is))
      (bytes, subst (λ (k : ℕ). IsWrittenSet g records n k bytes) (next_behind n into next behind) set, inl (failed, subst (λ (k : ℕ). IsFailedWrite k (values_of bytes) (facts old) (facts new)) there wrote, counted))

  -- nothing is left to write
  pub write_none : (n : ℕ) (into : List ℕ) (old : D) → length into ≤ n → WritesSets facts g records good n (drop n into) old old
  write_none n into old all = subst (λ (xs : List ℕ). WritesSets facts g records good n xs old old) (sym (drop_all n into all)) (refl, refl)

  -- so a chain that was written is found
  pub chain_there : (into : List ℕ) (old new : D) → WritesSets facts g records good 0 into old new → length into ≡ sets_in_chain g → length records ≡ g.nbuckets
      → All (IsPlace g) into → AllPairs (λ a b. a ≢ b) into → IsChain g (facts new) (slice_index into 0) (record { records = records; chain = into })
  chain_there into old new writes count long places distinct = record {
    sets = leads_there 0 into old new writes (omega arith) (λ k inside. places k 0 inside) (λ i j low inside. distinct i j 0 low inside);
    distinct = distinct;
    count = count;
    records = long;
  }

pub sector_of : (g : Geometry) (a b bucket : ℕ) → a ≡ g.bucket → b ≡ bucket → a * b ≡ g.bucket * bucket
sector_of g a b bucket size place = ap (λ (n : ℕ). n * b) size ∙ ap (λ (n : ℕ). g.bucket * n) place

-- a bucket's sectors are on a disk that has all buckets
pub on_disk : (g : Geometry) (a b bucket sectors : ℕ) → a ≡ g.bucket → b ≡ bucket → bucket < g.nbuckets → g.bucket * g.nbuckets ≤ sectors → a * b + g.bucket ≤ sectors
on_disk g a b bucket sectors size place inside room =
    let up : g.bucket * (bucket + 1) ≤ g.bucket * g.nbuckets = mul-le-mul_left g.bucket (omega arith) in
    let same = sector_of g a b bucket size place in
    omega (arith, mul-add g.bucket bucket 1)

-- a failed call is counted as one, whatever its error
pub counted_failed : (answer : Result (Unit {0}) Failed) (old new : DiskFacts) → IsErr answer → (new.calls ≡ next_count old.calls) × (new.faults ≡ next_count old.faults) → IsCounted answer old new
counted_failed (Ok done) old new is counted = absurd (cc)
counted_failed (Err error) old new is counted = counted
