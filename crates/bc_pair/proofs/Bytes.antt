-- The bytes of a new pair's records.
use Rattle.std.proofs.Common.{◌≡◌, inl, inr, ℕ, ◌+◌, ◌-◌, ◌*◌, ◌<◌, ◌≤◌, List, [], ◌∷◌, ◌++◌, length, take, drop, replicate, refl, sym, subst, ap, ◌∙◌, arith}
use Rattle.std.proofs.Math.Nat.{mul-le-mul_left, mul-add}
use Rattle.std.proofs.lemmas.List.{append-nil, drop-replicate, length-replicate, take-append-drop, take-replicate}
use Rattle.std.specs.Prelude.{Result, All, slice_range}
use Rattle.bc_bytes.specs.Fields.{SameOutside}
use Rattle.bc_disk.specs.Disk.{DiskFacts}
use Rattle.bc_disk.specs.declared.disk.Failed.{Failed}
use Rattle.bc_disk.specs.declared.geometry.Geometry.{Geometry}
use Rattle.bc_image.specs.Formatted.{first_set, leaf_bucket, root_bucket, table_bucket}
use Rattle.bc_jset.specs.EntryBytes.{IsEntry, IsPlain, bytes_of}
use Rattle.bc_jset.specs.declared.entry.JEntry.{JEntry}
use Rattle.bc_key.specs.declared.key.Key.{Key}
use Rattle.bc_keys.specs.Spelling.{words_of_all}
use Rattle.bc_keys.proofs.KeyLists.{length-words_of}
use Rattle.bc_key.specs.Words.{words_of}
use Rattle.bc_model.specs.Sector.{values_of}
use Rattle.bc_model.proofs.Sectors.{length_values_of}
use Rattle.bc_record.proofs.Blocks.{block_small}
use Rattle.bc_set.specs.SetBytes as sets
use Rattle.bc_set.specs.SetBytes.{AreSetKeys}
use Rattle.bc_set.specs.declared.set.Set.{Set}
use Rattle.bc_set.specs.declared.set.SetKind.{SetKind}
use Rattle.bc_set.specs.declared.set.SetKind.TheVariants.{Extents, Children}
use Rattle.bc_uuid.specs.Table.{WritesTable}
use Rattle.bc_uuid.specs.declared.entry.UuidEntry.{UuidEntry}
use Rattle.bc_pair.specs.Found.{IsJournalSector}
use Rattle.bc_pair.specs.Records.{IsEntryBlock, IsNodeAt, IsNodeBytes, IsNodeSector, IsRecordSector, IsTableAt, journal_start}
use Rattle.bc_pair.specs.Runs.{run_of}
use Rattle.bc_pair.specs.Steps.{Wrote}
use Rattle.bc_pair.proofs.Writes.{wrote_more, wrote_one}

-- what isn't written over stays zero
zero_rest : (many from : ℕ) (blank into : List ℕ) → blank ≡ replicate many 0 → SameOutside from blank into 0 → slice_range into from many ≡ replicate (many - from) 0
zero_rest many from blank into is same =
    same.parts from many (inr (omega arith)) ∙ ap (λ (bs : List ℕ). take (many - from) (drop from bs)) is
    ∙ ap (take (many - from)) (drop-replicate from many 0) ∙ take-replicate (many - from) (many - from) 0 (omega arith)

pub entry_block : (g : Geometry) (e : JEntry) (blank into : List ℕ) → blank ≡ replicate (512 * g.block) 0 → length into ≡ length blank → e.keys ≡ [] → ((rest : List ℕ) → IsEntry g.set_magic (take (bytes_of e) into ++ rest) e) → IsPlain into e
    → SameOutside (bytes_of e) blank into 0 → IsEntryBlock g e into
entry_block g e blank into is long none written plain same =
    let size : bytes_of e ≡ 240 = ap (λ (keys : List Key). 240 + 8 * length (words_of_all keys)) none in
    record {
      whole = long ∙ ap (λ (bs : List ℕ). length bs) is ∙ length-replicate {A = ℕ} (512 * g.block) 0;
      entry = subst (λ (bs : List ℕ). IsEntry g.set_magic bs e) (take-append-drop (bytes_of e) into) (written (drop (bytes_of e) into));
      plain = plain;
      rest = zero_rest (512 * g.block) 240 blank into is (subst (λ n. SameOutside n blank into 0) size same);
    }

pub node_bytes : (g : Geometry) (bucket at : ℕ) (kind : SetKind) (s : Set) (blank into : List ℕ) → at ≡ g.bucket * bucket → blank ≡ replicate (512 * g.node_sectors) 0 → length into ≡ length blank
    → ((rest : List ℕ) → sets.IsSet (256 * at) g.set_magic kind (take (sets.bytes_of s) into ++ rest) s) → sets.words_in into ≡ words_of_all s.keys → SameOutside (sets.bytes_of s) blank into 0 → IsNodeBytes g bucket kind s into
node_bytes g bucket at kind s blank into place is long written words same = record {
  whole = long ∙ ap (λ (bs : List ℕ). length bs) is ∙ length-replicate {A = ℕ} (512 * g.node_sectors) 0;
  set =
      subst (λ n. sets.IsSet (256 * n) g.set_magic kind into s) place
      (subst (λ (bs : List ℕ). sets.IsSet (256 * at) g.set_magic kind bs s) (take-append-drop (sets.bytes_of s) into) (written (drop (sets.bytes_of s) into)));
  words = words;
  rest = zero_rest (512 * g.node_sectors) (sets.bytes_of s) blank into is same;
}

-- ---- keys of nodes

pub root_few : (key : Key) (keys : List Key) → key.count ≡ 1 → keys ≡ key ∷ [] → length (words_of_all keys) ≤ 8
root_few key keys one is =
    let long : length (words_of_all (key ∷ [])) ≡ 2 + key.count = ap (λ (ws : List ℕ). length ws) (append-nil (words_of key)) ∙ length-words_of key in
    let same : length (words_of_all keys) ≡ length (words_of_all (key ∷ [])) = ap (λ (ks : List Key). length (words_of_all ks)) is in
    omega (arith, long, same, one)

pub root_keys : (key : Key) (keys : List Key) → keys ≡ key ∷ [] → AreSetKeys Children keys
root_keys key keys is = subst (λ (ks : List Key). AreSetKeys Children ks) (sym is) (record { each = tt; order = λ i j d less small. absurd (omega arith) })

pub leaf_keys : (keys : List Key) → keys ≡ [] → AreSetKeys Extents keys
leaf_keys keys is = subst (λ (ks : List Key). AreSetKeys Extents ks) (sym is) (record { each = λ i d small. absurd (omega arith); order = λ i j d less small. absurd (omega arith) })

-- ---- where they stand

pub entry_inside : (g : Geometry) (bytes : List ℕ) → length bytes ≡ 512 * g.block → 0 < g.journal → (s : ℕ) → journal_start g ≤ s → s < journal_start g + length (values_of bytes) → IsJournalSector g s
entry_inside g bytes whole some s low high =
    let long : length (values_of bytes) ≡ g.block = length_values_of bytes ∙ omega arith in
    let small = block_small g in
    let wide = g.bucket_from in
    let up : g.bucket * (g.first_bucket + 1) ≤ g.bucket * (g.first_bucket + g.journal) = mul-le-mul_left g.bucket (omega arith) in
    (low, omega (arith, mul-add g.bucket g.first_bucket 1))

pub journal_inside : (g : Geometry) (s : ℕ) → IsJournalSector g s → IsRecordSector g s
journal_inside g s journal =
    let up : g.bucket * (g.first_bucket + g.journal) ≤ g.bucket * root_bucket g = mul-le-mul_left g.bucket (omega arith) in
    inl (journal.0, omega (arith, journal.1))

pub chain_inside : (g : Geometry) (many s : ℕ) → first_set g + many ≤ root_bucket g → g.bucket * first_set g ≤ s → s < g.bucket * (first_set g + many) → IsRecordSector g s
chain_inside g many s few low high =
    let down : g.bucket * g.first_bucket ≤ g.bucket * first_set g = mul-le-mul_left g.bucket (omega arith) in
    let up : g.bucket * (first_set g + many) ≤ g.bucket * root_bucket g = mul-le-mul_left g.bucket few in
    inl (omega arith, omega arith)

table_inside : (g : Geometry) (bytes : List ℕ) → length bytes ≡ 512 * g.bucket → (s : ℕ) → g.bucket * table_bucket g ≤ s → s < g.bucket * table_bucket g + length (values_of bytes) → IsRecordSector g s
table_inside g bytes whole s low high =
    let long : length (values_of bytes) ≡ g.bucket = length_values_of bytes ∙ omega arith in
    let down : g.bucket * g.first_bucket ≤ g.bucket * table_bucket g = mul-le-mul_left g.bucket (omega arith) in
    inl (omega arith, omega (arith, mul-add g.bucket (table_bucket g) 1))

pub node_inside : (g : Geometry) (bucket : ℕ) (bytes : List ℕ) → length bytes ≡ 512 * g.node_sectors → (s : ℕ) → g.bucket * bucket ≤ s → s < g.bucket * bucket + length (values_of bytes) → IsNodeSector g bucket s
node_inside g bucket bytes whole s low high =
    let long : length (values_of bytes) ≡ g.node_sectors = length_values_of bytes ∙ omega arith in
    (low, omega arith)

-- ---- the table

pub table_wrote : (g : Geometry) (bucket : ℕ) (entries : List UuidEntry) (r : Result (Unit {0}) Failed) (old new : DiskFacts) → bucket ≡ table_bucket g → WritesTable g bucket entries r old new → Wrote (IsRecordSector g) 1 (IsTableAt g entries) r old new
table_wrote g bucket entries r old new is w =
    wrote_one (IsRecordSector g) (IsTableAt g entries) (g.bucket * bucket) (g.bucket * table_bucket g) w.bytes (ap (λ n. g.bucket * n) is) (table_inside g w.bytes w.whole)
    (w.bytes, record { whole = w.whole; written = w.holds }, refl) r old new w.ok w.failed w.counted

-- ---- the nodes

pub root_wrote : (g : Geometry) (bucket : ℕ) (kind : SetKind) (s : Set) (r : Result (Unit {0}) Failed) (old new : DiskFacts) → bucket ≡ root_bucket g → Wrote (IsNodeSector g bucket) 1 (IsNodeAt g bucket kind s) r old new
    → Wrote (IsRecordSector g) 1 (IsNodeAt g (root_bucket g) kind s) r old new
root_wrote g bucket kind s r old new is wrote =
    wrote_more (IsNodeSector g (root_bucket g)) (IsRecordSector g) (λ s in_it. inr (inl in_it)) 1 (IsNodeAt g (root_bucket g) kind s) r old new
    (subst (λ n. Wrote (IsNodeSector g n) 1 (IsNodeAt g n kind s) r old new) is wrote)

pub leaf_wrote : (g : Geometry) (bucket : ℕ) (kind : SetKind) (s : Set) (r : Result (Unit {0}) Failed) (old new : DiskFacts) → bucket ≡ leaf_bucket g → Wrote (IsNodeSector g bucket) 1 (IsNodeAt g bucket kind s) r old new
    → Wrote (IsRecordSector g) 1 (IsNodeAt g (leaf_bucket g) kind s) r old new
leaf_wrote g bucket kind s r old new is wrote =
    wrote_more (IsNodeSector g (leaf_bucket g)) (IsRecordSector g) (λ s in_it. inr (inr in_it)) 1 (IsNodeAt g (leaf_bucket g) kind s) r old new
    (subst (λ n. Wrote (IsNodeSector g n) 1 (IsNodeAt g n kind s) r old new) is wrote)
