-- What a device holds over which the records were written.
use Rattle.std.proofs.Common.{◌≡◌, ◌≢◌, ◌⊎◌, inl, inr, ℕ, zero, suc, ◌+◌, ◌-◌, ◌*◌, ◌^◌, ◌<◌, ◌≤◌, List, [], ◌∷◌, ◌++◌, length, take, drop, replicate, length-drop, refl, sym, subst, ap, ◌∙◌, arith}
use Rattle.std.proofs.Math.Nat.{mul-add, mul-le-mul_left}
use Rattle.std.proofs.Common.{mul-le-mul}
use Rattle.std.proofs.lemmas.List.{drop-drop, drop-replicate, take_all, take-replicate}
use Rattle.std.specs.Prelude.{Option, Some, None, slice_index_or, slice_range, AllPairs, ◌/◌}
use Rattle.bc_model.specs.Sector.{Value, Image, Gives, at_run, unless, values_of}
use Rattle.bc_model.specs.Pattern as pattern
use Rattle.bc_model.proofs.Runs.{at_miss, at_range}
use Rattle.bc_model.proofs.Sectors.{length_values_of, values_whole}
use Rattle.bc_disk.specs.Bytes.{image_of}
use Rattle.bc_disk.proofs.Sectors.{at_run-sectors}
use Rattle.bc_disk.specs.declared.geometry.Geometry.{Geometry}
use Rattle.bc_disk.specs.declared.gens.BucketRecord.{BucketRecord}
use Rattle.bc_image.specs.Formatted.{AreBlank, first_set, leaf_bucket, root_bucket, table_bucket}
use Rattle.bc_jset.specs.declared.entry.JEntry.{JEntry}
use Rattle.bc_disk.specs.Chain.{sets_in_chain}
use Rattle.std.proofs.lemmas.Bool.{cases_lt}
use Rattle.bc_record.specs.Sectors.{Has}
use Rattle.bc_record.proofs.Blocks.{block_small}
use Rattle.bc_set.specs.declared.set.Set.{Set}
use Rattle.bc_set.specs.declared.set.SetKind.TheVariants.{Extents, Children}
use Rattle.bc_uuid.specs.declared.entry.UuidEntry.{UuidEntry}
use Rattle.bc_pair.specs.declared.records.Records.{Records}
use Rattle.bc_pair.specs.Made.{IsWrittenSector}
use Rattle.bc_pair.specs.Records.{AreChainSets, AreWrites, IsEntryBlock, IsNodeBytes, IsTableBucket, chain_runs, journal_start}
use Rattle.bc_pair.specs.Runs.{Run, over, run_of, written_over, zeros}
use Rattle.bc_pair.proofs.Runs.{at_zeros, length_zeros}
use Rattle.bc_pair.proofs.Writes.{written_behind}

-- the bytes of all records
pub record Parts (g : Geometry) (r : Records) (runs : List Run) : Type 0 where
  pub entry : List ℕ
  pub is_entry : IsEntryBlock g r.entry entry
  pub sets : List (List ℕ)
  pub many : length sets ≡ sets_in_chain g
  pub are_sets : AreChainSets g r.gens.records 0 (first_set g) sets
  pub table : List ℕ
  pub is_table : IsTableBucket g r.table table
  pub root : List ℕ
  pub is_root : IsNodeBytes g (root_bucket g) Children r.root root
  pub leaf : List ℕ
  pub is_leaf : IsNodeBytes g (leaf_bucket g) Extents r.leaf leaf
  pub are : runs ≡ record { at = journal_start g; values = zeros (g.bucket * g.journal) } ∷ run_of (journal_start g) entry
      ∷ (chain_runs g (first_set g) sets ++ run_of (g.bucket * table_bucket g) table ∷ run_of (g.bucket * root_bucket g) root ∷ run_of (g.bucket * leaf_bucket g) leaf ∷ [])

pub parts_of : (g : Geometry) (r : Records) (runs : List Run) → AreWrites g r runs → Parts g r runs
parts_of g r runs (xs, ys, (js, cs, (zs, es, zeroed, (entry, is_entry, has_es), has_js), (sets, many, are_sets, has_cs), has_xs), (ts, ns, (table, is_table, has_ts), (rs, ls, (root, is_root, has_rs), (leaf, is_leaf, has_ls), has_ns), has_ys), has) =
    let zr : List Run = record { at = journal_start g; values = zeros (g.bucket * g.journal) } ∷ [] in
    let er : List Run = run_of (journal_start g) entry ∷ [] in
    let chain = chain_runs g (first_set g) sets in
    let tr : List Run = run_of (g.bucket * table_bucket g) table ∷ [] in
    let rr : List Run = run_of (g.bucket * root_bucket g) root ∷ [] in
    record {
      entry = entry;
      is_entry = is_entry;
      sets = sets;
      many = many;
      are_sets = are_sets;
      table = table;
      is_table = is_table;
      root = root;
      is_root = is_root;
      leaf = leaf;
      is_leaf = is_leaf;
      are =
          has ∙ ap (λ (q : List Run). q ++ ys) has_xs ∙ ap (λ (q : List Run). (js ++ cs) ++ q) has_ys ∙ ap (λ (q : List Run). (q ++ cs) ++ (ts ++ ns)) has_js
          ∙ ap (λ (q : List Run). ((q ++ es) ++ cs) ++ (ts ++ ns)) zeroed ∙ ap (λ (q : List Run). ((zr ++ q) ++ cs) ++ (ts ++ ns)) has_es
          ∙ ap (λ (q : List Run). ((zr ++ er) ++ q) ++ (ts ++ ns)) has_cs ∙ ap (λ (q : List Run). ((zr ++ er) ++ chain) ++ (q ++ ns)) has_ts
          ∙ ap (λ (q : List Run). ((zr ++ er) ++ chain) ++ (tr ++ q)) has_ns ∙ ap (λ (q : List Run). ((zr ++ er) ++ chain) ++ (tr ++ (q ++ ls))) has_rs
          ∙ ap (λ (q : List Run). ((zr ++ er) ++ chain) ++ (tr ++ (rr ++ q))) has_ls;
    }

missed : (at : ℕ) (vs : List Value) (image : Image) (s : ℕ) → ((at ≤ s) × (s < at + length vs) → ⊥) → over at vs image s ≡ image s
missed at vs image s out = ap (λ (o : Option Value). unless o (image s)) (at_miss at vs s out)

-- sectors before or behind those of a chain aren't written with it
pub chain_missed : (g : Geometry) (records : List BucketRecord) (part bucket : ℕ) (sets : List (List ℕ)) (image : Image) (s : ℕ) → AreChainSets g records part bucket sets
    → (s < g.bucket * bucket) ⊎ (g.bucket * (bucket + length sets) ≤ s) → written_over (chain_runs g bucket sets) image s ≡ image s
chain_missed g records part bucket [] image s are out = refl
chain_missed g records part bucket (bytes ∷ sets) image s are out =
    let long : length (values_of bytes) ≡ g.bucket = length_values_of bytes ∙ omega (arith, are.0.whole) in
    let next : g.bucket * suc bucket ≡ g.bucket * bucket + g.bucket = omega arith in
    let all : g.bucket * (bucket + suc (length sets)) ≡ g.bucket * bucket + g.bucket + g.bucket * length sets = omega (arith, mul-add g.bucket bucket (suc (length sets))) in
    let rest : g.bucket * (suc bucket + length sets) ≡ g.bucket * bucket + g.bucket + g.bucket * length sets = omega (arith, mul-add g.bucket (suc bucket) (length sets)) in
    let behind : (s < g.bucket * suc bucket) ⊎ (g.bucket * (suc bucket + length sets) ≤ s) = elim out [ inl low ↦ inl (omega arith) | inr high ↦ inr (omega arith) ] in
    chain_missed g records (suc part) (suc bucket) sets (over (g.bucket * bucket) (values_of bytes) image) s are.1 behind
    ∙ missed (g.bucket * bucket) (values_of bytes) image s (λ inside. elim out [ inl low ↦ omega arith | inr high ↦ omega arith ])

-- ---- the sectors of bytes that end in zeros

sector_zero : (bytes : List ℕ) (n from k : ℕ) → length bytes ≡ 512 * n → slice_range bytes from (512 * n) ≡ replicate (512 * n - from) 0 → from ≤ 512 * k → k < n → image_of bytes k ≡ replicate 512 0
sector_zero bytes n from k whole rest low high =
    let tail : drop from bytes ≡ replicate (512 * n - from) 0 = sym (take_all (512 * n - from) (drop from bytes) (omega (arith, length-drop from bytes, whole))) ∙ rest in
    let sum : from + (512 * k - from) ≡ 512 * k = omega arith in
    let here : drop (512 * k) bytes ≡ replicate (512 * n - from - (512 * k - from)) 0 =
    ap (λ m. drop m bytes) (sym sum) ∙ sym (drop-drop (512 * k - from) from bytes) ∙ ap (λ (bs : List ℕ). drop (512 * k - from) bs) tail ∙ drop-replicate (512 * k - from) (512 * n - from) 0 in
    ap (λ (bs : List ℕ). take 512 bs) here ∙ take-replicate 512 (512 * n - from - (512 * k - from)) 0 (omega arith)

-- so the sectors behind the first bytes of a record are blank where the image has them
pub blank_behind : (image : Image) (place n from skip : ℕ) (bytes : List ℕ) → length bytes ≡ 512 * n → Has image place (values_of bytes) → slice_range bytes from (512 * n) ≡ replicate (512 * n - from) 0 → from ≤ 512 * skip
    → AreBlank image (place + skip) (place + n)
unfolding pattern.zeros
blank_behind image place n from skip bytes whole has rest enough = λ s low up.
    let k = s - place in
    let here : s ≡ place + k = omega arith in
    let given = ap (λ (vs : List Value). at_run place vs s) (values_whole n bytes whole) ∙ at_run-sectors place n k s bytes (omega arith) here in
    sym (has s (image_of bytes k) given) ∙ sector_zero bytes n from k whole rest (omega arith) (omega arith)

module _ (g : Geometry) (r : Records) (runs : List Run) (p : Parts g r runs) (super : List ℕ) (five : length super ≡ 2560) (a z : Image) (is : (s : ℕ) → z s ≡ over 8 (values_of super) (written_over runs a) s) where
  at_first : g.bucket * first_set g ≡ g.bucket * g.first_bucket + g.bucket * g.journal
  at_first = mul-add g.bucket g.first_bucket g.journal

  at_table : g.bucket * table_bucket g ≡ g.bucket * first_set g + g.bucket * sets_in_chain g
  at_table = mul-add g.bucket (first_set g) (sets_in_chain g)

  at_root : g.bucket * root_bucket g ≡ g.bucket * table_bucket g + g.bucket
  at_root = omega (arith, mul-add g.bucket (table_bucket g) 1)

  at_leaf : g.bucket * leaf_bucket g ≡ g.bucket * root_bucket g + g.bucket
  at_leaf = omega (arith, mul-add g.bucket (root_bucket g) 1)

  high : 64 ≤ g.bucket * g.first_bucket
  high = let low : 64 * 1 ≤ g.bucket * g.first_bucket = mul-le-mul g.bucket_from g.first_behind_super in omega arith

  node_fits : g.node_sectors ≤ g.bucket
  node_fits = omega (arith, g.node_is_one)

  abbrev pub front : Image
  front = over (journal_start g) (values_of p.entry) (over (journal_start g) (zeros (g.bucket * g.journal)) a)

  abbrev pub with_chain : Image
  with_chain = written_over (chain_runs g (first_set g) p.sets) front

  abbrev with_table : Image
  with_table = over (g.bucket * table_bucket g) (values_of p.table) with_chain

  abbrev with_root : Image
  with_root = over (g.bucket * root_bucket g) (values_of p.root) with_table

  abbrev with_leaf : Image
  with_leaf = over (g.bucket * leaf_bucket g) (values_of p.leaf) with_root

  whole : (s : ℕ) → z s ≡ over 8 (values_of super) with_leaf s
  whole s =
      is s ∙ ap (λ (rs : List Run). unless (at_run 8 (values_of super) s) (written_over rs a s)) p.are
      ∙ ap (λ (v : Value). unless (at_run 8 (values_of super) s) v)
      (written_behind (chain_runs g (first_set g) p.sets) (run_of (g.bucket * table_bucket g) p.table ∷ run_of (g.bucket * root_bucket g) p.root ∷ run_of (g.bucket * leaf_bucket g) p.leaf ∷ []) front s)

  long_leaf : length (values_of p.leaf) ≡ g.node_sectors
  long_leaf = length_values_of p.leaf ∙ omega (arith, p.is_leaf.whole)

  long_root : length (values_of p.root) ≡ g.node_sectors
  long_root = length_values_of p.root ∙ omega (arith, p.is_root.whole)

  long_table : length (values_of p.table) ≡ g.bucket
  long_table = length_values_of p.table ∙ omega (arith, p.is_table.whole)

  long_entry : length (values_of p.entry) ≡ g.block
  long_entry = length_values_of p.entry ∙ omega (arith, p.is_entry.whole)

  -- the superblock
  pub has_super : Has z 8 (values_of super)
  has_super = λ s v given. sym (whole s ∙ ap (λ (o : Option Value). unless o (with_leaf s)) given)

  by_leaf : (s : ℕ) → 64 ≤ s → z s ≡ with_leaf s
  by_leaf s low =
      let long : length (values_of super) ≡ 5 = length_values_of super ∙ omega arith in
      whole s ∙ missed 8 (values_of super) with_leaf s (λ inside. omega (arith, inside.1))

  by_root : (s : ℕ) → 64 ≤ s → s < g.bucket * leaf_bucket g → z s ≡ with_root s
  by_root s low up = by_leaf s low ∙ missed (g.bucket * leaf_bucket g) (values_of p.leaf) with_root s (λ inside. omega (arith, inside.0))

  by_table : (s : ℕ) → 64 ≤ s → s < g.bucket * root_bucket g → z s ≡ with_table s
  by_table s low up = by_root s low (omega (arith, at_leaf)) ∙ missed (g.bucket * root_bucket g) (values_of p.root) with_table s (λ inside. omega (arith, inside.0))

  pub by_chain : (s : ℕ) → 64 ≤ s → s < g.bucket * table_bucket g → z s ≡ with_chain s
  by_chain s low up = by_table s low (omega (arith, at_root)) ∙ missed (g.bucket * table_bucket g) (values_of p.table) with_chain s (λ inside. omega (arith, inside.0))

  by_front : (s : ℕ) → 64 ≤ s → s < g.bucket * first_set g → z s ≡ front s
  by_front s low up = by_chain s low (omega (arith, at_table)) ∙ chain_missed g r.gens.records 0 (first_set g) p.sets front s p.are_sets (inl up)

  pub has_leaf : Has z (g.bucket * leaf_bucket g) (values_of p.leaf)
  has_leaf = λ s v given.
      let range = at_range (g.bucket * leaf_bucket g) (values_of p.leaf) s v given in
      sym (by_leaf s (omega (arith, range.0, at_leaf, at_root, at_table, at_first, high)) ∙ ap (λ (o : Option Value). unless o (with_root s)) given)

  pub has_root : Has z (g.bucket * root_bucket g) (values_of p.root)
  has_root = λ s v given.
      let range = at_range (g.bucket * root_bucket g) (values_of p.root) s v given in
      sym (by_root s (omega (arith, range.0, at_root, at_table, at_first, high)) (omega (arith, range.1, long_root, node_fits, at_leaf)) ∙ ap (λ (o : Option Value). unless o (with_table s)) given)

  pub has_table : Has z (g.bucket * table_bucket g) (values_of p.table)
  has_table = λ s v given.
      let range = at_range (g.bucket * table_bucket g) (values_of p.table) s v given in
      sym (by_table s (omega (arith, range.0, at_table, at_first, high)) (omega (arith, range.1, long_table, at_root)) ∙ ap (λ (o : Option Value). unless o (with_chain s)) given)

  pub has_entry : g.block ≤ g.bucket * g.journal → Has z (journal_start g) (values_of p.entry)
  has_entry room = λ s v given.
      let range = at_range (journal_start g) (values_of p.entry) s v given in
      sym (by_front s (omega (arith, range.0, high)) (omega (arith, range.1, long_entry, at_first, room)) ∙ ap (λ (o : Option Value). unless o (over (journal_start g) (zeros (g.bucket * g.journal)) a s)) given)

  pub journal_blank : AreBlank z (journal_start g + g.block) (g.bucket * first_set g)
  unfolding pattern.zeros
  journal_blank = λ s low up.
      by_front s (omega (arith, high)) up
      ∙ missed (journal_start g) (values_of p.entry) (over (journal_start g) (zeros (g.bucket * g.journal)) a) s (λ inside. omega (arith, inside.1, long_entry))
      ∙ ap (λ (o : Option Value). unless o (a s)) (at_zeros (journal_start g) (g.bucket * g.journal) s (omega arith) (omega (arith, at_first)))

  -- no other sector was written
  pub others_kept : (s : ℕ) → (IsWrittenSector g s → ⊥) → z s ≡ a s
  others_kept s out =
      let long : length (values_of super) ≡ 5 = length_values_of super ∙ omega arith in
      let none = length_zeros (g.bucket * g.journal) in
      let behind : (s < g.bucket * first_set g) ⊎ (g.bucket * (first_set g + length p.sets) ≤ s) =
      elim (cases_lt s (g.bucket * first_set g)) [
        | inl low ↦ inl low
        | inr up ↦ elim (cases_lt s (g.bucket * root_bucket g)) [
          | inl inside ↦ absurd (out (inr (inl (omega (arith, at_first), inside))))
          | inr past ↦ inr (omega (arith, mul-add g.bucket (first_set g) (length p.sets), at_root, at_table, ap (λ n. g.bucket * n) p.many))
        ]
      ] in
      whole s
      ∙ missed 8 (values_of super) with_leaf s (λ inside. out (inl (inside.0, omega (arith, inside.1))))
      ∙ missed (g.bucket * leaf_bucket g) (values_of p.leaf) with_root s (λ inside. out (inr (inr (inr (inside.0, omega (arith, inside.1, long_leaf))))))
      ∙ missed (g.bucket * root_bucket g) (values_of p.root) with_table s (λ inside. out (inr (inr (inl (inside.0, omega (arith, inside.1, long_root))))))
      ∙ missed (g.bucket * table_bucket g) (values_of p.table) with_chain s (λ inside. out (inr (inl (omega (arith, inside.0, at_table, at_first), omega (arith, inside.1, long_table, at_root)))))
      ∙ chain_missed g r.gens.records 0 (first_set g) p.sets front s p.are_sets behind
      ∙ missed (journal_start g) (values_of p.entry) (over (journal_start g) (zeros (g.bucket * g.journal)) a) s (λ inside. out (inr (inl (inside.0, omega (arith, inside.1, long_entry, block_small g, g.bucket_from, at_root, at_table, at_first)))))
      ∙ missed (journal_start g) (zeros (g.bucket * g.journal)) a s (λ inside. out (inr (inl (inside.0, omega (arith, inside.1, none, at_root, at_table, at_first)))))
