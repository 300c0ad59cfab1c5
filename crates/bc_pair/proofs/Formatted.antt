-- A pair that was made is formatted.
use Rattle.std.proofs.Common.{◌≡◌, ◌≢◌, ◌↔◌, inl, inr, ℕ, zero, suc, ◌+◌, ◌-◌, ◌*◌, ◌^◌, ◌<◌, ◌≤◌, List, [], ◌∷◌, ◌++◌, length, take, drop, replicate, refl, sym, subst, ap, ◌∙◌, arith}
use Rattle.std.proofs.Math.Nat.{mul-add, mul-le-mul_left}
use Rattle.std.proofs.Math.Seq.{take-append_seam}
use Rattle.std.specs.Prelude.{AllPairs, Option, Some, None, slice_index_or, slice_range, ◌/◌}
use Rattle.bc_model.specs.Sector.{Value, Image, Gives, at_run, unless, values_of}
use Rattle.bc_model.proofs.Runs.{at_miss, at_range}
use Rattle.bc_model.proofs.Sectors.{length_values_of, one_sector}
use Rattle.bc_disk.specs.Disk.{DiskFacts, IfTold, BothTold, Overwritten}
use Rattle.bc_disk.specs.declared.geometry.Geometry.{Geometry}
use Rattle.bc_disk.specs.declared.gens.BucketRecord.{BucketRecord}
use Rattle.bc_image.specs.Formatted.{AreBlank, HasFirstEntry, HasOneSet, IsDivided, IsFormatted, IsKeyTo, first_set, leaf_bucket, root_bucket, table_bucket}
use Rattle.bc_image.specs.Pair.{HasBacking, HasCache, Pair, super_bytes}
use Rattle.bc_image.specs.Tree.{kind_at}
use Rattle.bc_jset.specs.Entries.{bucket_end, bucket_start}
use Rattle.bc_jset.specs.EntryBytes as entry_bytes_of
use Rattle.bc_jset.specs.Records.{EntryFound, entry_kind, entry_sectors}
use Rattle.bc_jset.proofs.Records.{entry_codec}
use Rattle.bc_jset.specs.declared.entry.JEntry.{JEntry}
use Rattle.bc_key.specs.declared.key.Key.{Key}
use Rattle.bc_key.specs.Key.{ptr_at}
use Rattle.bc_key.specs.Words.{ptr_word}
use Rattle.bc_prio.specs.Chain.{IsPlace}
use Rattle.bc_prio.specs.Records.{ChainIn, LeadIn}
use Rattle.bc_prio.specs.Records as prio
use Rattle.bc_prio.specs.Set.{HasCount, next_in}
use Rattle.bc_disk.specs.Chain.{sets_in_chain}
use Rattle.bc_prio.proofs.Found.{set_reads_back}
use Rattle.bc_record.specs.Sectors.{Has, bytes_in, sector_bytes}
use Rattle.bc_record.proofs.Blocks.{block_small, block_some, blocks_hold}
use Rattle.bc_record.proofs.Found.{reads_back, takes_some}
use Rattle.bc_record.proofs.Parts.{bytes_in-has, length-sector_bytes, sector_of_whole}
use Rattle.bc_set.specs.Records.{SetFound, set_kind, set_sectors}
use Rattle.bc_set.specs.SetBytes as set_bytes
use Rattle.bc_set.proofs.Records.{set_codec}
use Rattle.bc_set.specs.declared.set.Set.{Set}
use Rattle.bc_set.specs.declared.set.SetKind.{SetKind}
use Rattle.bc_set.specs.declared.set.SetKind.TheVariants.{Extents, Children}
use Rattle.bc_super.specs.Cache.{IsCacheSuper, IsUsableCache}
use Rattle.bc_super.specs.Division.{IsGeometryOf}
use Rattle.bc_super.specs.Writing.{IsBackingSector, IsBackingStored, IsCacheBytes}
use Rattle.bc_super.specs.Super.{IsBackingSuper, IsUsable}
use Rattle.bc_super.proofs.Sectors.{large, written_again}
use Rattle.bc_super.specs.Cache.{cache_of}
use Rattle.bc_super.specs.declared.fields.Fields.{Fields}
use Rattle.bc_super.specs.declared.backing.BackingSuper.{BackingSuper}
use Rattle.bc_super.specs.declared.cache.CacheSuper.{CacheSuper}
use Rattle.bc_uuid.specs.Table.{TableIn, HoldsEntries, entry_bytes}
use Rattle.bc_uuid.proofs.Unique.{timeless_says}
use Rattle.bc_uuid.specs.declared.entry.UuidEntry.{UuidEntry}
use Rattle.bc_pair.specs.declared.records.Records.{Records}
use Rattle.bc_pair.specs.Made.{IsMadeCache, IsMadeImage}
use Rattle.bc_pair.specs.Found.{OfEachPair, pair_of}
use Rattle.bc_pair.specs.Records.{AreBuckets, AreChainSets, AreNew, IsEntryBlock, IsFirstEntry, IsNodeBytes, IsTableBucket, IsTableOf, chain_runs, journal_start, next_bucket}
use Rattle.bc_pair.specs.Runs.{over, run_of, written_over}
use Rattle.bc_pair.proofs.Stands.{blank_behind, by_chain, front, chain_missed, has_entry, has_leaf, has_root, has_super, has_table, journal_blank, parts_of}

-- ---- entry 1

at_least : (block q : ℕ) → 0 < block * q → block ≤ block * q
at_least block zero some = absurd (omega arith)
at_least block (suc q) some = omega arith

entry_found : (g : Geometry) (image : Image) (e : JEntry) (bytes : List ℕ) → IsFirstEntry g e → IsEntryBlock g e bytes → Has image (journal_start g) (values_of bytes) → AreBlank image (journal_start g + g.block) (g.bucket * first_set g)
    → HasFirstEntry g image e
entry_found g image e bytes first is has blank =
    let start : bucket_start g 0 ≡ journal_start g = let none : g.first_bucket + 0 ≡ g.first_bucket = omega arith in ap (λ n. g.bucket * n) none in
    let small = block_small g in
    let wide = g.bucket_from in
    let found : EntryFound g image (journal_start g + g.bucket) (journal_start g) e =
    reads_back (entry_kind g) (entry_codec g) image (journal_start g + g.bucket) (journal_start g) g.block bytes e is.whole is.entry has (omega arith) in
    let more : g.block ≤ entry_sectors g e = at_least g.block ((entry_bytes_of.bytes_of e + (512 * g.block - 1)) / (512 * g.block)) (takes_some (entry_kind g) (entry_codec g) e) in
    record {
      stands = subst (λ n. EntryFound g image (n + g.bucket) n e) (sym start) found;
      blank = λ s low up. blank s (omega (arith, low, start, more)) up;
      seq = first.seq;
      last_seq = first.last_seq;
      level = first.level;
      prio = first.prio;
      uuid_bucket = first.uuid_bucket.leads;
      root = first.root.leads;
      keys = first.keys;
    }

-- ---- nodes

node_found : (g : Geometry) (image : Image) (bucket level end size : ℕ) (key : Key) (s : Set) (bytes : List ℕ) → IsKeyTo g bucket end size key → IsNodeBytes g bucket (kind_at level) s bytes → Has image (g.bucket * bucket) (values_of bytes)
    → HasOneSet g image level key s
node_found g image bucket level end size key s bytes leads is has =
    let place = leads.offset in
    let start : ptr_word (ptr_at key 0) ≡ 2 ^ 8 * (g.bucket * bucket) = omega (arith, leads.device, leads.offset, leads.generation) in
    let kind = kind_at level in
    let found : SetFound g (2 ^ 8 * (g.bucket * bucket)) kind image (g.bucket * bucket + g.node_sectors) (g.bucket * bucket) s =
    reads_back (set_kind g (2 ^ 8 * (g.bucket * bucket)) kind) (set_codec g (2 ^ 8 * (g.bucket * bucket)) kind) image (g.bucket * bucket + g.node_sectors) (g.bucket * bucket) g.node_sectors bytes s is.whole is.set has (omega arith) in
    let hold = blocks_hold g.block (set_bytes.bytes_of s) (block_some g) in
    let blank = blank_behind image (g.bucket * bucket) g.node_sectors (set_bytes.bytes_of s) (set_sectors g s) bytes is.whole has is.rest hold in
    record {
      stands = subst (λ n. SetFound g n kind image ((ptr_at key 0).offset + g.node_sectors) (ptr_at key 0).offset s) (sym start)
          (subst (λ n. SetFound g (2 ^ 8 * (g.bucket * bucket)) kind image (n + g.node_sectors) n s) (sym place) found);
      blank = subst (λ n. AreBlank image (n + set_sectors g s) (n + g.node_sectors)) (sym place) blank;
    }

-- ---- the chain

-- where sets begin, or 0 where there are none
abbrev lead_from : ℕ → List (List ℕ) → ℕ
lead_from bucket [] = 0
lead_from bucket (bytes ∷ sets) = bucket

next_leads : (bucket : ℕ) (sets : List (List ℕ)) → next_bucket bucket sets ≡ lead_from (suc bucket) sets
next_leads bucket [] = refl
next_leads bucket (bytes ∷ sets) = refl

counts_ok : (g : Geometry) (part bucket : ℕ) (sets : List (List ℕ)) (bytes : List ℕ) → next_in bytes ≡ next_bucket bucket sets → part + suc (length sets) ≡ sets_in_chain g → HasCount g part bytes
counts_ok g part bucket [] bytes names all = (λ last. omega (arith, all), λ last. names)
counts_ok g part bucket (more ∷ sets) bytes names all = (λ none. absurd (omega (arith, names, none)), λ last. absurd (omega (arith, all, last)))

-- the sets of a chain stand where it was written
sets_found : (g : Geometry) (image over_it : Image) (records : List BucketRecord) (part bucket from : ℕ) (sets : List (List ℕ)) (chain : List ℕ) → AreChainSets g records part bucket sets → length chain ≡ length sets
    → ((k d : ℕ) → k < length sets → slice_index_or chain k d ≡ bucket + k) → part + length sets ≡ sets_in_chain g → first_set g ≤ bucket → bucket + length sets ≤ g.nbuckets
    → ((s : ℕ) → g.bucket * bucket ≤ s → s < g.bucket * (bucket + length sets) → image s ≡ written_over (chain_runs g bucket sets) over_it s)
    → from ≡ lead_from bucket sets → LeadIn g image records part from chain 0
sets_found g image over_it records part bucket from [] [] are same buckets all low up is begins = begins
sets_found g image over_it records part bucket from [] (at ∷ chain) are same buckets all low up is begins = absurd (omega arith)
sets_found g image over_it records part bucket from (bytes ∷ sets) [] are same buckets all low up is begins = absurd (omega arith)
sets_found g image over_it records part bucket from (bytes ∷ sets) (at ∷ chain) are same buckets all low up is begins =
    let here : at ≡ bucket = buckets 0 0 (omega arith) ∙ omega arith in
    let next : g.bucket * suc bucket ≡ g.bucket * bucket + g.bucket = omega arith in
    let end : g.bucket * (bucket + suc (length sets)) ≡ g.bucket * bucket + g.bucket + g.bucket * length sets = omega (arith, mul-add g.bucket bucket (suc (length sets))) in
    let end_too : g.bucket * (suc bucket + length sets) ≡ g.bucket * bucket + g.bucket + g.bucket * length sets = omega (arith, mul-add g.bucket (suc bucket) (length sets)) in
    let long : length (values_of bytes) ≡ g.bucket = length_values_of bytes ∙ omega (arith, are.0.whole) in
    let front : Image = over (g.bucket * bucket) (values_of bytes) over_it in
    let has : Has image (g.bucket * bucket) (values_of bytes) = λ s v given. (let range = at_range (g.bucket * bucket) (values_of bytes) s v given in
    sym (is s range.0 (omega (arith, range.1, long, end)) ∙ chain_missed g records (suc part) (suc bucket) sets front s are.1 (inl (omega (arith, range.1, long, next)))
    ∙ ap (λ (o : Option Value). unless o (over_it s)) given)) in
    let found = set_reads_back g image bucket part (next_bucket bucket sets) bytes records are.0 (counts_ok g part bucket sets bytes are.0.names all) has in
    let rest = sets_found g image front records (suc part) (suc bucket) (next_bucket bucket sets) sets chain are.1 (omega arith) (λ k d small. buckets (suc k) d (omega arith) ∙ omega arith) (omega (arith, all)) (omega (arith, low)) (omega (arith, up))
    (λ s below above. is s (omega (arith, below, next)) (omega (arith, above, end, end_too))) (next_leads bucket sets) in
    let place : IsPlace g at = subst (λ n. IsPlace g n) (sym here) (low, omega (arith, up)) in
    (begins ∙ sym here, place, (next_bucket bucket sets, subst (λ n. prio.SetFound g image n part (next_bucket bucket sets) records) (sym here) found, rest))

starts : (bucket : ℕ) (sets : List (List ℕ)) → 0 < length sets → bucket ≡ lead_from bucket sets
starts bucket [] some = absurd (omega arith)
starts bucket (bytes ∷ sets) some = refl

-- ---- the table

no_times : (b : BackingSuper) (entries : List UuidEntry) → IsTableOf b entries → (i : ℕ) → i < length entries → (d : UuidEntry)
    → ((slice_index_or entries i d).first_reg ≡ 0) × ((slice_index_or entries i d).last_reg ≡ 0) × ((slice_index_or entries i d).invalidated ≡ 0)
no_times b entries of zero inside d = (of.first d).no_times
no_times b entries of (suc i) inside d = (of.others (suc i) d (omega arith) inside).no_times

table_found : (g : Geometry) (b : BackingSuper) (image : Image) (bucket : ℕ) (entries : List UuidEntry) (bytes : List ℕ) → length entries ≡ 4 * g.bucket → IsTableOf b entries → IsTableBucket g entries bytes → Has image (g.bucket * bucket) (values_of bytes)
    → TableIn g image bucket entries
table_found g b image bucket entries bytes many of is has = record {
  many = many;
  holds = subst (λ (bs : List ℕ). HoldsEntries bs entries) (sym (bytes_in-has image (g.bucket * bucket) g.bucket bytes is.whole has))
      (λ i inside d. let times = no_times b entries of i inside d in timeless_says (entry_bytes bytes i) (slice_index_or entries i d) times.0 times.1 times.2 (is.written i inside d));
}

-- ---- all of it

pub formatted : (p : Pair) (g : Geometry) (c : CacheSuper) (b : BackingSuper) (old : Image) → HasBacking p b → HasCache p c → IsGeometryOf c g → IsDivided g → leaf_bucket g < g.nbuckets → 0 < sets_in_chain g → IsMadeImage g c b old p.cache → IsFormatted p b c g
formatted p g c b old has_backing has_cache geometry divided within some made =
    let r = made.records in
    let new = made.are_new in
    let parts = parts_of g r made.runs made.are_runs in
    let five = made.is_super.whole in
    let buckets = new.chain in
    let journal : 8 ≤ g.journal = omega (arith, divided.journal) in
    let room : g.block ≤ g.bucket * g.journal = (let up : g.bucket * 1 ≤ g.bucket * g.journal = mul-le-mul_left g.bucket (omega arith) in omega (arith, up, block_small g, g.bucket_from)) in
    let high : 64 ≤ g.bucket * first_set g = (let up : g.bucket * 1 ≤ g.bucket * first_set g = mul-le-mul_left g.bucket (omega (arith, journal)) in omega (arith, up, g.bucket_from)) in
    record {
      backing = has_backing;
      cache = has_cache;
      geometry = geometry;
      divided = divided;
      entry = r.entry;
      first_entry = entry_found g p.cache r.entry parts.entry new.entry parts.is_entry (has_entry g r made.runs parts made.super five old p.cache made.is room) (journal_blank g r made.runs parts made.super five old p.cache made.is);
      gens = r.gens;
      chain = record {
        sets = sets_found g p.cache (front g r made.runs parts made.super five old p.cache made.is) r.gens.records 0 (first_set g) (first_set g) parts.sets r.gens.chain parts.are_sets (buckets.0 ∙ sym parts.many)
            (λ k d small. buckets.1 k d (omega (arith, parts.many))) (omega (arith, parts.many)) (omega arith) (omega (arith, parts.many, within))
            (λ s low up. by_chain g r made.runs parts made.super five old p.cache made.is s (omega (arith, high)) (omega (arith, up, ap (λ n. g.bucket * (first_set g + n)) parts.many)))
            (starts (first_set g) parts.sets (omega (arith, parts.many, some)));
        distinct = λ i j d before inside. λ same. absurd (omega (arith, buckets.1 i d (omega (arith, buckets.0)), buckets.1 j d (omega (arith, buckets.0)), same));
        count = buckets.0;
        records = new.fresh.many;
      };
      in_order = λ k d inside. buckets.1 k d (omega (arith, buckets.0));
      entries = r.table;
      table = table_found g b p.cache (table_bucket g) r.table parts.table new.many new.table parts.is_table (has_table g r made.runs parts made.super five old p.cache made.is);
      named = λ d. (new.table.first d).has_uuid;
      leaf = new.root.leaf;
      leaf_key = new.root.key.leads;
      root_set = r.root;
      has_root = node_found g p.cache (root_bucket g) 1 (2 ^ 40) g.node_sectors r.entry.root r.root parts.root new.entry.root.leads parts.is_root (has_root g r made.runs parts made.super five old p.cache made.is);
      children = new.root.set.has;
      leaf_set = r.leaf;
      has_leaf = node_found g p.cache (leaf_bucket g) 0 (2 ^ 40) g.node_sectors new.root.leaf r.leaf parts.leaf new.root.key.leads parts.is_leaf (has_leaf g r made.runs parts made.super five old p.cache made.is);
      empty = new.leaf.has;
    }

-- ---- the superblocks

pub cache_there : (p : Pair) (g : Geometry) (c : CacheSuper) (b : BackingSuper) (old : Image) → IsUsableCache p.cache_sectors c → IsMadeImage g c b old p.cache → HasCache p c
cache_there p g c b old usable made =
    let parts = parts_of g made.records made.runs made.are_runs in
    let same : super_bytes p.cache ≡ made.super = bytes_in-has p.cache 8 5 made.super made.is_super.whole (has_super g made.records made.runs parts made.super made.is_super.whole old p.cache made.is) in
    let is = made.is_super in
    let many = large p.cache_sectors c usable in (
      omega arith,
      subst (λ (bs : List ℕ). IsCacheSuper bs p.cache_sectors c) (sym same)
          (record {
            super = is.super;
            spelled = sym (ap cache_of is.fields);
            features = λ five. ap (λ (f : Fields). f.features) is.fields;
            set_number = (ap (λ (f : Fields). f.devices) is.fields, ap (λ (f : Fields). f.device) is.fields);
            list = is.list;
            usable = usable;
          }),
    )

front_of : (image : Image) (v : Value) → image 8 ≡ v → length v ≡ 512 → take 512 (super_bytes image) ≡ v
unfolding bytes_in
front_of image v here long =
    let whole : length (sector_bytes (image 8)) ≡ 512 = length-sector_bytes (image 8) in
    ap (λ n. take n (super_bytes image)) (sym whole) ∙ take-append_seam (sector_bytes (image 8)) (bytes_in image 9 4) ∙ ap (λ (w : Value). sector_bytes w) here ∙ sector_of_whole v long

pub backing_there : (p : Pair) (b : BackingSuper) (bytes : List ℕ) → IsUsable p.backing_sectors b → IsBackingSector bytes b → p.backing 8 ≡ bytes → HasBacking p b
backing_there p b bytes usable is here =
    let offset = usable.data_offset in
    (omega (arith, offset.0, offset.1), written_again (super_bytes p.backing) p.backing_sectors b (subst (λ (bs : List ℕ). IsBackingSector bs b) (sym (front_of p.backing bytes here is.whole)) is) usable)

-- ---- the devices

module _ (g : Geometry) (c : CacheSuper) (b : BackingSuper) (geometry : IsGeometryOf c g) (divided : IsDivided g) (within : leaf_bucket g < g.nbuckets) (some : 0 < sets_in_chain g) (cache cache' backing backing' : DiskFacts)
    (usable : IsUsableCache cache'.sectors c) (fits : IsUsable backing'.sectors b) where
  abbrev Good : Image → Image → Type 0
  Good x y = IsFormatted (pair_of cache' backing' x y) b c g

  good : (old x y : Image) (bytes : List ℕ) → IsMadeImage g c b old x → IsBackingSector bytes b → y 8 ≡ bytes → Good x y
  good old x y bytes made is here =
      let p = pair_of cache' backing' x y in
      formatted p g c b old (backing_there p b bytes fits is here) (cache_there p g c b old usable made) geometry divided within some made

  same_made : (old held x : Image) → IsMadeImage g c b old held → ((s : ℕ) → x s ≡ held s) → IsMadeImage g c b old x
  same_made old held x made same = record {
    super = made.super;
    is_super = made.is_super;
    records = made.records;
    are_new = made.are_new;
    runs = made.runs;
    are_runs = made.are_runs;
    is = λ s. same s ∙ made.is s;
  }

  module _ (bytes : List ℕ) (is : IsBackingSector bytes b) where
    held_good : (u v w x : Option Image) → BothTold (IsMadeImage g c b) u v → BothTold (Overwritten 8 (bytes ∷ [])) w x → IfTold v (λ c. IfTold x (λ b. Good c b))
    held_good u None w x made over_it = tt
    held_good None (Some v) w x made over_it = elim made [ ]
    held_good (Some u) (Some v) w None made over_it = tt
    held_good (Some u) (Some v) None (Some x) made over_it = elim over_it [ ]
    held_good (Some u) (Some v) (Some w) (Some x) made over_it = good u v x bytes made is (over_it 8)

    left_good : (u v w x : Option Image) → BothTold (IsMadeImage g c b) u v → BothTold (Overwritten 8 (bytes ∷ [])) w x
        → IfTold v (λ held. (image : Image) → cache'.may_leave image → (s : ℕ) → image s ≡ held s) → IfTold x (λ held. (image : Image) → backing'.may_leave image → (s : ℕ) → image s ≡ held s)
        → IfTold v (λ _. IfTold x (λ _. (c b : Image) → cache'.may_leave c → backing'.may_leave b → Good c b))
    left_good u None w x made over_it one two = tt
    left_good None (Some v) w x made over_it one two = elim made [ ]
    left_good (Some u) (Some v) w None made over_it one two = tt
    left_good (Some u) (Some v) None (Some x) made over_it one two = elim over_it [ ]
    left_good (Some u) (Some v) (Some w) (Some x) made over_it one two = λ y z may might. good u y z bytes (same_made u v y made (one y may)) is (two z might 8 ∙ over_it 8)

  pub of_each : IsMadeCache g c b cache cache' → IsBackingStored b backing backing' → OfEachPair (λ p. IsFormatted p b c g) cache' backing'
  of_each made (bytes, is, stored) = record {
    held = held_good bytes is cache.holds cache'.holds backing.holds backing'.holds made.holds stored.holds;
    crashed = left_good bytes is cache.holds cache'.holds backing.holds backing'.holds made.holds stored.holds made.leaves stored.leaves;
  }

-- what holds of each pair has what follows
pub each_weaker : (P Q : Pair → Type 0) (cache backing : DiskFacts) → ((p : Pair) → P p → Q p) → OfEachPair P cache backing → OfEachPair Q cache backing
each_weaker P Q cache backing step is = record { held = held_so cache.holds backing.holds is.held; crashed = left_so cache.holds backing.holds is.crashed }
  where
    held_so : (x y : Option Image) → IfTold x (λ c. IfTold y (λ b. P (pair_of cache backing c b))) → IfTold x (λ c. IfTold y (λ b. Q (pair_of cache backing c b)))
    held_so None y is = tt
    held_so (Some x) None is = tt
    held_so (Some x) (Some y) is = step (pair_of cache backing x y) is

    left_so : (x y : Option Image) → IfTold x (λ _. IfTold y (λ _. (c b : Image) → cache.may_leave c → backing.may_leave b → P (pair_of cache backing c b)))
        → IfTold x (λ _. IfTold y (λ _. (c b : Image) → cache.may_leave c → backing.may_leave b → Q (pair_of cache backing c b)))
    left_so None y is = tt
    left_so (Some x) None is = tt
    left_so (Some x) (Some y) is = λ c b may might. step (pair_of cache backing c b) (is c b may might)
