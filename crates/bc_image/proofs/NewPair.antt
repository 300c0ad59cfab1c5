-- The small pair that was made anew, computed.
use Rattle.std.proofs.Common.{◌≡◌, ◌≢◌, ◌==◌, inl, inr, ℕ, zero, suc, ◌+◌, ◌-◌, ◌*◌, ◌^◌, ◌<◌, ◌≤◌, false, List, [], ◌∷◌, ◌++◌, length, take, get_or, replicate, refl, sym, subst, ap, ◌∙◌, lit<, lit≤, arith}
use Rattle.std.specs.Prelude.{slice_index_or}
use Rattle.std.proofs.lemmas.Bool.{lt-ltb, le-ltb}
use Rattle.std.proofs.lemmas.Bool.Decides.{eqb_tells}
use Rattle.std.proofs.lemmas.List.{take-append-le, get_or-replicate, length-replicate}
use Rattle.std.proofs.lemmas.List.Elements.{All-nil}
use Rattle.bc_bytes.specs.Checksum.{message, dividend, checksum}
use Rattle.bc_bytes.specs.Division.{remainder}
use Rattle.bc_bytes.specs.Fields.{number_at}
use Rattle.bc_model.specs.Sector.{Image}
use Rattle.bc_model.specs.Pattern.{zeros}
use Rattle.bc_disk.specs.Bytes.{image_of}
use Rattle.bc_disk.specs.Gens.{Gens}
use Rattle.bc_disk.specs.declared.gens.BucketRecord.{BucketRecord}
use Rattle.bc_record.specs.Sectors.{bytes_in, bytes_to, sector_bytes}
use Rattle.bc_record.proofs.Parts.{bytes_in-front, bytes_in-each, sector_of_whole}
use Rattle.bc_key.specs.declared.key.Key.{Key}
use Rattle.bc_key.specs.Key.{IsExtent, ptr_at}
use Rattle.bc_key.specs.Words.{Spells, ReadsAsPtr, words_of}
use Rattle.bc_keys.specs.Spelling.{words_at}
use Rattle.bc_jset.specs.declared.entry.JEntry.{JEntry}
use Rattle.bc_jset.specs.EntryBytes as jset
use Rattle.bc_jset.specs.EntryBytes.{IsEntry}
use Rattle.bc_jset.proofs.ExampleEntries.{found_in_sector}
use Rattle.bc_set.specs.declared.set.Set.{Set}
use Rattle.bc_set.specs.declared.set.SetKind.{SetKind}
use Rattle.bc_set.specs.declared.set.SetKind.TheVariants.{Extents, Children}
use Rattle.bc_set.specs.SetBytes as sets
use Rattle.bc_set.specs.SetBytes.{IsSet, AreSetKeys}
use Rattle.bc_set.proofs.SetLaws.{set_stays}
use Rattle.bc_prio.specs.Set as prio
use Rattle.bc_prio.specs.Set.{IsRecord, HoldsPart, next_in}
use Rattle.bc_disk.specs.Chain.{records_in_set, sets_in_chain}
use Rattle.bc_prio.specs.Records.{bucket_in, SetFound as PartFound, ChainIn}
use Rattle.bc_prio.specs.Example.{unused, example_records, example_set}
use Rattle.bc_prio.proofs.Example.{example_is}
use Rattle.bc_super.specs.Cache.{cache_of}
use Rattle.bc_super.specs.Super.{HasNoFeatures, IsSuper, HasChecksum, backing_of, fields_in}
use Rattle.bc_super.specs.declared.backing.BackingSuper.{BackingSuper}
use Rattle.bc_super.specs.declared.cache.CacheSuper.{CacheSuper}
use Rattle.bc_uuid.specs.Table.{TableIn}
use Rattle.bc_image.specs.Pair.{super_bytes, HasBacking, HasCache}
use Rattle.bc_image.specs.Sound.{HasSuperblocks}
use Rattle.bc_image.specs.Formatted.{table_bucket, root_bucket, leaf_bucket, IsKeyTo, HasFirstEntry, HasOneSet, IsFormatted}
use Rattle.bc_image.specs.NewPair.{entry_sector, root_sector, leaf_sector, new_cache, new_backing, new_pair}
use Rattle.bc_keys.proofs.OnePointer.{one_pointer_key, ptr_to}
use Rattle.bc_image.proofs.Examples.{geometry}
use Rattle.bc_image.proofs.Views.{unused as no_device, zero_table, one_set}

-- ---- the superblocks

cache_sum : HasChecksum (super_bytes new_cache)
unfolding bytes_in zeros number_at checksum dividend message remainder
cache_sum = refl

backing_sum : HasChecksum (super_bytes new_backing)
unfolding bytes_in zeros number_at checksum dividend message remainder
backing_sum = refl

abbrev pub cache : CacheSuper
cache = record {
  version = 3;
  uuid = replicate 16 0;
  set_uuid = 1 ∷ replicate 15 0;
  label = replicate 32 0;
  flags = 1;
  seq = 0;
  nbuckets = 128;
  block = 1;
  bucket = 64;
  last_mount = 0;
  first_bucket = 1;
  journal = 8;
}

abbrev pub backing : BackingSuper
backing = record { version = 1; uuid = replicate 16 0; set_uuid = 1 ∷ replicate 15 0; label = replicate 32 0; flags = 2 ^ 61; seq = 0; block = 1; last_mount = 0; data_offset = 16 }

cache_head : IsSuper (super_bytes new_cache)
unfolding bytes_in zeros number_at
cache_head = record { has_magic = refl; place = refl; count = lit≤ tt; checksum = cache_sum }

backing_head : IsSuper (super_bytes new_backing)
unfolding bytes_in zeros number_at
backing_head = record { has_magic = refl; place = refl; count = lit≤ tt; checksum = backing_sum }

cache_spelled : cache ≡ cache_of (fields_in (super_bytes new_cache))
unfolding bytes_in zeros number_at
cache_spelled = refl

backing_spelled : backing ≡ backing_of (fields_in (super_bytes new_backing))
unfolding bytes_in zeros number_at
backing_spelled = refl

cache_features : HasNoFeatures 5 (fields_in (super_bytes new_cache))
unfolding bytes_in zeros number_at
cache_features five = refl

backing_features : HasNoFeatures 6 (fields_in (super_bytes new_backing))
unfolding bytes_in zeros number_at
backing_features six = refl

cache_numbers : ((fields_in (super_bytes new_cache)).devices ≡ 1) × ((fields_in (super_bytes new_cache)).device ≡ 0)
unfolding bytes_in zeros number_at
cache_numbers = (refl, refl)

cache_list : (i : ℕ) → i < 8 → number_at 8 (super_bytes new_cache) (208 + 8 * i) ≡ 1 + i
unfolding bytes_in zeros number_at
cache_list zero inside = refl
cache_list (suc zero) inside = refl
cache_list (suc (suc zero)) inside = refl
cache_list (suc (suc (suc zero))) inside = refl
cache_list (suc (suc (suc (suc zero)))) inside = refl
cache_list (suc (suc (suc (suc (suc zero))))) inside = refl
cache_list (suc (suc (suc (suc (suc (suc zero)))))) inside = refl
cache_list (suc (suc (suc (suc (suc (suc (suc zero))))))) inside = refl
cache_list (suc (suc (suc (suc (suc (suc (suc (suc i)))))))) inside = absurd (omega arith)

not_zero : cache.set_uuid ≢ replicate {A = ℕ} 16 0
not_zero same = absurd (omega (arith, ap (λ (xs : List ℕ). get_or xs 0 0) same))

pub has_cache : HasCache new_pair cache
has_cache = (
  lit≤ tt,
  record {
    super = cache_head;
    spelled = cache_spelled;
    features = cache_features;
    set_number = cache_numbers;
    list = cache_list;
    usable = record {
      version = inr (inl refl);
      block = inl refl;
      bucket = (6, lit≤ tt, lit≤ tt, refl);
      fewest = lit≤ tt;
      most = lit≤ tt;
      room = lit≤ tt;
      set_uuid = not_zero;
      first_bucket = (lit≤ tt, lit< tt);
      few = lit≤ tt;
      count = λ sync. inr (lit≤ tt);
      within = lit≤ tt;
    };
  },
)

pub has_backing : HasBacking new_pair backing
has_backing = (
  lit≤ tt,
  record {
    super = backing_head;
    spelled = backing_spelled;
    features = backing_features;
    usable = record { version = inl refl; fixed = λ _. refl; data_offset = (lit≤ tt, lit< tt); state = λ same. absurd (omega (arith, same)) };
  },
)

pub superblocks : HasSuperblocks backing cache
superblocks = record { initialised = (refl, lit< tt); same_set = refl; state = inl refl }

first_word : number_at 8 (1 ∷ replicate 15 0) 0 ≡ 1
unfolding number_at
first_word = refl

-- ---- zeros

low_zeros : (s : ℕ) → s < 576 → s ≢ 8 → s ≢ 64 → new_cache s ≡ zeros
low_zeros s low no8 no64 =
    let one = lt-ltb s 576 low in
    let two : (s == 8) ≡ false = elim (eqb_tells s 8) [ inl t ↦ absurd (no8 t.1) | inr t ↦ t.0 ] in
    let three : (s == 64) ≡ false = elim (eqb_tells s 64) [ inl t ↦ absurd (no64 t.1) | inr t ↦ t.0 ] in
    rw (one, two, three) refl

high_zeros : (s : ℕ) → 640 ≤ s → s ≢ 704 → s ≢ 768 → new_cache s ≡ zeros
high_zeros s high no704 no768 =
    let one = le-ltb s 576 (omega (arith, high)) in
    let two = le-ltb s 640 high in
    let three : (s == 704) ≡ false = elim (eqb_tells s 704) [ inl t ↦ absurd (no704 t.1) | inr t ↦ t.0 ] in
    let four : (s == 768) ≡ false = elim (eqb_tells s 768) [ inl t ↦ absurd (no768 t.1) | inr t ↦ t.0 ] in
    rw (one, two, three, four) refl

-- ---- keys

abbrev pub table_key : Key
table_key = one_pointer_key 64 64 false (ptr_to 640 0 (lit< tt) (lit< tt)) (lit< tt) (lit< tt)

abbrev pub root_key : Key
root_key = one_pointer_key 0x100_0000_0000 64 false (ptr_to 704 0 (lit< tt) (lit< tt)) (lit< tt) (lit< tt)

abbrev pub leaf_key : Key
leaf_key = one_pointer_key 0x100_0000_0000 64 false (ptr_to 768 0 (lit< tt) (lit< tt)) (lit< tt) (lit< tt)

-- ---- entry 1

abbrev pub entry : JEntry
entry = record { seq = 1; last_seq = 1; uuid_bucket = table_key; root = root_key; level = 1; prio = 9; keys = [] }

entry_sum : jset.HasChecksum entry_sector
unfolding number_at checksum dividend message remainder
entry_sum = refl

table_ptrs : (i : ℕ) → i < 1 → ReadsAsPtr (get_or (jset.uuid_words entry_sector) (2 + i) 0) (ptr_at table_key i)
unfolding number_at words_at
table_ptrs zero h = record { generation = refl; offset = refl; dev = refl }
table_ptrs (suc i) h = absurd (omega arith)

root_ptrs : (i : ℕ) → i < 1 → ReadsAsPtr (get_or (jset.root_words entry_sector) (2 + i) 0) (ptr_at root_key i)
unfolding number_at words_at
root_ptrs zero h = record { generation = refl; offset = refl; dev = refl }
root_ptrs (suc i) h = absurd (omega arith)

table_spelled : Spells (jset.uuid_words entry_sector) table_key
unfolding number_at words_at
table_spelled = record { long = lit≤ tt; high = record { inode = refl; size = refl; dirty = refl; csum = refl; count = refl }; end = refl; ptrs = table_ptrs }

root_spelled : Spells (jset.root_words entry_sector) root_key
unfolding number_at words_at
root_spelled = record { long = lit≤ tt; high = record { inode = refl; size = refl; dirty = refl; csum = refl; count = refl }; end = refl; ptrs = root_ptrs }

entry_is : IsEntry 1 entry_sector entry
unfolding number_at words_at
entry_is = record {
  whole = record { header = record { room = lit≤ tt; magic = refl; version = refl }; few = lit≤ tt; long = lit≤ tt; checksum = entry_sum };
  seq = refl;
  last_seq = refl;
  uuid_bucket = table_spelled;
  root = root_spelled;
  level = refl;
  known_level = inl refl;
  prio = refl;
  keys = refl;
  extents = All-nil IsExtent;
}

-- the buckets of the layout
one : sets_in_chain (geometry 8 (lit≤ tt)) ≡ 1
one = one_set 8 (lit≤ tt)

to_table : IsKeyTo (geometry 8 (lit≤ tt)) (table_bucket (geometry 8 (lit≤ tt))) 64 64 table_key
to_table = record { ends = refl; long = refl; count = refl; device = refl; offset = ap (λ n. 64 * (9 + n)) (sym one); generation = refl }

to_root : IsKeyTo (geometry 8 (lit≤ tt)) (root_bucket (geometry 8 (lit≤ tt))) (2 ^ 40) 64 root_key
to_root = record { ends = refl; long = refl; count = refl; device = refl; offset = ap (λ n. 64 * (9 + n + 1)) (sym one); generation = refl }

to_leaf : IsKeyTo (geometry 8 (lit≤ tt)) (leaf_bucket (geometry 8 (lit≤ tt))) (2 ^ 40) 64 leaf_key
to_leaf = record { ends = refl; long = refl; count = refl; device = refl; offset = ap (λ n. 64 * (9 + n + 1 + 1)) (sym one); generation = refl }

pub first_entry : HasFirstEntry (geometry 8 (lit≤ tt)) new_cache entry
first_entry = record {
  stands = found_in_sector new_cache 128 64 entry_sector entry refl refl (lit≤ tt) (lit< tt) entry_is;
  blank = λ s low high. low_zeros s (omega (arith, high)) (λ is. absurd (omega (arith, is, low))) (λ is. absurd (omega (arith, is, low)));
  seq = refl;
  last_seq = refl;
  level = refl;
  prio = refl;
  uuid_bucket = to_table;
  root = to_root;
  keys = refl;
}

-- ---- the nodes

abbrev pub root_set : Set
root_set = record { seq = 65537; version = 1; keys = leaf_key ∷ [] }

abbrev pub leaf_set : Set
leaf_set = record { seq = 65536; version = 1; keys = [] }

root_sum : sets.HasChecksum 0x2c000 root_sector
unfolding number_at checksum dividend message remainder
root_sum = refl

leaf_sum : sets.HasChecksum 0x30000 leaf_sector
unfolding number_at checksum dividend message remainder
leaf_sum = refl

leaf_ptrs : (i : ℕ) → i < 1 → ReadsAsPtr (get_or (sets.words_in root_sector) (2 + i) 0) (ptr_at leaf_key i)
unfolding number_at words_at
leaf_ptrs zero h = record { generation = refl; offset = refl; dev = refl }
leaf_ptrs (suc i) h = absurd (omega arith)

leaf_spelled : Spells (sets.words_in root_sector) leaf_key
unfolding number_at words_at
leaf_spelled = record { long = lit≤ tt; high = record { inode = refl; size = refl; dirty = refl; csum = refl; count = refl }; end = refl; ptrs = leaf_ptrs }

one_child : sets.words_in root_sector ≡ 0x9000_0000_0400_0000 ∷ 0x100_0000_0000 ∷ 0x30000 ∷ []
unfolding number_at words_at
one_child = refl

root_is : IsSet 0x2c000 1 Children root_sector root_set
unfolding number_at words_at
root_is = record {
  whole = record { header = record { room = lit≤ tt; magic = refl; version = inr refl }; long = lit≤ tt; checksum = root_sum };
  seq = refl;
  version = refl;
  keys = (leaf_spelled, refl);
  proper = record { each = tt; order = λ i j d low high. absurd (omega arith) };
}

leaf_is : IsSet 0x30000 1 Extents leaf_sector leaf_set
unfolding number_at words_at
leaf_is = record {
  whole = record { header = record { room = lit≤ tt; magic = refl; version = inr refl }; long = lit≤ tt; checksum = leaf_sum };
  seq = refl;
  version = refl;
  keys = refl;
  proper = record { each = All-nil IsExtent; order = λ i j d low high. absurd (omega arith) };
}

set_in_sector : (start : ℕ) (kind : SetKind) (image : Image) (end place : ℕ) (value : List ℕ) (s : Set) → image place ≡ value → length value ≡ 512 → sets.bytes_of s ≤ 512 → 0 < end - place → IsSet start 1 kind value s → IsSet start 1 kind (bytes_to image end place) s
unfolding bytes_in
set_in_sector start kind image end place value s here whole small some is =
    set_stays start 1 kind value (bytes_to image end place) s is
    (bytes_in-front image place 1 (end - place) (sets.bytes_of s) (omega (arith, some)) (omega (arith, small))
    ∙ ap (λ (v : List ℕ). take (sets.bytes_of s) (v ++ [])) (ap sector_bytes here ∙ sector_of_whole value whole)
    ∙ take-append-le (sets.bytes_of s) value [] (omega (arith, small, whole)))

pub has_root : HasOneSet (geometry 8 (lit≤ tt)) new_cache 1 root_key root_set
unfolding words_of
has_root = record {
  stands = set_in_sector 0x2c000 Children new_cache 768 704 root_sector root_set refl refl (lit≤ tt) (lit< tt) root_is;
  blank = λ s low high. high_zeros s (omega (arith, low)) (λ is. absurd (omega (arith, is, low))) (λ is. absurd (omega (arith, is, high)));
}

pub has_leaf : HasOneSet (geometry 8 (lit≤ tt)) new_cache 0 leaf_key leaf_set
unfolding words_of
has_leaf = record {
  stands = set_in_sector 0x30000 Extents new_cache 832 768 leaf_sector leaf_set refl refl (lit≤ tt) (lit< tt) leaf_is;
  blank = λ s low high. high_zeros s (omega (arith, low)) (λ is. absurd (omega (arith, is, low))) (λ is. absurd (omega (arith, is, low)));
}

-- ---- the generations

in_chain : (k : ℕ) → k < 64 → new_cache (576 + k) ≡ image_of example_set k
in_chain k inside =
    let first = le-ltb (576 + k) 576 (omega arith) in
    let second = lt-ltb (576 + k) 640 (omega (arith, inside)) in
    let back : 576 + k - 576 ≡ k = omega arith in
    let at : new_cache (576 + k) ≡ image_of example_set (576 + k - 576) = rw (first, second) refl in
    at ∙ ap (image_of example_set) back

chain_bytes : bucket_in (geometry 8 (lit≤ tt)) new_cache 9 ≡ example_set
chain_bytes = bytes_in-each new_cache 576 64 example_set example_is.long in_chain

chain_set : prio.IsSet (geometry 8 (lit≤ tt)) 0 example_set
chain_set = record { whole = example_is.long; magic = example_is.magic; checksum = example_is.checksum; count = ((λ last. sym one), (λ part. example_is.last)) }

record_there : (i : ℕ) → i < 128 → (d : BucketRecord) → IsRecord example_set i (slice_index_or example_records i d)
record_there zero inside d = example_is.first
record_there (suc k) inside d = subst (λ (e : BucketRecord). IsRecord example_set (suc k) e) (sym (get_or-replicate 127 k unused d (omega (arith, inside)))) (example_is.other k)

chain_holds : HoldsPart (geometry 8 (lit≤ tt)) example_records 0 example_set
chain_holds i fits inside d =
    let here : i ≡ 0 * records_in_set (geometry 8 (lit≤ tt)) + i = omega arith in
    let many : length example_records ≡ 128 = ap suc (length-replicate {A = BucketRecord} 127 unused) in
    subst (λ (n : ℕ). IsRecord example_set i (slice_index_or example_records n d)) here (record_there i (omega (arith, inside, many)) d)

chain_found : PartFound (geometry 8 (lit≤ tt)) new_cache 9 0 0 example_records
chain_found = record {
  set = subst (λ (bs : List ℕ). prio.IsSet (geometry 8 (lit≤ tt)) 0 bs) (sym chain_bytes) chain_set;
  names = ap next_in chain_bytes ∙ example_is.last;
  holds = subst (λ (bs : List ℕ). HoldsPart (geometry 8 (lit≤ tt)) example_records 0 bs) (sym chain_bytes) chain_holds;
}

abbrev pub gens : Gens
gens = record { records = example_records; chain = 9 ∷ [] }

pub chain : ChainIn (geometry 8 (lit≤ tt)) new_cache 9 gens
chain = record {
  sets = (refl, (lit≤ tt, lit< tt), (0, chain_found, refl));
  distinct = λ i j d low inside. absurd (omega arith);
  count = sym one;
  records = ap suc (length-replicate {A = BucketRecord} 127 unused);
}

chain_order : (k d : ℕ) → k < 1 → slice_index_or (9 ∷ []) k d ≡ 9 + k
chain_order zero d inside = refl
chain_order (suc k) d inside = absurd (omega arith)

-- ---- the uuid table

table : TableIn (geometry 8 (lit≤ tt)) new_cache (table_bucket (geometry 8 (lit≤ tt))) (replicate 256 no_device)
table =
    subst (λ n. TableIn (geometry 8 (lit≤ tt)) new_cache (9 + n) (replicate 256 no_device)) (sym one)
    (zero_table 8 (lit≤ tt) new_cache 10 (λ s low high. high_zeros s low (λ is. absurd (omega (arith, is, high))) (λ is. absurd (omega (arith, is, high)))))

pub is_formatted : IsFormatted new_pair backing cache (geometry 8 (lit≤ tt))
is_formatted = record {
  backing = has_backing;
  cache = has_cache;
  geometry = record { block = refl; bucket = refl; nbuckets = refl; first_bucket = refl; journal = refl; set_magic = sym first_word };
  divided = record { first_bucket = refl; journal = refl };
  entry = entry;
  first_entry = first_entry;
  gens = gens;
  chain = chain;
  in_order = chain_order;
  entries = replicate 256 no_device;
  table = table;
  named = λ d. refl;
  leaf = leaf_key;
  leaf_key = to_leaf;
  root_set = root_set;
  has_root = has_root;
  children = refl;
  leaf_set = leaf_set;
  has_leaf = has_leaf;
  empty = refl;
}
