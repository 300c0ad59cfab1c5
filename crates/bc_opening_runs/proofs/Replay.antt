-- A small pair with a dirty key in its one entry, computed, and opened.
use Rattle.std.proofs.Common.{◌≡◌, ◌≢◌, ◌==◌, inl, inr, ℕ, zero, suc, ◌+◌, ◌-◌, ◌*◌, ◌^◌, ◌<◌, ◌≤◌, Bool, true, false, List, [], ◌∷◌, ◌++◌, get_or, replicate, Option, Some, refl, sym, subst, ap, ◌∙◌, if◌then◌else◌, lit<, lit≤, arith, nat_lt}
use Rattle.std.specs.Prelude.{All, AllPairs, Contains, ◌%◌}
use Rattle.std.proofs.lemmas.Bool.{cases_lt, lt-ltb, le-ltb}
use Rattle.std.proofs.lemmas.Bool.Decides.{eqb_tells}
use Rattle.std.proofs.lemmas.List.Elements.{All-cons, All-nil}
use Rattle.bc_bytes.specs.Checksum.{message, dividend, checksum}
use Rattle.bc_bytes.specs.Division.{remainder}
use Rattle.bc_bytes.specs.Fields.{number_at}
use Rattle.bc_model.specs.Sector.{Image}
use Rattle.bc_model.specs.Pattern.{zeros}
use Rattle.bc_disk.specs.declared.geometry.Geometry.{Geometry}
use Rattle.bc_record.specs.Kind.{IsFound, NoneFound}
use Rattle.bc_record.specs.Places.{at_place, bucket_at}
use Rattle.bc_record.proofs.Found.{one_found, takes_some}
use Rattle.bc_record.proofs.Parts.{bytes_in-agree, length-bytes_in}
use Rattle.bc_key.specs.declared.key.Key.{Key}
use Rattle.bc_key.specs.declared.ptr.Ptr.{Ptr}
use Rattle.bc_key.specs.Key.{Covers, IsExtent, place_at, pointer_of, ptr_at}
use Rattle.bc_key.specs.Words.{Spells, ReadsAsPtr, words_of}
use Rattle.bc_keys.specs.Spelling.{words_at}
use Rattle.bc_keys.proofs.OnePointer.{one_pointer_key, ptr_to}
use Rattle.bc_extent.proofs.LastKeys.{last_key_found}
use Rattle.bc_jset.specs.declared.entry.JEntry.{JEntry}
use Rattle.bc_jset.specs.EntryBytes as jset
use Rattle.bc_jset.specs.EntryBytes.{IsEntry}
use Rattle.bc_jset.specs.Entries.{AreEntries, FoundEntry, StandIn, StandsInJournal, bucket_end, bucket_start}
use Rattle.bc_jset.specs.Records.{EntryFound, entry_kind, entry_sectors}
use Rattle.bc_jset.proofs.ExampleEntries.{found_in_sector}
use Rattle.bc_jset.proofs.Records.{entry_codec, none_in_zeros}
use Rattle.bc_disk.specs.Chain.{sets_in_chain}
use Rattle.bc_prio.proofs.Found.{chain_stays}
use Rattle.bc_super.specs.Cache.{IsCacheSuper}
use Rattle.bc_super.specs.Super.{data_sectors}
use Rattle.bc_uuid.specs.Table.{TableIn}
use Rattle.bc_uuid.proofs.Unique.{table_stays}
use Rattle.bc_meta.specs.Facts.{In}
use Rattle.bc_leaves.specs.Keys.{AnySpeaks}
use Rattle.bc_leaves.specs.Parts.{Leaf, Pending, keys_of}
use Rattle.bc_image.specs.Formatted.{IsKeyTo, leaf_bucket, root_bucket}
use Rattle.bc_image.specs.NewPair.{new_cache, new_pair}
use Rattle.bc_image.specs.Pair.{Pair}
use Rattle.bc_image.specs.Pointers.{PointsInto, PointsIntoData}
use Rattle.bc_image.specs.Reading.{IsView, Reading, View, key_of}
use Rattle.bc_image.specs.Rests.{SameNode}
use Rattle.bc_image.specs.Shown.{age_of}
use Rattle.bc_image.specs.Sound.{HasOneUse, HasPointers, HasRanges, HasSoundParts, HasSpareBuckets, IsDataKey, IsNodeKey, IsWithinWindow, KeepsRange, LiesWithin, NamesBacking}
use Rattle.bc_image.specs.Tree.{IsWalk, Node, node_of}
use Rattle.bc_image.specs.Uses.{IsSpare, IsUsedFor, LiesLive, Use}
use Rattle.bc_image.specs.Uses as uses
use Rattle.bc_image.proofs.Examples.{geometry}
use Rattle.bc_image.proofs.Formatted.{one_set_at, sectors_small}
use Rattle.bc_image.proofs.NewPair.{backing, cache, entry, first_entry, gens, has_backing, has_cache, has_leaf, has_root, is_formatted, leaf_key, leaf_set, root_key, root_set, superblocks, table_key}
use Rattle.bc_image.proofs.NewPair as new
use Rattle.bc_image.proofs.Places.{lies_in_bucket}
use Rattle.bc_image.proofs.Stays.{walk_stays}
use Rattle.bc_image.proofs.Unique.{some_same}
use Rattle.bc_image.proofs.Views.{one_set}
use Rattle.bc_facts.proofs.Made.{law_layout}
use Rattle.bc_opening.specs.Read.{leaf_of}
use Rattle.bc_opening.proofs.Chosen.{law_choices}
use Rattle.bc_opening.proofs.Whole.{law_opening}
use Rattle.bc_opening_runs.specs.Example.{HasReplay}

abbrev g : Geometry
g = geometry 8 (lit≤ tt)

-- ---- its entry: as that of the new pair, with one key

abbrev key_sector : List ℕ
key_sector =
    (0xe0 ∷ 0x4f ∷ 0xc7 ∷ 0xa5 ∷ 0x5c ∷ 0x91 ∷ 0x9d ∷ 0x35 ∷ 0x33 ∷ 0x50 ∷ 0x62 ∷ 0xa3 ∷ 0xc1 ∷ 0x35 ∷ 0x52 ∷ 0x24
    ∷ 0x01 ∷ 0x00 ∷ 0x00 ∷ 0x00 ∷ 0x00 ∷ 0x00 ∷ 0x00 ∷ 0x00 ∷ 0x01 ∷ 0x00 ∷ 0x00 ∷ 0x00 ∷ 0x03 ∷ 0x00 ∷ 0x00 ∷ 0x00
    ∷ 0x01 ∷ 0x00 ∷ 0x00 ∷ 0x00 ∷ 0x00 ∷ 0x00 ∷ 0x00 ∷ 0x00 ∷ 0x00 ∷ 0x00 ∷ 0x00 ∷ 0x04 ∷ 0x00 ∷ 0x00 ∷ 0x00 ∷ 0x90
    ∷ 0x40 ∷ 0x00 ∷ 0x00 ∷ 0x00 ∷ 0x00 ∷ 0x00 ∷ 0x00 ∷ 0x00 ∷ 0x00 ∷ 0x80 ∷ 0x02 ∷ [])
    ++ (replicate 48 0
    ++ ((0x04 ∷ 0x00 ∷ 0x00 ∷ 0x00 ∷ 0x90 ∷ 0x00 ∷ 0x00 ∷ 0x00 ∷ 0x00 ∷ 0x00 ∷ 0x01 ∷ 0x00 ∷ 0x00 ∷ 0x00 ∷ 0xc0 ∷ 0x02 ∷ [])
    ++ (replicate 45 0
    ++ ((0x01 ∷ 0x00 ∷ 0x00 ∷ 0x00 ∷ 0x00 ∷ 0x00 ∷ 0x00 ∷ 0x00 ∷ 0x09 ∷ [])
    ++ (replicate 63 0
    ++ ((0x00 ∷ 0x00 ∷ 0x80 ∷ 0x00 ∷ 0x10 ∷ 0x00 ∷ 0x00 ∷ 0x90 ∷ 0x18 ∷ 0x00 ∷ 0x00 ∷ 0x00 ∷ 0x00 ∷ 0x00 ∷ 0x00 ∷ 0x00
    ∷ 0x00 ∷ 0x00 ∷ 0x08 ∷ 0x00 ∷ 0x00 ∷ 0x00 ∷ 0x00 ∷ 0x00 ∷ [])
    ++ (replicate 248 0)))))))

-- dirty data of sectors 16 to 23, in the first sectors of bucket 32
abbrev extent : Key
extent = one_pointer_key 24 8 true (ptr_to 2048 0 (lit< tt) (lit< tt)) (lit< tt) (lit< tt)

abbrev key_entry : JEntry
key_entry = record { seq = 1; last_seq = 1; uuid_bucket = table_key; root = root_key; level = 1; prio = 9; keys = extent ∷ [] }

key_sum : jset.HasChecksum key_sector
unfolding number_at checksum dividend message remainder
key_sum = refl

table_ptrs : (i : ℕ) → i < 1 → ReadsAsPtr (get_or (jset.uuid_words key_sector) (2 + i) 0) (ptr_at table_key i)
unfolding number_at words_at
table_ptrs zero h = record { generation = refl; offset = refl; dev = refl }
table_ptrs (suc i) h = absurd (omega arith)

root_ptrs : (i : ℕ) → i < 1 → ReadsAsPtr (get_or (jset.root_words key_sector) (2 + i) 0) (ptr_at root_key i)
unfolding number_at words_at
root_ptrs zero h = record { generation = refl; offset = refl; dev = refl }
root_ptrs (suc i) h = absurd (omega arith)

extent_ptrs : (i : ℕ) → i < 1 → ReadsAsPtr (get_or (jset.words_in key_sector) (2 + i) 0) (ptr_at extent i)
unfolding number_at words_at
extent_ptrs zero h = record { generation = refl; offset = refl; dev = refl }
extent_ptrs (suc i) h = absurd (omega arith)

table_spelled : Spells (jset.uuid_words key_sector) table_key
unfolding number_at words_at
table_spelled = record { long = lit≤ tt; high = record { inode = refl; size = refl; dirty = refl; csum = refl; count = refl }; end = refl; ptrs = table_ptrs }

root_spelled : Spells (jset.root_words key_sector) root_key
unfolding number_at words_at
root_spelled = record { long = lit≤ tt; high = record { inode = refl; size = refl; dirty = refl; csum = refl; count = refl }; end = refl; ptrs = root_ptrs }

extent_spelled : Spells (jset.words_in key_sector) extent
unfolding number_at words_at
extent_spelled = record { long = lit≤ tt; high = record { inode = refl; size = refl; dirty = refl; csum = refl; count = refl }; end = refl; ptrs = extent_ptrs }

key_is : IsEntry 1 key_sector key_entry
unfolding number_at words_at
key_is = record {
  whole = record { header = record { room = lit≤ tt; magic = refl; version = refl }; few = lit≤ tt; long = lit≤ tt; checksum = key_sum };
  seq = refl;
  last_seq = refl;
  uuid_bucket = table_spelled;
  root = root_spelled;
  level = refl;
  known_level = inl refl;
  prio = refl;
  keys = (extent_spelled, refl);
  extents = All-cons IsExtent extent [] (lit≤ tt) (All-nil IsExtent);
}

-- ---- its image

abbrev key_cache : Image
key_cache = λ s. if s == 64 then key_sector else new_cache s

abbrev key_pair : Pair
key_pair = record { cache = key_cache; cache_sectors = 8192; backing = new_pair.backing; backing_sectors = 1000 }

same : (s : ℕ) → s ≢ 64 → new_cache s ≡ key_cache s
same s other = elim (eqb_tells s 64) [ inl t ↦ absurd (other t.1) | inr t ↦ sym (ap (λ (b : Bool). if b then key_sector else new_cache s) t.0) ]

blank : (s : ℕ) → 65 ≤ s → s < 576 → key_cache s ≡ zeros
blank s low high =
    let small = sectors_small g entry refl in
    sym (same s (λ is. (omega (arith, is, low)))) ∙ first_entry.blank s (omega (arith, low, small)) high

sectors : entry_sectors g key_entry ≡ 1
unfolding words_of
sectors = refl

stands : EntryFound g key_cache 128 64 key_entry
unfolding words_of
stands = found_in_sector key_cache 128 64 key_sector key_entry refl refl (lit≤ tt) (lit< tt) key_is

none_from : (end q : ℕ) → 65 ≤ q → end ≤ 576 → NoneFound (entry_kind g) key_cache end q
none_from end q low most e found = elim (cases_lt q end) [
  | inl inside ↦ none_in_zeros g key_cache end q e (blank q low (omega (arith, inside, most))) found
  | inr past ↦ let room = found.whole.header.room in absurd (omega (arith, room, past, length-bytes_in key_cache q (end - q)))
]

abbrev found_ : FoundEntry
found_ = at_place 64 key_entry

all_stand : (n : ℕ) → suc n ≤ 8 → StandIn g key_cache (suc n) (found_ ∷ [])
all_stand zero some = ([], key_entry ∷ [], refl, (stands, none_from 128 (64 + entry_sectors g key_entry) (let one = sectors in omega (arith, one)) (lit≤ tt)), refl)
all_stand (suc n) some = (found_ ∷ [], [], all_stand n (omega (arith, some)), none_from (bucket_end g (suc n)) (bucket_start g (suc n)) (omega arith) (omega (arith, some)), refl)

entries : AreEntries g key_cache (found_ ∷ [])
entries = record {
  all = found_ ∷ [];
  stand = all_stand 7 (lit≤ tt);
  newest = found_;
  is_newest = record { counts = refl; greatest = All-cons (λ (e : FoundEntry). e.item.seq ≤ 1) found_ [] (lit≤ tt) (All-nil (λ (e : FoundEntry). e.item.seq ≤ 1)) };
  reaches = lit≤ tt;
  numbered = (refl, refl);
}

alone : (d : FoundEntry) → StandsInJournal g key_cache d → Contains (found_ ∷ []) d
alone d (i, k, inside, place, there, fits) = elim (cases_lt d.place 65) [
  | inr behind ↦
      let some = takes_some (entry_kind g) (entry_codec g) d.item in
      absurd (none_in_zeros g key_cache (bucket_end g i) d.place d.item (blank d.place behind (omega (arith, some, inside, fits))) there)
  | inl before ↦ at_first (omega (arith, place, before)) (omega (arith, place, before))
]
  where
    at_first : i ≡ 0 → d.place ≡ 64 → Contains (found_ ∷ []) d
    at_first bucket here =
        let one = subst (λ m. IsFound (entry_kind g) key_cache (bucket_end g m) d.place d.item) bucket there in
        let start = subst (λ q. IsFound (entry_kind g) key_cache 128 q d.item) here one in
        let is : key_entry ≡ d.item = one_found (entry_kind g) (entry_codec g) key_cache 128 64 key_entry d.item stands start in
        (0, (let z : 0 < 1 = omega arith in z), ap (λ q. at_place q key_entry) (sym here) ∙ ap (λ (x : JEntry). at_place d.place x) is)

-- ---- its tree

one : sets_in_chain g ≡ 1
one = one_set 8 (lit≤ tt)

to_root : IsKeyTo g (root_bucket g) (2 ^ 40) 64 root_key
to_root = record { ends = refl; long = refl; count = refl; device = refl; offset = ap (λ n. 64 * (9 + n + 1)) (sym one); generation = refl }

to_leaf : IsKeyTo g (leaf_bucket g) (2 ^ 40) 64 leaf_key
to_leaf = record { ends = refl; long = refl; count = refl; device = refl; offset = ap (λ n. 64 * (9 + n + 1 + 1)) (sym one); generation = refl }

abbrev root_node : Node
root_node = node_of 1 0 root_key (root_set ∷ [])

abbrev leaf_node : Node
leaf_node = node_of 0 0 leaf_key (leaf_set ∷ [])

old_walk : IsWalk g new_cache 1 0 root_key (root_node ∷ leaf_node ∷ [])
old_walk = (
  root_set ∷ [],
  leaf_node ∷ [],
  one_set_at g new_cache 1 (root_bucket g) (2 ^ 40) 64 root_key root_set to_root has_root,
  (leaf_node ∷ [], [], (leaf_set ∷ [], one_set_at g new_cache 0 (leaf_bucket g) (2 ^ 40) 64 leaf_key leaf_set to_leaf has_leaf, refl), refl, refl),
  refl,
)

same_from : (key : Key) → 65 ≤ (ptr_at key 0).offset → pointer_of key ≡ Some (ptr_at key 0) → (ptr : Ptr) → pointer_of key ≡ Some ptr → (s : ℕ) → ptr.offset ≤ s → new_cache s ≡ key_cache s
same_from key far points ptr is s low =
    let at = ap (λ (x : Ptr). x.offset) (some_same (ptr_at key 0) ptr (sym points ∙ is)) in
    same s (λ e. (omega (arith, e, low, at, far)))

same_nodes : All (SameNode g new_cache key_cache) (root_node ∷ leaf_node ∷ [])
same_nodes =
    All-cons (SameNode g new_cache key_cache) root_node (leaf_node ∷ []) (λ ptr is s low high. same_from root_key (lit≤ tt) refl ptr is s low)
    (All-cons (SameNode g new_cache key_cache) leaf_node [] (λ ptr is s low high. same_from leaf_key (lit≤ tt) refl ptr is s low) (All-nil (SameNode g new_cache key_cache)))

in_nine : (b : ℕ) → Contains (9 ∷ []) b → b ≡ 9
in_nine b (zero, lt, is) = sym is
in_nine b (suc k, lt, is) = absurd (omega (arith, lt))

abbrev reading : Reading
reading = record { entries = found_ ∷ []; newest = found_; gens = gens; nodes = root_node ∷ leaf_node ∷ [] }

abbrev view : View
view = record { backing = backing; cache = cache; geometry = g; reading = reading }

is_view : IsView key_pair view
unfolding entries
is_view = record {
  backing = has_backing;
  cache = (lit≤ tt, subst (λ (bs : List ℕ). IsCacheSuper bs 8192 cache) (bytes_in-agree new_cache key_cache 8 5 (λ s low high. same s (λ is. (omega (arith, is, high))))) has_cache.1);
  geometry = is_formatted.geometry;
  reading = record {
    entries = entries;
    newest = refl;
    gens = chain_stays g new_cache key_cache 9 gens new.chain (λ b i s low high. same s (λ is. (let nine = in_nine b i in omega (arith, is, low, nine))));
    nodes = walk_stays g new_cache key_cache 1 0 root_key (root_node ∷ leaf_node ∷ []) same_nodes old_walk;
  };
}

-- ---- it is sound

ranges : HasRanges reading
ranges =
    All-cons KeepsRange root_node (leaf_node ∷ [])
    (record {
      within = All-cons (LiesWithin 1 0 0x100_0000_0000) leaf_key [] (lit< tt, lit≤ tt) (All-nil (LiesWithin 1 0 0x100_0000_0000));
      cover = (All-cons (λ (k : Key). k.end % 256 ≡ 0) leaf_key [] refl (All-nil (λ (k : Key). k.end % 256 ≡ 0)), (0, leaf_key, lit< tt, refl, refl));
    })
    (All-cons KeepsRange leaf_node [] (record { within = All-nil (LiesWithin 0 0 0x100_0000_0000); cover = tt }) (All-nil KeepsRange))

table_points : PointsIntoData g table_key
table_points zero inside = record { device = refl; bucket = (lit≤ tt, lit< tt); whole = lit≤ tt }
table_points (suc i) inside = absurd (omega arith)

root_points : PointsIntoData g root_key
root_points zero inside = record { device = refl; bucket = (lit≤ tt, lit< tt); whole = lit≤ tt }
root_points (suc i) inside = absurd (omega arith)

leaf_points : PointsIntoData g leaf_key
leaf_points zero inside = record { device = refl; bucket = (lit≤ tt, lit< tt); whole = lit≤ tt }
leaf_points (suc i) inside = absurd (omega arith)

extent_points : PointsIntoData g extent
extent_points zero inside = record { device = refl; bucket = (lit≤ tt, lit< tt); whole = lit≤ tt }
extent_points (suc i) inside = absurd (omega arith)

pointers : HasPointers g (data_sectors 1000 backing) reading
pointers = record {
  nodes =
      All-cons (λ (n : Node). IsNodeKey g n.key) root_node (leaf_node ∷ []) (record { size = refl; some = lit< tt; ptrs = root_points })
      (All-cons (λ (n : Node). IsNodeKey g n.key) leaf_node [] (record { size = refl; some = lit< tt; ptrs = leaf_points }) (All-nil (λ (n : Node). IsNodeKey g n.key)));
  root = refl;
  uuid = (lit< tt, table_points);
  data_keys = All-cons (IsDataKey g (data_sectors 1000 backing)) extent [] (record { ptrs = extent_points; end = λ some. lit≤ tt }) (All-nil (IsDataKey g (data_sectors 1000 backing)));
}

in_one : (k d : Key) → Contains (k ∷ []) d → d ≡ k
in_one k d (zero, lt, is) = sym is
in_one k d (suc i, lt, is) = absurd (omega (arith, lt))

-- the only key
only : (s : ℕ) (key : Key) → key_of reading s ≡ Some key → key ≡ extent
only s key at = in_one extent key (last_key_found (extent ∷ []) s key at).0

into : (key : Key) (b : ℕ) → pointer_of key ≡ Some (ptr_at key 0) → PointsInto g key b → bucket_at g (ptr_at key 0).offset ≡ b
into key b points (ptr, is, at) = ap (λ (x : Ptr). bucket_at g x.offset) (some_same (ptr_at key 0) ptr (sym points ∙ is)) ∙ at

-- which use a bucket has
abbrev class : ℕ → Use
class q =
    if nat_lt q 1 then uses.Super
    else if nat_lt q 9 then uses.Journal
    else if nat_lt q 10 then uses.Priority
    else if nat_lt q 11 then uses.Uuid
    else if nat_lt q 13 then uses.Node
    else uses.Data

used_class : (what : Use) (q : ℕ) → IsUsedFor g reading what q → (class q ≡ what) × (q ≢ 13)
used_class uses.Super q low = (let z : 0 ≡ q = omega (arith, low) in subst (λ n. class n ≡ uses.Super) z refl, λ is. (omega (arith, is, low)))
used_class uses.Journal q (low, high) =
    let one_ = le-ltb q 1 low in
    let two = lt-ltb q 9 high in
    ((let at : class q ≡ uses.Journal = rw (one_, two) refl in at), λ is. (omega (arith, is, high)))
used_class uses.Priority q used = let is = in_nine q used in (subst (λ n. class n ≡ uses.Priority) (sym is) refl, λ e. (omega (arith, e, is)))
used_class uses.Uuid q used = let is : 10 ≡ q = into table_key q refl used in (subst (λ n. class n ≡ uses.Uuid) is refl, λ e. (omega (arith, e, is)))
used_class uses.Node q (zero, n, lt, at, used) =
    let is : 11 ≡ q = into root_key q refl (subst (λ (m : Node). PointsInto g m.key q) (sym at) used) in
    (subst (λ n. class n ≡ uses.Node) is refl, λ e. (omega (arith, e, is)))
used_class uses.Node q (suc zero, n, lt, at, used) =
    let is : 12 ≡ q = into leaf_key q refl (subst (λ (m : Node). PointsInto g m.key q) (sym at) used) in
    (subst (λ n. class n ≡ uses.Node) is refl, λ e. (omega (arith, e, is)))
used_class uses.Node q (suc (suc i), n, lt, at, used) = absurd (omega (arith, lt))
used_class uses.Data q (s, key, live) =
    let is = only s key live.last in
    let f = last_key_found (extent ∷ []) s key live.last in
    let covers = subst (λ (k : Key). Covers k s) is f.1 in
    let lies = (lies_in_bucket g extent 0 s (extent_points 0 (lit< tt)) covers).1 in
    let there : 32 ≡ q = sym lies ∙ ap (λ (k : Key). bucket_at g (place_at k 0 s)) (sym is) ∙ live.place in
    (subst (λ n. class n ≡ uses.Data) there refl, λ e. (omega (arith, e, there)))

one_use : HasOneUse g reading
one_use = record { one = λ q a b x y. sym (used_class a q x).0 ∙ (used_class b q y).0; nodes = apart }
  where
    apart : AllPairs (λ m n. (q : ℕ) → PointsInto g m.key q → PointsInto g n.key q → ⊥) (root_node ∷ leaf_node ∷ [])
    apart zero (suc zero) d low high q x y =
        let a : 11 ≡ q = into root_key q refl x in
        let b : 12 ≡ q = into leaf_key q refl y in
        omega (arith, a, b)
    apart zero zero d low high q x y = omega arith
    apart zero (suc (suc j)) d low high q x y = omega arith
    apart (suc i) zero d low high q x y = omega arith
    apart (suc i) (suc j) d low high q x y = omega arith

window : IsWithinWindow g reading
window s key ptr at points =
    let is = only s key at in
    let first : ptr_at extent 0 ≡ ptr = some_same (ptr_at extent 0) ptr (subst (λ (k : Key). pointer_of k ≡ Some ptr) is points) in
    let none : age_of g gens ptr ≡ 0 = ap (age_of g gens) (sym first) in
    (omega (arith, none), λ _. none)

spare : HasSpareBuckets g reading
spare = record {
  spare = 13 ∷ [];
  different = λ i j d low high. absurd (omega (arith, low, high));
  each = All-cons (IsSpare g reading) 13 [] (lit< tt, λ what used. (used_class what 13 used).1 refl) (All-nil (IsSpare g reading));
  enough = (let few = one in omega (arith, few));
}

names : NamesBacking view key_cache
names = record {
  bucket = 10;
  place = (ptr_at table_key 0, refl, refl);
  entries = is_formatted.entries;
  table = table_stays g new_cache key_cache 10 is_formatted.entries (subst (λ n. TableIn g new_cache (9 + n) is_formatted.entries) one is_formatted.table)
      (λ s low high. same s (λ is. (omega (arith, is, low))));
  first = is_formatted.named;
}

parts_ : HasSoundParts key_pair view
parts_ = record {
  superblocks = superblocks;
  backing = names;
  ranges = ranges;
  pointers = pointers;
  uses = one_use;
  agrees = λ s key at live clean. absurd (dirty (ap (λ (k : Key). k.dirty) (sym (only s key at)) ∙ clean));
  window = window;
  spare = spare;
  no_stray = λ d there needed. alone d there;
}
  where
    dirty : true ≡ false → ⊥
    dirty e = cc

-- ---- and so it is opened

leaf_in : In leaf_node (root_node ∷ leaf_node ∷ [])
leaf_in = inr (inl refl)

pub has_replay : HasReplay
has_replay =
    let w = law_layout g in
    let c = law_choices key_pair view is_view parts_ in
    let o = law_opening key_pair view w.0 c.0 is_view parts_ w.1 c.1 in
    let slot = c.1.leaves.all leaf_node leaf_in refl in
    let back = (c.1.pending slot.0 leaf_node [] slot.1 refl).same 16 (lit≤ tt) (lit< tt) in
    let leaf = ap (λ (x : Leaf). x.pending) (o.2.parts.leaves slot.0) ∙ ap (λ (n : Option Node). (leaf_of g n (c.0.pending slot.0)).pending) slot.1 in (
      key_pair,
      view,
      w.0,
      c.0,
      o.0,
      (
        o.1,
        record {
          opened = record { view = is_view; parts = parts_; is_layout = w.1; opening = o.2; sound = o.3 };
          index = o.2.books.index 16;
          slot = slot.0;
          pending = subst (λ (ps : List Pending). AnySpeaks (keys_of ps) 16) (sym leaf) (Some (record { dirty = true; dev = 0; place = 2048; generation = 0 }), back);
        },
      ),
    )
