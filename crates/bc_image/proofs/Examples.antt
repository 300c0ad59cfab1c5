-- Small readings of pairs: one with all parts of soundness, and for each part one that lacks it alone.
use Rattle.std.proofs.Common.{◌≡◌, ◌⊎◌, inl, inr, ℕ, zero, suc, ◌+◌, ◌^◌, ◌<◌, ◌≤◌, true, false, List, [], ◌∷◌, replicate, Some, if◌then◌else◌, refl, sym, subst, ap, ◌∙◌, lit<, lit≤, arith}
use Rattle.std.specs.Prelude.{◌/◌, ◌%◌, All, AllPairs, slice_index_or, nat_lt}
use Rattle.std.proofs.lemmas.Bool.{lt-ltb, le-ltb}
use Rattle.std.proofs.lemmas.List.Elements.{All-nil, All-cons, All-contains}
use Rattle.bc_model.specs.Sector.{Image}
use Rattle.bc_model.specs.Pattern.{zeros}
use Rattle.bc_disk.specs.Gens.{Gens}
use Rattle.bc_disk.specs.declared.geometry.Geometry.{Geometry}
use Rattle.bc_record.specs.Places.{at_place, bucket_at}
use Rattle.bc_key.specs.declared.key.Key.{Key}
use Rattle.bc_key.specs.declared.ptr.Ptr.{Ptr}
use Rattle.bc_key.specs.Key.{ptr_at, pointer_of, place_at, Covers}
use Rattle.bc_keys.proofs.OnePointer.{one_pointer_key, ptr_to}
use Rattle.bc_extent.proofs.LastKeys.{last_key_found}
use Rattle.bc_jset.specs.declared.entry.JEntry.{JEntry}
use Rattle.bc_jset.specs.Entries.{FoundEntry}
use Rattle.bc_super.specs.declared.backing.BackingSuper.{BackingSuper}
use Rattle.bc_super.specs.declared.cache.CacheSuper.{CacheSuper}
use Rattle.bc_image.specs.Pointers.{PointsIntoData, PointsInto}
use Rattle.bc_image.specs.Tree.{Node, node_of}
use Rattle.bc_image.specs.Reading.{Reading}
use Rattle.bc_image.specs.Shown.{no_record, age_of}
use Rattle.bc_image.specs.Uses.{Use, IsUsedFor, IsSpare, LiesLive}
use Rattle.bc_image.specs.Uses as uses
use Rattle.bc_image.specs.Sound.{HasSuperblocks, LiesWithin, KeepsRange, HasRanges, IsNodeKey, IsDataKey, HasPointers, HasOneUse, IsWithinWindow}
use Rattle.bc_image.proofs.Unique.{some_same}
use Rattle.bc_image.proofs.Places.{lies_in_bucket}

-- ---- what is seen

-- 128 buckets of 64 sectors, of which so many behind the first are the journal
abbrev pub geometry : (journal : ℕ) → 1 + journal ≤ 128 → Geometry
geometry journal fits = record {
  block = 1;
  bucket = 64;
  nbuckets = 128;
  first_bucket = 1;
  journal = journal;
  set_magic = 1;
  node_sectors = 64;
  block_is_one = refl;
  bucket_is_one = refl;
  bucket_from = lit≤ tt;
  bucket_to = lit≤ tt;
  first_behind_super = lit< tt;
  buckets_from = lit≤ tt;
  buckets_to = lit≤ tt;
  journal_within = fits;
  node_is_one = refl;
}

-- a key to the first sector of bucket 124, and those of a root and a leaf in the next two
abbrev pub table_key : Key
table_key = one_pointer_key 64 64 false (ptr_to 7936 0 (lit< tt) (lit< tt)) (lit< tt) (lit< tt)

abbrev pub root_key : Key
root_key = one_pointer_key 0x100_0000_0000 64 false (ptr_to 8000 0 (lit< tt) (lit< tt)) (lit< tt) (lit< tt)

abbrev pub leaf_key : Key
leaf_key = one_pointer_key 0x100_0000_0000 64 false (ptr_to 8064 0 (lit< tt) (lit< tt)) (lit< tt) (lit< tt)

-- clean data of sectors 32 to 39, and dirty data of sectors 16 to 23, whose pointer has this generation, both in bucket 127
abbrev pub clean_key : Key
clean_key = one_pointer_key 40 8 false (ptr_to 8136 0 (lit< tt) (lit< tt)) (lit< tt) (lit< tt)

abbrev pub dirty_key : (generation : ℕ) → generation < 2 ^ 8 → Key
dirty_key generation fits = one_pointer_key 24 8 true (ptr_to 8128 generation (lit< tt) fits) (lit< tt) (lit< tt)

abbrev pub entry_with : (seq generation : ℕ) → generation < 2 ^ 8 → JEntry
entry_with seq generation fits = record { seq = seq; last_seq = 1; uuid_bucket = table_key; root = root_key; level = 1; prio = 123; keys = dirty_key generation fits ∷ [] }

abbrev pub found_with : (seq generation : ℕ) → generation < 2 ^ 8 → FoundEntry
found_with seq generation fits = at_place 64 (entry_with seq generation fits)

abbrev pub gens_with : ℕ → Gens
gens_with chain = record { records = replicate 128 no_record; chain = chain ∷ [] }

abbrev pub root_node : Node
root_node = node_of 1 0 root_key (record { seq = 65537; version = 1; keys = leaf_key ∷ [] } ∷ [])

abbrev pub leaf_node : ℕ → Node
leaf_node from = node_of 0 from leaf_key (record { seq = 65536; version = 1; keys = clean_key ∷ [] } ∷ [])

abbrev pub reading : (from chain seq generation : ℕ) → generation < 2 ^ 8 → Reading
reading from chain seq generation fits = record {
  entries = found_with seq generation fits ∷ [];
  newest = found_with seq generation fits;
  gens = gens_with chain;
  nodes = root_node ∷ leaf_node from ∷ [];
}

abbrev pub backing_with : (uuid : List ℕ) (flags : ℕ) → BackingSuper
backing_with uuid flags = record { version = 1; uuid = uuid; set_uuid = replicate 16 1; label = replicate 32 0; flags = flags; seq = 0; block = 1; last_mount = 0; data_offset = 16 }

abbrev pub cache_super : CacheSuper
cache_super = record {
  version = 3;
  uuid = replicate 16 2;
  set_uuid = replicate 16 1;
  label = replicate 32 0;
  flags = 1;
  seq = 0;
  nbuckets = 128;
  block = 1;
  bucket = 64;
  last_mount = 0;
  first_bucket = 1;
  journal = 121;
}

abbrev pub blank : Image
blank = λ s. zeros

-- ---- the parts

pub superblocks : HasSuperblocks (backing_with (replicate 16 0) (2 ^ 61)) cache_super
superblocks = record { initialised = (refl, lit< tt); same_set = refl; state = inl refl }

pub ranges : (chain seq generation : ℕ) (fits : generation < 2 ^ 8) → HasRanges (reading 0 chain seq generation fits)
ranges chain seq generation fits =
    All-cons KeepsRange root_node (leaf_node 0 ∷ [])
    (record {
      within = All-cons (LiesWithin 1 0 0x100_0000_0000) leaf_key [] (lit< tt, lit≤ tt) (All-nil (LiesWithin 1 0 0x100_0000_0000));
      cover = (All-cons (λ (k : Key). k.end % 256 ≡ 0) leaf_key [] refl (All-nil (λ (k : Key). k.end % 256 ≡ 0)), (0, leaf_key, lit< tt, refl, refl));
    })
    (All-cons KeepsRange (leaf_node 0) []
    (record { within = All-cons (LiesWithin 0 0 0x100_0000_0000) clean_key [] (lit≤ tt, lit≤ tt) (All-nil (LiesWithin 0 0 0x100_0000_0000)); cover = tt })
    (All-nil KeepsRange))

module _ (journal : ℕ) (fits : 1 + journal ≤ 128) (few : journal ≤ 122) where
  pub table_points : PointsIntoData (geometry journal fits) table_key
  table_points zero inside = record { device = refl; bucket = (omega arith, lit< tt); whole = lit≤ tt }
  table_points (suc i) inside = absurd (omega arith)

  pub root_points : PointsIntoData (geometry journal fits) root_key
  root_points zero inside = record { device = refl; bucket = (omega arith, lit< tt); whole = lit≤ tt }
  root_points (suc i) inside = absurd (omega arith)

  pub leaf_points : PointsIntoData (geometry journal fits) leaf_key
  leaf_points zero inside = record { device = refl; bucket = (omega arith, lit< tt); whole = lit≤ tt }
  leaf_points (suc i) inside = absurd (omega arith)

  pub clean_points : PointsIntoData (geometry journal fits) clean_key
  clean_points zero inside = record { device = refl; bucket = (omega arith, lit< tt); whole = lit≤ tt }
  clean_points (suc i) inside = absurd (omega arith)

  pub dirty_points : (generation : ℕ) (small : generation < 2 ^ 8) → PointsIntoData (geometry journal fits) (dirty_key generation small)
  dirty_points generation small zero inside = record { device = refl; bucket = (omega arith, lit< tt); whole = lit≤ tt }
  dirty_points generation small (suc i) inside = absurd (omega arith)

  pub pointers : (size from chain seq generation : ℕ) (small : generation < 2 ^ 8) → 40 ≤ size → HasPointers (geometry journal fits) size (reading from chain seq generation small)
  pointers size from chain seq generation small room = record {
    nodes =
        All-cons (λ (n : Node). IsNodeKey (geometry journal fits) n.key) root_node (leaf_node from ∷ []) (record { size = refl; some = lit< tt; ptrs = root_points })
        (All-cons (λ (n : Node). IsNodeKey (geometry journal fits) n.key) (leaf_node from) [] (record { size = refl; some = lit< tt; ptrs = leaf_points }) (All-nil (λ (n : Node). IsNodeKey (geometry journal fits) n.key)));
    root = refl;
    uuid = (lit< tt, table_points);
    data_keys =
        All-cons (IsDataKey (geometry journal fits) size) clean_key (dirty_key generation small ∷ []) (record { ptrs = clean_points; end = λ some. omega arith })
        (All-cons (IsDataKey (geometry journal fits) size) (dirty_key generation small) [] (record { ptrs = dirty_points generation small; end = λ some. omega arith }) (All-nil (IsDataKey (geometry journal fits) size)));
  }

  -- data lies in bucket 127
  pub data_place : (generation : ℕ) (small : generation < 2 ^ 8) → All (λ key. (s : ℕ) → Covers key s → bucket_at (geometry journal fits) (place_at key 0 s) ≡ 127) (clean_key ∷ dirty_key generation small ∷ [])
  data_place generation small =
      All-cons (λ (key : Key). (s : ℕ) → Covers key s → bucket_at (geometry journal fits) (place_at key 0 s) ≡ 127) clean_key (dirty_key generation small ∷ [])
      (λ s covers. (lies_in_bucket (geometry journal fits) clean_key 0 s (clean_points 0 (lit< tt)) covers).1)
      (All-cons (λ (key : Key). (s : ℕ) → Covers key s → bucket_at (geometry journal fits) (place_at key 0 s) ≡ 127) (dirty_key generation small) []
      (λ s covers. (lies_in_bucket (geometry journal fits) (dirty_key generation small) 0 s (dirty_points generation small 0 (lit< tt)) covers).1)
      (All-nil (λ (key : Key). (s : ℕ) → Covers key s → bucket_at (geometry journal fits) (place_at key 0 s) ≡ 127)))

  pub data_bucket : (from chain seq generation q : ℕ) (small : generation < 2 ^ 8) → IsUsedFor (geometry journal fits) (reading from chain seq generation small) uses.Data q → q ≡ 127
  data_bucket from chain seq generation q small (s, key, lies) =
      let found = last_key_found (clean_key ∷ dirty_key generation small ∷ []) s key lies.last in
      sym lies.place ∙ All-contains (λ (k : Key). (t : ℕ) → Covers k t → bucket_at (geometry journal fits) (place_at k 0 t) ≡ 127) (clean_key ∷ dirty_key generation small ∷ []) key (data_place generation small) found.0 s found.1

  pub into_table : (q : ℕ) → PointsInto (geometry journal fits) table_key q → q ≡ 124
  into_table q (ptr, points, at) = sym at ∙ ap (λ (x : Ptr). x.offset / 64) (sym (some_same (ptr_at table_key 0) ptr points))

  pub into_root : (q : ℕ) → PointsInto (geometry journal fits) root_key q → q ≡ 125
  into_root q (ptr, points, at) = sym at ∙ ap (λ (x : Ptr). x.offset / 64) (sym (some_same (ptr_at root_key 0) ptr points))

  pub into_leaf : (q : ℕ) → PointsInto (geometry journal fits) leaf_key q → q ≡ 126
  into_leaf q (ptr, points, at) = sym at ∙ ap (λ (x : Ptr). x.offset / 64) (sym (some_same (ptr_at leaf_key 0) ptr points))

  pub into_nodes : (from : ℕ) → All (λ n. (q : ℕ) → PointsInto (geometry journal fits) n.key q → (q ≡ 125) ⊎ (q ≡ 126)) (root_node ∷ leaf_node from ∷ [])
  into_nodes from =
      All-cons (λ (n : Node). (q : ℕ) → PointsInto (geometry journal fits) n.key q → (q ≡ 125) ⊎ (q ≡ 126)) root_node (leaf_node from ∷ []) (λ q into. inl (into_root q into))
      (All-cons (λ (n : Node). (q : ℕ) → PointsInto (geometry journal fits) n.key q → (q ≡ 125) ⊎ (q ≡ 126)) (leaf_node from) [] (λ q into. inr (into_leaf q into))
      (All-nil (λ (n : Node). (q : ℕ) → PointsInto (geometry journal fits) n.key q → (q ≡ 125) ⊎ (q ≡ 126))))

  abbrev pub class_of : ℕ → Use
  class_of q =
      if nat_lt q 1 then uses.Super
      else if nat_lt q (1 + journal) then uses.Journal
      else if nat_lt q 124 then uses.Priority
      else if nat_lt q 125 then uses.Uuid
      else if nat_lt q 127 then uses.Node
      else uses.Data

  pub used_class : (from seq generation : ℕ) (small : generation < 2 ^ 8) (what : Use) (q : ℕ) → IsUsedFor (geometry journal fits) (reading from 123 seq generation small) what q → (class_of q ≡ what) × ((q < 1 + journal) ⊎ (122 < q))
  used_class from seq generation small uses.Super q low = (let one = lt-ltb q 1 low in rw one refl, inl (omega (arith, low)))
  used_class from seq generation small uses.Journal q (low, high) = (let one = le-ltb q 1 low in let two = lt-ltb q (1 + journal) high in rw (one, two) refl, inl (omega (arith, high)))
  used_class from seq generation small uses.Priority q (k, inside, at) =
      let is : q ≡ 123 = prio_is k inside at in
      let one = le-ltb q 1 (omega (arith, is)) in
      let two = le-ltb q (1 + journal) (omega (arith, is, few)) in
      let three = lt-ltb q 124 (omega (arith, is)) in
      (rw (one, two, three) refl, inr (omega (arith, is)))
    where
      prio_is : (m : ℕ) → m < 1 → slice_index_or (123 ∷ []) m q ≡ q → q ≡ 123
      prio_is zero lt e = sym e
      prio_is (suc m) lt e = absurd (omega arith)
  used_class from seq generation small uses.Uuid q into =
      let is = into_table q into in
      let one = le-ltb q 1 (omega (arith, is)) in
      let two = le-ltb q (1 + journal) (omega (arith, is, few)) in
      let three = le-ltb q 124 (omega (arith, is)) in
      let four = lt-ltb q 125 (omega (arith, is)) in
      (rw (one, two, three, four) refl, inr (omega (arith, is)))
  used_class from seq generation small uses.Node q (k, n, inside, at, into) =
      let there = subst (λ (m : Node). (t : ℕ) → PointsInto (geometry journal fits) m.key t → (t ≡ 125) ⊎ (t ≡ 126)) at (into_nodes from k n inside) in
      let low : 125 ≤ q = elim (there q into) [ inl is ↦ omega (arith, is) | inr is ↦ omega (arith, is) ] in
      let high : q < 127 = elim (there q into) [ inl is ↦ omega (arith, is) | inr is ↦ omega (arith, is) ] in
      let one = le-ltb q 1 (omega (arith, low)) in
      let two = le-ltb q (1 + journal) (omega (arith, low, few)) in
      let three = le-ltb q 124 (omega (arith, low)) in
      let four = le-ltb q 125 low in
      let five = lt-ltb q 127 high in
      (rw (one, two, three, four, five) refl, inr (omega (arith, low)))
  used_class from seq generation small uses.Data q used =
      let is = data_bucket from 123 seq generation q small used in
      let one = le-ltb q 1 (omega (arith, is)) in
      let two = le-ltb q (1 + journal) (omega (arith, is, few)) in
      let three = le-ltb q 124 (omega (arith, is)) in
      let four = le-ltb q 125 (omega (arith, is)) in
      let five = le-ltb q 127 (omega (arith, is)) in
      (rw (one, two, three, four, five) refl, inr (omega (arith, is)))

  pub one_use : (from seq generation : ℕ) (small : generation < 2 ^ 8) → HasOneUse (geometry journal fits) (reading from 123 seq generation small)
  one_use from seq generation small = record { one = λ q a b x y. sym (used_class from seq generation small a q x).0 ∙ (used_class from seq generation small b q y).0; nodes = apart }
    where
      apart : AllPairs (λ m n. (q : ℕ) → PointsInto (geometry journal fits) m.key q → PointsInto (geometry journal fits) n.key q → ⊥) (root_node ∷ leaf_node from ∷ [])
      apart zero (suc zero) d low high q one two = let first = into_root q one in let second = into_leaf q two in omega (arith, first, second)
      apart zero zero d low high q one two = omega arith
      apart zero (suc (suc j)) d low high q one two = omega arith
      apart (suc i) zero d low high q one two = omega arith
      apart (suc i) (suc j) d low high q one two = omega arith

  -- the dirty data is as new as its bucket
  pub window : (from chain seq : ℕ) → IsWithinWindow (geometry journal fits) (reading from chain seq 0 (lit< tt))
  window from chain seq s key ptr is points =
      let found = last_key_found (clean_key ∷ dirty_key 0 (lit< tt) ∷ []) s key is in
      All-contains (λ (k : Key). (x : Ptr) → pointer_of k ≡ Some x → (age_of (geometry journal fits) (gens_with chain) x ≤ 96) × (k.dirty ≡ true → age_of (geometry journal fits) (gens_with chain) x ≡ 0)) (clean_key ∷ dirty_key 0 (lit< tt) ∷ []) key each found.0 ptr points
    where
      aged : (a : Ptr) (x : Ptr) (b : Key) → Some a ≡ Some x → age_of (geometry journal fits) (gens_with chain) a ≡ 0 → (age_of (geometry journal fits) (gens_with chain) x ≤ 96) × (b.dirty ≡ true → age_of (geometry journal fits) (gens_with chain) x ≡ 0)
      aged a x b same none =
          let new : age_of (geometry journal fits) (gens_with chain) x ≡ 0 = subst (λ (y : Ptr). age_of (geometry journal fits) (gens_with chain) y ≡ 0) (some_same a x same) none in
          (omega (arith, new), λ _. new)

      each : All (λ k. (x : Ptr) → pointer_of k ≡ Some x → (age_of (geometry journal fits) (gens_with chain) x ≤ 96) × (k.dirty ≡ true → age_of (geometry journal fits) (gens_with chain) x ≡ 0)) (clean_key ∷ dirty_key 0 (lit< tt) ∷ [])
      each =
          All-cons (λ (k : Key). (x : Ptr) → pointer_of k ≡ Some x → (age_of (geometry journal fits) (gens_with chain) x ≤ 96) × (k.dirty ≡ true → age_of (geometry journal fits) (gens_with chain) x ≡ 0)) clean_key (dirty_key 0 (lit< tt) ∷ [])
          (λ x same. aged (ptr_at clean_key 0) x clean_key same refl)
          (All-cons (λ (k : Key). (x : Ptr) → pointer_of k ≡ Some x → (age_of (geometry journal fits) (gens_with chain) x ≤ 96) × (k.dirty ≡ true → age_of (geometry journal fits) (gens_with chain) x ≡ 0)) (dirty_key 0 (lit< tt)) []
          (λ x same. aged (ptr_at (dirty_key 0 (lit< tt)) 0) x (dirty_key 0 (lit< tt)) same refl)
          (All-nil (λ (k : Key). (x : Ptr) → pointer_of k ≡ Some x → (age_of (geometry journal fits) (gens_with chain) x ≤ 96) × (k.dirty ≡ true → age_of (geometry journal fits) (gens_with chain) x ≡ 0))))
