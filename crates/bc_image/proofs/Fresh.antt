-- A pair that was made anew is sound, and shows the data of the backing device.
use Rattle.std.proofs.Common.{◌≡◌, ◌⊎◌, inl, inr, ℕ, zero, suc, ◌+◌, ◌*◌, ◌^◌, ◌<◌, ◌≤◌, false, List, [], ◌∷◌, ◌++◌, Some, None, if◌then◌else◌, refl, sym, subst, ap, ◌∙◌, lit<, arith}
use Rattle.std.specs.Prelude.{◌%◌, All, AllPairs, Any, Option, nat_lt, slice_index_or}
use Rattle.std.proofs.Math.Nat.{mul-add, mul-div_right}
use Rattle.std.proofs.lemmas.Bool.{lt-ltb, le-ltb}
use Rattle.std.proofs.lemmas.List.Elements.{All-nil, All-cons}
use Rattle.bc_disk.specs.declared.geometry.Geometry.{Geometry}
use Rattle.bc_record.specs.Places.{end_of}
use Rattle.bc_record.proofs.Blocks.{block_small}
use Rattle.bc_jset.specs.Entries.{FoundEntry, bucket_start}
use Rattle.bc_jset.specs.Ring.{bucket_of}
use Rattle.bc_jset.specs.Records.{entry_kind}
use Rattle.bc_key.specs.declared.key.Key.{Key}
use Rattle.bc_extent.specs.LastKey.{last_key}
use Rattle.bc_disk.specs.Chain.{sets_in_chain}
use Rattle.bc_prio.specs.Records.{ChainIn}
use Rattle.bc_super.specs.Division.{IsPassThrough}
use Rattle.bc_super.specs.Super.{data_sectors}
use Rattle.bc_super.specs.declared.backing.BackingSuper.{BackingSuper}
use Rattle.bc_super.specs.declared.cache.CacheSuper.{CacheSuper}
use Rattle.bc_image.specs.Pair.{Pair}
use Rattle.bc_image.specs.Pointers.{PointsInto}
use Rattle.bc_image.specs.Children.{is_bare, children_of}
use Rattle.bc_image.specs.Tree.{Node, node_of, set_keys, AreWalks, IsWalk}
use Rattle.bc_image.specs.Reading.{Reading, View, IsView, keys_of, key_of}
use Rattle.bc_image.specs.Shown.{value_by, IsShown, cached}
use Rattle.bc_image.specs.Uses.{Use, IsUsedFor, IsSpare}
use Rattle.bc_image.specs.Uses as uses
use Rattle.bc_image.specs.Sound.{HasSuperblocks, LiesWithin, KeepsRange, HasRanges, IsNodeKey, IsDataKey, HasPointers, HasOneUse, HasSpareBuckets, HasRoomForEntry, IsSound}
use Rattle.bc_image.specs.Formatted.{first_set, table_bucket, root_bucket, leaf_bucket, IsKeyTo, IsFormatted}
use Rattle.bc_image.proofs.Formatted.{first_found, first_listed, all_stand, first_alone, sectors_small, not_bare, only_bucket, into_bucket, lies_whole, one_set_at, counted, counted_long, counted_at, enough}

-- which use a bucket has in a pair that was made anew
abbrev class_of : Geometry → ℕ → Use
class_of g b =
    if nat_lt b g.first_bucket then uses.Super
    else if nat_lt b (first_set g) then uses.Journal
    else if nat_lt b (table_bucket g) then uses.Priority
    else if nat_lt b (root_bucket g) then uses.Uuid
    else uses.Node

module _ (g : Geometry) (b : ℕ) where
  super_class : b < g.first_bucket → class_of g b ≡ uses.Super
  super_class low = let one = lt-ltb b g.first_bucket low in rw one refl

  journal_class : g.first_bucket ≤ b → b < first_set g → class_of g b ≡ uses.Journal
  journal_class low high = let one = le-ltb b g.first_bucket low in let two = lt-ltb b (first_set g) high in rw (one, two) refl

  prio_class : first_set g ≤ b → b < table_bucket g → class_of g b ≡ uses.Priority
  prio_class low high =
      let one = le-ltb b g.first_bucket (omega (arith, low)) in
      let two = le-ltb b (first_set g) low in
      let three = lt-ltb b (table_bucket g) high in
      rw (one, two, three) refl

  uuid_class : b ≡ table_bucket g → class_of g b ≡ uses.Uuid
  uuid_class is =
      let one = le-ltb b g.first_bucket (omega (arith, is)) in
      let two = le-ltb b (first_set g) (omega (arith, is)) in
      let three = le-ltb b (table_bucket g) (omega (arith, is)) in
      let four = lt-ltb b (root_bucket g) (omega (arith, is)) in
      rw (one, two, three, four) refl

  node_class : root_bucket g ≤ b → class_of g b ≡ uses.Node
  node_class low =
      let one = le-ltb b g.first_bucket (omega (arith, low)) in
      let two = le-ltb b (first_set g) (omega (arith, low)) in
      let three = le-ltb b (table_bucket g) (omega (arith, low)) in
      let four = le-ltb b (root_bucket g) low in
      rw (one, two, three, four) refl

module _ (p : Pair) (b : BackingSuper) (c : CacheSuper) (g : Geometry) (f : IsFormatted p b c g) where
  abbrev root_node : Node
  root_node = node_of 1 0 f.entry.root (f.root_set ∷ [])

  abbrev leaf_node : Node
  leaf_node = node_of 0 0 f.leaf (f.leaf_set ∷ [])

  abbrev pub fresh_reading : Reading
  fresh_reading = record { entries = first_found g p.cache f.entry f.first_entry ∷ []; newest = first_found g p.cache f.entry f.first_entry; gens = f.gens; nodes = root_node ∷ leaf_node ∷ [] }

  abbrev pub fresh_view : View
  fresh_view = record { backing = b; cache = c; geometry = g; reading = fresh_reading }

  -- the root's one child
  one_child : children_of (set_keys (f.root_set ∷ [])) ≡ f.leaf ∷ []
  one_child =
      let bare : is_bare f.leaf ≡ false = not_bare g (leaf_bucket g) (2 ^ 40) g.node_sectors f.leaf f.leaf_key in
      let kept : (if is_bare f.leaf then [] else f.leaf ∷ []) ≡ f.leaf ∷ [] = rw bare refl in
      ap (λ (ks : List Key). children_of (ks ++ [])) f.children ∙ kept

  walk : IsWalk g p.cache 1 0 f.entry.root (root_node ∷ leaf_node ∷ [])
  walk =
      let root = f.first_entry.root in
      let leaf_walk : IsWalk g p.cache 0 0 f.leaf (leaf_node ∷ []) = (f.leaf_set ∷ [], one_set_at g p.cache 0 (leaf_bucket g) (2 ^ 40) g.node_sectors f.leaf f.leaf_set f.leaf_key f.has_leaf, refl) in
      let below : AreWalks (IsWalk g p.cache 0) 0 (f.leaf ∷ []) (leaf_node ∷ []) = (leaf_node ∷ [], [], leaf_walk, refl, refl) in (
        f.root_set ∷ [],
        leaf_node ∷ [],
        one_set_at g p.cache 1 (root_bucket g) (2 ^ 40) g.node_sectors f.entry.root f.root_set root f.has_root,
        subst (λ (ks : List Key). AreWalks (IsWalk g p.cache 0) 0 ks (leaf_node ∷ [])) (sym one_child) below,
        refl,
      )

  has_journal : 0 < c.journal → 0 < g.journal
  has_journal some = let same = f.geometry.journal in omega (arith, some, same)

  pub fresh_is_view : 0 < c.journal → IsView p fresh_view
  fresh_is_view some =
      let listed = first_listed g p.cache f.entry f.first_entry (has_journal some) in
      record {
        backing = f.backing;
        cache = f.cache;
        geometry = f.geometry;
        reading = record {
          entries = listed.0;
          newest = listed.1;
          gens = subst (λ n. ChainIn g p.cache n f.gens) (sym f.first_entry.prio) f.chain;
          nodes = subst (λ n. IsWalk g p.cache n 0 f.entry.root (root_node ∷ leaf_node ∷ [])) (sym f.first_entry.level) walk;
        };
      }

  -- there are no keys
  no_keys : keys_of fresh_reading ≡ []
  no_keys = ap (λ (ks : List Key). ((ks ++ []) ++ []) ++ (f.entry.keys ++ [])) f.empty ∙ ap (λ (ks : List Key). ks ++ []) f.first_entry.keys

  no_key : (s : ℕ) → key_of fresh_reading s ≡ None
  no_key s = ap (λ (ks : List Key). last_key ks s) no_keys

  never : {A : Type 0} → (s : ℕ) (key : Key) → key_of fresh_reading s ≡ Some key → A
  never s key is = let none = no_key s in absurd (cc)

  -- ---- the buckets

  node_buckets : All (λ n. (q : ℕ) → PointsInto g n.key q → (q ≡ root_bucket g) ⊎ (q ≡ leaf_bucket g)) (root_node ∷ leaf_node ∷ [])
  node_buckets =
      All-cons (λ (n : Node). (q : ℕ) → PointsInto g n.key q → (q ≡ root_bucket g) ⊎ (q ≡ leaf_bucket g)) root_node (leaf_node ∷ [])
      (λ q into. inl (only_bucket g (root_bucket g) (2 ^ 40) g.node_sectors f.entry.root f.first_entry.root q into))
      (All-cons (λ (n : Node). (q : ℕ) → PointsInto g n.key q → (q ≡ root_bucket g) ⊎ (q ≡ leaf_bucket g)) leaf_node []
      (λ q into. inr (only_bucket g (leaf_bucket g) (2 ^ 40) g.node_sectors f.leaf f.leaf_key q into))
      (All-nil (λ (n : Node). (q : ℕ) → PointsInto g n.key q → (q ≡ root_bucket g) ⊎ (q ≡ leaf_bucket g))))

  -- what is used so is of this class, and not above the leaf's bucket
  used_class : (what : Use) (q : ℕ) → IsUsedFor g fresh_reading what q → (class_of g q ≡ what) × (q ≤ leaf_bucket g)
  used_class uses.Super q low = (super_class g q low, omega (arith, low))
  used_class uses.Journal q (low, high) = (journal_class g q low high, omega (arith, high))
  used_class uses.Priority q (k, inside, at) =
      let here = f.in_order k q inside in
      let count = f.chain.count in
      (prio_class g q (omega (arith, here, at)) (omega (arith, here, at, inside, count)), omega (arith, here, at, inside, count))
  used_class uses.Uuid q into =
      let is = only_bucket g (table_bucket g) g.bucket g.bucket f.entry.uuid_bucket f.first_entry.uuid_bucket q into in
      (uuid_class g q is, omega (arith, is))
  used_class uses.Node q (k, n, inside, at, into) =
      let there = subst (λ (m : Node). (r : ℕ) → PointsInto g m.key r → (r ≡ root_bucket g) ⊎ (r ≡ leaf_bucket g)) at (node_buckets k n inside) in
      elim (there q into) [ inl is ↦ (node_class g q (omega (arith, is)), omega (arith, is)) | inr is ↦ (node_class g q (omega (arith, is)), omega (arith, is)) ]
  used_class uses.Data q (s, key, lies) = never s key lies.last

  pub fresh_uses : HasOneUse g fresh_reading
  fresh_uses = record {
    one = λ q x y used too. sym (used_class x q used).0 ∙ (used_class y q too).0;
    nodes = apart;
  }
    where
      apart : AllPairs (λ m n. (q : ℕ) → PointsInto g m.key q → PointsInto g n.key q → ⊥) (root_node ∷ leaf_node ∷ [])
      apart zero (suc zero) d low high q one two =
          let first = only_bucket g (root_bucket g) (2 ^ 40) g.node_sectors f.entry.root f.first_entry.root q one in
          let second = only_bucket g (leaf_bucket g) (2 ^ 40) g.node_sectors f.leaf f.leaf_key q two in
          omega (arith, first, second)
      apart zero zero d low high q one two = omega arith
      apart zero (suc (suc j)) d low high q one two = omega arith
      apart (suc i) zero d low high q one two = omega arith
      apart (suc i) (suc j) d low high q one two = omega arith

  pub fresh_spare : HasSpareBuckets g fresh_reading
  fresh_spare =
      let many = sets_in_chain g in
      let start = suc (leaf_bucket g) in
      let room = enough g f.divided in
      record {
        spare = counted (suc (leaf_bucket g)) (sets_in_chain g);
        different = λ i j d low high same.
            (let long = counted_long (suc (leaf_bucket g)) (sets_in_chain g) in
            let one = counted_at (suc (leaf_bucket g)) (sets_in_chain g) i d (omega (arith, low, high, long)) in
            let two = counted_at (suc (leaf_bucket g)) (sets_in_chain g) j d (omega (arith, high, long)) in
            omega (arith, one, two, same, low));
        each = λ k d inside.
            (let long = counted_long (suc (leaf_bucket g)) (sets_in_chain g) in
            let at = counted_at (suc (leaf_bucket g)) (sets_in_chain g) k d (omega (arith, inside, long)) in
            (omega (arith, at, room, inside, long), (λ what used. (let le = (used_class what (slice_index_or (counted (suc (leaf_bucket g)) (sets_in_chain g)) k d) used).1 in omega (arith, le, at)))));
        enough = (let long = counted_long (suc (leaf_bucket g)) (sets_in_chain g) in omega (arith, long));
      }

  -- ---- ranges and pointers

  pub fresh_ranges : HasRanges fresh_reading
  fresh_ranges =
      let leaf_end = f.leaf_key.ends in
      let root_end = f.first_entry.root.ends in
      All-cons KeepsRange root_node (leaf_node ∷ [])
      (record {
        within =
            subst (λ (ks : List Key). All (LiesWithin 1 0 f.entry.root.end) (ks ++ [])) (sym f.children)
            (All-cons (LiesWithin 1 0 f.entry.root.end) f.leaf [] (omega (arith, leaf_end), omega (arith, leaf_end, root_end)) (All-nil (LiesWithin 1 0 f.entry.root.end)));
        cover =
            subst (λ (ks : List Key). All (λ k. k.end % 256 ≡ 0) ks × Any (λ k. k.end ≡ f.entry.root.end) ks) (sym one_child)
            (All-cons (λ (k : Key). k.end % 256 ≡ 0) f.leaf [] (ap (λ n. n % 256) leaf_end) (All-nil (λ (k : Key). k.end % 256 ≡ 0)), (0, f.leaf, lit< tt, refl, leaf_end ∙ sym root_end));
      })
      (All-cons KeepsRange leaf_node []
      (record { within = subst (λ (ks : List Key). All (LiesWithin 0 0 f.leaf.end) (ks ++ [])) (sym f.empty) (All-nil (LiesWithin 0 0 f.leaf.end)); cover = tt })
      (All-nil KeepsRange))

  node_key : (bucket : ℕ) (key : Key) → IsKeyTo g bucket (2 ^ 40) g.node_sectors key → root_bucket g ≤ bucket → bucket ≤ leaf_bucket g → IsNodeKey g key
  node_key bucket key to low high =
      let count = to.count in
      let room = enough g f.divided in
      let node = g.node_is_one in
      record {
        size = to.long;
        some = omega (arith, count);
        ptrs = lies_whole g bucket (2 ^ 40) g.node_sectors key to (omega (arith, low)) (omega (arith, high, room)) (omega (arith, node));
      }

  pub fresh_pointers : (size : ℕ) → HasPointers g size fresh_reading
  fresh_pointers size =
      let room = enough g f.divided in
      let table = f.first_entry.uuid_bucket in
      let count = table.count in
      record {
        nodes =
            All-cons (λ (n : Node). IsNodeKey g n.key) root_node (leaf_node ∷ []) (node_key (root_bucket g) f.entry.root f.first_entry.root (omega arith) (omega arith))
            (All-cons (λ (n : Node). IsNodeKey g n.key) leaf_node [] (node_key (leaf_bucket g) f.leaf f.leaf_key (omega arith) (omega arith)) (All-nil (λ (n : Node). IsNodeKey g n.key)));
        root = f.first_entry.root.ends;
        uuid = (omega (arith, count), lies_whole g (table_bucket g) g.bucket g.bucket f.entry.uuid_bucket table (omega arith) (omega (arith, room)) (omega arith));
        data_keys = subst (λ (ks : List Key). All (IsDataKey g size) ks) (sym no_keys) (All-nil (IsDataKey g size));
      }

  -- ---- room for an entry

  pub fresh_room : 0 < c.journal → HasRoomForEntry g p.cache fresh_reading
  fresh_room some =
      let e = first_found g p.cache f.entry f.first_entry in
      let seq = f.first_entry.seq in
      let wide = g.bucket_from in
      let at : bucket_of g (first_found g p.cache f.entry f.first_entry) ≡ g.first_bucket + 0 = mul-div_right (g.first_bucket + 0) (let positive : zero < g.bucket = omega (arith, wide) in positive) in
      let small = sectors_small g f.entry f.first_entry.keys in
      let block = block_small g in
      let behind : g.bucket * (bucket_of g (first_found g p.cache f.entry f.first_entry) + 1) ≡ bucket_start g 0 + g.bucket =
      ap (λ n. g.bucket * (n + 1)) at ∙ mul-add g.bucket (g.first_bucket + 0) 1 ∙ (let one : g.bucket * (g.first_bucket + 0) + g.bucket * 1 ≡ bucket_start g 0 + g.bucket = omega arith in one) in
      record {
        number = omega (arith, seq);
        all = first_found g p.cache f.entry f.first_entry ∷ [];
        stand = all_stand g p.cache f.entry f.first_entry (has_journal some);
        room = record {
          next = end_of (entry_kind g) (first_found g p.cache f.entry f.first_entry);
          place = record {
            last = (0, first_found g p.cache f.entry f.first_entry, lit< tt, refl, (refl, refl));
            behind =
                All-cons (λ (d : FoundEntry). bucket_of g d ≡ bucket_of g (first_found g p.cache f.entry f.first_entry) → end_of (entry_kind g) d ≤ end_of (entry_kind g) (first_found g p.cache f.entry f.first_entry)) (first_found g p.cache f.entry f.first_entry) []
                (λ same. omega arith) (All-nil (λ (d : FoundEntry). bucket_of g d ≡ bucket_of g (first_found g p.cache f.entry f.first_entry) → end_of (entry_kind g) d ≤ end_of (entry_kind g) (first_found g p.cache f.entry f.first_entry)));
          };
          room = inl (omega (arith, behind, small, block, wide));
        };
      }

  pub fresh_is_sound : HasSuperblocks b c → IsSound p
  fresh_is_sound supers = inr (
    fresh_view,
    fresh_is_view supers.initialised.1,
    record {
      superblocks = supers;
      backing = record { bucket = table_bucket g; place = into_bucket g (table_bucket g) g.bucket g.bucket f.entry.uuid_bucket f.first_entry.uuid_bucket; entries = f.entries; table = f.table; first = f.named };
      ranges = fresh_ranges;
      pointers = fresh_pointers (data_sectors p.backing_sectors b);
      uses = fresh_uses;
      agrees = λ s key is live clean. never s key is;
      window = λ s key ptr is points. never s key is;
      spare = fresh_spare;
      no_stray = λ d stands needed. first_alone g p.cache f.entry f.first_entry d stands;
    },
    fresh_room supers.initialised.1,
  )

  not_through : HasSuperblocks b c → IsPassThrough b → ⊥
  not_through supers alone = elim supers.state [ inl clean ↦ omega (arith, clean, alone.1) | inr dirty ↦ omega (arith, dirty, alone.1) ]

  pub fresh_shows : HasSuperblocks b c → IsShown p (λ s. p.backing (b.data_offset + s))
  fresh_shows supers =
      cached fresh_view (fresh_is_view supers.initialised.1) (not_through supers)
      (λ s. ap (λ (o : Option Key). value_by g f.gens p.cache o s (p.backing (b.data_offset + s))) (sym (no_key s)))
