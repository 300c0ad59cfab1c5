-- Each sound pair is an opening.
use Rattle.std.proofs.Common.{subst, ◌≡◌, ◌≢◌, ◌⊎◌, inl, inr, ℕ, zero, suc, ◌+◌, ◌*◌, ◌/◌, ◌<◌, ◌≤◌, Bool, true, false, List, [], ◌∷◌, length, take, Some, refl, sym, ap, ◌∙◌, arith, if◌then◌else◌, ◌==◌, ◌&&◌, nat_le}
use Rattle.std.specs.Prelude.{AllPairs, Contains, map, slice_index_or}
use Rattle.std.proofs.Math.Nat.{div-add-mod}
use Rattle.std.proofs.lemmas.Bool.{cases_lt, lt-ltb}
use Rattle.std.proofs.lemmas.List.{length-take-le}
use Rattle.bc_model.specs.Sector.{Image}
use Rattle.bc_disk.specs.declared.geometry.Geometry.{Geometry}
use Rattle.bc_disk.specs.declared.gens.BucketRecord.{BucketRecord}
use Rattle.bc_record.specs.Places.{bucket_at, at_place}
use Rattle.bc_key.specs.Key.{ptr_at, pointer_of}
use Rattle.bc_jset.specs.Records.{EntryFound}
use Rattle.bc_jset.specs.Entries.{FoundEntry, StandsInJournal, bucket_start, bucket_end}
use Rattle.bc_prio.specs.Records.{ChainIn}
use Rattle.bc_disk.specs.Chain.{sets_in_chain}
use Rattle.bc_super.specs.Super.{data_sectors}
use Rattle.bc_meta.specs.Facts.{In, IsAtBlock}
use Rattle.bc_meta.specs.Entries.{Entry}
use Rattle.bc_meta.specs.Tree.{Owner}
use Rattle.bc_meta.specs.Layout.{Layout, entry_at, is_within, node_end}
use Rattle.bc_meta.specs.Chain.{Distinct, EachOf}
use Rattle.bc_meta.specs.Records.{no_owner}
use Rattle.bc_meta.proofs.Lists.{by_test, by_le}
use Rattle.bc_image.specs.Reading.{IsReading, Reading}
use Rattle.bc_image.specs.Sound.{HasOneUse, HasPointers, HasSpareBuckets, HasNoStrayEntry, IsNodeKey}
use Rattle.bc_image.specs.Tree.{IsWalk, Node}
use Rattle.bc_image.specs.Uses.{IsSpare, IsUsedFor, Super, Journal, Priority, Node as NodeUse}
use Rattle.bc_facts.specs.Seen.{bucket_of, counted, seen_entry, seen_entries}
use Rattle.bc_facts.specs.Layout.{IsLayoutOf}
use Rattle.bc_facts.specs.Reads.{back}
use Rattle.bc_facts.proofs.Journal.{end_is, listed_is, seen_found}
use Rattle.bc_facts.proofs.Lists.{in_seen}
use Rattle.bc_facts.proofs.Opened.{opened_chain, opened_entries}
use Rattle.bc_facts.proofs.Place.{place, seen_of}
use Rattle.bc_facts.proofs.Stood.{all_in, contains_in, find_in, in_contains, stood}
use Rattle.bc_remains.specs.Laws.{IsOpened, LawOpened}
use Rattle.bc_remains.proofs.Next.{reopened}
use Rattle.bc_remains.proofs.Tree.{key_begins}
use Rattle.bc_remains.proofs.Walks.{Known, back_tree, owner}

-- ---- the nodes by their buckets

abbrev owner_of : Geometry → List Node → ℕ → Owner
owner_of g [] q = no_owner
owner_of g (n ∷ ns) q = if bucket_of g n.key == q then owner n else owner_of g ns q

abbrev unused_by : Geometry → List Node → ℕ → Bool
unused_by g [] q = true
unused_by g (n ∷ ns) q = if bucket_of g n.key == q then false else unused_by g ns q

off_unused : (g : Geometry) (ns : List Node) (q : ℕ) → unused_by g ns q ≡ true → (n : Node) → In n ns → bucket_of g n.key ≢ q
off_unused g [] q h n i = absurd i
off_unused g (x ∷ xs) q h n (inl e) = λ same. (let here : bucket_of g x.key ≡ q = ap (λ (y : Node). bucket_of g y.key) (sym e) ∙ same in
    by_test (bucket_of g x.key) q (λ b. (if b then false else unused_by g xs q) ≡ true → ⊥) (λ _ k. absurd (cc)) (λ ne k. ne here) h)
off_unused g (x ∷ xs) q h n (inr i) =
    by_test (bucket_of g x.key) q (λ b. (if b then false else unused_by g xs q) ≡ true → bucket_of g n.key ≢ q) (λ _ k. absurd (cc)) (λ ne k. off_unused g xs q k n i) h

unused_off : (g : Geometry) (ns : List Node) (q : ℕ) → ((n : Node) → In n ns → bucket_of g n.key ≢ q) → unused_by g ns q ≡ true
unused_off g [] q off = refl
unused_off g (x ∷ xs) q off =
    by_test (bucket_of g x.key) q (λ b. (if b then false else unused_by g xs q) ≡ true) (λ same. absurd (off x (inl refl) same)) (λ ne. unused_off g xs q (λ n i. off n (inr i)))

abbrev Apart : Geometry → Node → Node → Type 0
Apart g m n = bucket_of g m.key ≢ bucket_of g n.key

looked_up : (g : Geometry) (ns : List Node) → AllPairs (Apart g) ns → (n : Node) → In n ns → owner_of g ns (bucket_of g n.key) ≡ owner n
looked_up g [] apart n i = absurd i
looked_up g (x ∷ xs) apart n (inl e) =
    subst (λ (y : Node). owner_of g (x ∷ xs) (bucket_of g y.key) ≡ owner y) (sym e)
    (by_test (bucket_of g x.key) (bucket_of g x.key) (λ b. (if b then owner x else owner_of g xs (bucket_of g x.key)) ≡ owner x) (λ _. refl) (λ ne. absurd (ne refl)))
looked_up g (x ∷ xs) apart n (inr i) =
    by_test (bucket_of g x.key) (bucket_of g n.key) (λ b. (if b then owner x else owner_of g xs (bucket_of g n.key)) ≡ owner n)
    (λ same. (let c = in_contains xs n i in
    absurd (subst (λ (y : Node). Apart g x y) c.2 (apart 0 (suc c.0) n (omega arith) (let lt = c.1 in omega arith)) same)))
    (λ _. looked_up g xs (λ k j d lt inside. apart (suc k) (suc j) d (omega arith) (omega arith)) n i)

-- ---- the front of a list

take_in : {A : Type 0} (n : ℕ) (xs : List A) (x : A) → In x (take n xs) → In x xs
take_in zero xs x i = absurd i
take_in (suc n) [] x i = absurd i
take_in (suc n) (y ∷ ys) x (inl e) = inl e
take_in (suc n) (y ∷ ys) x (inr i) = inr (take_in n ys x i)

counted_in : (g : Geometry) (xs : List ℕ) (q : ℕ) → In q (map (counted g) xs) → (s : ℕ) × In s xs × (q ≡ counted g s)
counted_in g [] q i = absurd i
counted_in g (x ∷ xs) q (inl e) = (x, inl refl, e)
counted_in g (x ∷ xs) q (inr i) = let k = counted_in g xs q i in (k.0, inr k.1, k.2)

counted_apart : (g : Geometry) (n : ℕ) (xs : List ℕ) → ((x : ℕ) → In x xs → g.first_bucket ≤ x) → AllPairs (λ a b. a ≢ b) xs → Distinct (map (counted g) (take n xs))
counted_apart g zero xs low apart = tt
counted_apart g (suc n) [] low apart = tt
counted_apart g (suc n) (x ∷ xs) low apart = (
  (λ i. (let k = counted_in g (take n xs) (counted g x) i in
      let j = take_in n xs k.0 k.1 in
      let c = in_contains xs k.0 j in
      let here = low x (inl refl) in
      let there = low k.0 (inr j) in
      let same = k.2 in
      subst (λ y. x ≢ y) c.2 (apart 0 (suc c.0) k.0 (omega arith) (let lt = c.1 in omega arith)) (omega (arith, here, there, same)))),
  counted_apart g n xs (λ y i. low y (inr i)) (λ i j d lt inside. apart (suc i) (suc j) d (omega arith) (omega arith)),
)

counted_long : (g : Geometry) (xs : List ℕ) → length (map (counted g) xs) ≡ length xs
counted_long g [] = refl
counted_long g (x ∷ xs) = ap suc (counted_long g xs)

-- ---- a node

module _ (g : Geometry) (w : Layout) (layout : IsLayoutOf g w) where
  record Lies (n : Node) : Type 0 where
    points : pointer_of n.key ≡ Some (ptr_at n.key 0)
    low : g.first_bucket + g.journal ≤ bucket_at g (ptr_at n.key 0).offset
    high : bucket_at g (ptr_at n.key 0).offset < g.nbuckets
    within : is_within w (bucket_of g n.key) (owner n) ≡ true

  lies : (n : Node) → IsNodeKey g n.key → Lies n
  lies n k =
      let test = lt-ltb 0 n.key.count k.some in
      let points : pointer_of n.key ≡ Some (ptr_at n.key 0) = rw test refl in
      let d = k.ptrs 0 k.some in
      let offset = (ptr_at n.key 0).offset in
      let low = d.bucket.0 in
      let whole = d.whole in
      let size = k.size in
      let cut = div-add-mod (ptr_at n.key 0).offset g.bucket in
      let there : back g (bucket_of g n.key) ≡ (ptr_at n.key 0).offset / g.bucket = omega (arith, low) in
      let first : w.first (bucket_of g n.key) ≡ g.bucket * ((ptr_at n.key 0).offset / g.bucket) = layout.first (bucket_of g n.key) ∙ ap (λ m. g.bucket * m) there in
      let begins : w.begins (owner n) ≡ (ptr_at n.key 0).offset = layout.begins (owner n) ∙ key_begins n.key in
      let sectors = layout.bucket_sectors in
      let node = layout.node_sectors in
      record {
        points = points;
        low = low;
        high = d.bucket.1;
        within =
            by_le (w.first (bucket_of g n.key)) (w.begins (owner n)) (λ b. (b && nat_le (node_end w (owner n)) (w.first (bucket_of g n.key) + w.bucket_sectors)) ≡ true)
            (λ _. by_le (node_end w (owner n)) (w.first (bucket_of g n.key) + w.bucket_sectors) (λ b. b ≡ true) (λ _. refl) (λ over. absurd (omega (arith, over, first, begins, sectors, node, cut, whole, size))))
            (λ under. absurd (omega (arith, under, first, begins, cut)));
      }

-- ---- all of it

module _ (g : Geometry) (w : Layout) (layout : IsLayoutOf g w) (image : Image) (r : Reading) (is : IsReading g image r) (size : ℕ)
    (pointers : HasPointers g size r) (uses : HasOneUse g r) (spares : HasSpareBuckets g r) (no_stray : HasNoStrayEntry g image r) where
  newest : FoundEntry
  newest = is.entries.newest

  stray_entry : (e : FoundEntry) → StandsInJournal g image e → is.entries.newest.item.last_seq ≤ e.item.seq → Contains r.entries e
  stray_entry e stands le = no_stray e stands (subst (λ (x : FoundEntry). x.item.last_seq ≤ e.item.seq) is.newest le)

  some_journal : 0 < g.journal
  some_journal =
      let s = stood g image g.journal is.entries.all is.entries.newest is.entries.stand (find_in is.entries.newest.item.seq is.entries.all is.entries.newest is.entries.is_newest.counts) in
      let lt = s.low in
      omega (arith, lt)

  node_lies : (n : Node) → In n r.nodes → Lies g w layout n
  node_lies n i = lies g w layout n (all_in (λ (x : Node). IsNodeKey g x.key) r.nodes n pointers.nodes i)

  nodes_apart : AllPairs (Apart g) r.nodes
  nodes_apart i j d lt inside same =
      let a = slice_index_or r.nodes i d in
      let b = slice_index_or r.nodes j d in
      let la = lies g w layout (slice_index_or r.nodes i d) (pointers.nodes i d (omega arith)) in
      let lb = lies g w layout (slice_index_or r.nodes j d) (pointers.nodes j d inside) in
      let lowa = la.low in
      let lowb = lb.low in
      uses.nodes i j d lt inside (bucket_at g (ptr_at (slice_index_or r.nodes i d).key 0).offset)
      (ptr_at (slice_index_or r.nodes i d).key 0, la.points, refl)
      (ptr_at (slice_index_or r.nodes j d).key 0, lb.points, omega (arith, same, lowa, lowb))

  known : (n : Node) → In n r.nodes → Known g w layout (owner_of g r.nodes) image n
  known n i = let l = node_lies n i in record { owner_is = looked_up g r.nodes nodes_apart n i; within = l.within; points = l.points }

  -- a bucket that has no node
  free_bucket : (q : ℕ) → g.first_bucket ≤ q → ((b : ℕ) → b ≡ q → IsUsedFor g r NodeUse b → ⊥) → unused_by g r.nodes (counted g q) ≡ true
  free_bucket q low none = unused_off g r.nodes (counted g q) (λ n i same.
      (let l = node_lies n i in
      let also = l.low in
      let c = in_contains r.nodes n i in
      none (bucket_at g (ptr_at n.key 0).offset) (omega (arith, same, low, also)) (c.0, n, c.1, c.2, (ptr_at n.key 0, l.points, refl))))

  walk : IsWalk g image is.entries.newest.item.level 0 is.entries.newest.item.root r.nodes
  walk = subst (λ (x : FoundEntry). IsWalk g image x.item.level 0 x.item.root r.nodes) (sym is.newest) is.nodes

  spare_low : (s : ℕ) → IsSpare g r s → g.first_bucket + g.journal ≤ s
  spare_low s is_spare = elim (cases_lt s g.first_bucket) [
    | inl lt ↦ absurd (is_spare.1 Super lt)
    | inr ge ↦ elim (cases_lt s (g.first_bucket + g.journal)) [ inl lt ↦ absurd (is_spare.1 Journal (ge, lt)) | inr le ↦ le ]
  ]

  outside : (q : ℕ) → (q < w.journal) ⊎ (w.buckets ≤ q) → unused_by g r.nodes q ≡ true
  outside q out = unused_off g r.nodes q (λ n i same.
      (let l = node_lies n i in
      let low = l.low in
      let high = l.high in
      let j = layout.journal in
      let b = layout.buckets in
      elim out [ inl lt ↦ absurd (omega (arith, same, low, j, lt)) | inr ge ↦ absurd (omega (arith, same, high, low, b, ge)) ]))

  chain_are : ChainIn g image is.entries.newest.item.prio r.gens
  chain_are = subst (λ (x : FoundEntry). ChainIn g image x.item.prio r.gens) (sym is.newest) is.gens

  chain_low : (s : ℕ) → In s r.gens.chain → g.first_bucket ≤ s
  chain_low s i =
      let c = opened_chain g w layout image some_journal is.entries.newest.item.prio r.gens chain_are in
      from (map (counted g) r.gens.chain) (subst (λ (l : List ℕ). In s l) (sym c.same) i)
    where
      from : (xs : List ℕ) → In s (map (back g) xs) → g.first_bucket ≤ s
      from [] j = absurd j
      from (x ∷ xs) (inl e) = omega (arith, e)
      from (x ∷ xs) (inr j) = from xs j

  in_chain : (s : ℕ) → In s r.gens.chain → unused_by g r.nodes (counted g s) ≡ true
  in_chain s i = free_bucket s (chain_low s i) (λ b same node. differs (uses.one b Priority NodeUse (subst (λ n. Contains r.gens.chain n) (sym same) (in_contains r.gens.chain s i)) node))
    where
      differs : Priority ≡ NodeUse → ⊥
      differs e = cc

  stray : (b at : ℕ) (e : Entry) (older : List Entry) → seen_entries g r.entries ≡ seen_entry g is.entries.newest.item ∷ older → b < w.journal → IsAtBlock w.block (w.first b) at → entry_at w image b at ≡ Some e
      → (e.number < is.entries.newest.item.last_seq) ⊎ In e (seen_entry g is.entries.newest.item ∷ older)
  stray b at e older seen lt block found =
      let k = (layout.entries.found image tt (w.first b + w.bucket_sectors) at e).0 found in
      let end = end_is g w layout image b in
      let j = layout.journal in
      let start : at ≡ bucket_start g b + g.block * block.0 = block.1 ∙ ap (λ n. n + w.block * block.0) (layout.first b) ∙ ap (λ n. bucket_start g b + n * block.0) layout.block in
      let there : EntryFound g image (bucket_end g b) at k.0 = subst (λ n. EntryFound g image n at k.0) end k.1.0 in
      let fits = k.1.1 in
      let number = ap (λ (x : Entry). x.number) k.2 in
      elim (cases_lt k.0.seq is.entries.newest.item.last_seq) [
        | inl low ↦ inl (omega (arith, low, number))
        | inr ge ↦
            (let c = stray_entry (at_place at k.0) (b, block.0, omega (arith, lt, j), start, there, omega (arith, fits, end)) ge in
            let i = in_seen (seen_found g) r.entries [] (seen_entry g k.0) (inl (seen_of (seen_found g) (at_place at k.0) r.entries (contains_in r.entries (at_place at k.0) c))) in
            inr (subst (λ (x : Entry). In x (seen_entry g is.entries.newest.item ∷ older)) k.2 (subst (λ (l : List Entry). In (seen_entry g k.0) l) (listed_is g r.entries ∙ seen) i)))
      ]

  spare_each : EachOf (λ q. (unused_by g r.nodes q ≡ true) × (In q (map (counted g) r.gens.chain) → ⊥) × (w.journal ≤ q) × (q < w.buckets)) (map (counted g) (take (sets_in_chain g) spares.spare))
  spare_each q i =
      let k = counted_in g (take (sets_in_chain g) spares.spare) q i in
      let s = all_in (IsSpare g r) spares.spare k.0 spares.each (take_in (sets_in_chain g) spares.spare k.0 k.1) in
      let low = spare_low k.0 s in
      let high = s.0 in
      let is_ = k.2 in
      let j = layout.journal in
      let b = layout.buckets in (
        ap (unused_by g r.nodes) k.2 ∙ free_bucket k.0 (omega (arith, low)) (λ n same node. s.1 NodeUse (subst (λ m. IsUsedFor g r NodeUse m) same node)),
        (λ c. (let d = counted_in g r.gens.chain q c in
            let also = chain_low d.0 d.1 in
            let other = d.2 in
            let same : d.0 ≡ k.0 = omega (arith, is_, other, low, also) in
            s.1 Priority (subst (λ n. Contains r.gens.chain n) same (in_contains r.gens.chain d.0 d.1)))),
        omega (arith, is_, low, j),
        omega (arith, is_, low, high, b),
      )

  pub opened : IsOpened g w image r
  opened =
      let e = opened_entries g w layout image r.entries is.entries stray_entry in
      let c = opened_chain g w layout image some_journal is.entries.newest.item.prio r.gens chain_are in
      let t = back_tree g w layout (owner_of g r.nodes) image is.entries.newest.item.level 0 is.entries.newest.item.root r.nodes walk known in
      let p = place g w layout image r.entries is.entries (seen_entry g is.entries.newest.item) e.older e.seen in
      let few = spares.enough in
      reopened g w layout
      (record {
        image = image;
        owners = owner_of g r.nodes;
        newest = seen_entry g is.entries.newest.item;
        older = e.older;
        ring = p.ring;
        ring_next = p.ring_next;
        bucket = p.bucket;
        unused = unused_by g r.nodes;
        chain = map (counted g) r.gens.chain;
        gens = map (λ (x : BucketRecord). x.generation) r.gens.records;
        spare = map (counted g) (take (sets_in_chain g) spares.spare);
      })
      (record {
        whole = record {
          sound = record { entries = e.are; whole = t.whole };
          room = p.room;
          stands = p.stands;
          inside = p.inside;
          only_ring = p.only_ring;
          current = p.current;
          stray = λ b at x lt block found. stray b at x e.older e.seen lt block found;
        };
        keeps = λ q free. t.other q (λ n i. off_unused g r.nodes q free n i);
        outside = outside;
        named = t.named;
        chain = c.found;
        distinct = c.apart;
        free = λ q i. (let k = counted_in g r.gens.chain q i in ap (unused_by g r.nodes) k.2 ∙ in_chain k.0 k.1);
        spare = spare_each;
        spare_distinct = counted_apart g (sets_in_chain g) spares.spare (λ x i. (let low = spare_low x (all_in (IsSpare g r) spares.spare x spares.each i) in omega (arith, low))) spares.different;
        spare_count = counted_long g (take (sets_in_chain g) spares.spare) ∙ length-take-le (sets_in_chain g) spares.spare few ∙ sym layout.chain_sets;
      })
      r is

pub law_opened : LawOpened
law_opened p v w view parts layout =
    opened v.geometry w layout p.cache v.reading view.reading (data_sectors p.backing_sectors v.backing) parts.pointers parts.uses parts.spare parts.no_stray
