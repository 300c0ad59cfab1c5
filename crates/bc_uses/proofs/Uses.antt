-- The books' laws on ages and uses, said of what a reader finds.
use Rattle.std.proofs.Common.{◌≡◌, ◌≢◌, ◌⊎◌, inl, inr, ℕ, zero, suc, ◌+◌, ◌-◌, ◌%◌, ◌<◌, ◌≤◌, Bool, true, false, List, [], ◌∷◌, ◌++◌, Option, Some, None, refl, sym, ap, ◌∙◌, subst, arith, if◌then◌else◌}
use Rattle.std.specs.Prelude.{map, All, AllPairs, length, slice_index_or}
use Rattle.bc_model.specs.Sector.{Image}
use Rattle.bc_disk.specs.Device.{Content, MayLeave}
use Rattle.bc_disk.specs.declared.geometry.Geometry.{Geometry}
use Rattle.bc_record.specs.Places.{bucket_at}
use Rattle.bc_key.specs.declared.key.Key.{Key}
use Rattle.bc_key.specs.declared.ptr.Ptr.{Ptr}
use Rattle.bc_key.specs.Key.{place_at, pointer_of, ptr_at}
use Rattle.bc_books.specs.Versions as books
use Rattle.bc_books.specs.Invariant.{IsInOrder}
use Rattle.bc_books.specs.Chains.{Many}
use Rattle.bc_books.specs.Index.{Pointer}
use Rattle.bc_books.specs.Shelves.{Held, Loose, Shelf, Tree as ForTree}
use Rattle.bc_books.specs.Laws.{IsInWindow, IsLive, IsSeen, MayHaveMetadata, Snapshot, durable_snapshot, sealed_snapshot}
use Rattle.bc_books.specs.Laws as book_law
use Rattle.bc_books.specs.Books.{Books}
use Rattle.bc_collect.specs.Spare.{HasNoUse}
use Rattle.bc_collect.proofs.Spare.{law_spare}
use Rattle.bc_data.specs.Data as flow
use Rattle.bc_data.specs.Laws.{HasBooks}
use Rattle.bc_data.proofs.Steps.{law_books}
use Rattle.bc_disk.specs.Chain.{sets_in_chain}
use Rattle.bc_books.proofs.Safety.{apart, in_window}
use Rattle.bc_meta.specs.Facts.{In}
use Rattle.bc_meta.specs.Keys.{Ref, last_ref, ref_by}
use Rattle.bc_meta.specs.Entries.{Entry, live}
use Rattle.bc_meta.specs.Tree.{IsNamed, Other, Walk, Whole}
use Rattle.bc_meta.specs.Layout.{node_sets}
use Rattle.bc_meta.specs.Chain.{bytes_of}
use Rattle.bc_meta.specs.Records.{Fixed, IsReady, Nothing, Ready, Safe, Sent, Stage, owners}
use Rattle.bc_meta.specs.Laws.{Finds, Survives}
use Rattle.bc_meta.proofs.Acts.{survives}
use Rattle.bc_leaves.specs.Parts as parts
use Rattle.bc_image.specs.Pointers.{PointsInto, PointsIntoData}
use Rattle.bc_image.specs.Reading.{IsReading, Reading, key_of, keys_of}
use Rattle.bc_image.specs.Shown.{age_of, generation_of, is_fresh, is_live}
use Rattle.bc_image.specs.Tree as tree
use Rattle.bc_image.specs.Uses.{Use, Super, Journal, Priority, Uuid, Node, Data, IsUsedFor}
use Rattle.bc_image.proofs.Places.{lies_in_bucket}
use Rattle.bc_image.proofs.Unique.{one_reading, one_walk, some_same}
use Rattle.bc_facts.specs.Seen.{bucket_of, counted}
use Rattle.bc_facts.specs.Reads.{back}
use Rattle.bc_facts.proofs.Place.{by_lt}
use Rattle.bc_facts.proofs.Stood.{all_in, any_in, contains_in, in_all, index_in}
use Rattle.bc_facts.proofs.Torn.{no_chance}
use Rattle.bc_remains.specs.Apart.{HasApartUses, IsMetadata}
use Rattle.bc_remains.specs.Means.{Means, ref_of}
use Rattle.bc_remains.proofs.Apart.{apart_of}
use Rattle.bc_remains.proofs.Crash.{finds}
use Rattle.bc_remains.proofs.Tree.{Counted, Tree, tree_is}
use Rattle.bc_whole.specs.State.{Opening}
use Rattle.bc_whole.specs.Together.{gen_from}
use Rattle.bc_whole.specs.Together as whole
use Rattle.bc_whole.specs.Linked.{if_sealed}
use Rattle.bc_whole.proofs.Kept.{Inv, truthful}
use Rattle.bc_whole.proofs.Shown as shown
use Rattle.bc_known.specs.Acts.{State, Event}
use Rattle.bc_known.specs.Run.{run, start}
use Rattle.bc_origin.proofs.Law.{inv_at}
use Rattle.bc_shows.specs.On.{IsRunOn}
use Rattle.bc_shows.proofs.Lists.{last_covers, last_in}
use Rattle.bc_shows.proofs.Law.{at}
use Rattle.bc_shows.proofs.Sector.{bucket_is, byte_alone, gen_is, live_is}
use Rattle.bc_uses.specs.Laws.{HasSpare, HasUses, IsUnneeded, LawSpare, LawUses}

in_back : (g : Geometry) (qs : List ℕ) (b : ℕ) → In b (map (back g) qs) → (q : ℕ) × In q qs × (b ≡ back g q)
in_back g [] b i = absurd i
in_back g (q ∷ qs) b (inl e) = (q, inl refl, e)
in_back g (q ∷ qs) b (inr i) = let k = in_back g qs b i in (k.0, inr k.1, k.2)

-- ---- so many buckets, as a list

abbrev listed : Geometry → (ℕ → ℕ) → ℕ → List ℕ
listed g at_ zero = []
listed g at_ (suc n) = back g (at_ n) ∷ listed g at_ n

listed_long : (g : Geometry) (at_ : ℕ → ℕ) (n : ℕ) → length (listed g at_ n) ≡ n
listed_long g at_ zero = refl
listed_long g at_ (suc n) = ap suc (listed_long g at_ n)

in_listed : (g : Geometry) (at_ : ℕ → ℕ) (n s : ℕ) → In s (listed g at_ n) → (k : ℕ) × (k < n) × (s ≡ back g (at_ k))
in_listed g at_ zero s i = absurd i
in_listed g at_ (suc n) s (inl e) = (n, omega arith, e)
in_listed g at_ (suc n) s (inr i) = let k = in_listed g at_ n s i in let lt = k.1 in (k.0, omega (arith, lt), k.2)

listed_apart : (g : Geometry) (at_ : ℕ → ℕ) (n m : ℕ) → n ≤ m → ((i j : ℕ) → i < m → j < m → at_ i ≡ at_ j → i ≡ j) → AllPairs (λ a b. a ≢ b) (listed g at_ n)
listed_apart g at_ zero m le one i j d lt inside = absurd (omega arith)
listed_apart g at_ (suc n) m le one i zero d lt inside = absurd (omega arith)
listed_apart g at_ (suc n) m le one zero (suc j) d lt inside = λ same.
    (let k = in_listed g at_ n (slice_index_or (listed g at_ n) j d) (index_in (listed g at_ n) j d (omega arith)) in
    let below = k.1 in
    let there = k.2 in
    let e = one n k.0 (omega (arith, le)) (omega (arith, below, le)) (omega (arith, same, there)) in
    omega (arith, e, below))
listed_apart g at_ (suc n) m le one (suc i) (suc j) d lt inside = listed_apart g at_ n m (omega (arith, le)) one i j d (omega arith) (omega arith)

-- the first pointer is the one that counts
first_ptr : (key : Key) (ptr : Ptr) → pointer_of key ≡ Some ptr → (ptr_at key 0 ≡ ptr) × (0 < key.count)
first_ptr key ptr = by_lt 0 key.count (λ t. (if t then Some (ptr_at key 0) else None) ≡ Some ptr → (ptr_at key 0 ≡ ptr) × (0 < key.count))
    (λ lt e. (some_same (ptr_at key 0) ptr e, lt)) (λ _ e. absurd (cc))

-- what lies no more than so far behind is seen as that
told : (v p : ℕ) → p ≤ v → v ≤ p + 96 → (v % 256 + 256 - p % 256) % 256 + p ≡ v
told v p low high = omega (arith, low, high)

sealed_all : (g : Stage) (keys rest : List Key) → IsReady g → if_sealed g keys ++ rest ≡ keys ++ rest
sealed_all Nothing keys rest r = absurd r
sealed_all Fixed keys rest r = refl
sealed_all Ready keys rest r = refl
sealed_all Sent keys rest r = refl
sealed_all Safe keys rest r = refl

kind_of : (a : Use) → a ≢ Uuid → IsMetadata a ⊎ (a ≡ Data)
kind_of Super ne = inl tt
kind_of Journal ne = inl tt
kind_of Priority ne = inl tt
kind_of Uuid ne = absurd (ne refl)
kind_of Node ne = inl tt
kind_of Data ne = inr refl

module _ (g : Geometry) (w : Opening) (x : parts.State) (next_seq : ℕ) (es : List Event) (ran : IsRunOn g w x next_seq es)
    (c b : Image) (left : MayLeave (run w (start w x next_seq) es).whole.flow.cache c) (behind : MayLeave (run w (start w x next_seq) es).whole.flow.backing b)
    (r : Reading) (is : IsReading g c r) where
  abbrev st : State
  st = run w (start w x next_seq) es

  inv : Inv w st.whole
  inv = inv_at w x next_seq es ran.sound ran.course

  order : IsInOrder w.flow.books st.whole.flow.books
  order = (truthful w x st.whole.flow ran.sound.whole inv.flow).books

  data_keys : All (PointsIntoData g) (keys_of r)
  data_keys = let k = at g w x next_seq es ran c b left behind in subst (λ (y : Reading). All (PointsIntoData g) (keys_of y)) (one_reading g c k.0 r k.1.reads is) k.1.keys

  points : (s : ℕ) (key : Key) → key_of r s ≡ Some key → PointsIntoData g key
  points s key e = all_in (PointsIntoData g) (keys_of r) key data_keys (last_in (keys_of r) s key e)

  module _ (newest : Entry) (older : List Entry) (index : List Key) (n : ℕ) (f : Finds w.layout st.whole.store c newest older index n)
      (shot : Snapshot) (seen : IsSeen st.whole.flow.books shot) (keys_are : (s : ℕ) → last_ref index s ≡ whole.ref_of (st.whole.flow.books.index.at shot.count s))
      (gens_are : (q : ℕ) → gen_from w.before (st.whole.store.gens n) q ≡ shot.version q) (low : st.whole.store.ready_chain ≤ n) (high : n ≤ st.whole.store.sealed_chain) where
    said : Means g r newest older index (st.whole.store.buckets n) (st.whole.store.gens n)
    said =
        let k = finds g w.layout ran.machine.layout c st.whole.store newest older index n f in
        subst (λ (y : Reading). Means g y newest older index (st.whole.store.buckets n) (st.whole.store.gens n)) (one_reading g c k.0 r k.1 is) k.2

    ref_is : (s : ℕ) → ref_of (key_of r s) s ≡ whole.ref_of (st.whole.flow.books.index.at shot.count s)
    ref_is s = said.keys s ∙ keys_are s

    -- the byte of a bucket in the chain is that of its version
    byte_is : (q : ℕ) → gen_from w.before (bytes_of (st.whole.store.gens n)) q ≡ shot.version q % 256
    byte_is q = shown.from_bytes w.before (st.whole.store.gens n) q ∙ ap (λ v. v % 256) (gens_are q)

    -- ---- ages

    module _ (s : ℕ) (key : Key) (has : key_of r s ≡ Some key) (some : 0 < key.count) (counts : pointer_of key ≡ Some (ptr_at key 0)) where
      abbrev ref : Ref
      ref = record { dirty = key.dirty; dev = (ptr_at key 0).dev; place = place_at key 0 s; generation = (ptr_at key 0).generation }

      pointer : shown.Points (st.whole.flow.books.index.at shot.count s) ref
      pointer = shown.points (st.whole.flow.books.index.at shot.count s) ref (sym (ref_is s) ∙ ap (λ (o : Option Key). ref_of o s) has ∙ ap (ref_by key s) counts)

      window : IsInWindow (shot.version (w.flow.books.bucket pointer.pointer.place)) pointer.pointer
      window = in_window w.flow.books st.whole.flow.books order shot s pointer.pointer seen pointer.is

      age_is : age_of g r.gens (ptr_at key 0) + pointer.pointer.version ≡ shot.version (w.flow.books.bucket pointer.pointer.place)
      age_is =
          let lies = points s key has 0 some in
          let covers = last_covers (keys_of r) s key has in
          let gen = generation_of r.gens (bucket_at g (ptr_at key 0).offset) in
          let same : generation_of r.gens (bucket_at g (ptr_at key 0).offset) % 256 ≡ shot.version (w.flow.books.bucket pointer.pointer.place) % 256 =
          sym (gen_is g w ran.machine ran.sound.laid r.gens (bytes_of (st.whole.store.gens n)) said.gens_are c key s lies covers)
          ∙ byte_is (w.flow.books.bucket (place_at key 0 s))
          ∙ ap (λ t. shot.version (w.flow.books.bucket t) % 256) pointer.place in
          let age : age_of g r.gens (ptr_at key 0) ≡ (shot.version (w.flow.books.bucket pointer.pointer.place) % 256 + 256 - pointer.pointer.version % 256) % 256 =
          sym (byte_alone (generation_of r.gens (bucket_at g (ptr_at key 0).offset)) (ptr_at key 0).generation (ptr_at key 0).generation_fits)
          ∙ ap (λ v. (v + 256 - (ptr_at key 0).generation) % 256) same
          ∙ ap (λ v. (shot.version (w.flow.books.bucket pointer.pointer.place) % 256 + 256 - v) % 256) pointer.generation in
          ap (λ v. v + pointer.pointer.version) age
          ∙ told (shot.version (w.flow.books.bucket pointer.pointer.place)) pointer.pointer.version window.low window.high

      aged : (age_of g r.gens (ptr_at key 0) ≤ 96) × (key.dirty ≡ true → age_of g r.gens (ptr_at key 0) ≡ 0)
      aged =
          let a = age_is in
          let over = window.high in (
            omega (arith, a, over),
            (λ dirty. (let v = window.dirty (shown.dirty_of pointer.pointer.kind (sym pointer.dirty ∙ dirty)) in omega (arith, a, v))),
          )

    in_time : (s : ℕ) (key : Key) (ptr : Ptr) → key_of r s ≡ Some key → pointer_of key ≡ Some ptr
        → (age_of g r.gens ptr ≤ 96) × (key.dirty ≡ true → age_of g r.gens ptr ≡ 0)
    in_time s key ptr has points_ =
        let k = first_ptr key ptr points_ in
        subst (λ (y : Ptr). (age_of g r.gens y ≤ 96) × (key.dirty ≡ true → age_of g r.gens y ≡ 0)) k.0
        (aged s key has k.1 (points_ ∙ ap Some (sym k.0)))

    -- ---- data

    -- a bucket with data, as the machine counts it
    record HasData (bucket : ℕ) : Type 0 where
      q : ℕ
      there : bucket ≡ back g q
      behind_journal : g.journal ≤ q
      no_metadata : MayHaveMetadata w.flow.books st.whole.flow.books q → ⊥
      sector : ℕ
      pointer : Pointer
      live_there : IsLive w.flow.books st.whole.flow.books shot sector pointer
      place_there : w.flow.books.bucket pointer.place ≡ q

    data_at : (bucket : ℕ) → IsUsedFor g r Data bucket → HasData bucket
    data_at bucket (s, key, lies) =
        let whole_key = points s key lies.last in
        let covers = last_covers (keys_of r) s key lies.last in
        let some = some_live key lies.live in
        let in_data = whole_key 0 some in
        let k = lies_in_bucket g key 0 s in_data covers in
        let l = live_is g w ran.machine ran.sound.laid r.gens (bytes_of (st.whole.store.gens n)) said.gens_are c key s whole_key covers lies.live in
        let p = shown.points (st.whole.flow.books.index.at shot.count s) l.ref (sym (ref_is s) ∙ ap (λ (o : Option Key). ref_of o s) lies.last ∙ l.is) in
        let win = in_window w.flow.books st.whole.flow.books order shot s p.pointer seen p.is in
        let fresh : books.is_stale (shot.version (w.flow.books.bucket p.pointer.place) % 256) (p.pointer.version % 256) ≡ false =
        ap (λ t. books.is_stale (shot.version (w.flow.books.bucket t) % 256) (p.pointer.version % 256)) (sym p.place)
        ∙ ap (λ v. books.is_stale (shot.version (w.flow.books.bucket l.ref.place) % 256) v) (sym p.generation)
        ∙ ap (λ v. books.is_stale v l.ref.generation) (sym (byte_is (w.flow.books.bucket l.ref.place)))
        ∙ l.fresh in
        let here = bucket_is g w ran.machine ran.sound.laid key s in_data covers in
        let same : w.flow.books.bucket p.pointer.place ≡ bucket_at g (ptr_at key 0).offset - g.first_bucket = ap w.flow.books.bucket (sym p.place ∙ l.place) ∙ here in
        let inside = k.1 in
        let place = lies.place in
        let from = in_data.bucket.0 in
        record {
          q = w.flow.books.bucket p.pointer.place;
          there = omega (arith, same, inside, place, from);
          behind_journal = omega (arith, same, from);
          no_metadata = λ may. (apart w.flow.books st.whole.flow.books order (w.flow.books.bucket p.pointer.place) may).no_key shot s p.pointer seen (p.is, win.stale fresh) refl;
          sector = s;
          pointer = p.pointer;
          live_there = (p.is, win.stale fresh);
          place_there = refl;
        }
      where
        some_live : (key : Key) → is_live g r.gens key ≡ true → 0 < key.count
        some_live key = by_lt 0 key.count (λ t. is_fresh g r.gens (if t then Some (ptr_at key 0) else None) ≡ true → 0 < key.count) (λ lt _. lt) (λ _ e. absurd (cc))

    -- ---- metadata

    the_tree : Tree g w.layout ran.machine.layout (owners st.whole.store.places.records.nodes) c r.newest.item.level 0 r.newest.item.root
    the_tree =
        let current = f.again.whole.current in
        tree_is g w.layout ran.machine.layout (owners st.whole.store.places.records.nodes) c r.newest.item.level 0 r.newest.item.root
        (subst (λ (y : Entry). IsNamed (owners st.whole.store.places.records.nodes) (node_sets w.layout (owners st.whole.store.places.records.nodes) c) y.level y.root y.word) (sym said.newest_is) f.again.named)
        (subst (λ (y : Entry). Walk Whole (node_sets w.layout (owners st.whole.store.places.records.nodes) c) y.level y.root) (sym said.newest_is) f.again.whole.sound.whole)
        (subst (λ (y : Entry). Walk Counted (node_sets w.layout (owners st.whole.store.places.records.nodes) c) y.level y.root) (sym said.newest_is) (f.again.keeps 0 (f.again.low 0 (inl (omega (arith, current))))))

    -- no node lies in a bucket that is unused
    used : (m : tree.Node) → In m r.nodes → st.whole.store.places.records.unused (bucket_of g m.key) ≡ true → ⊥
    used m i free =
        the_tree.each (bucket_of g m.key)
        (subst (λ (y : Entry). Walk (Other (bucket_of g m.key)) (node_sets w.layout (owners st.whole.store.places.records.nodes) c) y.level y.root) (sym said.newest_is) (f.again.keeps (bucket_of g m.key) free))
        m (subst (λ (l : List tree.Node). In m l) (sym (one_walk g c r.newest.item.level 0 r.newest.item.root the_tree.nodes r.nodes the_tree.walk is.nodes)) i) refl

    bool_false : (t : Bool) → (t ≡ true → ⊥) → t ≡ false
    bool_false true h = absurd (h refl)
    bool_false false h = refl

    no_data : (bucket : ℕ) (a : Use) → IsMetadata a → IsUsedFor g r a bucket → IsUsedFor g r Data bucket → ⊥
    no_data bucket Super m u d = let k = data_at bucket d in let there = k.there in omega (arith, u, there)
    no_data bucket Journal m u d = let k = data_at bucket d in let there = k.there in let from = k.behind_journal in let lt = u.1 in omega (arith, lt, there, from)
    no_data bucket Priority m u d =
        let k = data_at bucket d in
        let there = k.there in
        let i = in_back g (st.whole.store.buckets n) bucket (subst (λ (l : List ℕ). In bucket l) said.chain (contains_in r.gens.chain bucket u)) in
        let at_ = i.2 in
        let same : i.0 ≡ k.q = omega (arith, there, at_) in
        k.no_metadata (inr (inr (n, sym (inv.link.chain.buckets k.q) ∙ subst (λ q. st.whole.store.chain_of q ≡ Some n) same (inv.store.named n low high i.0 i.1))))
    no_data bucket Node m u d =
        let k = data_at bucket d in
        let there = k.there in
        let i = any_in (λ (y : tree.Node). PointsInto g y.key bucket) r.nodes u in
        let first = first_ptr i.0.key i.2.0 i.2.1 in
        let at_ : bucket_at g (ptr_at i.0.key 0).offset ≡ bucket = ap (λ (y : Ptr). bucket_at g y.offset) first.0 ∙ i.2.2 in
        let same : bucket_of g i.0.key ≡ k.q = omega (arith, there, at_) in
        k.no_metadata (inr (inl (inv.link.nodes k.q (subst (λ q. st.whole.store.places.records.unused q ≡ false) same
        (bool_false (st.whole.store.places.records.unused (bucket_of g i.0.key)) (used i.0 i.1))))))
    no_data bucket Uuid m u d = m
    no_data bucket Data m u d = m

    -- of what the books know as fixed there is no other use than the journal's and the uuid table's
    only_fixed : (bucket : ℕ) (a : Use) → g.first_bucket ≤ bucket → w.flow.books.fixed (counted g bucket) ≡ true → IsUsedFor g r a bucket → (a ≡ Journal) ⊎ (a ≡ Uuid)
    only_fixed bucket Super from known u = absurd (omega (arith, from, u))
    only_fixed bucket Journal from known u = inl refl
    only_fixed bucket Priority from known u =
        let i = in_back g (st.whole.store.buckets n) bucket (subst (λ (l : List ℕ). In bucket l) said.chain (contains_in r.gens.chain bucket u)) in
        let at_ = i.2 in
        let same : counted g bucket ≡ i.0 = omega (arith, at_) in
        absurd (no_chain (st.whole.flow.books.chains.of (counted g bucket)) (order.marked.no_chain (counted g bucket) (inl known))
        (sym (inv.link.chain.buckets (counted g bucket)) ∙ subst (λ q. st.whole.store.chain_of q ≡ Some n) (sym same) (inv.store.named n low high i.0 i.1)))
      where
        no_chain : (o : Option ℕ) → o ≡ None → o ≡ Some n → ⊥
        no_chain o a_ b_ = cc
    only_fixed bucket Uuid from known u = inr refl
    only_fixed bucket Node from known u =
        let i = any_in (λ (y : tree.Node). PointsInto g y.key bucket) r.nodes u in
        let first = first_ptr i.0.key i.2.0 i.2.1 in
        let at_ : bucket_at g (ptr_at i.0.key 0).offset ≡ bucket = ap (λ (y : Ptr). bucket_at g y.offset) first.0 ∙ i.2.2 in
        let same : bucket_of g i.0.key ≡ counted g bucket = omega (arith, at_) in
        elim (inv.link.nodes (counted g bucket) (subst (λ q. st.whole.store.places.records.unused q ≡ false) same (bool_false (st.whole.store.places.records.unused (bucket_of g i.0.key)) (used i.0 i.1)))) [
          | inl node ↦ absurd (two (st.whole.flow.books.node (counted g bucket)) node (order.marked.one_use (counted g bucket) known))
          | inr held ↦ absurd (not_held (st.whole.flow.books.shelf (counted g bucket)) held.0 held.1 (order.marked.loose (counted g bucket) (inl known)))
        ]
      where
        two : (t : Bool) → t ≡ true → t ≡ false → ⊥
        two t a_ b_ = cc

        not_held : (y : Shelf) (i : ℕ) → y ≡ Held i ForTree → y ≡ Loose → ⊥
        not_held y i a_ b_ = cc
    only_fixed bucket Data from known u =
        let k = data_at bucket u in
        let there = k.there in
        absurd (k.no_metadata (inl (subst (λ q. w.flow.books.fixed q ≡ true) (let e : counted g bucket ≡ k.q = omega (arith, there) in e) known)))

    -- what has no use by the books has none by a reader, but that of the uuid table, which is fixed
    module _ (number : n ≡ shot.chain) (q : ℕ) (free : HasNoUse w.flow.books st.whole.flow.books shot q) where
      area : (w.layout.journal ≤ q) × (q < w.layout.buckets)
      area = ran.sound.laid.area q free.not_fixed

      no_use : (a : Use) → a ≢ Uuid → IsUsedFor g r a (back g q) → ⊥
      no_use Super ne u = omega (arith, u)
      no_use Journal ne u =
          let lt = u.1 in
          let from = area.0 in
          let j = ran.machine.layout.journal in
          omega (arith, lt, from, j)
      no_use Priority ne u =
          let i = in_back g (st.whole.store.buckets n) (back g q) (subst (λ (l : List ℕ). In (back g q) l) said.chain (contains_in r.gens.chain (back g q) u)) in
          let at_ = i.2 in
          let same : i.0 ≡ q = omega (arith, at_) in
          free.no_chain (sym (inv.link.chain.buckets q) ∙ subst (λ k. st.whole.store.chain_of k ≡ Some n) same (inv.store.named n low high i.0 i.1) ∙ ap (λ k. Some k) number)
      no_use Uuid ne u = ne refl
      no_use Node ne u =
          let i = any_in (λ (y : tree.Node). PointsInto g y.key (back g q)) r.nodes u in
          let first = first_ptr i.0.key i.2.0 i.2.1 in
          let at_ : bucket_at g (ptr_at i.0.key 0).offset ≡ back g q = ap (λ (y : Ptr). bucket_at g y.offset) first.0 ∙ i.2.2 in
          let same : bucket_of g i.0.key ≡ q = omega (arith, at_) in
          elim (inv.link.nodes q (subst (λ k. st.whole.store.places.records.unused k ≡ false) same (bool_false (st.whole.store.places.records.unused (bucket_of g i.0.key)) (used i.0 i.1)))) [
            | inl node ↦ two (st.whole.flow.books.node q) node free.no_node
            | inr held ↦ free.no_new_node held.0 held.1
          ]
        where
          two : (t : Bool) → t ≡ true → t ≡ false → ⊥
          two t a_ b_ = cc
      no_use Data ne u =
          let k = data_at (back g q) u in
          let there = k.there in
          free.no_key k.sector k.pointer k.live_there (k.place_there ∙ (let e : k.q ≡ q = omega (arith, there) in e))

      unneeded : IsUnneeded g w r (back g q)
      unneeded = record {
        inside = let b = ran.machine.layout.buckets in let lt = area.1 in omega (arith, b, lt);
        low = omega arith;
        not_fixed = let e : counted g (back g q) ≡ q = omega arith in ap w.flow.books.fixed e ∙ free.not_fixed;
        unused = no_use;
      }

    spares : n ≡ shot.chain → book_law.MayLeave st.whole.flow.books shot → HasSpare g w r
    spares number may =
        let many = many_free shot may in
        record {
          fixed = only_fixed;
          spare = listed g many.0 w.flow.books.sets;
          different = listed_apart g many.0 w.flow.books.sets w.flow.books.sets (omega arith) many.1;
          each = in_all (IsUnneeded g w r) (listed g many.0 w.flow.books.sets) (λ s i.
              (let k = in_listed g many.0 w.flow.books.sets s i in
              subst (λ y. IsUnneeded g w r y) (sym k.2) (unneeded number (many.0 k.0) (many.2 k.0 k.1))));
          enough =
              let a = ran.sound.laid.sets in
              let b = ran.machine.layout.chain_sets in
              let long = listed_long g many.0 w.flow.books.sets in
              omega (arith, a, b, long);
        }
      where
        many_free : (shot : Snapshot) → book_law.MayLeave st.whole.flow.books shot → Many w.flow.books.sets (HasNoUse w.flow.books st.whole.flow.books shot)
        many_free shot_ may_ =
            let has : HasBooks w.flow st.whole.flow = subst (λ (y : flow.State). HasBooks w.flow y) (sym inv.flow.is) (law_books w.flow inv.flow.list ran.sound.whole.pair inv.flow.run) in
            subst (λ (k : Books). book_law.MayLeave k shot_ → Many w.flow.books.sets (HasNoUse w.flow.books k shot_)) (sym has.same)
            (law_spare w.flow.books has.list ran.sound.whole.pair.books has.run shot_) may_

    metadata : HasApartUses g r
    metadata = apart_of g w.layout ran.machine.layout f.opening f.sound r (subst (λ (i : Image). IsReading g i r) (sym f.image_is) is)

    uses : HasUses g w r
    uses = record {
      window = in_time;
      one = λ bucket a b_ ne me p q. one bucket a b_ (kind_of a ne) (kind_of b_ me) p q;
      fixed = λ bucket from known d.
          let k = data_at bucket d in
          let there = k.there in
          k.no_metadata (inl (subst (λ q. w.flow.books.fixed q ≡ true) (let e : counted g bucket ≡ k.q = omega (arith, there) in e) known));
    }
      where
        one : (bucket : ℕ) (a b_ : Use) → IsMetadata a ⊎ (a ≡ Data) → IsMetadata b_ ⊎ (b_ ≡ Data) → IsUsedFor g r a bucket → IsUsedFor g r b_ bucket → a ≡ b_
        one bucket a b_ (inl m) (inl k) p q = metadata.one bucket a b_ m k p q
        one bucket a b_ (inl m) (inr e) p q = absurd (no_data bucket a m p (subst (λ (y : Use). IsUsedFor g r y bucket) e q))
        one bucket a b_ (inr e) (inl k) p q = absurd (no_data bucket b_ k q (subst (λ (y : Use). IsUsedFor g r y bucket) e p))
        one bucket a b_ (inr e) (inr h) p q = e ∙ sym h

  all_spare : HasSpare g w r
  all_spare = go (survives w.layout w.store st.whole.store inv.store ran.sound.whole.store
      (no_chance g w.layout ran.machine.layout w.store.image st.whole.store.places ran.no_torn) c
      (subst (λ (d : Content). MayLeave d c) inv.link.device left))
    where
      go : Survives w.layout st.whole.store c → HasSpare g w r
      go v = elim v.finds [
        | inl f ↦ spares st.whole.store.places.records.newest st.whole.store.places.records.older st.whole.store.places.records.index st.whole.store.durable_chain f
            (durable_snapshot st.whole.flow.books) (inl (inl refl)) inv.link.index.durable_keys inv.link.chain.durable_gens inv.store.order.0 inv.store.order.1
            inv.link.chain.durable_is (inl refl)
        | inr f ↦ spares st.whole.store.places.records.entry
            (live st.whole.store.places.records.entry.last_seq (st.whole.store.places.records.newest ∷ st.whole.store.places.records.older))
            (st.whole.store.places.records.entry.keys ++ st.whole.store.places.records.index) st.whole.store.sealed_chain f.1
            (sealed_snapshot st.whole.flow.books) (inl (inr refl))
            (λ s. ap (λ (l : List Key). last_ref l s) (sym (sealed_all st.whole.store.places.records.stage st.whole.store.places.records.entry.keys st.whole.store.places.records.index f.0)) ∙ inv.link.index.sealed_keys s)
            inv.link.chain.sealed_gens (let a = inv.store.order.0 in let d = inv.store.order.1 in omega (arith, a, d)) (omega arith)
            inv.link.chain.sealed_is (inr refl)
      ]

  all_uses : HasUses g w r
  all_uses = go (survives w.layout w.store st.whole.store inv.store ran.sound.whole.store
      (no_chance g w.layout ran.machine.layout w.store.image st.whole.store.places ran.no_torn) c
      (subst (λ (d : Content). MayLeave d c) inv.link.device left))
    where
      go : Survives w.layout st.whole.store c → HasUses g w r
      go v = elim v.finds [
        | inl f ↦ uses st.whole.store.places.records.newest st.whole.store.places.records.older st.whole.store.places.records.index st.whole.store.durable_chain f
            (durable_snapshot st.whole.flow.books) (inl (inl refl)) inv.link.index.durable_keys inv.link.chain.durable_gens inv.store.order.0 inv.store.order.1
        | inr f ↦ uses st.whole.store.places.records.entry
            (live st.whole.store.places.records.entry.last_seq (st.whole.store.places.records.newest ∷ st.whole.store.places.records.older))
            (st.whole.store.places.records.entry.keys ++ st.whole.store.places.records.index) st.whole.store.sealed_chain f.1
            (sealed_snapshot st.whole.flow.books) (inl (inr refl))
            (λ s. ap (λ (l : List Key). last_ref l s) (sym (sealed_all st.whole.store.places.records.stage st.whole.store.places.records.entry.keys st.whole.store.places.records.index f.0)) ∙ inv.link.index.sealed_keys s)
            inv.link.chain.sealed_gens (let a = inv.store.order.0 in let d = inv.store.order.1 in omega (arith, a, d)) (omega arith)
      ]

pub law_uses : LawUses
law_uses g w x next_seq es ran c b left behind r is = all_uses g w x next_seq es ran c b left behind r is

pub law_spare_left : LawSpare
law_spare_left g w x next_seq es ran c b left behind r is = all_spare g w x next_seq es ran c b left behind r is
