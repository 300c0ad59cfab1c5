-- The marks of what was read are the uses of the buckets.
use Rattle.std.proofs.Common.{◌≡◌, ◌≢◌, ◌⊎◌, inl, inr, ℕ, zero, suc, ◌+◌, ◌-◌, ◌%◌, ◌/◌, ◌^◌, ◌<◌, ◌≤◌, Bool, true, false, List, [], ◌∷◌, ◌++◌, length, get_or, map, Option, Some, None, refl, sym, subst, ap, ◌∙◌, arith, if◌then◌else◌}
use Rattle.std.specs.Prelude.{Contains, All, MatchOption, IsSomeAnd, nat_lt, not}
use Rattle.std.specs.List.{flat_map}
use Rattle.std.proofs.Math.Nat.{mod-eq_of_lt}
use Rattle.std.proofs.lemmas.Bool.{lt-ltb, cases_lt, le-ltb}
use Rattle.std.proofs.lemmas.List.Elements.{Contains-append_left, Contains-append_right, Contains-append_cases, All-contains, All-head, All-tail}
use Rattle.bc_disk.specs.Gens.{Gens}
use Rattle.bc_disk.specs.declared.geometry.Geometry.{Geometry}
use Rattle.bc_extent.specs.LastKey.{last_key}
use Rattle.bc_extent.specs.Extents.{IsInOrder, IsRest, IsPart, Shows}
use Rattle.bc_extent.proofs.LastKeys.{last_key_found, last_key_at}
use Rattle.bc_image.specs.Pointers.{PointsInto, PointsIntoData, LiesInData}
use Rattle.bc_image.specs.Sound.{IsDataKey}
use Rattle.bc_image.specs.Shown.{is_live, is_fresh, is_stale, age_of, generation_of}
use Rattle.bc_image.proofs.Places.{lies_in_bucket}
use Rattle.bc_image.proofs.Unique.{some_same}
use Rattle.bc_key.specs.Generation.{behind}
use Rattle.bc_key.specs.Key.{ptr_at, pointer_of, place_at, start_of, Covers}
use Rattle.bc_key.specs.declared.key.Key.{Key}
use Rattle.bc_key.specs.declared.ptr.Ptr.{Ptr}
use Rattle.bc_node.specs.Leaf.{AreLastOfAll}
use Rattle.bc_prio.specs.Chain.{IsPlace}
use Rattle.bc_record.specs.Places.{bucket_at}
use Rattle.bc_walk.specs.Walk.{IsVisited}
use Rattle.bc_walk.specs.declared.visit.Visit.{Visit}
use Rattle.bc_walk.specs.declared.visit.Visit.TheVariants as visits
use Rattle.bc_replay.specs.declared.uses.Use.{Use}
use Rattle.bc_replay.specs.declared.uses.Use.TheVariants as uses
use Rattle.bc_replay.specs.Marks.{Mark, mark, IsLaidOut, IsMarked, ptr_marks, key_marks, visit_marks, row_marks, chain_marks, all_marks}
use Rattle.bc_replay.specs.Used.{Held, LiesIn, IsUse}
use Rattle.bc_replay.proofs.Names.{pointer_some}

pub pointer_none : (key : Key) → nat_lt 0 key.count ≡ false → pointer_of key ≡ None
pointer_none key test = rw test refl

-- ---- one key

only_one : (one other : Mark) → Contains (one ∷ []) other → one ≡ other
only_one one other (zero, low, is) = is
only_one one other (suc i, low, is) = absurd (omega (arith, low))

in_none : {X : Type 0} (x : X) → Contains [] x → ⊥
in_none x (i, low, is) = absurd (omega (arith, low))

module _ (g : Geometry) where
  pub key_marked : (use_ : Use) (key : Key) (b : ℕ) → PointsInto g key b → Contains (key_marks g use_ key) (mark use_ b)
  key_marked use_ key b (ptr, is, at) = subst (λ (o : Option Ptr). Contains (ptr_marks g use_ o) (mark use_ b)) (sym is) (0, omega arith, ap (mark use_) at)

  pub marked_key : (use_ : Use) (key : Key) (k : Use) (b : ℕ) → Contains (key_marks g use_ key) (mark k b) → (use_ ≡ k) × PointsInto g key b
  marked_key use_ key k b c = go (pointer_of key) refl c
    where
      go : (o : Option Ptr) → pointer_of key ≡ o → Contains (ptr_marks g use_ o) (mark k b) → (use_ ≡ k) × PointsInto g key b
      go None is c = absurd (in_none (mark k b) c)
      go (Some ptr) is c =
          let same = only_one (mark use_ (bucket_at g ptr.offset)) (mark k b) c in
          (ap (λ (m : Mark). m.use_) same, (ptr, is, ap (λ (m : Mark). m.bucket) same))

  -- ---- the chain

  pub chain_marked : (chain : List ℕ) (b : ℕ) → Contains chain b → Contains (chain_marks chain) (mark uses.Priority b)
  chain_marked [] b c = absurd (in_none b c)
  chain_marked (x ∷ xs) b (zero, low, is) = (0, omega arith, ap (mark uses.Priority) is)
  chain_marked (x ∷ xs) b (suc i, low, is) = let later = chain_marked xs b (i, omega (arith, low), is) in let inside = later.1 in (suc later.0, omega (arith, inside), later.2)

  pub marked_chain : (chain : List ℕ) (k : Use) (b : ℕ) → Contains (chain_marks chain) (mark k b) → (uses.Priority ≡ k) × Contains chain b
  marked_chain [] k b c = absurd (in_none (mark k b) c)
  marked_chain (x ∷ xs) k b (zero, low, is) = (ap (λ (m : Mark). m.use_) is, (0, omega arith, ap (λ (m : Mark). m.bucket) is))
  marked_chain (x ∷ xs) k b (suc i, low, is) = let later = marked_chain xs k b (i, omega (arith, low), is) in let inside = later.1.1 in (later.0, (suc later.1.0, omega (arith, inside), later.1.2))

  -- ---- the nodes

  pub nodes_marked : (seen : List Visit) (b : ℕ) → IsVisited g seen b → Contains (flat_map (visit_marks g) seen) (mark uses.Node b)
  nodes_marked [] b taken = absurd taken
  nodes_marked (visits.Met level from key ∷ seen) b (inl here) = Contains-append_left (key_marks g uses.Node key) (flat_map (visit_marks g) seen) (mark uses.Node b) (key_marked uses.Node key b here)
  nodes_marked (visits.Met level from key ∷ seen) b (inr later) = Contains-append_right (key_marks g uses.Node key) (flat_map (visit_marks g) seen) (mark uses.Node b) (nodes_marked seen b later)
  nodes_marked (visits.Again key ∷ seen) b (inl here) = absurd here
  nodes_marked (visits.Again key ∷ seen) b (inr later) = nodes_marked seen b later
  nodes_marked (visits.Barred key ∷ seen) b (inl here) = absurd here
  nodes_marked (visits.Barred key ∷ seen) b (inr later) = nodes_marked seen b later

  pub marked_nodes : (seen : List Visit) (k : Use) (b : ℕ) → Contains (flat_map (visit_marks g) seen) (mark k b) → (uses.Node ≡ k) × IsVisited g seen b
  marked_nodes [] k b c = absurd (in_none (mark k b) c)
  marked_nodes (visits.Met level from key ∷ seen) k b c = go (λ later. marked_nodes seen k b later) (Contains-append_cases (key_marks g uses.Node key) (flat_map (visit_marks g) seen) (mark k b) c)
    where
      go : (Contains (flat_map (visit_marks g) seen) (mark k b) → (uses.Node ≡ k) × IsVisited g seen b) → Contains (key_marks g uses.Node key) (mark k b) ⊎ Contains (flat_map (visit_marks g) seen) (mark k b)
          → (uses.Node ≡ k) × IsVisited g (visits.Met level from key ∷ seen) b
      go more (inl here) = let one = marked_key uses.Node key k b here in (one.0, inl one.1)
      go more (inr later) = let rest = more later in (rest.0, inr rest.1)
  marked_nodes (visits.Again key ∷ seen) k b c = let rest = marked_nodes seen k b c in (rest.0, inr rest.1)
  marked_nodes (visits.Barred key ∷ seen) k b c = let rest = marked_nodes seen k b c in (rest.0, inr rest.1)

  -- ---- the rows

  module _ (gens : Gens) where
    -- a row of a list is live and points into the bucket
    pub record HasRow (rows : List Key) (b : ℕ) : Type 0 where
      pub row : Key
      pub has : Contains rows row
      pub live : is_live g gens row ≡ true
      pub points : PointsInto g row b

    row_later : (x : Key) (xs : List Key) (b : ℕ) → HasRow xs b → HasRow (x ∷ xs) b
    row_later x xs b r = let inside = r.has.1 in record { row = r.row; has = (suc r.has.0, omega (arith, inside), r.has.2); live = r.live; points = r.points }

    row_marked : (row : Key) (b : ℕ) → is_live g gens row ≡ true → PointsInto g row b → Contains (row_marks g gens row) (mark uses.Data b)
    row_marked row b live points = subst (λ (t : Bool). Contains (if t then key_marks g uses.Data row else []) (mark uses.Data b)) (sym live) (key_marked uses.Data row b points)

    marked_row : (row : Key) (k : Use) (b : ℕ) → Contains (row_marks g gens row) (mark k b) → (uses.Data ≡ k) × (is_live g gens row ≡ true) × PointsInto g row b
    marked_row row k b c = go (is_live g gens row) refl c
      where
        go : (t : Bool) → is_live g gens row ≡ t → Contains (if t then key_marks g uses.Data row else []) (mark k b) → (uses.Data ≡ k) × (is_live g gens row ≡ true) × PointsInto g row b
        go true live c = let one = marked_key uses.Data row k b c in (one.0, live, one.1)
        go false live c = absurd (in_none (mark k b) c)

    pub rows_marked : (rows : List Key) (b : ℕ) → HasRow rows b → Contains (flat_map (row_marks g gens) rows) (mark uses.Data b)
    rows_marked rows b r = go rows r.has
      where
        go : (xs : List Key) → Contains xs r.row → Contains (flat_map (row_marks g gens) xs) (mark uses.Data b)
        go [] c = absurd (in_none r.row c)
        go (x ∷ xs) (zero, low, is) =
            Contains-append_left (row_marks g gens x) (flat_map (row_marks g gens) xs) (mark uses.Data b)
            (row_marked x b (subst (λ (key : Key). is_live g gens key ≡ true) (sym is) r.live) (subst (λ (key : Key). PointsInto g key b) (sym is) r.points))
        go (x ∷ xs) (suc i, low, is) = Contains-append_right (row_marks g gens x) (flat_map (row_marks g gens) xs) (mark uses.Data b) (go xs (i, omega (arith, low), is))

    pub marked_rows : (rows : List Key) (k : Use) (b : ℕ) → Contains (flat_map (row_marks g gens) rows) (mark k b) → (uses.Data ≡ k) × HasRow rows b
    marked_rows [] k b c = absurd (in_none (mark k b) c)
    marked_rows (x ∷ xs) k b c = go (λ later. marked_rows xs k b later) (Contains-append_cases (row_marks g gens x) (flat_map (row_marks g gens) xs) (mark k b) c)
      where
        go : (Contains (flat_map (row_marks g gens) xs) (mark k b) → (uses.Data ≡ k) × HasRow xs b) → Contains (row_marks g gens x) (mark k b) ⊎ Contains (flat_map (row_marks g gens) xs) (mark k b) → (uses.Data ≡ k) × HasRow (x ∷ xs) b
        go more (inl here) = let one = marked_row x k b here in (one.0, record { row = x; has = (0, omega arith, refl); live = one.1; points = one.2 })
        go more (inr later) = let rest = more later in (rest.0, row_later x xs b rest.1)

    -- ---- a row and the key of which it is left

    fresh_some : (p q : Ptr) → age_of g gens p ≡ age_of g gens q → is_fresh g gens (Some p) ≡ is_fresh g gens (Some q)
    fresh_some p q same = ap (λ n. not (is_stale n)) same

    -- both have no pointer, or both have one, and the first ones are as old
    live_by : (a b : Key) → a.count ≡ b.count → (0 < a.count → age_of g gens (ptr_at a 0) ≡ age_of g gens (ptr_at b 0)) → is_live g gens a ≡ is_live g gens b
    live_by a b count ages = go (cases_lt 0 a.count)
      where
        go : (0 < a.count) ⊎ (a.count ≤ 0) → is_live g gens a ≡ is_live g gens b
        go (inl some) =
            ap (is_fresh g gens) (pointer_some a some) ∙ fresh_some (ptr_at a 0) (ptr_at b 0) (ages some) ∙ sym (ap (is_fresh g gens) (pointer_some b (subst (λ n. 0 < n) count some)))
        go (inr none) =
            let x = le-ltb 0 a.count none in
            let y = le-ltb 0 b.count (subst (λ n. n ≤ 0) count none) in
            ap (is_fresh g gens) (pointer_none a x) ∙ sym (ap (is_fresh g gens) (pointer_none b y))

    module _ (whole row : Key) (part : IsPart whole row) (some : 0 < row.size) (extent : row.size ≤ row.end) (lies : (i : ℕ) → i < whole.count → LiesInData g (ptr_at whole i) whole.size) where
      row_starts : Covers row (start_of row)
      row_starts = (omega arith, omega (arith, some, extent))

      covered : (sector : ℕ) → Covers row sector → Covers whole sector
      covered sector c = let from = part.from in let to = part.to in (omega (arith, from, c.0), omega (arith, to, c.1))

      own_place : place_at row 0 (start_of row) ≡ (ptr_at row 0).offset
      own_place =
          let small = (ptr_at row 0).offset_fits in
          let none : (ptr_at row 0).offset + (start_of row - start_of row) ≡ (ptr_at row 0).offset = omega arith in
          ap (λ n. n % 2 ^ 43) none ∙ mod-eq_of_lt small

      pub same_bucket : 0 < whole.count → bucket_at g (ptr_at row 0).offset ≡ bucket_at g (ptr_at whole 0).offset
      same_bucket more =
          ap (bucket_at g) (sym own_place ∙ part.places (start_of row) 0 row_starts more)
          ∙ (lies_in_bucket g whole 0 (start_of row) (lies 0 more) (covered (start_of row) row_starts)).1

      pub live_part : is_live g gens whole ≡ is_live g gens row
      live_part = live_by whole row (sym part.kind.count) (λ more.
          ap (λ n. behind (generation_of gens n) (ptr_at whole 0).generation) (sym (same_bucket more))
          ∙ ap (λ n. behind (generation_of gens (bucket_at g (ptr_at row 0).offset)) n) (sym (part.devices 0 more).generation))

      pub place_part : (sector : ℕ) → 0 < whole.count → Covers row sector → bucket_at g (place_at whole 0 sector) ≡ bucket_at g (ptr_at row 0).offset
      place_part sector more c = (lies_in_bucket g whole 0 sector (lies 0 more) (covered sector c)).1 ∙ sym (same_bucket more)

    -- ---- the rows of an index

    pub record RowOf (keys : List Key) (row : Key) : Type 0 where
      pub whole : Key
      pub look : last_key keys (start_of row) ≡ Some whole
      pub rest : IsRest (last_key keys) whole row
      pub some : 0 < row.size
      pub extent : row.size ≤ row.end

    pub row_of : (keys index : List Key) (row : Key) → AreLastOfAll keys index → Contains index row → RowOf keys row
    row_of keys index row last has =
        let range = All-contains (λ (k : Key). (k.size ≤ k.end) × (0 < k.size)) index row last.order.0 has in
        let at : last_key index (start_of row) ≡ Some row = last_key_at index (start_of row) row last.order has (omega arith, omega (arith, range.0, range.1)) in
        go (last_key keys (start_of row)) refl (last.shown (start_of row)) at range
      where
        go : (o : Option Key) → last_key keys (start_of row) ≡ o → MatchOption o (last_key index (start_of row) ≡ None) (λ whole. IsSomeAnd (last_key index (start_of row)) (IsRest (last_key keys) whole))
            → last_key index (start_of row) ≡ Some row → (row.size ≤ row.end) × (0 < row.size) → RowOf keys row
        go None is none at range = absurd (cc)
        go (Some whole) is rest at range =
            record { whole = whole; look = is; rest = subst (λ (o : Option Key). IsSomeAnd o (IsRest (last_key keys) whole)) at rest; some = range.1; extent = range.0 }

    pub record RowAt (index : List Key) (look : ℕ → Option Key) (sector : ℕ) (whole : Key) : Type 0 where
      pub row : Key
      pub has : Contains index row
      pub covers : Covers row sector
      pub rest : IsRest look whole row

    pub row_at : (keys index : List Key) (sector : ℕ) (whole : Key) → AreLastOfAll keys index → last_key keys sector ≡ Some whole → RowAt index (last_key keys) sector whole
    row_at keys index sector whole last is = go (last_key index sector) refl (subst (λ (o : Option Key). MatchOption o (last_key index sector ≡ None) (λ w. IsSomeAnd (last_key index sector) (IsRest (last_key keys) w))) is (last.shown sector))
      where
        go : (o : Option Key) → last_key index sector ≡ o → IsSomeAnd o (IsRest (last_key keys) whole) → RowAt index (last_key keys) sector whole
        go None at rest = absurd rest
        go (Some row) at rest = let found = last_key_found index sector row at in record { row = row; has = found.0; covers = found.1; rest = rest }

-- ---- all of them

pub live_some : (g : Geometry) (gens : Gens) (key : Key) → is_live g gens key ≡ true → 0 < key.count
live_some g gens key live = go (cases_lt 0 key.count)
  where
    go : (0 < key.count) ⊎ (key.count ≤ 0) → 0 < key.count
    go (inl some) = some
    go (inr none) = let dead : is_live g gens key ≡ false = ap (is_fresh g gens) (pointer_none key (le-ltb 0 key.count none)) in absurd (cc)

module _ (h : Held) (size : ℕ) (index : List Key) (last : AreLastOfAll h.keys index) (good : All (IsDataKey h.geometry size) h.keys) where
  abbrev g : Geometry
  g = h.geometry

  lies_of : (sector : ℕ) (whole : Key) → last_key h.keys sector ≡ Some whole → (i : ℕ) → i < whole.count → LiesInData g (ptr_at whole i) whole.size
  lies_of sector whole is = (All-contains (IsDataKey g size) h.keys whole good (last_key_found h.keys sector whole is).0).ptrs

  pub data_used : (b : ℕ) → HasRow g h.gens index b → (sector : ℕ) × (key : Key) × LiesIn h sector key b
  data_used b r =
      let o = row_of g h.gens h.keys index r.row last r.has in
      let lies = lies_of (start_of r.row) o.whole o.look in
      let live : is_live g h.gens o.whole ≡ true = live_part g h.gens o.whole r.row o.rest.cut o.some o.extent lies ∙ r.live in
      let some = live_some g h.gens o.whole live in
      let ptr : ptr_at r.row 0 ≡ r.points.0 = some_same (ptr_at r.row 0) r.points.0 (sym (pointer_some r.row (live_some g h.gens r.row r.live)) ∙ r.points.1) in (
        start_of r.row,
        o.whole,
        record {
          last = o.look;
          live = live;
          place = place_part g h.gens o.whole r.row o.rest.cut o.some o.extent lies (start_of r.row) some (row_starts g h.gens o.whole r.row o.rest.cut o.some o.extent lies)
              ∙ ap (λ (p : Ptr). bucket_at g p.offset) ptr ∙ r.points.2;
        },
      )

  pub used_data : (b sector : ℕ) (key : Key) → LiesIn h sector key b → HasRow g h.gens index b
  used_data b sector key l =
      let r = row_at g h.gens h.keys index sector key last l.last in
      let range = All-contains (λ (k : Key). (k.size ≤ k.end) × (0 < k.size)) index r.row last.order.0 r.has in
      let lies = lies_of sector key l.last in
      let some = live_some g h.gens key l.live in
      let live : is_live g h.gens r.row ≡ true = sym (live_part g h.gens key r.row r.rest.cut range.1 range.0 lies) ∙ l.live in
      record {
        row = r.row;
        has = r.has;
        live = live;
        points = (ptr_at r.row 0, pointer_some r.row (live_some g h.gens r.row live), sym (place_part g h.gens key r.row r.rest.cut range.1 range.0 lies sector some r.covers) ∙ l.place);
      }

  abbrev marks : List Mark
  marks = all_marks g h.gens h.uuid_bucket h.seen index

  abbrev uuid_part : List Mark
  uuid_part = chain_marks h.gens.chain ++ key_marks g uses.Uuid h.uuid_bucket

  abbrev node_part : List Mark
  node_part = uuid_part ++ flat_map (visit_marks g) h.seen

  pub used_marked : (k : Use) (b : ℕ) → IsUse h k b → IsMarked g marks k b
  used_marked uses.None b use_ = absurd use_
  used_marked uses.Super b use_ = inl use_
  used_marked uses.Journal b use_ = inl use_
  used_marked uses.Priority b use_ =
      let m = mark uses.Priority b in
      inr (Contains-append_left node_part (flat_map (row_marks g h.gens) index) m (Contains-append_left uuid_part (flat_map (visit_marks g) h.seen) m (Contains-append_left (chain_marks h.gens.chain) (key_marks g uses.Uuid h.uuid_bucket) m (chain_marked g h.gens.chain b use_))))
  used_marked uses.Uuid b use_ =
      let m = mark uses.Uuid b in
      inr (Contains-append_left node_part (flat_map (row_marks g h.gens) index) m (Contains-append_left uuid_part (flat_map (visit_marks g) h.seen) m (Contains-append_right (chain_marks h.gens.chain) (key_marks g uses.Uuid h.uuid_bucket) m (key_marked g uses.Uuid h.uuid_bucket b use_))))
  used_marked uses.Node b use_ =
      let m = mark uses.Node b in
      inr (Contains-append_left node_part (flat_map (row_marks g h.gens) index) m (Contains-append_right uuid_part (flat_map (visit_marks g) h.seen) m (nodes_marked g h.seen b use_)))
  used_marked uses.Data b (sector, key, l) =
      inr (Contains-append_right node_part (flat_map (row_marks g h.gens) index) (mark uses.Data b) (rows_marked g h.gens index b (used_data b sector key l)))

  laid_used : (k : Use) (b : ℕ) → IsLaidOut g k b → IsUse h k b
  laid_used uses.None b laid = absurd laid
  laid_used uses.Super b laid = laid
  laid_used uses.Journal b laid = laid
  laid_used uses.Priority b laid = absurd laid
  laid_used uses.Uuid b laid = absurd laid
  laid_used uses.Node b laid = absurd laid
  laid_used uses.Data b laid = absurd laid

  use_as : (a k : Use) (b : ℕ) → a ≡ k → IsUse h a b → IsUse h k b
  use_as a k b same use_ = subst (λ (u : Use). IsUse h u b) same use_

  pub marked_used : (k : Use) (b : ℕ) → IsMarked g marks k b → IsUse h k b
  marked_used k b (inl laid) = laid_used k b laid
  marked_used k b (inr c) = go (Contains-append_cases node_part (flat_map (row_marks g h.gens) index) (mark k b) c)
    where
      chain_or : Contains (chain_marks h.gens.chain) (mark k b) ⊎ Contains (key_marks g uses.Uuid h.uuid_bucket) (mark k b) → IsUse h k b
      chain_or (inl x) = let one = marked_chain g h.gens.chain k b x in use_as uses.Priority k b one.0 one.1
      chain_or (inr x) = let one = marked_key g uses.Uuid h.uuid_bucket k b x in use_as uses.Uuid k b one.0 one.1

      uuid_or : Contains uuid_part (mark k b) ⊎ Contains (flat_map (visit_marks g) h.seen) (mark k b) → IsUse h k b
      uuid_or (inl x) = chain_or (Contains-append_cases (chain_marks h.gens.chain) (key_marks g uses.Uuid h.uuid_bucket) (mark k b) x)
      uuid_or (inr x) = let one = marked_nodes g h.seen k b x in use_as uses.Node k b one.0 one.1

      go : Contains node_part (mark k b) ⊎ Contains (flat_map (row_marks g h.gens) index) (mark k b) → IsUse h k b
      go (inl x) = uuid_or (Contains-append_cases uuid_part (flat_map (visit_marks g) h.seen) (mark k b) x)
      go (inr x) = let one = marked_rows g h.gens index k b x in use_as uses.Data k b one.0 (data_used b one.1)
