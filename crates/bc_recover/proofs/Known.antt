-- From the rows of an index to what the keys of a pair say of its buckets.
use Rattle.std.proofs.Common.{◌≡◌, ◌⊎◌, inl, inr, ℕ, zero, suc, ◌+◌, ◌-◌, ◌<◌, ◌≤◌, ◌^◌, Bool, true, false, List, [], ◌∷◌, length, get_or, Option, Some, None, refl, sym, ap, ◌∙◌, subst, arith}
use Rattle.std.specs.Prelude.{All, Contains, MatchOption, min}
use Rattle.std.proofs.lemmas.List.{get_or_default}
use Rattle.std.proofs.lemmas.List.Elements.{All-contains}
use Rattle.bc_bucket.specs.Buckets.{Buckets, bucket_of, oldest_or}
use Rattle.bc_bucket.specs.Meaning.{IsFound, IsOldest, mark_by, no_reference}
use Rattle.bc_bucket.specs.declared.bucket.Bucket.{Bucket}
use Rattle.bc_bucket.specs.declared.bucket.Mark.{Mark}
use Rattle.bc_bucket.specs.declared.bucket.Mark.TheVariants as marks
use Rattle.bc_bucket.specs.declared.walk.Found.{Found}
use Rattle.bc_bucket.specs.declared.walk.Reference.{Reference}
use Rattle.bc_counts.specs.Counts.{Asks, HasRow, IsLiveRow}
use Rattle.bc_counts.proofs.Rows.{Both, key_row, lies_of, live_count, row_key}
use Rattle.bc_disk.specs.declared.geometry.Geometry.{Geometry}
use Rattle.bc_extent.specs.Extents.{IsPart}
use Rattle.bc_extent.specs.LastKey.{last_key}
use Rattle.bc_extent.proofs.LastKeys.{last_key_found, last_key_at}
use Rattle.bc_image.specs.Reading.{Reading, key_of, keys_of}
use Rattle.bc_image.specs.Shown.{generation_of, is_live}
use Rattle.bc_image.specs.Sound.{HasOneUse, IsDataKey}
use Rattle.bc_image.specs.Uses.{Use, Super, Journal, Priority, Uuid, Node, Data, IsUsedFor, IsLiveDirty, LiesLive}
use Rattle.bc_key.specs.Generation.{behind}
use Rattle.bc_key.specs.Key.{pointer_of, ptr_at, start_of, Covers}
use Rattle.bc_key.specs.declared.key.Key.{Key}
use Rattle.bc_key.specs.declared.ptr.Ptr.{Ptr}
use Rattle.bc_node.specs.Leaf.{AreLastOfAll}
use Rattle.bc_record.specs.Places.{bucket_at}
use Rattle.bc_replay.proofs.Names.{pointer_some}
use Rattle.bc_replay.proofs.Judge.{pointer_is}
use Rattle.bc_replay.proofs.Used.{row_of, row_at, same_bucket}
use Rattle.bc_traced.specs.Rows.{IsTraced, no_record, reference_of, references}
use Rattle.bc_recover.specs.Known.{AreKnown, IsKnownAs, IsMarkOf, IsMetadata, IsOldestKey, IsPriorityOf, PointsFrom}
use Rattle.bc_recover.specs.Opened.{AreOpened, IsOpened, as_metadata}
use Rattle.bc_recover.proofs.Referred.{any_dirty, dirties_of, Dirties, dirty_none, dirty_some, live_none, live_sectors, live_some, lives, lives_of, Lives, row_to, sectors_in, to_row}

module _ (g : Geometry) (r : Reading) (size : ℕ) (rows : List Key) (last : AreLastOfAll (keys_of r) rows) (good : All (IsDataKey g size) (keys_of r)) (k : ℕ) where
  abbrev own : ℕ
  own = generation_of r.gens k

  abbrev refs : List Reference
  refs = references g k rows

  range : (row : Key) → Contains rows row → (row.size ≤ row.end) × (0 < row.size)
  range row has = All-contains (λ (x : Key). (x.size ≤ x.end) × (0 < x.size)) rows row last.order.0 has

  starts : (row : Key) → Contains rows row → Covers row (start_of row)
  starts row has = let one = range row has in (omega arith, omega (arith, one.0, one.1))

  row_at_start : (row : Key) → Contains rows row → last_key rows (start_of row) ≡ Some row
  row_at_start row has = last_key_at rows (start_of row) row last.order has (starts row has)

  -- ---- rows that are live

  to_key : (dirty : Bool) (row : Key) → Contains rows row → IsLiveRow g r.gens row k → Asks dirty row → Both g r size rows last good (Asks dirty) k (start_of row)
  to_key dirty row has live asked =
      row_key g r size rows last good dirty k (start_of row) (record { row = row; last = row_at_start row has; live = live.0; points = live.1; asked = asked })

  used_for : (row : Key) → Contains rows row → IsLiveRow g r.gens row k → IsUsedFor g r Data k
  used_for row has live = let b = to_key false row has live tt in (start_of row, b.key, b.lies)

  dirty_for : (row : Key) → Contains rows row → IsLiveRow g r.gens row k → row.dirty ≡ true → IsLiveDirty g r k
  dirty_for row has live dirty = let b = to_key true row has live dirty in (start_of row, b.key, b.lies, b.asked)

  from_used : IsUsedFor g r Data k → (row : Key) × Contains rows row × IsLiveRow g r.gens row k
  from_used (sector, key, lies) =
      let h = key_row g r size rows last good false k sector (record { key = key; lies = lies; asked = tt }) in
      (h.row, (last_key_found rows sector h.row h.last).0, (h.live, h.points))

  from_dirty : IsLiveDirty g r k → (row : Key) × Contains rows row × IsLiveRow g r.gens row k × (row.dirty ≡ true)
  from_dirty (sector, key, lies, dirty) =
      let h = key_row g r size rows last good true k sector (record { key = key; lies = lies; asked = dirty }) in
      (h.row, (last_key_found rows sector h.row h.last).0, (h.live, h.points), h.asked)

  -- what the mark says by the rows alone
  data IsDataMark (mark : Mark) : Type 0 where
    dirty : mark ≡ marks.Dirty → IsLiveDirty g r k → IsDataMark mark
    clean : mark ≡ marks.Reclaimable → IsUsedFor g r Data k → ¬ (IsLiveDirty g r k) → IsDataMark mark
    free : mark ≡ marks.None → ¬ (IsUsedFor g r Data k) → IsDataMark mark

  data_mark : (found : Found) → IsFound own refs found → IsDataMark found.mark
  data_mark found says = go (any_dirty g r.gens k (lives g r.gens k refs)) (lives g r.gens k refs) (dirties_of g r.gens k rows) (lives_of g r.gens k rows) says.mark
    where
      clean_or_free : (live : List Reference) → ¬ (IsLiveDirty g r k) → Lives g r.gens k rows live → (m : Mark) → m ≡ mark_by false live → IsDataMark m
      clean_or_free live never (live_some row l x xs is) m at = clean (at ∙ ap (mark_by false) is) (used_for row l.0 l.1) never
      clean_or_free live never (live_none all is) m at = free (at ∙ ap (mark_by false) is) (λ u. let f = from_used u in all f.0 (f.1, f.2))

      go : (any : Bool) (live : List Reference) → Dirties g r.gens k rows any → Lives g r.gens k rows live → found.mark ≡ mark_by any live → IsDataMark found.mark
      go any live (dirty_some row l is_dirty is) ls at = dirty (at ∙ ap (λ b. mark_by b live) is) (dirty_for row l.0 l.1 is_dirty)
      go any live (dirty_none all is) ls at =
          clean_or_free live (λ d. let f = from_dirty d in all f.0 (f.1, f.2) f.3) ls found.mark (at ∙ ap (λ b. mark_by b live) is)

  -- ---- the oldest of all rows

  some_same : (a b : Ptr) → Some a ≡ Some b → a ≡ b
  some_same a b e = cc

  -- a row's pointer, and that of the key of which it is left
  abbrev SamePlace : Key → Key → Type 0
  SamePlace whole row = (ptr : Ptr) → pointer_of whole ≡ Some ptr → (p : Ptr) × (pointer_of row ≡ Some p) × (p.generation ≡ ptr.generation) × (bucket_at g p.offset ≡ bucket_at g ptr.offset)

  place_of : (whole row : Key) (sector : ℕ) → last_key (keys_of r) sector ≡ Some whole → Contains rows row → IsPart whole row → SamePlace whole row
  place_of whole row sector look has part ptr is =
      let p = pointer_is whole ptr is in
      let more : 0 < whole.count = p.0 in
      let one = range row has in
      let lies = lies_of g r size rows last good sector whole look in
      let same = same_bucket g r.gens whole row part one.1 one.0 lies more in
      let count : 0 < row.count = subst (λ n. 0 < n) (sym part.kind.count) more in (
        ptr_at row 0,
        pointer_some row count,
        (part.devices 0 more).generation ∙ ap (λ (q : Ptr). q.generation) p.1,
        same ∙ ap (λ (q : Ptr). bucket_at g q.offset) p.1,
      )

  abbrev Referred : Ptr → Type 0
  Referred ptr = (ref : Reference) × Contains refs ref × (ref.generation ≡ ptr.generation)

  referred : (sector : ℕ) (key : Key) (ptr : Ptr) → PointsFrom g r k sector key ptr → Referred ptr
  referred sector key ptr from =
      let row = row_at g r.gens (keys_of r) rows sector key last from.last in
      let p = place_of key row.row sector from.last row.has row.rest.cut ptr from.points in
      (reference_of row.row p.0, to_row g r.gens k rows row.row p.0 row.has p.1 (p.3 ∙ from.place), p.2)

  abbrev IsGeneration : ℕ → Type 0
  IsGeneration n = (sector : ℕ) × (key : Key) × (ptr : Ptr) × PointsFrom g r k sector key ptr × (ptr.generation ≡ n)

  from_reference : (n : ℕ) (ref : Reference) → Contains refs ref → ref.generation ≡ n → IsGeneration n
  from_reference n ref has is =
      let f = row_to g r.gens k rows ref has in
      let o = row_of g r.gens (keys_of r) rows f.row last f.has in
      let own_ptr = pointer_is f.row f.ptr f.points in
      let count : 0 < o.whole.count = subst (λ m. 0 < m) o.rest.cut.kind.count own_ptr.0 in
      let ptr = ptr_at o.whole 0 in
      let points = pointer_some o.whole count in
      let p = place_of o.whole f.row (start_of f.row) o.look f.has o.rest.cut ptr points in
      let same : p.0 ≡ f.ptr = some_same p.0 f.ptr (sym p.1 ∙ f.points) in
      let place : bucket_at g ptr.offset ≡ k = sym p.3 ∙ ap (λ (q : Ptr). bucket_at g q.offset) same ∙ f.place in
      let generation : ptr.generation ≡ n = sym p.2 ∙ ap (λ (q : Ptr). q.generation) same ∙ ap (λ (x : Reference). x.generation) f.is ∙ is in
      (start_of f.row, o.whole, ptr, record { last = o.look; points = points; place = place }, generation)

  oldest : (found : Found) → IsFound own refs found → IsOldestKey g r k (oldest_or own found.last_gc)
  oldest found says = go found.last_gc says.oldest
    where
      empty : (ref : Reference) (xs : List Reference) → Contains xs ref → xs ≡ [] → ⊥
      empty ref xs has none = let low = has.1 in let long = ap (λ (ys : List Reference). length ys) none in absurd (omega (arith, low, long))

      go : (o : Option ℕ) → MatchOption o (refs ≡ []) (λ n. IsOldest own refs n) → IsOldestKey g r k (oldest_or own o)
      go None none = record {
        none_older = λ sector key ptr from. (let m = referred sector key ptr from in absurd (empty m.0 refs m.1 none));
        one = inl refl;
      }
      go (Some n) old = record {
        none_older = λ sector key ptr from. (
            let m = referred sector key ptr from in
            let at = m.1 in
            let same : get_or refs at.0 no_reference ≡ m.0 = get_or_default refs at.0 no_reference m.0 at.1 ∙ at.2 in
            subst (λ x. behind own x ≤ behind own n) (ap (λ (x : Reference). x.generation) same ∙ m.2) (old.none_older at.0 at.1)
            );
        one = inr (
            let ref = get_or refs old.place no_reference in
            from_reference n ref (old.place, old.within, get_or_default refs old.place ref no_reference old.within) old.is
            );
      }

  -- ---- all of it

  mark_of : (found : Found) → ¬ (IsMetadata g r k) → IsFound own refs found → IsMarkOf g r k found.mark
  mark_of found not_meta says = go (data_mark found says)
    where
      none_of : ¬ (IsUsedFor g r Data k) → (what : Use) → ¬ (IsUsedFor g r what k)
      none_of not_data Super u = not_meta (inl u)
      none_of not_data Journal u = not_meta (inr (inl u))
      none_of not_data Priority u = not_meta (inr (inr (inl u)))
      none_of not_data Uuid u = not_meta (inr (inr (inr (inl u))))
      none_of not_data Node u = not_meta (inr (inr (inr (inr u))))
      none_of not_data Data u = not_data u

      go : IsDataMark found.mark → IsMarkOf g r k found.mark
      go (dirty at d) = subst (IsMarkOf g r k) (sym at) d
      go (clean at u not_dirty) = subst (IsMarkOf g r k) (sym at) (u, not_dirty)
      go (free at not_data) = subst (IsMarkOf g r k) (sym at) (none_of not_data)

  pub known : (b : Bucket) → IsOpened g r rows k b → IsKnownAs g r k b
  known b opened = go opened.marked
    where
      t : IsTraced g (get_or r.gens.records k no_record) rows k opened.before
      t = opened.traced

      go : (IsMetadata g r k × (b ≡ as_metadata opened.before)) ⊎ (¬ (IsMetadata g r k) × (b ≡ opened.before)) → IsKnownAs g r k b
      go (inl (is_metadata, is)) =
          subst (λ (x : Bucket). IsKnownAs g r k x) (sym (is ∙ ap as_metadata t.is))
          (record {
            generation = refl;
            durable = refl;
            priority = inl (is_metadata, refl);
            mark = is_metadata;
            live = sectors_in g r.gens k (lives g r.gens k refs);
            count = live_count g r size rows last good k (sectors_in g r.gens k (lives g r.gens k refs)) (live_sectors g r.gens k rows last.order);
            used = t.says.used;
            oldest = oldest t.found t.says;
            unused = (refl, refl, refl);
          })
      go (inr (not_metadata, is)) =
          subst (λ (x : Bucket). IsKnownAs g r k x) (sym (is ∙ t.is))
          (record {
            generation = refl;
            durable = refl;
            priority = inr (not_metadata, refl);
            mark = mark_of t.found not_metadata t.says;
            live = sectors_in g r.gens k (lives g r.gens k refs);
            count = live_count g r size rows last good k (sectors_in g r.gens k (lives g r.gens k refs)) (live_sectors g r.gens k rows last.order);
            used = t.says.used;
            oldest = oldest t.found t.says;
            unused = (refl, refl, refl);
          })

pub all_known : (g : Geometry) (r : Reading) (size : ℕ) (rows : List Key) (last : AreLastOfAll (keys_of r) rows) (good : All (IsDataKey g size) (keys_of r)) (buckets : Buckets) → AreOpened g r rows buckets → AreKnown g r buckets
all_known g r size rows last good buckets are = record {
  each = are.each;
  size = are.size;
  data_from = are.data_from;
  touched = are.touched;
  known = λ k low. known g r size rows last good k (bucket_of buckets k) (are.opened k low);
}
