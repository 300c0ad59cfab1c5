-- Rows of an index, and the keys that they are left of.
use Rattle.std.proofs.Common.{◌≡◌, inl, inr, ℕ, zero, suc, ◌<◌, ◌≤◌, Bool, true, false, List, Some, refl, sym, subst, ap, ◌∙◌, arith}
use Rattle.std.specs.Prelude.{All, Contains}
use Rattle.std.proofs.lemmas.List.Elements.{All-contains}
use Rattle.bc_disk.specs.declared.geometry.Geometry.{Geometry}
use Rattle.bc_extent.specs.LastKey.{last_key}
use Rattle.bc_extent.proofs.LastKeys.{last_key_found, last_key_at}
use Rattle.bc_image.specs.Pointers.{LiesInData}
use Rattle.bc_image.specs.Reading.{Reading, keys_of}
use Rattle.bc_image.specs.Shown.{is_live}
use Rattle.bc_image.specs.Sound.{IsDataKey}
use Rattle.bc_image.specs.Uses.{LiesLive}
use Rattle.bc_key.specs.Key.{ptr_at, start_of, Covers}
use Rattle.bc_key.specs.declared.key.Key.{Key}
use Rattle.bc_key.specs.declared.ptr.Ptr.{Ptr}
use Rattle.bc_node.specs.Leaf.{AreLastOfAll}
use Rattle.bc_record.specs.Places.{bucket_at}
use Rattle.bc_replay.proofs.Names.{pointer_some}
use Rattle.bc_replay.proofs.Judge.{pointer_is}
use Rattle.bc_replay.proofs.Used.{live_some, live_part, place_part, row_of, row_at}
use Rattle.bc_counts.specs.Counts.{CountsBelow, IsCount, IsLiveIn, IsDirtyIn, HasRow, Asks}

-- ---- counts of what is the same

counts_same : (P Q : ℕ → Type 0) (n count : ℕ) → ((s : ℕ) → P s → Q s) → ((s : ℕ) → Q s → P s) → CountsBelow P n count → CountsBelow Q n count
counts_same P Q zero count to back counts = counts
counts_same P Q (suc n) count to back (less, rest, inl x) = (less, counts_same P Q n less to back rest, inl (to n x.0, x.1))
counts_same P Q (suc n) count to back (less, rest, inr x) = (less, counts_same P Q n less to back rest, inr ((λ q. x.0 (back n q)), x.1))

pub count_same : (P Q : ℕ → Type 0) (count : ℕ) → ((s : ℕ) → P s → Q s) → ((s : ℕ) → Q s → P s) → IsCount P count → IsCount Q count
count_same P Q count to back c = record { bound = c.bound; below = counts_same P Q c.bound count to back c.below; behind = λ n high q. c.behind n high (back n q) }

-- ---- rows and keys

module _ (g : Geometry) (r : Reading) (size : ℕ) (index : List Key) (last : AreLastOfAll (keys_of r) index) (good : All (IsDataKey g size) (keys_of r)) where
  pub lies_of : (sector : ℕ) (whole : Key) → last_key (keys_of r) sector ≡ Some whole → (i : ℕ) → i < whole.count → LiesInData g (ptr_at whole i) whole.size
  lies_of sector whole is = (All-contains (IsDataKey g size) (keys_of r) whole good (last_key_found (keys_of r) sector whole is).0).ptrs

  pub record Both (asks : Key → Type 0) (bucket sector : ℕ) : Type 0 where
    pub key : Key
    pub lies : LiesLive g r sector key bucket
    pub asked : asks key

  same_asks : (dirty : Bool) (a b : Key) → a.dirty ≡ b.dirty → Asks dirty a → Asks dirty b
  same_asks true a b same asked = sym same ∙ asked
  same_asks false a b same asked = tt

  pub row_key : (dirty : Bool) (bucket sector : ℕ) → HasRow g r.gens index (Asks dirty) bucket sector → Both (Asks dirty) bucket sector
  row_key dirty bucket sector h =
      let found = last_key_found index sector h.row h.last in
      let o = row_of g r.gens (keys_of r) index h.row last found.0 in
      let lies = lies_of (start_of h.row) o.whole o.look in
      let live : is_live g r.gens o.whole ≡ true = live_part g r.gens o.whole h.row o.rest.cut o.some o.extent lies ∙ h.live in
      let some = live_some g r.gens o.whole live in
      let p = pointer_is h.row h.points.0 h.points.1 in
      record {
        key = o.whole;
        lies = record {
          last = o.rest.inside sector found.1;
          live = live;
          place = place_part g r.gens o.whole h.row o.rest.cut o.some o.extent lies sector some found.1 ∙ ap (λ (q : Ptr). bucket_at g q.offset) p.1 ∙ h.points.2;
        };
        asked = same_asks dirty h.row o.whole o.rest.cut.kind.dirty h.asked;
      }

  pub key_row : (dirty : Bool) (bucket sector : ℕ) → Both (Asks dirty) bucket sector → HasRow g r.gens index (Asks dirty) bucket sector
  key_row dirty bucket sector b =
      let row = row_at g r.gens (keys_of r) index sector b.key last b.lies.last in
      let range = All-contains (λ (k : Key). (k.size ≤ k.end) × (0 < k.size)) index row.row last.order.0 row.has in
      let lies = lies_of sector b.key b.lies.last in
      let some = live_some g r.gens b.key b.lies.live in
      let live : is_live g r.gens row.row ≡ true = sym (live_part g r.gens b.key row.row row.rest.cut range.1 range.0 lies) ∙ b.lies.live in
      record {
        row = row.row;
        last = at row.row row.has row.covers;
        live = live;
        points = (ptr_at row.row 0, pointer_some row.row (live_some g r.gens row.row live), sym (place_part g r.gens b.key row.row row.rest.cut range.1 range.0 lies sector some row.covers) ∙ b.lies.place);
        asked = same_asks dirty b.key row.row (sym row.rest.cut.kind.dirty) b.asked;
      }
    where
      at : (row : Key) → Contains index row → Covers row sector → last_key index sector ≡ Some row
      at row has covers = last_key_at index sector row last.order has covers

  pub live_count : (bucket count : ℕ) → IsCount (HasRow g r.gens index (Asks false) bucket) count → IsCount (IsLiveIn g r bucket) count
  live_count bucket count c =
      count_same (HasRow g r.gens index (Asks false) bucket) (IsLiveIn g r bucket) count (λ s h. (let b = row_key false bucket s h in (b.key, b.lies)))
      (λ s (key, lies). key_row false bucket s (record { key = key; lies = lies; asked = tt })) c

  pub dirty_count : (bucket count : ℕ) → IsCount (HasRow g r.gens index (Asks true) bucket) count → IsCount (IsDirtyIn g r bucket) count
  dirty_count bucket count c =
      count_same (HasRow g r.gens index (Asks true) bucket) (IsDirtyIn g r bucket) count (λ s h. (let b = row_key true bucket s h in (b.key, b.lies, b.asked)))
      (λ s (key, lies, dirty). key_row true bucket s (record { key = key; lies = lies; asked = dirty })) c
