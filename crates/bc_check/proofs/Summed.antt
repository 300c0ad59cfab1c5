-- Counting the live sectors of rows in order, and those of a pair.
use Rattle.std.proofs.Common.{◌≡◌, inl, inr, ℕ, ◌+◌, ◌-◌, ◌<◌, ◌≤◌, Bool, List, length, get_or, Some, sym, subst, ◌∙◌, arith}
use Rattle.std.specs.Prelude.{All}
use Rattle.std.proofs.lemmas.List.Elements.{All-contains}
use Rattle.bc_disk.specs.Gens.{Gens}
use Rattle.bc_disk.specs.declared.geometry.Geometry.{Geometry}
use Rattle.bc_entries.specs.Journal.{Journal}
use Rattle.bc_extent.specs.LastKey.{last_key}
use Rattle.bc_extent.specs.Extents.{IsInOrder}
use Rattle.bc_extent.proofs.LastKeys.{last_key_found, last_key_at}
use Rattle.bc_image.specs.Pair.{Pair}
use Rattle.bc_image.specs.Pointers.{LiesInData}
use Rattle.bc_image.specs.Reading.{Reading, keys_of}
use Rattle.bc_image.specs.Sound.{IsDataKey}
use Rattle.bc_image.proofs.Unique.{some_same}
use Rattle.bc_key.specs.Key.{ptr_at, start_of}
use Rattle.bc_key.specs.declared.key.Key.{Key}
use Rattle.bc_node.specs.Leaf.{AreLastOfAll}
use Rattle.bc_replay.specs.Survey.{HasSurvey}
use Rattle.bc_replay.specs.declared.uses.Use.{Use}
use Rattle.bc_replay.proofs.Used.{live_part, row_of, row_at}
use Rattle.bc_super.specs.Super.{data_sectors}
use Rattle.bc_super.specs.declared.backing.BackingSuper.{BackingSuper}
use Rattle.bc_super.specs.declared.cache.CacheSuper.{CacheSuper}
use Rattle.bc_walk.specs.declared.visit.Visit.{Visit}
use Rattle.bc_counts.specs.Counts.{CountsBelow, IsCount}
use Rattle.bc_check.specs.Totals.{IsLiveAs, IsKindRow, HasKindRow, CountsAs}
use Rattle.bc_counts.proofs.Counting.{Between, counts_most, counts_none, counts_all, none_behind, starts, range, gap, here}
use Rattle.bc_counts.proofs.Rows.{count_same}

module _ (rows : List Key) (order : IsInOrder rows) (i end : ℕ) (row : Key) (low : i < length rows) (is : row ≡ get_or rows i row) (between : Between rows i end) (g : Geometry) (gens : Gens) (dirty : Bool) where
  abbrev P : ℕ → Type 0
  P = HasKindRow g gens rows dirty

  none_in_gap : (s : ℕ) → end ≤ s → s < start_of row → ¬ (P s)
  none_in_gap s from below r = absurd (let a = gap rows order i end row low is between s from below in let b = r.last in cc)

  row_kind : (s : ℕ) → start_of row ≤ s → s < row.end → P s → IsKindRow g gens dirty row
  row_kind s from below r = subst (λ (k : Key). IsKindRow g gens dirty k) (some_same r.row row (sym r.last ∙ here rows order i end row low is between s from below)) r.kind

  pub kinds_next : (old new : ℕ) → CountsBelow P end old → CountsAs g gens dirty row old new → CountsBelow P row.end new
  kinds_next old new counts added =
      let s = starts rows order i end row low is between in
      let r = range rows order i end row low is between in
      let first : end + (start_of row - end) ≡ start_of row = omega (arith, s) in
      let then : start_of row + row.size ≡ row.end = omega (arith, r.0) in
      let before = subst (λ n. CountsBelow P n old) first (counts_none P end (start_of row - end) old counts (λ x from below. none_in_gap x from (subst (λ n. x < n) first below))) in
      go then before added
    where
      go : start_of row + row.size ≡ row.end → CountsBelow P (start_of row) old → CountsAs g gens dirty row old new → CountsBelow P row.end new
      go then before (inl (kind, same)) =
          subst (λ n. CountsBelow P n new) then
          (subst (λ m. CountsBelow P (start_of row + row.size) m) (sym same)
          (counts_all P (start_of row) row.size old before (λ x from below. record { row = row; last = here rows order i end row low is between x from (subst (λ n. x < n) then below); kind = kind })))
      go then before (inr (not, same)) =
          subst (λ n. CountsBelow P n new) then
          (subst (λ m. CountsBelow P (start_of row + row.size) m) (sym same) (counts_none P (start_of row) row.size old before (λ x from below has. not (row_kind x from (subst (λ n. x < n) then below) has))))

  pub room_for_kind : (count : ℕ) → CountsBelow P end count → count + row.size ≤ row.end
  room_for_kind count counts = let most = counts_most P end count counts in let s = starts rows order i end row low is between in let r = range rows order i end row low is between in omega (arith, most, s, r.0, r.1)

pub kinds_counted : (rows : List Key) (order : IsInOrder rows) (i end : ℕ) → length rows ≤ i → Between rows i end → (g : Geometry) (gens : Gens) (dirty : Bool) (count : ℕ) → CountsBelow (HasKindRow g gens rows dirty) end count → IsCount (HasKindRow g gens rows dirty) count
kinds_counted rows order i end all between g gens dirty count counts =
    record { bound = end; below = counts; behind = λ s high r. (absurd (let a = none_behind rows order i end all between s high in let b = r.last in cc)) }

-- ---- of a survey

module _ (g : Geometry) (r : Reading) (size : ℕ) (index : List Key) (last : AreLastOfAll (keys_of r) index) (good : All (IsDataKey g size) (keys_of r)) (dirty : Bool) where
  lies_of : (sector : ℕ) (whole : Key) → last_key (keys_of r) sector ≡ Some whole → (i : ℕ) → i < whole.count → LiesInData g (ptr_at whole i) whole.size
  lies_of sector whole is = (All-contains (IsDataKey g size) (keys_of r) whole good (last_key_found (keys_of r) sector whole is).0).ptrs

  to_live : (sector : ℕ) → HasKindRow g r.gens index dirty sector → IsLiveAs g r dirty sector
  to_live sector h =
      let found = last_key_found index sector h.row h.last in
      let o = row_of g r.gens (keys_of r) index h.row last found.0 in
      record {
        key = o.whole;
        last = o.rest.inside sector found.1;
        live = live_part g r.gens o.whole h.row o.rest.cut o.some o.extent (lies_of (start_of h.row) o.whole o.look) ∙ h.kind.1;
        kind = sym o.rest.cut.kind.dirty ∙ h.kind.0;
      }

  to_row : (sector : ℕ) → IsLiveAs g r dirty sector → HasKindRow g r.gens index dirty sector
  to_row sector l =
      let row = row_at g r.gens (keys_of r) index sector l.key last l.last in
      let range = All-contains (λ (k : Key). (k.size ≤ k.end) × (0 < k.size)) index row.row last.order.0 row.has in
      record {
        row = row.row;
        last = last_key_at index sector row.row last.order row.has row.covers;
        kind = (row.rest.cut.kind.dirty ∙ l.kind, sym (live_part g r.gens l.key row.row row.rest.cut range.1 range.0 (lies_of sector l.key l.last)) ∙ l.live);
      }

  live_counted : (count : ℕ) → IsCount (HasKindRow g r.gens index dirty) count → IsCount (IsLiveAs g r dirty) count
  live_counted count c = count_same (HasKindRow g r.gens index dirty) (IsLiveAs g r dirty) count to_live to_row c

pub total_told : (p : Pair) (b : BackingSuper) (c : CacheSuper) (g : Geometry) (j : Journal) (gens : Gens) (seen : List Visit) (index : List Key) (table : List Use) (h : HasSurvey p b c g j gens seen index table) (dirty : Bool) (count : ℕ)
    → IsCount (HasKindRow g gens index dirty) count → IsCount (IsLiveAs g h.view.reading dirty) count
total_told p b c g j gens seen index table h dirty count counts =
    let r = h.view.reading in
    let size = data_sectors p.backing_sectors h.view.backing in
    let good = subst (λ (x : Geometry). All (IsDataKey x size) (keys_of r)) h.geometry h.openable.pointers.data_keys in
    live_counted g r size index h.index good dirty count (subst (λ (gs : Gens). IsCount (HasKindRow g gs index dirty) count) (sym h.gens) counts)
