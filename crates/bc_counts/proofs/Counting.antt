-- Counting the sectors of rows in order, row after row.
use Rattle.std.proofs.Common.{◌≡◌, ◌⊎◌, inl, inr, ℕ, zero, suc, ◌+◌, ◌-◌, ◌<◌, ◌≤◌, List, length, get_or, Some, None, refl, sym, subst, ap, ◌∙◌, arith}
use Rattle.std.specs.Prelude.{Contains}
use Rattle.std.proofs.lemmas.Bool.{cases_lt, cases_eq}
use Rattle.std.proofs.lemmas.List.{get_or_default}
use Rattle.bc_disk.specs.Gens.{Gens}
use Rattle.bc_disk.specs.declared.geometry.Geometry.{Geometry}
use Rattle.bc_extent.specs.LastKey.{last_key}
use Rattle.bc_extent.specs.Extents.{IsInOrder}
use Rattle.bc_extent.proofs.LastKeys.{last_key_none, last_key_at}
use Rattle.bc_image.specs.Pointers.{PointsInto}
use Rattle.bc_image.proofs.Unique.{some_same}
use Rattle.bc_key.specs.Key.{start_of, Covers}
use Rattle.bc_key.specs.declared.key.Key.{Key}
use Rattle.bc_key.specs.declared.ptr.Ptr.{Ptr}
use Rattle.bc_record.specs.Places.{bucket_at}
use Rattle.bc_counts.specs.Counts.{CountsBelow, IsCount, HasRow, IsLiveRow, IsAdded}

-- ---- counts

module _ (P : ℕ → Type 0) where
  pub counts_most : (n count : ℕ) → CountsBelow P n count → count ≤ n
  counts_most zero count counts = omega (arith, counts)
  counts_most (suc n) count (less, rest, inl x) = let most = counts_most n less rest in let is = x.1 in omega (arith, most, is)
  counts_most (suc n) count (less, rest, inr x) = let most = counts_most n less rest in let is = x.1 in omega (arith, most, is)

  one_more : (n d : ℕ) → n + suc d ≡ suc (n + d)
  one_more n d = omega arith

  pub counts_none : (n d count : ℕ) → CountsBelow P n count → ((s : ℕ) → n ≤ s → s < n + d → ¬ (P s)) → CountsBelow P (n + d) count
  counts_none n zero count counts none = (let same : n + 0 ≡ n = omega arith in subst (λ m. CountsBelow P m count) (sym same) counts)
  counts_none n (suc d) count counts none =
      subst (λ m. CountsBelow P m count) (sym (one_more n d))
      (count, counts_none n d count counts (λ s low high. none s low (omega (arith, high))), inr (none (n + d) (omega arith) (omega arith), refl))

  pub counts_all : (n d count : ℕ) → CountsBelow P n count → ((s : ℕ) → n ≤ s → s < n + d → P s) → CountsBelow P (n + d) (count + d)
  counts_all n zero count counts all =
      let same : n + 0 ≡ n = omega arith in
      let none : count + 0 ≡ count = omega arith in
      subst (λ m. CountsBelow P m (count + 0)) (sym same) (subst (λ m. CountsBelow P n m) (sym none) counts)
  counts_all n (suc d) count counts all =
      subst (λ m. CountsBelow P m (count + suc d)) (sym (one_more n d))
      (count + d, counts_all n d count counts (λ s low high. all s low (omega (arith, high))), inl (all (n + d) (omega arith) (omega arith), one_more count d))

-- ---- rows in order

-- the first i rows end up to here, and the others begin from here on
pub record Between (rows : List Key) (i end : ℕ) : Type 0 where
  pub passed : (k : ℕ) (d : Key) → k < i → (get_or rows k d).end ≤ end
  pub ahead : (k : ℕ) (d : Key) → i ≤ k → k < length rows → end ≤ start_of (get_or rows k d)

pub between_first : (rows : List Key) → Between rows 0 0
between_first rows = record { passed = λ k d low. absurd (omega (arith, low)); ahead = λ k d high low. omega arith }

module _ (rows : List Key) (order : IsInOrder rows) where
  -- behind the rows no sector has one
  pub none_behind : (i end : ℕ) → length rows ≤ i → Between rows i end → (s : ℕ) → end ≤ s → last_key rows s ≡ None
  none_behind i end all between s high = last_key_none rows s (λ k d low covers. let p = between.passed k d (omega (arith, low, all)) in let c = covers.1 in absurd (omega (arith, p, c, high)))

  module _ (i end : ℕ) (row : Key) (low : i < length rows) (is : row ≡ get_or rows i row) (between : Between rows i end) where
    has : Contains rows row
    has = (i, low, sym is)

    pub range : (row.size ≤ row.end) × (0 < row.size)
    range = subst (λ (k : Key). (k.size ≤ k.end) × (0 < k.size)) (sym is) (order.0 i row low)

    pub starts : end ≤ start_of row
    starts = subst (λ (k : Key). end ≤ start_of k) (sym is) (between.ahead i row (omega arith) low)

    later : (k : ℕ) (d : Key) → i < k → k < length rows → row.end ≤ start_of (get_or rows k d)
    later k d more inside =
        let same : get_or rows i d ≡ row = get_or_default rows i d row low ∙ sym is in
        subst (λ (x : Key). x.end ≤ start_of (get_or rows k d)) same (order.1 i k d more inside)

    pub between_next : Between rows (i + 1) row.end
    between_next = record {
      passed = λ k d below. passed_by k d below (cases_eq k i);
      ahead = λ k d high inside. later k d (omega (arith, high)) inside;
    }
      where
        passed_by : (k : ℕ) (d : Key) → k < i + 1 → (k ≡ i) ⊎ (k ≡ i → ⊥) → (get_or rows k d).end ≤ row.end
        passed_by k d below (inl same) =
            let at : get_or rows k d ≡ row = ap (λ n. get_or rows n d) same ∙ get_or_default rows i d row low ∙ sym is in
            subst (λ (x : Key). x.end ≤ row.end) (sym at) (omega arith)
        passed_by k d below (inr other) =
            let p = between.passed k d (omega (arith, below, other)) in
            let s = starts in
            let r = range in
            omega (arith, p, s, r.0, r.1)

    pub gap : (s : ℕ) → end ≤ s → s < start_of row → last_key rows s ≡ None
    gap s from below = last_key_none rows s (λ k d inside covers. absurd (go k d inside covers (cases_lt k i)))
      where
        go : (k : ℕ) (d : Key) → k < length rows → Covers (get_or rows k d) s → (k < i) ⊎ (i ≤ k) → ⊥
        go k d inside covers (inl before) = let p = between.passed k d before in let c = covers.1 in absurd (omega (arith, p, c, from))
        go k d inside covers (inr high) = elim (cases_eq k i) [
          | inl same ↦ (let at : get_or rows k d ≡ row = ap (λ n. get_or rows n d) same ∙ get_or_default rows i d row low ∙ sym is in
              let c = subst (λ (x : Key). start_of x ≤ s) at covers.0 in absurd (omega (arith, c, below)))
          | inr other ↦ (let l = later k d (omega (arith, high, other)) inside in let c = covers.0 in let r = range in absurd (omega (arith, l, c, below, r.0, r.1)))
        ]

    pub here : (s : ℕ) → start_of row ≤ s → s < row.end → last_key rows s ≡ Some row
    here s from below = last_key_at rows s row order has (from, below)

    module _ (g : Geometry) (gens : Gens) (asks : Key → Type 0) (bucket : ℕ) where
      abbrev P : ℕ → Type 0
      P = HasRow g gens rows asks bucket

      none_in_gap : (s : ℕ) → end ≤ s → s < start_of row → ¬ (P s)
      none_in_gap s from below r = absurd (let a = gap s from below in let b = r.last in cc)

      row_has : (s : ℕ) → start_of row ≤ s → s < row.end → P s → asks row × IsLiveRow g gens row bucket
      row_has s from below r =
          let same : r.row ≡ row = some_same r.row row (sym r.last ∙ here s from below) in
          subst (λ (k : Key). asks k × IsLiveRow g gens k bucket) same (r.asked, (r.live, r.points))

      pub counts_next : (old new : ℕ) → CountsBelow P end old → IsAdded g gens asks row bucket old new → CountsBelow P row.end new
      counts_next old new counts added =
          let s = starts in
          let r = range in
          let first : end + (start_of row - end) ≡ start_of row = omega (arith, s) in
          let then : start_of row + row.size ≡ row.end = omega (arith, r.0) in
          let before = subst (λ n. CountsBelow P n old) first (counts_none P end (start_of row - end) old counts (λ x from below. none_in_gap x from (subst (λ n. x < n) first below))) in
          go then before added
        where
          go : start_of row + row.size ≡ row.end → CountsBelow P (start_of row) old → IsAdded g gens asks row bucket old new → CountsBelow P row.end new
          go then before (inl (asked, live, is)) =
              subst (λ n. CountsBelow P n new) then
              (subst (λ m. CountsBelow P (start_of row + row.size) m) (sym is)
              (counts_all P (start_of row) row.size old before (λ x from below. record { row = row; last = here x from (subst (λ n. x < n) then below); live = live.0; points = live.1; asked = asked })))
          go then before (inr (not, is)) =
              subst (λ n. CountsBelow P n new) then
              (subst (λ m. CountsBelow P (start_of row + row.size) m) (sym is)
              (counts_none P (start_of row) row.size old before (λ x from below has. not (row_has x from (subst (λ n. x < n) then below) has))))

      pub room_for : (count : ℕ) → CountsBelow P end count → count + row.size ≤ row.end
      room_for count counts = let most = counts_most P end count counts in let s = starts in let r = range in omega (arith, most, s, r.0, r.1)

  -- behind the last row the counts are those of all sectors
  pub counted : (i end : ℕ) → length rows ≤ i → Between rows i end → (g : Geometry) (gens : Gens) (asks : Key → Type 0) (bucket count : ℕ) → CountsBelow (HasRow g gens rows asks bucket) end count → IsCount (HasRow g gens rows asks bucket) count
  counted i end all between g gens asks bucket count counts =
      record { bound = end; below = counts; behind = λ s high r. (absurd (let a = none_behind i end all between s high in let b = r.last in cc)) }

-- a key points into one bucket
pub one_place : (g : Geometry) (key : Key) (a b : ℕ) → PointsInto g key a → PointsInto g key b → a ≡ b
one_place g key a b (p, is, at) (q, too, on) = let same : p ≡ q = some_same p q (sym is ∙ too) in sym at ∙ ap (λ (x : Ptr). bucket_at g x.offset) same ∙ on
