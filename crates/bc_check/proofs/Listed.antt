-- Lines of buckets, by the tables that they were made of.
use Rattle.std.proofs.Common.{◌≡◌, ◌≢◌, inl, inr, ℕ, zero, suc, ◌<◌, ◌≤◌, Bool, true, false, List, [], ◌∷◌, ◌++◌, length, get_or, Some, refl, sym, subst, ap, ◌∙◌, arith}
use Rattle.std.specs.Prelude.{All, AllPairs, Contains}
use Rattle.std.proofs.lemmas.Bool.{cases_eq}
use Rattle.std.proofs.lemmas.List.Elements.{All-nil, All-cons, All-head, All-tail, All-append, All-contains, Contains-append_left, Contains-append_right}
use Rattle.std.proofs.lemmas.List.Kept.{AllPairs-cons}
use Rattle.bc_disk.specs.Gens.{Gens}
use Rattle.bc_disk.specs.declared.geometry.Geometry.{Geometry}
use Rattle.bc_entries.specs.Journal.{Journal}
use Rattle.bc_extent.specs.LastKey.{last_key}
use Rattle.bc_extent.proofs.LastKeys.{last_key_found, last_key_at}
use Rattle.bc_image.specs.Pair.{Pair}
use Rattle.bc_image.specs.Pointers.{LiesInData}
use Rattle.bc_image.specs.Reading.{Reading, keys_of}
use Rattle.bc_image.specs.Shown.{is_live, generation_of}
use Rattle.bc_image.specs.Sound.{IsDataKey}
use Rattle.bc_image.specs.Uses.{LiesLive}
use Rattle.bc_key.specs.Key.{ptr_at, start_of, Covers}
use Rattle.bc_key.specs.declared.key.Key.{Key}
use Rattle.bc_key.specs.declared.ptr.Ptr.{Ptr}
use Rattle.bc_node.specs.Leaf.{AreLastOfAll}
use Rattle.bc_record.specs.Places.{bucket_at}
use Rattle.bc_replay.specs.Survey.{IsUsedAs, TellsUses, HasSurvey}
use Rattle.bc_super.specs.Super.{data_sectors}
use Rattle.bc_super.specs.declared.backing.BackingSuper.{BackingSuper}
use Rattle.bc_super.specs.declared.cache.CacheSuper.{CacheSuper}
use Rattle.bc_walk.specs.declared.visit.Visit.{Visit}
use Rattle.bc_replay.specs.declared.uses.Use.{Use}
use Rattle.bc_replay.specs.declared.uses.Use.TheVariants as uses
use Rattle.bc_replay.proofs.Names.{pointer_some}
use Rattle.bc_replay.proofs.Judge.{pointer_is}
use Rattle.bc_replay.proofs.Used.{live_some, live_part, place_part, row_of, row_at}
use Rattle.bc_check.specs.declared.lines.BucketLine.{BucketLine}
use Rattle.bc_counts.specs.Counts.{IsCount, IsLiveIn, IsDirtyIn, HasRow, Asks}
use Rattle.bc_counts.proofs.Rows.{live_count, dirty_count}
use Rattle.bc_check.specs.Counts.{IsLine, AreLines, ListsLines, IsLineAt}

-- ---- one line more

pairs_with : (xs : List BucketLine) (y : BucketLine) → AllPairs (λ a b. a.bucket < b.bucket) xs → All (λ x. x.bucket < y.bucket) xs → AllPairs (λ a b. a.bucket < b.bucket) (xs ++ y ∷ [])
pairs_with [] y pairs below = λ i j d before inside. absurd (omega (arith, before, inside))
pairs_with (x ∷ xs) y pairs below =
    AllPairs-cons (λ a b. a.bucket < b.bucket) x (xs ++ y ∷ [])
    (All-append (λ z. x.bucket < z.bucket) xs (y ∷ []) (λ k d low. pairs 0 (suc k) d (omega arith) (omega (arith, low))) (All-cons (λ z. x.bucket < z.bucket) y [] (All-head (λ z. z.bucket < y.bucket) x xs below) (All-nil (λ z. x.bucket < z.bucket))))
    (pairs_with xs y (λ i j d before inside. pairs (suc i) (suc j) d (omega (arith, before)) (omega (arith, inside))) (All-tail (λ z. z.bucket < y.bucket) x xs below))

-- ---- rows and keys

module _ (g : Geometry) (r : Reading) (size : ℕ) (index : List Key) (last : AreLastOfAll (keys_of r) index) (good : All (IsDataKey g size) (keys_of r)) where
  -- ---- the lines

  module _ (table : List Use) (tells : TellsUses g r table) (live dirty : List ℕ)
      (live_is : (b : ℕ) → b < g.nbuckets → IsCount (HasRow g r.gens index (Asks false) b) (get_or live b 0))
      (dirty_is : (b : ℕ) → b < g.nbuckets → IsCount (HasRow g r.gens index (Asks true) b) (get_or dirty b 0)) where
    one_line : (b : ℕ) (line : BucketLine) → b < g.nbuckets → get_or table b uses.None ≢ uses.None → IsLineAt r.gens table live dirty b line → IsLine g r line
    one_line b line low some (bucket, its, generation, lives, dirties) = record {
      used = λ none. some (sym its ∙ none);
      kind = subst (λ n. IsUsedAs g r n line.kind) (sym bucket) (subst (λ (u : Use). IsUsedAs g r b u) (sym its) (tells.told b low));
      generation = ap (generation_of r.gens) bucket ∙ sym generation;
      live = subst (λ n. IsCount (IsLiveIn g r n) line.live) (sym bucket) (subst (λ n. IsCount (IsLiveIn g r b) n) (sym lives) (live_count g r size index last good b (get_or live b 0) (live_is b low)));
      dirty = subst (λ n. IsCount (IsDirtyIn g r n) line.dirty) (sym bucket) (subst (λ n. IsCount (IsDirtyIn g r b) n) (sym dirties) (dirty_count g r size index last good b (get_or dirty b 0) (dirty_is b low)));
    }

    -- the lines of the first n buckets
    record LinesBelow (n : ℕ) (lines : List BucketLine) : Type 0 where
      each : All (IsLine g r) lines
      below : All (λ line. line.bucket < n) lines
      order : AllPairs (λ a b. a.bucket < b.bucket) lines
      all : (b : ℕ) → b < n → get_or table b uses.None ≢ uses.None → (line : BucketLine) × Contains lines line × (line.bucket ≡ b)

    more : (n : ℕ) (lines : List BucketLine) → LinesBelow n lines → get_or table n uses.None ≡ uses.None → LinesBelow (suc n) lines
    more n lines l none = record {
      each = l.each;
      below = λ k d low. (let x = l.below k d low in omega (arith, x));
      order = l.order;
      all = λ b low some. (elim (cases_eq b n) [ inl same ↦ absurd (some (ap (λ m. get_or table m uses.None) same ∙ none)) | inr other ↦ l.all b (omega (arith, low, other)) some ]);
    }

    with_line : (n : ℕ) (before : List BucketLine) (line : BucketLine) → n < g.nbuckets → LinesBelow n before → get_or table n uses.None ≢ uses.None → IsLineAt r.gens table live dirty n line → LinesBelow (suc n) (before ++ line ∷ [])
    with_line n before line low l some at =
        let here = at.0 in
        record {
          each = All-append (IsLine g r) before (line ∷ []) l.each (All-cons (IsLine g r) line [] (one_line n line low some at) (All-nil (IsLine g r)));
          below = All-append (λ x. x.bucket < suc n) before (line ∷ []) (λ k d inside. (let x = l.below k d inside in omega (arith, x))) (All-cons (λ x. x.bucket < suc n) line [] (omega (arith, here)) (All-nil (λ x. x.bucket < suc n)));
          order = pairs_with before line l.order (λ k d inside. (let x = l.below k d inside in omega (arith, x, here)));
          all = λ b below used. (elim (cases_eq b n) [
            | inl same ↦ (line, Contains-append_right before (line ∷ []) line (0, omega arith, refl), here ∙ sym same)
            | inr other ↦ (let x = l.all b (omega (arith, below, other)) used in (x.0, Contains-append_left before (line ∷ []) x.0 x.1, x.2))
          ]);
        }

    lines_below : (n : ℕ) (lines : List BucketLine) → n ≤ g.nbuckets → ListsLines r.gens table live dirty n lines → LinesBelow n lines
    lines_below zero lines most lists = subst (λ (ls : List BucketLine). LinesBelow 0 ls) (sym lists) (record {
      each = All-nil (IsLine g r);
      below = All-nil (λ x. x.bucket < 0);
      order = λ i j d before inside. absurd (omega (arith, inside));
      all = λ b low some. absurd (omega (arith, low));
    })
    lines_below (suc n) lines most (before, rest, inl (none, is)) = subst (λ (ls : List BucketLine). LinesBelow (suc n) ls) (sym is) (more n before (lines_below n before (omega (arith, most)) rest) none)
    lines_below (suc n) lines most (before, rest, inr (some, (line, at, is))) =
        subst (λ (ls : List BucketLine). LinesBelow (suc n) ls) (sym is) (with_line n before line (omega (arith, most)) (lines_below n before (omega (arith, most)) rest) some at)

    pub are_lines : (lines : List BucketLine) → ListsLines r.gens table live dirty g.nbuckets lines → AreLines g r lines
    are_lines lines lists =
        let l = lines_below g.nbuckets lines (omega arith) lists in
        record { each = l.each; order = l.order; all = λ b low some. l.all b low (λ none. some (subst (λ (u : Use). IsUsedAs g r b u) none (tells.told b low))) }

-- ---- of a survey

pub lines_told : (p : Pair) (b : BackingSuper) (c : CacheSuper) (g : Geometry) (j : Journal) (gens : Gens) (seen : List Visit) (index : List Key) (table : List Use) (h : HasSurvey p b c g j gens seen index table) (live dirty : List ℕ) (lines : List BucketLine)
    → ((n : ℕ) → n < g.nbuckets → IsCount (HasRow g gens index (Asks false) n) (get_or live n 0)) → ((n : ℕ) → n < g.nbuckets → IsCount (HasRow g gens index (Asks true) n) (get_or dirty n 0))
    → ListsLines gens table live dirty (length table) lines → AreLines g h.view.reading lines
lines_told p b c g j gens seen index table h live dirty lines =
    let r = h.view.reading in
    let size = data_sectors p.backing_sectors h.view.backing in
    let good = subst (λ (x : Geometry). All (IsDataKey x size) (keys_of r)) h.geometry h.openable.pointers.data_keys in
    let P : Gens → Type 0 = λ gs. ((n : ℕ) → n < g.nbuckets → IsCount (HasRow g gs index (Asks false) n) (get_or live n 0)) → ((n : ℕ) → n < g.nbuckets → IsCount (HasRow g gs index (Asks true) n) (get_or dirty n 0))
    → ListsLines gs table live dirty (length table) lines → AreLines g r lines in
    subst P h.gens (λ lives dirties lists. are_lines g r size index h.index good table h.uses live dirty lives dirties lines (subst (λ n. ListsLines r.gens table live dirty n lines) h.uses.each lists))
