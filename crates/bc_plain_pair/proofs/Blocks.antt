-- Entries that stand in the journal's buckets and don't count.
use Rattle.std.proofs.Common.{◌≡◌, ◌⊎◌, inl, inr, ℕ, ◌+◌, ◌-◌, ◌*◌, ◌/◌, ◌<◌, ◌≤◌, Bool, true, false, List, get_or, refl, sym, subst, ap, ◌∙◌, arith}
use Rattle.std.specs.Bool.{MatchBool}
use Rattle.std.specs.Prelude.{Contains, not}
use Rattle.std.proofs.Math.Nat.{mul-le-mul_left}
use Rattle.std.proofs.lemmas.Nat.{div-mul-add}
use Rattle.std.proofs.lemmas.Bool.{cases_lt, cases_eq}
use Rattle.std.proofs.lemmas.List.Elements.{All-get_or}
use Rattle.bc_disk.specs.declared.geometry.Geometry.{Geometry}
use Rattle.bc_image.specs.Reading.{Reading}
use Rattle.bc_image.specs.Sound.{HasNoStrayEntry}
use Rattle.bc_jset.specs.Entries.{FoundEntry, AreEntries, StandsInJournal, bucket_start, bucket_end}
use Rattle.bc_jset.specs.Records.{entry_kind, EntryFound}
use Rattle.bc_jset.specs.declared.entry.JEntry.{JEntry}
use Rattle.bc_jset.proofs.Entries.{stand_in_journal}
use Rattle.bc_jset.proofs.Records.{entry_codec}
use Rattle.bc_model.specs.Sector.{Image}
use Rattle.bc_record.specs.Places.{at_place, bucket_at}
use Rattle.bc_record.proofs.Blocks.{bucket_blocks}
use Rattle.bc_record.proofs.Found.{one_found, takes_some, found_fits}
use Rattle.bc_plain_pair.specs.Ring.{HasNoStray, HasStray, IsNoneAt, IsStrayAt, StandsAmong}

-- ---- one place

module _ (g : Geometry) (image : Image) (es : List FoundEntry) (low end place : ℕ) (entry : JEntry) (found : EntryFound g image end place entry) where
  only : (other : JEntry) → EntryFound g image end place other → other ≡ entry
  only other there = one_found (entry_kind g) (entry_codec g) image end place other entry there found

  pub old_there : entry.seq < low → IsNoneAt g image es low end place
  old_there old other there most = absurd (let same = ap (λ (e : JEntry). e.seq) (only other there) in omega (arith, old, most, same))

  pub stray_by : (b : Bool) → low ≤ entry.seq → MatchBool b (StandsAmong es place) (StandsAmong es place → ⊥) → MatchBool (not b) (IsStrayAt g image es low end place) (IsNoneAt g image es low end place)
  stray_by true most among = λ other there some. among
  stray_by false most none = (entry, found, most, none)

-- ---- block after block

module _ (g : Geometry) (image : Image) (es : List FoundEntry) (low i : ℕ) where
  abbrev Nothing : ℕ → Type 0
  Nothing place = IsNoneAt g image es low (bucket_end g i) place

  pub stray_at : (k place : ℕ) → place ≡ bucket_start g i + g.block * k → place < bucket_end g i → IsStrayAt g image es low (bucket_end g i) place → HasStray g image es low i
  stray_at k place is inside stray = (k, omega (arith, is, inside), subst (IsStrayAt g image es low (bucket_end g i)) is stray)

  pub none_next : (k place : ℕ) → place ≡ bucket_start g i + g.block * k → ((j : ℕ) → j < k → Nothing (bucket_start g i + g.block * j)) → Nothing place → (j : ℕ) → j < k + 1 → Nothing (bucket_start g i + g.block * j)
  none_next k place is before here j low_ = elim (cases_eq j k) [
    | inl same ↦ subst Nothing (is ∙ ap (λ n. bucket_start g i + g.block * n) (sym same)) here
    | inr other ↦ before j (omega (arith, low_, other))
  ]

  pub none_all : (k place : ℕ) → place ≡ bucket_start g i + g.block * k → bucket_end g i ≤ place → ((j : ℕ) → j < k → Nothing (bucket_start g i + g.block * j)) → HasNoStray g image es low i
  none_all k place is most before j inside = elim (cases_lt j k) [
    | inl less ↦ before j less
    | inr above ↦ (let more : g.block * k ≤ g.block * j = mul-le-mul_left g.block above in absurd (omega (arith, is, most, inside, more)))
  ]

-- ---- places in the journal

module _ (g : Geometry) where
  in_bucket : (i m : ℕ) → m < g.bucket → bucket_at g (bucket_start g i + m) ≡ g.first_bucket + i
  in_bucket i m inside =
      ap (λ n. n / g.bucket) (let turned : g.bucket * (g.first_bucket + i) + m ≡ (g.first_bucket + i) * g.bucket + m = grind arith in turned) ∙ div-mul-add (g.first_bucket + i) g.bucket m inside

  -- an entry at a block of a bucket is whole in it
  whole_there : (image : Image) (i k : ℕ) (entry : JEntry) → i < g.journal → g.block * k < g.bucket → EntryFound g image (bucket_end g i) (bucket_start g i + g.block * k) entry
      → StandsInJournal g image (at_place (bucket_start g i + g.block * k) entry)
  whole_there image i k entry low inside found =
      let blocks = bucket_blocks g in
      let rest = rest_of blocks.0 blocks.1 in
      (i, k, low, refl, found, found_fits (entry_kind g) (entry_codec g) image (bucket_end g i) (bucket_start g i + g.block * k) rest.0 entry rest.1 found)
    where
      rest_of : (n : ℕ) → g.bucket ≡ g.block * n → (m : ℕ) × (bucket_start g i + g.bucket ≡ bucket_start g i + g.block * k + g.block * m)
      rest_of n is =
          let some : k < n = (let more = inside in fewer n is (cases_lt k n)) in
          (n - k, (let product : g.block * k + g.block * (n - k) ≡ g.block * n = times n some in omega (arith, product, is)))
        where
          times : (n : ℕ) → k < n → g.block * k + g.block * (n - k) ≡ g.block * n
          times n some = (let parts : k + (n - k) ≡ n = omega (arith, some) in grind (arith))

          fewer : (n : ℕ) → g.bucket ≡ g.block * n → (k < n) ⊎ (n ≤ k) → k < n
          fewer n is (inl low) = low
          fewer n is (inr most) = grind (arith)

  -- by the end of its bucket, where it takes a sector at least
  inside_of : (image : Image) (entry : FoundEntry) (s : StandsInJournal g image entry) → g.block * s.1 < g.bucket
  inside_of image entry (i, k, low, place, found, fits) =
      let some = takes_some (entry_kind g) (entry_codec g) entry.item in
      omega (arith, place, fits, some)

  bucket_is : (image : Image) (entry : FoundEntry) (s : StandsInJournal g image entry) → bucket_at g entry.place ≡ g.first_bucket + s.0
  bucket_is image entry s = ap (bucket_at g) s.3 ∙ in_bucket s.0 (g.block * s.1) (inside_of image entry s)

  -- one at the same place is the same
  same_there : (image : Image) (d entry : FoundEntry) → StandsInJournal g image d → StandsInJournal g image entry → d.place ≡ entry.place → d ≡ entry
  same_there image d entry other stands place =
      let bucket : g.first_bucket + other.0 ≡ g.first_bucket + stands.0 = sym (bucket_is image d other) ∙ ap (bucket_at g) place ∙ bucket_is image entry stands in
      let same : other.0 ≡ stands.0 = omega (arith, bucket) in
      let there = subst (λ i. EntryFound g image (bucket_end g i) d.place d.item) same other.4 in
      let here = subst (λ q. EntryFound g image (bucket_end g stands.0) q d.item) place there in
      let item : d.item ≡ entry.item = one_found (entry_kind g) (entry_codec g) image (bucket_end g stands.0) entry.place d.item entry.item here stands.4 in
      ap (λ q. at_place q d.item) place ∙ ap (λ (x : JEntry). at_place entry.place x) item

-- ---- all of it

module _ (g : Geometry) (image : Image) (es : List FoundEntry) (newest : FoundEntry) (a : AreEntries g image es) (r : Reading) (entries : r.entries ≡ es) (same : r.newest ≡ newest) where
  low_is : r.newest.item.last_seq ≡ newest.item.last_seq
  low_is = ap (λ (x : FoundEntry). x.item.last_seq) same

  among : (entry : FoundEntry) → StandsInJournal g image entry → StandsAmong es entry.place → Contains es entry
  among entry stands (n, d, inside, at, place) =
      let other : StandsInJournal g image d = subst (StandsInJournal g image) at (All-get_or (StandsInJournal g image) es n d inside (stand_in_journal g image es a)) in
      let is : d ≡ entry = same_there g image d entry other stands place in
      (n, inside, subst (λ (e : FoundEntry). get_or es n e ≡ e) is at)

  pub no_stray : ((i : ℕ) → i < g.journal → HasNoStray g image es newest.item.last_seq i) → HasNoStrayEntry g image r
  no_stray none entry s number =
      let low = low_is in
      let most : newest.item.last_seq ≤ entry.item.seq = omega (arith, low, number) in
      let found = subst (λ q. EntryFound g image (bucket_end g s.0) q entry.item) s.3 s.4 in
      let here = none s.0 s.2 s.1 (inside_of g image entry s) entry.item found most in
      subst (λ (xs : List FoundEntry). Contains xs entry) (sym entries) (among entry s (subst (StandsAmong es) (sym s.3) here))

  pub a_stray : (i : ℕ) → i < g.journal → HasStray g image es newest.item.last_seq i → HasNoStrayEntry g image r → ⊥
  a_stray i inside (k, block, (entry, found, most, none)) all =
      let low = low_is in
      let place = bucket_start g i + g.block * k in
      let has = all (at_place place entry) (whole_there g image i k entry inside block found) (omega (arith, low, most)) in
      let here : Contains es (at_place place entry) = subst (λ (xs : List FoundEntry). Contains xs (at_place place entry)) entries has in
      none (here.0, at_place place entry, here.1, here.2, refl)
