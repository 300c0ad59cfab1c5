-- No torn record matches by chance where every sector of the journal has one value, and no set is
-- under way.
use Rattle.std.proofs.Common.{◌≡◌, ◌≢◌, ◌⊎◌, inl, inr, ℕ, suc, ◌+◌, ◌*◌, ◌<◌, ◌≤◌, Bool, true, false, List, [], ◌∷◌, Some, None, sym, ap, ◌∙◌, subst, arith, if◌then◌else◌}
use Rattle.bc_model.specs.Sector.{Value, Image}
use Rattle.bc_disk.specs.Device.{Among, MayLeave}
use Rattle.bc_meta.specs.Facts.{IsAtBlock}
use Rattle.bc_meta.specs.Entries.{Entry}
use Rattle.bc_meta.specs.Layout.{entry_at}
use Rattle.bc_meta.specs.Records.{put, MayStand}
use Rattle.bc_meta.specs.Places.{Places, NoChance, Wrote}
use Rattle.bc_meta.proofs.Lists.{by_test, by_le}
use Rattle.bc_meta.proofs.Scan.{block_high}
use Rattle.bc_whole.proofs.Toy.{layout, entry_2, entry_read}
use Rattle.bc_whole.proofs.Start.{picture, each_below, some_same}

one_of : (v x : Value) → Among v (x ∷ []) → v ≡ x
one_of v x (inl e) = e
one_of v x (inr n) = absurd n

-- the run's nodes are those in buckets 5 and 6
abbrev pub IsNew : ℕ → Type 0
IsNew q = (q ≡ 5) ⊎ (q ≡ 6)

pub put_no : (f : ℕ → Bool) (k : ℕ) → ((q : ℕ) → f q ≡ true → IsNew q) → (q : ℕ) → put f k false q
    ≡ true → IsNew q
put_no f k h q = by_test q k (λ t. (if t then false else f q) ≡ true → IsNew q) (λ _ e. absurd (cc))
    (λ _ e. h q e)

pub put_yes : (f : ℕ → Bool) (k : ℕ) → IsNew k → ((q : ℕ) → f q ≡ true → IsNew q) → (q : ℕ)
    → put f k true q ≡ true → IsNew q
put_yes f k new h q = by_test q k (λ t. (if t then true else f q) ≡ true → IsNew q)
    (λ e _. subst IsNew (sym e) new) (λ _ e. h q e)

-- four sectors one behind the other
pub in_four : (P : ℕ → Type 0) (p at : ℕ) → P p → P (suc p) → P (suc (suc p))
    → P (suc (suc (suc p))) → p ≤ at → at < p + 4 → P at
in_four P p at a b c d ge lt =
    by_test p at (λ _. P at) (λ is. subst P is a) (λ n0. by_test (suc p) at (λ _. P at)
    (λ is. subst P is b) (λ n1. by_test (suc (suc p)) at (λ _. P at) (λ is. subst P is c)
    (λ n2. subst P (rest n0 n1 n2) d)))
  where
    rest : p ≢ at → suc p ≢ at → suc (suc p) ≢ at → suc (suc (suc p)) ≡ at
    rest n0 n1 n2 = omega arith

-- the journal's sectors, the third of which has this value, and nodes behind which no set may stand
pub record IsClear (p : Places) (value : Value) (entry : Entry) : Type 0 where
  pub read : entry_read tt value ≡ Some entry
  pub sector_0 : p.device.leaves 0 ≡ (1 ∷ []) ∷ []
  pub sector_1 : p.device.leaves 1 ≡ (2 ∷ []) ∷ []
  pub sector_2 : p.device.leaves 2 ≡ value ∷ []
  pub sector_3 : p.device.leaves 3 ≡ [] ∷ []
  pub blank_1 : (at : ℕ) → 4 ≤ at → at < 8 → p.device.leaves at ≡ [] ∷ []
  pub second : Wrote p.entry_log 0 1 entry_2
  pub third : Wrote p.entry_log 0 2 entry
  pub new : (q : ℕ) → p.own q ≡ true → IsNew q
  pub still_5 : MayStand (p.records.nodes 5) → ⊥
  pub still_6 : MayStand (p.records.nodes 6) → ⊥

module _ (p : Places) (value : Value) (entry : Entry) (clear : IsClear p value entry) where
  none_entry : (e : Entry) → None ≡ Some e → ⊥
  none_entry e h = cc

  -- what a crash leaves there is the one value
  is_one : (image : Image) (at : ℕ) (x : Value) → MayLeave p.device image → p.device.leaves at ≡ x
      ∷ [] → image at ≡ x
  is_one image at x left is = one_of (image at) x (subst (λ (vs : List Value). Among
      (image at) vs) is (left at))

  read_as : (image : Image) (at : ℕ) (x : Value) (e : Entry) → MayLeave p.device image
      → p.device.leaves at ≡ x ∷ [] → entry_read tt (image at) ≡ Some e → entry_read tt x ≡ Some e
  read_as image at x e left is h = ap (λ (u : Value). entry_read tt u)
      (sym (is_one image at x left is)) ∙ h

  abbrev AtEntry : Image → Entry → ℕ → Type 0
  AtEntry image e at = entry_read tt (image at) ≡ Some e → (entry_at layout picture 0 at ≡ Some e)
      ⊎ Wrote p.entry_log 0 at e

  entry_left : (image : Image) (e : Entry) (at : ℕ) → MayLeave p.device image → at < 4
      → AtEntry image e at
  entry_left image e at left lt = each_below 4 (AtEntry image e) (
    (λ h. inl (read_as image 0 (1 ∷ []) e left clear.sector_0 h)),
    (
      (λ h. inr (subst (Wrote p.entry_log 0 1) (some_same entry_2 e (read_as image 1
          (2 ∷ []) e left clear.sector_1 h)) clear.second)),
      (
        (λ h. inr (subst (Wrote p.entry_log 0 2) (some_same entry e (sym clear.read
            ∙ read_as image 2 value e left clear.sector_2 h)) clear.third)),
        ((λ h. absurd (none_entry e (read_as image 3 [] e left clear.sector_3 h))), tt),
      ),
    ),
  ) at lt

  -- the second bucket of the journal is blank
  entry_none : (image : Image) (e : Entry) (at : ℕ) → MayLeave p.device image → 4 ≤ at → at < 8
      → entry_read tt (image at) ≡ Some e → ⊥
  entry_none image e at left ge lt h = none_entry e (read_as image at [] e left
      (clear.blank_1 at ge lt) h)

  abbrev Found : Image → ℕ → Entry → ℕ → Type 0
  Found image at e b = entry_at layout image b at ≡ Some e → (entry_at layout picture b at ≡ Some e)
      ⊎ Wrote p.entry_log b at e

  entry_chance : (image : Image) (b at : ℕ) (e : Entry) → MayLeave p.device image → b < 2
      → IsAtBlock 1 (4 * b) at → entry_at layout image b at ≡ Some e → (entry_at layout picture b at
      ≡ Some e) ⊎ Wrote p.entry_log b at e
  entry_chance image b at e left lt block = by_test b 0 (λ _. Found image at e b)
      (λ is. subst (Found image at e) (sym is) here) (λ ne. subst (Found image at e)
      (one_is b lt ne) (there (from_four (one_is b lt ne) (block_high 1 (4 * b) at block))))
    where
      one_is : (b : ℕ) → b < 2 → b ≢ 0 → 1 ≡ b
      one_is b lt ne = omega arith

      from_four : 1 ≡ b → 4 * b ≤ at → 4 ≤ at
      from_four is ge = omega arith

      here : entry_at layout image 0 at ≡ Some e → (entry_at layout picture 0 at ≡ Some e)
          ⊎ Wrote p.entry_log 0 at e
      here = by_le (suc at) 4 (λ t. (if t then entry_read tt (image at) else None) ≡ Some e
          → (entry_at layout picture 0 at ≡ Some e) ⊎ Wrote p.entry_log 0 at e)
          (λ le h. entry_left image e at left le h) (λ _ h. absurd (none_entry e h))

      there : 4 ≤ at → entry_at layout image 1 at ≡ Some e → (entry_at layout picture 1 at ≡ Some e)
          ⊎ Wrote p.entry_log 1 at e
      there ge = by_le (suc at) 8 (λ t. (if t then entry_read tt (image at) else None) ≡ Some e
          → (entry_at layout picture 1 at ≡ Some e) ⊎ Wrote p.entry_log 1 at e)
          (λ le h. absurd (entry_none image e at left ge le h)) (λ _ h. absurd (none_entry e h))

  still : (q : ℕ) → p.own q ≡ true → MayStand (p.records.nodes q) → ⊥
  still q own = elim (clear.new q own) [
    | inl is ↦ subst (λ (k : ℕ). MayStand (p.records.nodes k) → ⊥) (sym is) clear.still_5
    | inr is ↦ subst (λ (k : ℕ). MayStand (p.records.nodes k) → ⊥) (sym is) clear.still_6
  ]

  pub no_chance : NoChance layout picture p
  no_chance = record {
    entries = entry_chance;
    sets = λ image q e left own known stand seq found. absurd (still q own stand);
  }
