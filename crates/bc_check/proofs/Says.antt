-- The verdict of a pair of which all was read.
use Rattle.std.proofs.Common.{◌≡◌, ℕ, ◌*◌, ◌≤◌, List, Option, Some, None, sym, subst, Bool, true}
use Rattle.bc_disk.specs.Disk.{DiskFacts, IfTold}
use Rattle.bc_disk.specs.Gens.{Gens}
use Rattle.bc_disk.specs.declared.geometry.Geometry.{Geometry}
use Rattle.bc_entries.specs.Journal.{Journal}
use Rattle.bc_image.specs.Pair.{Pair}
use Rattle.bc_image.specs.Sound.{IsWithinWindow}
use Rattle.bc_key.specs.declared.key.Key.{Key}
use Rattle.bc_replay.specs.Causes.{OfHeld}
use Rattle.bc_replay.specs.Survey.{HasSurvey}
use Rattle.bc_replay.specs.declared.uses.Use.{Use}
use Rattle.bc_super.specs.declared.backing.BackingSuper.{BackingSuper}
use Rattle.bc_super.specs.declared.cache.CacheSuper.{CacheSuper}
use Rattle.bc_walk.specs.declared.visit.Visit.{Visit}
use Rattle.bc_check.specs.Apart.{TellsRows}
use Rattle.bc_check.specs.Calls.{BothKept}
use Rattle.bc_counts.specs.Counts.{IsCount}
use Rattle.bc_check.specs.Counts.{AreLines}
use Rattle.bc_check.specs.Strays.{TellsStray}
use Rattle.bc_check.specs.Totals.{IsDirtyAt, IsCleanAt}
use Rattle.bc_check.specs.Verdict.{IsVerdictOf, IsOpened, IsVerdict, ListsIf}
use Rattle.bc_check.specs.Window.{IsLeastAged}
use Rattle.bc_check.specs.declared.lines.BucketLine.{BucketLine}
use Rattle.bc_check.specs.declared.verdict.Verdict.{Verdict}
use Rattle.bc_check.specs.declared.verdict.Verdict.TheVariants as verdicts
use Rattle.bc_check.proofs.Differ.{apart_told}
use Rattle.bc_check.proofs.Others.{stray_told}
use Rattle.bc_check.proofs.Pairs.{held_back, held_cache, held_map, held_two}

module _ (b : BackingSuper) (c : CacheSuper) (g : Geometry) (j : Journal) (gens : Gens) (seen : List Visit) (index : List Key) (table : List Use) where
  abbrev Has : Pair → Type 0
  Has p = HasSurvey p b c g j gens seen index table

  opened : (p : Pair) (h : Has p) (verdict : Verdict) → IsVerdictOf p h.view verdict → IsOpened p verdict
  opened p h verdict says = record { view = h.view; is_view = h.is_view; openable = h.openable; says = says }

  -- the lines of a sound pair's buckets
  pub listed : (list : Bool) (verdict : Verdict) (dirty clean : ℕ) → list ≡ true → verdict ≡ verdicts.Sound dirty clean → (p : Pair) (h : Has p) (lines : List BucketLine) → AreLines g h.view.reading lines → ListsIf list p verdict lines
  listed list verdict dirty clean asked is p h lines given =
      subst (λ (l : Bool). ListsIf l p verdict lines) (sym asked)
      (subst (λ (v : Verdict). ListsIf true p v lines) (sym is) (h.view, h.is_view, subst (λ (k : Geometry). AreLines k h.view.reading lines) (sym h.geometry) given))

  abbrev NoneAgedBy : Type 0
  NoneAgedBy = (p : Pair) (h : Has p) → IsWithinWindow g h.view.reading

  none_aged : NoneAgedBy → (p : Pair) (h : Has p) → IsWithinWindow h.view.geometry h.view.reading
  none_aged none p h = subst (λ (x : Geometry). IsWithinWindow x h.view.reading) (sym h.geometry) (none p h)

  module _ (cache backing : DiskFacts) where
    strays_held : (bucket : Option ℕ) → IfTold cache.holds (λ image. TellsStray g image j bucket) → OfHeld (λ p. TellsStray g p.cache j bucket) cache backing
    strays_held bucket tells = held_cache (λ image. TellsStray g image j bucket) cache backing tells

    pub says_journal : (bucket : ℕ) → IfTold cache.holds (λ image. TellsStray g image j (Some bucket)) → OfHeld (λ p. Has p → IsVerdict p (verdicts.Journal bucket)) cache backing
    says_journal bucket tells =
        held_map (λ p. TellsStray g p.cache j (Some bucket)) (λ p. Has p → IsVerdict p (verdicts.Journal bucket)) cache backing
        (λ p x y stray h. opened p h (verdicts.Journal bucket) (stray_told p b c g j gens seen index table h (Some bucket) stray)) (strays_held (Some bucket) tells)

    module _ (none : IfTold cache.holds (λ image. TellsStray g image j None)) where
      pub says_age : (sector : ℕ) → ((p : Pair) (h : Has p) → IsLeastAged g h.view.reading sector) → OfHeld (λ p. Has p → IsVerdict p (verdicts.Age sector)) cache backing
      says_age sector aged =
          held_map (λ p. TellsStray g p.cache j None) (λ p. Has p → IsVerdict p (verdicts.Age sector)) cache backing
          (λ p x y stray h. opened p h (verdicts.Age sector) (
            stray_told p b c g j gens seen index table h None stray,
            subst (λ (k : Geometry). IsLeastAged k h.view.reading sector) (sym h.geometry) (aged p h),
          ))
          (strays_held None none)

      module _ (window : NoneAgedBy) (room : g.bucket * g.nbuckets ≤ cache.sectors) (cache' backing' : DiskFacts) (kept : BothKept cache cache' backing backing') where
        abbrev Apart : Option ℕ → Pair → Type 0
        Apart o p = TellsRows g gens p b.data_offset index o

        both : (o : Option ℕ) → OfHeld (Apart o) cache' backing' → OfHeld (λ p. TellsStray g p.cache j None × Apart o p) cache backing
        both o apart = held_two (λ p. TellsStray g p.cache j None) (Apart o) (λ p. TellsStray g p.cache j None × Apart o p) cache backing (λ p stray tells. (stray, tells)) (strays_held None none) (held_back (Apart o) cache cache' backing backing' kept apart)

        pub says_agree : (sector : ℕ) → OfHeld (Apart (Some sector)) cache' backing' → OfHeld (λ p. Has p → IsVerdict p (verdicts.Agree sector)) cache backing
        says_agree sector apart =
            held_map (λ p. TellsStray g p.cache j None × Apart (Some sector) p) (λ p. Has p → IsVerdict p (verdicts.Agree sector)) cache backing
            (λ p size y so h. opened p h (verdicts.Agree sector) (
              stray_told p b c g j gens seen index table h None so.0,
              none_aged window p h,
              apart_told p b c g j gens seen index table h (Some sector) (subst (λ n. g.bucket * g.nbuckets ≤ n) (sym size) room) so.1,
            ))
            (both (Some sector) apart)

        pub says_sound : (dirty clean : ℕ) → ((p : Pair) (h : Has p) → IsCount (IsDirtyAt g h.view.reading) dirty) → ((p : Pair) (h : Has p) → IsCount (IsCleanAt g h.view.reading) clean)
            → OfHeld (Apart None) cache' backing' → OfHeld (λ p. Has p → IsVerdict p (verdicts.Sound dirty clean)) cache backing
        says_sound dirty clean dirties cleans apart =
            held_map (λ p. TellsStray g p.cache j None × Apart None p) (λ p. Has p → IsVerdict p (verdicts.Sound dirty clean)) cache backing
            (λ p size y so h. opened p h (verdicts.Sound dirty clean) (
              stray_told p b c g j gens seen index table h None so.0,
              none_aged window p h,
              apart_told p b c g j gens seen index table h None (subst (λ n. g.bucket * g.nbuckets ≤ n) (sym size) room) so.1,
              (
                subst (λ (k : Geometry). IsCount (IsDirtyAt k h.view.reading) dirty) (sym h.geometry) (dirties p h),
                subst (λ (k : Geometry). IsCount (IsCleanAt k h.view.reading) clean) (sym h.geometry) (cleans p h),
              ),
            ))
            (both None apart)
